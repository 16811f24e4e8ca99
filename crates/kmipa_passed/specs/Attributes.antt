-- Which attribute an operation on one attribute is about: the one that an Attribute Reference or New Attribute tells (KMIP 2.1, sections 6.1 and
-- 11).
use Rattle.std.specs.Prelude.{ℕ, Bool, true, false, not, ◌&&◌, ◌==◌, List, [], ◌∷◌, Option, Some, None}
use Rattle.std.specs.List.{list_any}
use Rattle.kmipa_ttlv.specs.Tree.{Tree, Trees, structure, scalar, none, more, tag_of}
use Rattle.kmipa_ttlv.specs.Tree
use Rattle.kmipa_attrs.specs.Fields.{as_structure, first, or_none}
use Rattle.kmipa_attrs.specs.Tags.{activation_date, attribute_reference, compromise_date, cryptographic_algorithm, cryptographic_length, cryptographic_usage_mask, deactivation_date, destroy_date, initial_date, name_tag, object_type_tag, state_tag, unique_identifier}

-- New Attribute
abbrev pub new_attribute : ℕ
new_attribute = 0x42_013D

-- what is judged of an object, and its identifier
abbrev pub judged : List ℕ
judged =
    name_tag ∷ object_type_tag ∷ cryptographic_algorithm ∷ cryptographic_length ∷ cryptographic_usage_mask ∷ state_tag ∷ initial_date
    ∷ activation_date ∷ deactivation_date ∷ destroy_date ∷ compromise_date ∷ unique_identifier ∷ []

-- an attribute of this tag isn't judged
abbrev pub is_unjudged : ℕ → Bool
is_unjudged n = not (list_any (λ (m : ℕ). n == m) judged)

-- a reference to an attribute that isn't judged: by its tag, or as a vendor's, which is a structure
abbrev pub refers_to_unjudged : Tree → Bool
refers_to_unjudged (structure n ts) = true
refers_to_unjudged (scalar n (Tree.enumeration tag)) = is_unjudged tag
refers_to_unjudged (scalar n s) = false

-- one item, of an attribute that isn't judged
abbrev pub is_one_unjudged : Trees → Bool
is_one_unjudged none = false
is_one_unjudged (more t none) = is_unjudged (tag_of t)
is_one_unjudged (more t (more u ts)) = false

-- a New Attribute has one child, which isn't judged
abbrev pub holds_unjudged : Tree → Bool
holds_unjudged new = is_one_unjudged (or_none (as_structure new))

-- where both are there, both
abbrev pub both_unjudged : Option Tree → Option Tree → Bool
both_unjudged None None = false
both_unjudged (Some reference) None = refers_to_unjudged reference
both_unjudged None (Some new) = holds_unjudged new
both_unjudged (Some reference) (Some new) = refers_to_unjudged reference && holds_unjudged new

-- the payload is about one attribute, which isn't judged
abbrev pub is_of_unjudged : Trees → Bool
is_of_unjudged payload = both_unjudged (first attribute_reference payload) (first new_attribute payload)
