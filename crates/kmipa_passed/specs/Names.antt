-- Which objects a payload names: by each text under the tag of an identifier, however deep (KMIP 2.1, sections 4 and 11).
use Rattle.std.specs.Prelude.{ℕ, Bool, ◌||◌, ◌==◌, if◌then◌else◌, List, [], ◌∷◌, ◌++◌}
use Rattle.kmipa_ttlv.specs.Tree.{Tree, Trees, structure, scalar, none, more}
use Rattle.kmipa_ttlv.specs.Tree
use Rattle.kmipa_attrs.specs.Tags.{unique_identifier}

-- Private Key Unique Identifier, Public Key Unique Identifier and Linked Object Identifier
abbrev pub private_key_identifier : ℕ
private_key_identifier = 0x42_0066

abbrev pub public_key_identifier : ℕ
public_key_identifier = 0x42_006F

abbrev pub linked_object_identifier : ℕ
linked_object_identifier = 0x42_004C

-- the tag of an identifier of an object
abbrev pub is_of_identifier : ℕ → Bool
is_of_identifier n = (n == unique_identifier) || (n == private_key_identifier) || (n == public_key_identifier) || (n == linked_object_identifier)

abbrev mutual
  -- the texts of identifiers in an item, in order
  pub named_by : Tree → List (List ℕ)
  named_by (structure n ts) = named_in ts
  named_by (scalar n (Tree.text s)) = if is_of_identifier n then s ∷ [] else []
  named_by (scalar n s) = []

  pub named_in : Trees → List (List ℕ)
  named_in none = []
  named_in (more t ts) = named_by t ++ named_in ts
