-- The children of a structure as they are written: each field in its place, an optional one only where it is there.
use Rattle.std.specs.Prelude.{ℕ, List, [], ◌∷◌, Option, Some, None}
use Rattle.std.specs.Option.{option_map}
use Rattle.kmipa_ttlv.specs.Tree.{Tree, Trees, Scalar, structure, scalar, none, push}
use Rattle.kmipa_ttlv.specs.Tree
use Rattle.kmipa_attrs.specs.Sets.{Attributes}
use Rattle.kmipa_attrs.specs.Tags.{unique_identifier, attributes_tag}
use Rattle.kmipa_attrs.specs.Writing.{written_children}

abbrev pub with_field : Trees → Option Tree → Trees
with_field ts None = ts
with_field ts (Some t) = push ts t

-- the fields that are there, in their order, after others
abbrev pub with_fields : Trees → List (Option Tree) → Trees
with_fields ts [] = ts
with_fields ts (field ∷ fields) = with_fields (with_field ts field) fields

abbrev pub in_order : List (Option Tree) → Trees
in_order fields = with_fields none fields

-- a field of a type, where it has a value
abbrev pub field : {A : Type 0} → (A → Scalar) → ℕ → Option A → Option Tree
field kind n value = option_map (λ x. scalar n (kind x)) value

-- FIELDS OF PAYLOADS

abbrev pub identifier_fields : Option (List ℕ) → List (Option Tree)
identifier_fields id = field Tree.text unique_identifier id ∷ []

-- Attributes, there also where they are empty
abbrev pub written_attributes : Attributes → Tree
written_attributes a = structure attributes_tag (written_children a)
