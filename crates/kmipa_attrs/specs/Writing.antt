-- The children that say a set of attributes.
use Rattle.std.specs.Prelude.{◌≡◌, ◌==◌, ℕ, ℤ, Bool, true, false, List, [], ◌∷◌, Option, Some, None}
use Rattle.std.specs.Option.{option_map}
use Rattle.kmipa_ttlv.specs.Tree.{Tree, Trees, Scalar, structure, scalar, none, more, push, forest}
use Rattle.kmipa_ttlv.specs.Tree
use Rattle.kmipa_attrs.specs.Tags.{activation_date, compromise_date, cryptographic_algorithm, cryptographic_length, cryptographic_usage_mask, deactivation_date, destroy_date, initial_date, name_tag, name_type, name_value, object_type_tag, state_tag, attributes_tag}
use Rattle.kmipa_attrs.specs.Sets.{NameOf, Attributes}
use Rattle.kmipa_attrs.specs.Names.{distinct}
use Rattle.kmipa_attrs.specs.Attributes.{SaysAttributes}

-- a Name: its value and its type, written out
abbrev pub name_tree : NameOf → Tree
name_tree n = structure name_tag (more (scalar name_value (Tree.text n.value)) (more (scalar name_type (Tree.enumeration n.kind)) none))

-- the Name Type, or none where it is left out
abbrev pub type_child : Bool → ℕ → Trees
type_child true kind = none
type_child false kind = more (scalar name_type (Tree.enumeration kind)) none

-- a Name written short: a type that is 1 is left out, and so read as 1
abbrev pub short_name : NameOf → Tree
short_name n = structure name_tag (more (scalar name_value (Tree.text n.value)) (type_child (n.kind == 1) n.kind))

-- a Name as it is written, short or whole
abbrev pub written_name : Bool → NameOf → Tree
written_name true = short_name
written_name false = name_tree

-- the children with one more, if it is there
abbrev pub with_scalar : Trees → ℕ → Option Scalar → Trees
with_scalar ts n None = ts
with_scalar ts n (Some s) = push ts (scalar n s)

abbrev pub with_scalars : Trees → List (ℕ × Option Scalar) → Trees
with_scalars ts [] = ts
with_scalars ts (row ∷ rows) = with_scalars (with_scalar ts row.0 row.1) rows

abbrev pub enumerated : Option ℕ → Option Scalar
enumerated v = option_map Tree.enumeration v

abbrev pub counted : Option ℤ → Option Scalar
counted v = option_map Tree.integer v

abbrev pub dated : Option ℤ → Option Scalar
dated v = option_map Tree.date_time v

-- the attributes that have one value, each with its tag, in the order in which they are written
abbrev pub single_rows : Attributes → List (ℕ × Option Scalar)
single_rows a =
    (object_type_tag, enumerated a.object_type) ∷
    (cryptographic_algorithm, enumerated a.algorithm) ∷
    (cryptographic_length, counted a.length) ∷
    (cryptographic_usage_mask, counted a.mask) ∷
    (state_tag, enumerated a.state) ∷
    (initial_date, dated a.initial) ∷
    (activation_date, dated a.activation) ∷
    (deactivation_date, dated a.deactivation) ∷
    (destroy_date, dated a.destroy) ∷
    (compromise_date, dated a.compromise) ∷
    []

-- names first, then each other attribute that is there
abbrev pub written_children : Attributes → Trees
written_children a = with_scalars (forest name_tree a.names) (single_rows a)

-- the same, with names written short
abbrev pub short_children : Attributes → Trees
short_children a = with_scalars (forest short_name a.names) (single_rows a)

-- the item is Attributes, and its children say the set
abbrev pub SaysWhole : Tree → Attributes → Type 0
SaysWhole t a = (ts : Trees) × ((t ≡ structure attributes_tag ts) × SaysAttributes ts a)

-- the set with each of its names once
abbrev pub each_once : Attributes → Attributes
each_once a = record a { names = distinct a.names }
