-- Names: what a Name says, and lists of names in which each stands once.
use Rattle.std.specs.Prelude.{ℕ, Bool, ◌&&◌, ◌==◌, not, cond, List, [], ◌∷◌, ◌++◌, Option, Some, None}
use Rattle.std.specs.List.{Contains, filter, list_any}
use Rattle.std.specs.Str.{bytes_eq}
use Rattle.kmipa_ttlv.specs.Tree.{Tree, Trees}
use Rattle.kmipa_attrs.specs.Tags.{name_type, name_value}
use Rattle.kmipa_attrs.specs.Sets.{NameOf}
use Rattle.kmipa_attrs.specs.Fields.{as_structure, as_text, as_enumeration, at}
use Rattle.kmipa_attrs.specs.declared.fields.Field.{Field}
use Rattle.kmipa_attrs.specs.declared.fields.Field.TheVariants.{Absent, Wrong, There}

-- a Name Value that is there as a text, and a Name Type that is there as an enumeration, or absent, which means 1
abbrev pub name_from : Field (List ℕ) → Field ℕ → Option NameOf
name_from (There value) (There kind) = Some (record { value = value; kind = kind })
name_from (There value) Absent = Some (record { value = value; kind = 1 })
name_from (There value) Wrong = None
name_from Absent kind = None
name_from Wrong kind = None

abbrev pub name_inside : Option Trees → Option NameOf
name_inside None = None
name_inside (Some ts) = name_from (at as_text name_value ts) (at as_enumeration name_type ts)

-- the name that a tree says (KMIP 2.1, the attribute Name): a structure of Name Value and Name Type, where other children are read over
unfoldable pub as_name : Tree → Option NameOf
as_name t = name_inside (as_structure t)

-- two names are the same where their values and their types are
abbrev pub same_name : NameOf → NameOf → Bool
same_name m n = bytes_eq m.value n.value && (m.kind == n.kind)

-- the names other than one
abbrev pub without : NameOf → List NameOf → List NameOf
without n names = filter (λ m. not (same_name m n)) names

-- each name once, in the order of first appearance
unfoldable pub distinct : List NameOf → List NameOf
distinct [] = []
distinct (n ∷ names) = n ∷ without n (distinct names)

-- no name stands again after itself
abbrev pub HasNoRepeats : List NameOf → Type 0
HasNoRepeats [] = Unit {0}
HasNoRepeats (n ∷ names) = (Contains names n → ⊥) × HasNoRepeats names

-- the names so far with one more, unless it is among them
abbrev pub with_name : List NameOf → NameOf → List NameOf
with_name seen n = cond (list_any (λ m. same_name m n) seen) seen (seen ++ n ∷ [])

abbrev pub with_names : List NameOf → List NameOf → List NameOf
with_names seen [] = seen
with_names seen (n ∷ names) = with_names (with_name seen n) names
