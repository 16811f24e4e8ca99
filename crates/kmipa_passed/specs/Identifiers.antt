-- The identifiers that stand in a payload itself.
use Rattle.std.specs.Prelude.{ℕ, Bool, true, false, not, ◌&&◌, ◌||◌, ◌==◌, if◌then◌else◌, List, [], ◌∷◌, Option, Some, None}
use Rattle.kmipa_ttlv.specs.Tree.{Tree, Trees, structure, scalar, none, more, tag_of}
use Rattle.kmipa_ttlv.specs.Tree
use Rattle.kmipa_attrs.specs.Fields.{as_text, every, first}
use Rattle.kmipa_attrs.specs.Tags.{unique_identifier}
use Rattle.kmipa_passed.specs.Names.{is_of_identifier}
use Rattle.kmipa_passed.specs.declared.identifiers.Asked.{Asked}
use Rattle.kmipa_passed.specs.declared.identifiers.Asked.TheVariants as asked
use Rattle.kmipa_passed.specs.declared.identifiers.Shown.{Shown}
use Rattle.kmipa_passed.specs.declared.identifiers.Shown.TheVariants as shown

-- ---- what a request asks for

-- the object that the ID Placeholder holds, the object of this identifier, or one in another form
pub data AskedOf : Type 0 where
  placeholder : AskedOf
  named : List ℕ → AskedOf
  unnamed : AskedOf

abbrev pub asked_of : Asked → AskedOf
asked_of asked.Placeholder = placeholder
asked_of (asked.Named id) = named id.now
asked_of asked.Unnamed = unnamed

-- a Unique Identifier is a text, or, in a request, an Enumeration, of which 1 is the ID Placeholder (KMIP 2.1, section 11)
abbrev pub meant_by : Tree → AskedOf
meant_by (scalar n (Tree.text s)) = named s
meant_by (scalar n (Tree.enumeration x)) = if x == 1 then placeholder else unnamed
meant_by t = unnamed

-- without a Unique Identifier the ID Placeholder is meant
abbrev pub asked_by : Option Tree → AskedOf
asked_by None = placeholder
asked_by (Some t) = meant_by t

-- the object that a request's payload asks for
abbrev pub identifier_asked : Trees → AskedOf
identifier_asked payload = asked_by (first unique_identifier payload)

-- ---- what an answer shows

-- no object, one by its identifier, or it is unclear which
pub data ShownOf : Type 0 where
  nothing : ShownOf
  only : List ℕ → ShownOf
  unclear : ShownOf

abbrev pub shown_of : Shown → ShownOf
shown_of shown.Nothing = nothing
shown_of (shown.Only id) = only id.now
shown_of shown.Unclear = unclear

abbrev pub shown_as : Option (List ℕ) → ShownOf
shown_as (Some id) = only id
shown_as None = unclear

-- a Unique Identifier shows an object where it is a text
abbrev pub shown_by : Tree → ShownOf
shown_by t = shown_as (as_text t)

abbrev pub shown_among : List Tree → ShownOf
shown_among [] = nothing
shown_among (t ∷ []) = shown_by t
shown_among (t ∷ u ∷ ts) = unclear

-- the one object that an answer's payload shows: where it has one Unique Identifier, which is a text
abbrev pub identifier_shown : Trees → ShownOf
identifier_shown payload = shown_among (every unique_identifier payload)

-- ---- what can't be told

abbrev pub is_told : AskedOf → Bool
is_told placeholder = true
is_told (named id) = true
is_told unnamed = false

-- it says which object is meant, by a text or as the ID Placeholder
abbrev pub is_clear : Tree → Bool
is_clear t = is_told (meant_by t)

abbrev pub is_unclear : Tree → Bool
is_unclear t = is_of_identifier (tag_of t) && not (is_clear t)

-- a child of the payload under the tag of an identifier says in another form which object it is
abbrev pub names_unclearly : Trees → Bool
names_unclearly none = false
names_unclearly (more t ts) = is_unclear t || names_unclearly ts
