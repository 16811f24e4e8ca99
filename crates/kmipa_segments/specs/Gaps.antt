-- What is printed of a gap between segments, and of the seals of a whole chain.
use Rattle.std.specs.Prelude.{◌≡◌, ℕ, ℤ, Bool, true, false, if◌then◌else◌, List, [], ◌∷◌, ◌++◌, codes, Option, None, Some}
use Rattle.std.specs.Fmt.{signed_decimal}
use Rattle.std.specs.List.{flat_map}
use Rattle.std.specs.Ordering.{int_eq}
use Rattle.std.specs.String.{string_bytes}
use Rattle.hex.specs.Hex.{encode_lower}
use Rattle.kmipa_record.specs.Seals.{HeadOf, LabelOf}
use Rattle.kmipa_links.specs.Links.{SealsOf}
use Rattle.kmipa_links.specs.declared.gap.Gap.{Gap}
use Rattle.kmipa_links.specs.declared.gap.Gap.TheVariants.{Call, Recording, Segment, Previous, NoSeals, Seals}
use Rattle.kmipa_runs.specs.Lines.{line}
use Rattle.kmipa_runs.specs.Shown.{escaped}
use Rattle.kmipa_jobs.specs.declared.status.Status.{Status}
use Rattle.kmipa_jobs.specs.declared.status.Status.TheVariants as status

-- a recording's name, with each byte as it is or escaped
abbrev pub bare : List ℕ → List ℕ
bare text = flat_map escaped text

-- the line of a gap of the segment of this name
abbrev pub gap_text : List ℕ → Gap → List ℕ
gap_text name (Call call other) = line (codes "gap: " ∷ name ∷ codes " call " ∷ signed_decimal call ∷ codes " stands in " ∷ string_bytes other ∷ codes " too" ∷ [])
gap_text name (Recording told expected) =
    line (codes "gap: " ∷ name ∷ codes " recording " ∷ bare (string_bytes told) ∷ codes ", expected " ∷ bare (string_bytes expected) ∷ [])
gap_text name (Segment told expected) = line (codes "gap: " ∷ name ∷ codes " segment " ∷ signed_decimal told ∷ codes ", expected " ∷ signed_decimal expected ∷ [])
gap_text name (Previous told expected) = line (codes "gap: " ∷ name ∷ codes " previous " ∷ encode_lower told ∷ codes ", expected " ∷ encode_lower expected ∷ [])
gap_text name (NoSeals segment recording) =
    line (codes "gap: " ∷ name ∷ codes " has no seals, expected segment " ∷ signed_decimal segment ∷ codes " of " ∷ bare (string_bytes recording) ∷ [])
gap_text name Seals = line (codes "gap: " ∷ name ∷ codes " has seals, expected none" ∷ [])

abbrev pub PrintsGap : List ℕ → Gap → Status → List ℕ → Type 0
PrintsGap name gap said lines = (said ≡ status.Refused) × (lines ≡ gap_text name gap)

-- from which segment to which
abbrev pub span_text : ℤ → ℤ → List ℕ
span_text first last = if int_eq first last then codes "segment " ++ signed_decimal first
    else (codes "segments " ++ (signed_decimal first ++ (codes " to " ++ signed_decimal last)))

-- the line of the head of the last segment, behind segments from the first number on
abbrev pub head_text : ℤ → LabelOf → HeadOf → List ℕ
head_text first label head = line (codes "sealed: " ∷ bare label.recording ∷ codes " " ∷ span_text first label.segment ∷ codes " head " ∷ encode_lower head.seal ∷ [])

-- the line of the seals of a whole, by those of its first segment and of its last; nothing where they bear none
abbrev pub sealed_text : Option SealsOf → Option SealsOf → List ℕ
sealed_text (Some first) (Some last) = head_text first.label.segment last.label last.head
sealed_text (Some first) None = []
sealed_text None last = []
