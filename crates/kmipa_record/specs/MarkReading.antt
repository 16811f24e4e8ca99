-- The marks of a transcript that are given one at a time.
use Rattle.std.specs.Prelude.{◌≡◌, ◌⊎◌, ℕ, Bool, true, false, IsTrue, List, [], ◌∷◌, ◌++◌, length, Option, Some, None, IfSome}
use Rattle.kmipa_ttlv.specs.Input.{came_of, taken_of, is_ended}
use Rattle.kmipa_ttlv.specs.Tree.{Tree}
use Rattle.kmipa_ttlv.specs.declared.input.Input.{Input}
use Rattle.kmipa_record.specs.Files.{FirstFault, IsRightUpTo}
use Rattle.kmipa_record.specs.Marks.{MarkOf, mark_of}
use Rattle.kmipa_record.specs.Reading.{IsReading, Takes}
use Rattle.kmipa_record.specs.Heads.{head_of, label_of}
use Rattle.kmipa_record.specs.Seals.{SealedOf, Sealed, sealed_items, marks_of}
use Rattle.kmipa_record.specs.Transcripts.{plain_items, AreMarks, IsMarkAfter, IsNoRecord, TranscriptEndFault}
use Rattle.kmipa_record.specs.declared.fault.RecordFault.{RecordFault}
use Rattle.kmipa_record.specs.declared.fault.RecordKind.{RecordKind}
use Rattle.kmipa_record.specs.declared.head.Head.{Head}
use Rattle.kmipa_record.specs.declared.mark_reading.PlacedMark.{PlacedMark}
use Rattle.kmipa_record.specs.declared.marks.Marks.{Marks}
use Rattle.kmipa_record.specs.declared.sealed_record.Content.{Content}
use Rattle.kmipa_record.specs.declared.sealed_record.Content.TheVariants as content
use Rattle.kmipa_record.specs.declared.sealed_reading.Step.{Step}
use Rattle.kmipa_record.specs.declared.sealed_reading.Step.TheVariants.{Given, Passed, End}
use Rattle.kmipa_record.specs.declared.transcript.Mark.{Mark}

-- ---- what was given

-- of each file that begins with what came these items were read, and what is left of it is after what came
abbrev pub AreRead : {R : Type 0} → List Tree → Input R → Type 0
AreRead items input = (after : List ℕ) → IsReading (came_of input ++ after) items after (taken_of input)

-- what came is an unbroken run of records, from a header with the label to the head, and they say these marks
pub record IsRun {R : Type 0} (head : Head) (marks : List MarkOf) (input : Input R) : Type 0 where
  pub records : List SealedOf
  pub sealed : Sealed (came_of input) (label_of head.label) records (head_of head)
  pub marks_are : marks ≡ marks_of records
  pub read : AreRead (sealed_items (label_of head.label) records) input

-- These marks were given of what came of an input: nothing came yet; or, once its header was read, what came is the header and these
-- marks, sealed or not.
abbrev pub AreGivenOf : {R : Type 0} → Bool → Option Head → List MarkOf → Input R → Type 0
AreGivenOf false head marks input = (marks ≡ []) × (came_of input ≡ [])
AreGivenOf true None marks input = AreRead (plain_items marks) input
AreGivenOf true (Some head) marks input = IsRun head marks input

-- Of each file that begins with what came: after items that say these marks, at this place, stands this mark, and what is left is after it.
pub record StandsAt (marks : List MarkOf) (mark : MarkOf) (place : ℕ) (came after : List ℕ) : Type 0 where
  pub items : List Tree
  pub item : Tree
  pub left : List ℕ
  pub reading : IsReading (came ++ after) items left place
  pub are : AreMarks (came ++ after) marks items
  pub is_mark : IsMarkAfter (came ++ after) marks items mark item
  pub taken : Takes item left after place (length came)

abbrev pub StandsNext : {R : Type 0} → List MarkOf → MarkOf → ℕ → Input R → Type 0
StandsNext marks mark place input = (after : List ℕ) → StandsAt marks mark place (came_of input) after

-- a sealed one has its close
abbrev pub IsClosed : Option Head → Type 0
IsClosed known = IfSome known (λ head. head.closed ≡ true)

-- What is given next: one more mark; or none, where the end was seen.
abbrev pub GivesPlaced : {R : Type 0} → List MarkOf → Option Head → Input R → Option PlacedMark → Type 0
GivesPlaced marks head input (Some given) = StandsNext marks (mark_of given.mark) given.place input × AreGivenOf true head (marks ++ mark_of given.mark ∷ []) input
GivesPlaced marks head input None = AreGivenOf true head marks input × IsTrue (is_ended input) × IsClosed head

-- What comes next of a sealed transcript: a mark; a record that is none; or nothing, where the end was seen.
abbrev pub GivesStep : {R : Type 0} → List MarkOf → Head → Input R → Step → Type 0
GivesStep marks head input (Given given) = GivesPlaced marks (Some head) input (Some given)
GivesStep marks head input Passed = IsRun head marks input
GivesStep marks head input End = GivesPlaced marks (Some head) input None

-- what a record of this content at this place gives
abbrev pub step_at : ℕ → Content → Step
step_at place (content.Mark mark) = Given (record { place = place; mark = mark })
step_at place _ = Passed

-- something came
abbrev pub IsMore : Step → Type 0
IsMore End = ⊥
IsMore _ = Unit {0}

-- the input below
abbrev pub input_of : {R : Type 0} → Marks R → Input R
input_of m = m.input.now

-- the name of the reference to it, by which a caller knows that it is still the same
abbrev pub reference_of : {R : Type 0} → Marks R → ℕ
reference_of m = m.input.ghost_name

-- where the mark begins that was given last
abbrev pub given_place : {R : Type 0} → Marks R → ℕ
given_place m = m.place

-- the fault that was reported
abbrev pub reported_of : {R : Type 0} → Marks R → Option RecordFault
reported_of m = m.fault

-- what the transcript is known by, if it is sealed
abbrev pub known_of : {R : Type 0} → Marks R → Option Head
known_of m = m.head

abbrev pub HasGiven : {R : Type 0} → List MarkOf → Marks R → Type 0
HasGiven marks m = AreGivenOf m.begun m.head marks (input_of m)

-- the next one is given, or there is none and what came is the header and these marks
abbrev pub GivesNext : {R : Type 0} → List MarkOf → Marks R → Option Mark → Type 0
GivesNext marks m (Some mark) = HasGiven (marks ++ mark_of mark ∷ []) m
GivesNext marks m None = HasGiven marks m × (m.begun ≡ true) × IsTrue (is_ended (input_of m)) × IsClosed m.head

-- ---- the first fault

-- no item is faulty: there is none, or the header and records that say these marks
abbrev pub AreThese : List ℕ → List MarkOf → List Tree → Type 0
AreThese file marks items = (items ≡ []) ⊎ AreMarks file marks items

-- The first fault of a file of which these marks were given: after them, or of its header.
abbrev pub FaultBehind : List MarkOf → List ℕ → ℕ → RecordKind → Type 0
FaultBehind marks file = FirstFault (AreThese file marks) (IsNoRecord file) TranscriptEndFault file

abbrev pub IsRightBehind : List MarkOf → List ℕ → ℕ → Type 0
IsRightBehind marks file = IsRightUpTo (AreThese file marks) file
