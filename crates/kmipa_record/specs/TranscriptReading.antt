-- The marks of a transcript that come one at a time, each tested.
use Rattle.std.specs.Prelude.{◌≡◌, ℕ, true, List, [], Option, None, Some}
use Rattle.kmipa_ttlv.specs.Input.{came_of}
use Rattle.kmipa_ttlv.specs.Stream.{Begins}
use Rattle.kmipa_ttlv.specs.declared.input.Input.{Input}
use Rattle.kmipa_record.specs.Calls.{Follow}
use Rattle.kmipa_record.specs.Marks.{MarkOf, AreRecorded}
use Rattle.kmipa_record.specs.MarkReading.{HasGiven}
use Rattle.kmipa_record.specs.MarkReading as given
use Rattle.kmipa_record.specs.Heads.{label_of, head_of}
use Rattle.kmipa_record.specs.Seals.{SealedOf, Sealed, marks_of}
use Rattle.kmipa_record.specs.Transcripts.{plain_items}
use Rattle.kmipa_record.specs.declared.fault.RecordFault.{RecordFault}
use Rattle.kmipa_record.specs.declared.head.Head.{Head}
use Rattle.kmipa_record.specs.declared.recorded_marks.RecordedMarks.{RecordedMarks}

-- the input below
abbrev pub input_of : {R : Type 0} → RecordedMarks R → Input R
input_of m = given.input_of m.source

-- the name of the reference to it, by which a caller knows that it is still the same
abbrev pub reference_of : {R : Type 0} → RecordedMarks R → ℕ
reference_of m = given.reference_of m.source

-- where the mark begins that came last
abbrev pub mark_place : {R : Type 0} → RecordedMarks R → ℕ
mark_place m = given.given_place m.source

-- the fault that was reported
abbrev pub reported_of : {R : Type 0} → RecordedMarks R → Option RecordFault
reported_of m = given.reported_of m.source

-- what the transcript is known by, if it is sealed
abbrev pub known_of : {R : Type 0} → RecordedMarks R → Option Head
known_of m = given.known_of m.source

-- A transcript of these marks is known by its head, up to which all its seals are right; or it bears none.
pub data IsKnownBy (bytes : List ℕ) (marks : List MarkOf) (known : Option Head) : Type 0 where
  without_seals : known ≡ None → Begins (plain_items marks) bytes [] → IsKnownBy bytes marks known
  by_head : (head : Head) (records : List SealedOf) → known ≡ Some head → head.closed ≡ true → Sealed bytes (label_of head.label) records (head_of head) → marks ≡ marks_of records
      → IsKnownBy bytes marks known

-- all marks have come, and these are they
pub record HaveEnded {R : Type 0} (marks : List MarkOf) (m : RecordedMarks R) : Type 0 where
  pub known : IsKnownBy (came_of (input_of m)) marks (known_of m)

-- These marks have come and no fault yet: they were given, they are those of a transcript so far, and their calls stand as they say.
pub record HaveCome {R : Type 0} (marks : List MarkOf) (m : RecordedMarks R) : Type 0 where
  pub given : HasGiven marks m.source
  pub untold : reported_of m ≡ None
  pub recorded : AreRecorded marks
  pub follow : Follow marks m.calls
