-- Torn recordings: sealed transcripts whose recorder was killed, so that they have no close, and perhaps end within a record.
use Rattle.std.specs.Prelude.{◌≡◌, ◌<◌, ℕ, Bool, true, false, List, [], ◌∷◌, ◌++◌, length, take}
use Rattle.kmipa_ttlv.specs.Input.{came_of, IsFileOf}
use Rattle.kmipa_ttlv.specs.Stream.{IsCutShort}
use Rattle.kmipa_ttlv.specs.declared.input.Input.{Input}
use Rattle.kmipa_record.specs.Heads.{head_of, label_of}
use Rattle.kmipa_record.specs.Seals.{LabelOf, HeadOf, SealedOf, IsRecord, MayStand, Sealed, is_close}
use Rattle.kmipa_record.specs.declared.head.Head.{Head}
use Rattle.kmipa_record.specs.declared.torn.Completion.{Completion}
use Rattle.kmipa_record.specs.declared.torn.Step.{Step}
use Rattle.kmipa_record.specs.declared.torn.Step.TheVariants.{More, End, Other}
use Rattle.kmipa_record.specs.declared.torn.Torn.{Torn}

-- an unbroken run of records without a close, from a header with this label to this head
pub record SealedSoFar (bytes : List ℕ) (label : LabelOf) (records : List SealedOf) (head : HeadOf) : Type 0 where
  pub sealed : Sealed bytes label records head
  pub unclosed : head.closed ≡ false

-- what is left of a torn file behind its whole records: nothing, or part of a record
abbrev pub IsTornPart : Bool → List ℕ → Type 0
IsTornPart false rest = rest ≡ []
IsTornPart true rest = (0 < length rest) × IsCutShort rest

-- The file is torn behind so many bytes, and so completed: its whole records, and a close.
pub record IsCompleted (file completed : List ℕ) (torn : Torn) : Type 0 where
  pub label : LabelOf
  pub records : List SealedOf
  pub head : HeadOf
  pub whole : List ℕ
  pub rest : List ℕ
  pub split : file ≡ whole ++ rest
  pub long : torn.length ≡ length whole
  pub so_far : SealedSoFar whole label records head
  pub part : IsTornPart torn.cut rest
  pub close : SealedOf
  pub closes : is_close close.content ≡ true
  pub completed_is : completed ≡ whole ++ close.bytes
  pub closed : HeadOf
  pub sealed : Sealed completed label (records ++ close ∷ []) closed

-- The bytes end by a close, and ahead of it they are an unbroken run of records, from a header with this label to this seal.
pub record SealedAhead (bytes : List ℕ) (label : LabelOf) (seal : List ℕ) : Type 0 where
  pub records : List SealedOf
  pub head : HeadOf
  pub whole : List ℕ
  pub so_far : SealedSoFar whole label records head
  pub seal_is : head.seal ≡ seal
  pub close : SealedOf
  pub closes : is_close close.content ≡ true
  pub bytes_are : bytes ≡ whole ++ close.bytes

-- ---- how one is read; not promised

-- what came of an input is an unbroken run of records, from a header with the head's label to the head
abbrev pub IsSealedUpTo : {R : Type 0} → Head → Input R → Type 0
IsSealedUpTo head input = (records : List SealedOf) × Sealed (came_of input) (label_of head.label) records (head_of head)

-- the file is torn there, behind the record that has this head
pub record IsTornAt (file : List ℕ) (head : Head) (torn : Torn) : Type 0 where
  pub records : List SealedOf
  pub whole : List ℕ
  pub rest : List ℕ
  pub split : file ≡ whole ++ rest
  pub long : torn.length ≡ length whole
  pub so_far : SealedSoFar whole (label_of head.label) records (head_of head)
  pub part : IsTornPart torn.cut rest

-- the same of each file of which this came
abbrev pub EndsTorn : {R : Type 0} → Head → Input R → Torn → Type 0
EndsTorn head input torn = (file : List ℕ) → IsFileOf file input → IsTornAt file head torn

-- what comes next: a record, or the torn end, or something else
abbrev pub GoesOn : {R : Type 0} → Head → Input R → Step → Type 0
GoesOn head input More = IsSealedUpTo head input
GoesOn head input (End torn) = EndsTorn head input torn
GoesOn head input Other = Unit {0}

-- the end behind a record, which may not be the close
abbrev pub end_at : Bool → Torn → Step
end_at true torn = Other
end_at false torn = End torn

-- these bytes are a close that may stand behind the head
abbrev pub IsCloseBehind : HeadOf → List ℕ → Type 0
IsCloseBehind head bytes = (close : SealedOf) × (close.bytes ≡ bytes) × IsRecord close × MayStand head close × (is_close close.content ≡ true)

-- with this close behind its whole records the file is completed
abbrev pub Completes : List ℕ → Completion → Type 0
Completes file c = IsCompleted file (take c.torn.length file ++ c.close.items) c.torn
