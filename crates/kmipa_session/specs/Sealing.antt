-- What is said of the seals of a transcript behind what a run said of its calls.
use Rattle.std.specs.Prelude.{◌≡◌, ◌++◌, ℕ, List, [], Bool, true, false, Option, Some, None}
use denote.Bor.{Bor}
use Rattle.kmipa_ttlv.specs.Input.{came_of}
use Rattle.kmipa_record.specs.Heads.{label_of}
use Rattle.kmipa_record.specs.Torn.{SealedAhead}
use Rattle.kmipa_record.specs.declared.head.Head.{Head}
use Rattle.kmipa_record.specs.declared.torn.Torn.{Torn}
use Rattle.kmipa_runs.specs.Knowing.{Known, KnowsSeals}
use Rattle.kmipa_runs.specs.Sealing.{HasSeal, SpellsSeal, head_line, other_head_line, other_head_object, torn_line}
use Rattle.kmipa_jobs.specs.Statuses.{IsSilent}
use Rattle.kmipa_jobs.specs.declared.status.Status.{Status}
use Rattle.kmipa_jobs.specs.declared.status.Status.TheVariants as status
use Rattle.kmipa_session.specs.Worlds.{input_of, torn_of}
use Rattle.kmipa_session.specs.declared.named.Named.{Named}
use Rattle.kmipa_session.specs.declared.ran.Ran.{Ran}
use Rattle.kmipa_session.specs.declared.voice.Voice.{Voice}
use Rattle.kmipa_session.specs.declared.voice.Voice.TheVariants.{Lines, Object}

-- the word spells this seal, or there is no word and none is expected
abbrev pub IsExpected : Option (Bor (List ℕ)) → Option (List ℕ) → Type 0
IsExpected None None = Unit {0}
IsExpected None (Some seal) = ⊥
IsExpected (Some word) None = ⊥
IsExpected (Some word) (Some seal) = SpellsSeal word.now seal

-- there is a word, and it spells no seal
abbrev pub IsNoSeal : Option (Bor (List ℕ)) → Type 0
IsNoSeal None = ⊥
IsNoSeal (Some word) = (seal : List ℕ) → ¬ (SpellsSeal word.now seal)

-- the statuses of verdicts
abbrev pub is_verdict : Status → Bool
is_verdict status.Done = true
is_verdict status.No = true
is_verdict status.GaveUp = true
is_verdict said = false

-- the transcript is known by the seal that is expected, if one is
abbrev pub IsKnownAsExpected : Option (List ℕ) → Option Head → Type 0
IsKnownAsExpected None head = Unit {0}
IsKnownAsExpected (Some seal) head = HasSeal head seal

-- where a close was given behind a torn transcript, how many bytes are the transcript's own
abbrev pub own_length : Option Torn → Option ℕ
own_length None = None
own_length (Some torn) = Some torn.length

-- this is told in place of a head: the one ahead of its last record, not closed
abbrev pub IsWithoutClose : Option Head → Option Head → Type 0
IsWithoutClose None told = told ≡ None
IsWithoutClose (Some head) None = ⊥
IsWithoutClose (Some head) (Some told) = (told.label ≡ head.label) × (told.seal ≡ head.ahead) × (told.closed ≡ false)

-- the bytes end by a close, and ahead of it they are an unbroken run of records up to this head, which has no close
abbrev pub KnownAhead : List ℕ → Option Head → Type 0
KnownAhead bytes None = Known bytes None
KnownAhead bytes (Some head) = SealedAhead bytes (label_of head.label) head.seal × (head.closed ≡ false)

-- what is known of a transcript and its head; where a close was given behind a torn one, of its whole records
abbrev pub KnownAsTold : Option Torn → List ℕ → Option Head → Type 0
KnownAsTold None bytes head = Known bytes head
KnownAsTold (Some torn) bytes head = KnownAhead bytes head

-- Behind each verdict the head is that of the transcript; where a close was given behind a torn one, that of its whole records.
abbrev pub KnowsTold : Option Torn → List ℕ → Status → Option Head → Type 0
KnowsTold None bytes said head = KnowsSeals bytes said head
KnowsTold (Some torn) bytes status.Done head = KnownAhead bytes head
KnowsTold (Some torn) bytes status.No head = KnownAhead bytes head
KnowsTold (Some torn) bytes status.GaveUp head = KnownAhead bytes head
KnowsTold (Some torn) bytes said head = Unit {0}

-- the line of a head, which says where the transcript is torn, if it is
abbrev pub told_line : Option Torn → Head → List ℕ
told_line None head = head_line head
told_line (Some torn) head = torn_line head torn

-- behind the lines of a verdict the line of the head, of a transcript that bears seals; an object has the head in it
abbrev pub sealed_line : Voice → Option Torn → Option Head → List ℕ
sealed_line Lines torn None = []
sealed_line Lines torn (Some head) = told_line torn head
sealed_line Object torn head = []

-- and in place of a verdict what is said of another head
abbrev pub other_head_text : Voice → Option Head → List ℕ → List ℕ
other_head_text Lines head seal = other_head_line head seal
other_head_text Object head seal = other_head_object head seal

-- What is said where a run told these lines of a status, of a transcript that is known by this head, and is torn there, if it is.
pub data SaysSeals (voice : Voice) (expected : Option (List ℕ)) (torn : Option Torn) (head : Option Head) (ran : Status) (told : List ℕ) (said : Status) (lines : List ℕ) : Type 0 where
  -- of no verdict what the run told
  no_verdict : is_verdict ran ≡ false → said ≡ ran → lines ≡ told → SaysSeals voice expected torn head ran told said lines
  -- of a verdict what the run told, and behind it the line of the head
  as_expected : is_verdict ran ≡ true → IsKnownAsExpected expected head → said ≡ ran → lines ≡ told ++ sealed_line voice torn head → SaysSeals voice expected torn head ran told said lines
  -- nothing of the verdict where another head is expected
  other_head : is_verdict ran ≡ true → (seal : List ℕ) → expected ≡ Some seal → ¬ (HasSeal head seal) → said ≡ status.Refused → lines ≡ other_head_text voice head seal
      → SaysSeals voice expected torn head ran told said lines
  no_memory : IsSilent said lines → SaysSeals voice expected torn head ran told said lines

-- A run over this transcript told this, with the head up to which the seals are right of what came of it, and so this is said. It says that the
-- transcript is torn exactly where a close was given behind it.
abbrev pub SaysOf : {R : Type 0} → Voice → Option (List ℕ) → Named R → (Status → List ℕ → Type 0) → Status → List ℕ → Type 0
SaysOf voice expected t Tells said lines = (ran : Ran) × Tells ran.status ran.lines.items × KnowsTold (torn_of t) (came_of (input_of t)) ran.status ran.head
    × SaysSeals voice expected (torn_of t) ran.head ran.status ran.lines.items said lines

-- the transcript has a close of its own, unless it may be torn
abbrev pub IsOpenedAs : {R : Type 0} → Bool → Named R → Type 0
IsOpenedAs torn file = torn ≡ false → torn_of file ≡ None
