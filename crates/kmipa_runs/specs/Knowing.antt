-- What a run answers of a transcript's seals.
use Rattle.std.specs.Prelude.{ℕ, List, Option}
use Rattle.kmipa_record.specs.Marks.{MarkOf}
use Rattle.kmipa_record.specs.TranscriptReading.{IsKnownBy}
use Rattle.kmipa_record.specs.declared.head.Head.{Head}
use Rattle.kmipa_jobs.specs.declared.status.Status.{Status}
use Rattle.kmipa_jobs.specs.declared.status.Status.TheVariants as status

-- the bytes are a transcript whose seals are all right, up to this head; or one that bears none
abbrev pub Known : List ℕ → Option Head → Type 0
Known bytes head = (marks : List MarkOf) × IsKnownBy bytes marks head

-- Behind each verdict stands what the transcript is known by. Otherwise nothing is said of it.
abbrev pub KnowsSeals : List ℕ → Status → Option Head → Type 0
KnowsSeals bytes status.Done head = Known bytes head
KnowsSeals bytes status.No head = Known bytes head
KnowsSeals bytes status.GaveUp head = Known bytes head
KnowsSeals bytes said head = Unit {0}
