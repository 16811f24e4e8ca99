-- What is told in JSON of a check that also says what its no means.
use Rattle.std.specs.Prelude.{◌≡◌, ℕ, List, Option, None, Result, Ok, Err}
use Rattle.serde_json.specs.Data.{Members, object}
use Rattle.kmipa_json.specs.Told.{line_of}
use Rattle.kmipa_ttlv.specs.Input.{came_of, is_failed, IsFileOf}
use Rattle.kmipa_ttlv.specs.declared.input.Input.{Input}
use Rattle.kmipa_record.specs.Declarations.{declaration_of}
use Rattle.kmipa_record.specs.Transcripts.{transcript_of}
use Rattle.kmipa_record.specs.Witnesses.{witness_of}
use Rattle.kmipa_record.specs.declared.head.Head.{Head}
use Rattle.kmipa_jobs.specs.declared.status.Status.{Status}
use Rattle.kmipa_telling.specs.Claims.{TellsMeaning}
use Rattle.kmipa_telling.specs.Explaining.{AuditsExplained}
use Rattle.kmipa_telling.specs.FaultsTold.{TellsFaultTold, by_fault}
use Rattle.kmipa_telling.specs.Judging.{AreEnded, WhereRead}
use Rattle.kmipa_telling.specs.Seals.{KnowsJudged}
use Rattle.kmipa_telling.specs.Telling.{TellsVerdict, check_files, opened}
use Rattle.kmipa_telling.specs.declared.explained.Explained.{Explained}
use Rattle.kmipa_telling.specs.declared.meaning.FaultTold.{FaultTold}

-- what a check with explanations answers of three inputs, whatever follows what came
abbrev pub ExplainsInputs : {R : Type 0} → Input R → Input R → Input R → Result Explained FaultTold → Type 0
ExplainsInputs t d w outcome = ((a b c : List ℕ) → IsFileOf a t → IsFileOf b d → IsFileOf c w
    → AuditsExplained a b c (is_failed t) (is_failed d) (is_failed w) outcome) × WhereRead (by_fault outcome) (AreEnded t d w)

-- what is told of it: of a verdict what it means besides, and of a fault what it means
abbrev pub TellsExplained : Result Explained FaultTold → Status → Members → Members → Type 0
TellsExplained (Ok explained) said before after = (told : Members)
    × TellsVerdict (transcript_of explained.records.transcript) (declaration_of explained.records.declaration) (witness_of explained.records.witness) explained.verdict said before told
    × TellsMeaning explained.explanation told after
TellsExplained (Err told) said before after = TellsFaultTold told said before after

-- the head that is told behind a verdict
abbrev pub explained_head : Result Explained FaultTold → Option Head
explained_head (Ok explained) = explained.records.transcript.head
explained_head (Err told) = None

-- what is printed of this outcome: one object on a line, behind a verdict with the head of a sealed transcript
abbrev pub PrintsExplainedJson : {R : Type 0} → Option ℕ → Input R → Input R → Input R → Result Explained FaultTold → Status → List ℕ → Type 0
PrintsExplainedJson torn t d w outcome said lines = (known : Option Head) × (told : Members) × KnowsJudged outcome (came_of t) known
    × TellsExplained outcome said (opened (check_files torn known t d w)) told × (lines ≡ line_of (object told))
