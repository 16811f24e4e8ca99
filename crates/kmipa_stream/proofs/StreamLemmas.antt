-- What the three files and the audit of the transcript come to together.
use Rattle.std.proofs.Common.{◌≡◌, ℕ, ℤ, List, IsTrue, Option, Result, Ok, Err, sym, subst}
use Rattle.std.specs.Prelude.{IfOk}
use Rattle.kmipa_ttlv.specs.Input.{came_of, is_ended, IsFileOf}
use Rattle.kmipa_ttlv.specs.declared.input.Input.{Input}
use Rattle.kmipa_ttlv.proofs.ReadLemmas.{whole_file}
use Rattle.kmipa_record.specs.Declarations.{DeclarationOf, IsDeclaration}
use Rattle.kmipa_record.specs.Marks.{MarkOf}
use Rattle.kmipa_record.specs.TranscriptReading.{IsKnownBy}
use Rattle.kmipa_record.specs.Transcripts.{IsTranscript}
use Rattle.kmipa_record.specs.Witnesses.{TurnOf, IsWitness}
use Rattle.kmipa_record.specs.declared.head.Head.{Head}
use Rattle.kmipa_check.specs.Audits.{AreAccepted, AreJudgedAs, AreUnjudged, AreATranscript, AreADeclaration}
use Rattle.kmipa_check.specs.Verdicts.{Checks, TellsVerdict}
use Rattle.kmipa_check.specs.declared.fault.CheckFault.{CheckFault}
use Rattle.kmipa_check.specs.declared.verdict.Verdict.{Verdict}
use Rattle.kmipa_check.specs.declared.verdict.Verdict.TheVariants.{Yes, No}
use Rattle.kmipa_stream.specs.Counting.{HaveItems, HaveTally}
use Rattle.kmipa_stream.specs.Standing.{DatesSo, CountsSo}
use Rattle.kmipa_stream.specs.Streams.{TellsDate}
use Rattle.kmipa_stream.specs.declared.counts.Counts.{Counts}
use Rattle.kmipa_stream.specs.declared.judged.Judged.{Judged}

-- the file whose bytes came to the end that was seen
pub a_transcript : {R : Type 0} (ti : Input R) (t : List ℕ) (marks : List MarkOf) → IsFileOf t ti → IsTranscript (came_of ti) marks → IsTrue (is_ended ti) → AreATranscript t
a_transcript ti t marks tf p ended = (marks, whole_file t ti (λ bytes. IsTranscript bytes marks) ended tf p)

pub a_declaration : {R : Type 0} (di : Input R) (d : List ℕ) (declared : DeclarationOf) → IsFileOf d di → IsDeclaration (came_of di) declared × IsTrue (is_ended di) → AreADeclaration d
a_declaration di d declared df q = (declared, whole_file d di (λ bytes. IsDeclaration bytes declared) q.1 df q.0)

-- the records of the three files, and what is answered of them
pub record AreTheseRecords (t d w : List ℕ) (marks : List MarkOf) (declared : DeclarationOf) (turns : List TurnOf) : Type 0 where
  pub transcript : IsTranscript t marks
  pub declaration : IsDeclaration d declared
  pub witness : IsWitness w turns

pub these_records : {R : Type 0} (ti di wi : Input R) (t d w : List ℕ) (marks : List MarkOf) (declared : DeclarationOf) (turns : List TurnOf)
    → IsFileOf t ti → IsFileOf d di → IsFileOf w wi → IsTranscript (came_of ti) marks → IsTrue (is_ended ti) → IsDeclaration (came_of di) declared × IsTrue (is_ended di)
    → IsWitness (came_of wi) turns × IsTrue (is_ended wi) → AreTheseRecords t d w marks declared turns
these_records ti di wi t d w marks declared turns tf df wf p ended q s = record {
  transcript = whole_file t ti (λ bytes. IsTranscript bytes marks) ended tf p;
  declaration = whole_file d di (λ bytes. IsDeclaration bytes declared) q.1 df q.0;
  witness = whole_file w wi (λ bytes. IsWitness bytes turns) s.1 wf s.0;
}

pub judged_so : (t d w : List ℕ) (marks : List MarkOf) (declared : DeclarationOf) (turns : List TurnOf) (verdict : Verdict) → AreTheseRecords t d w marks declared turns
    → TellsVerdict marks declared turns verdict → AreJudgedAs verdict t d w
judged_so t d w marks declared turns verdict r told = record {
  marks = marks;
  transcript = r.transcript;
  declared = declared;
  declaration = r.declaration;
  turns = turns;
  witness = r.witness;
  verdict = told;
}

pub unjudged_so : (t d w : List ℕ) (marks : List MarkOf) (declared : DeclarationOf) (turns : List TurnOf) (fault : CheckFault) → AreTheseRecords t d w marks declared turns
    → Checks marks declared turns (Err fault) → AreUnjudged fault t d w
unjudged_so t d w marks declared turns fault r told = record {
  marks = marks;
  transcript = r.transcript;
  declared = declared;
  declaration = r.declaration;
  turns = turns;
  witness = r.witness;
  checks = told;
}

pub accepted_so : (t d w : List ℕ) (marks : List MarkOf) (declared : DeclarationOf) (turns : List TurnOf) (verdict : Verdict) → verdict ≡ Yes → AreTheseRecords t d w marks declared turns
    → TellsVerdict marks declared turns verdict → AreAccepted t d w
accepted_so t d w marks declared turns Yes e r told = record {
  marks = marks;
  transcript = r.transcript;
  declared = declared;
  declaration = r.declaration;
  turns = turns;
  witness = r.witness;
  accepted = told;
}
accepted_so t d w marks declared turns (No refused) e r told = absurd cc

pub dated_so : (t d w : List ℕ) (marks : List MarkOf) (declared : DeclarationOf) (turns : List TurnOf) (verdict : Verdict) (stamp : Option ℤ) → AreTheseRecords t d w marks declared turns
    → DatesSo marks turns verdict stamp → TellsDate t w verdict stamp
dated_so t d w marks declared turns Yes stamp r dates = tt
dated_so t d w marks declared turns (No refused) stamp r dates = (
  dates.0,
  dates.1,
  record { marks = marks; transcript = r.transcript; turns = turns; witness = r.witness; answered = dates.2 },
)

pub counted_so : (t d w : List ℕ) (marks : List MarkOf) (declared : DeclarationOf) (turns : List TurnOf) (verdict : Verdict) (counts : Counts) → verdict ≡ Yes → AreTheseRecords t d w marks declared turns
    → CountsSo marks declared turns verdict counts → HaveItems t d w counts.items
counted_so t d w marks declared turns Yes counts e r so = record {
  marks = marks;
  transcript = r.transcript;
  declared = declared;
  declaration = r.declaration;
  turns = turns;
  witness = r.witness;
  counted = so.0;
}
counted_so t d w marks declared turns (No refused) counts e r so = absurd cc

pub tallied_so : (t d w : List ℕ) (marks : List MarkOf) (declared : DeclarationOf) (turns : List TurnOf) (verdict : Verdict) (counts : Counts) → verdict ≡ Yes → AreTheseRecords t d w marks declared turns
    → CountsSo marks declared turns verdict counts → HaveTally t d w counts.tally
tallied_so t d w marks declared turns Yes counts e r so = record {
  marks = marks;
  transcript = r.transcript;
  declared = declared;
  declaration = r.declaration;
  turns = turns;
  witness = r.witness;
  tallied = so.1;
}
tallied_so t d w marks declared turns (No refused) counts e r so = absurd cc

-- what is answered comes with what the transcript is known by
pub known_with : (bytes : List ℕ) (marks : List MarkOf) (head : Option Head) (answer : Result Judged CheckFault) → IsKnownBy bytes marks head
    → IfOk answer (λ judged. judged.head ≡ head) → IfOk answer (λ judged. IsKnownBy bytes marks judged.head)
known_with bytes marks head (Ok judged) known is = let P : Option Head → Type 0 = λ h. IsKnownBy bytes marks h in subst P (sym is) known
known_with bytes marks head (Err fault) known is = tt
