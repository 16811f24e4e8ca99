use Rattle.std.proofs.Common.{◌≡◌, List, map, Some, slice_get, refl, sym, subst}
use Rattle.kmipa_record.specs.Declarations.{declaration_of}
use Rattle.kmipa_record.specs.Transcripts.{transcript_of}
use Rattle.kmipa_record.specs.Witnesses.{TurnOf}
use Rattle.kmipa_batch.proofs.PlaceLemmas.{got_some}
use Rattle.kmipa_findings.specs.Findings.{IsNo}
use Rattle.kmipa_findings.specs.Told.{finding_of}
use Rattle.kmipa_findings.proofs.UnexplainedLemmas.{first_no}
use Rattle.kmipa_findings.proofs.deciding.is_decided.Goals as goal

pub returns-in-Some : goal.returns-in-Some
returns-in-Some c = λ turns recorded left found.
    let marks = transcript_of c.args.transcript.now in
    let declared = declaration_of c.args.declaration.now in
    let f = c.in-Some.finding.now in
    let first : slice_get (map finding_of c.args.findings.now) 0 ≡ Some (finding_of f) =
    got_some finding_of c.args.findings.now c.args.findings.now 0 f refl c.in-Some.ensures.lookup.3.0 c.in-Some.ensures.lookup.1 in
    let P : List TurnOf → Type 0 = λ ts. IsNo marks declared ts f.refused f.stamp in
    c.is_unexplained.ensures f.stamp recorded (subst P (sym left) (first_no marks declared turns (map finding_of c.args.findings.now) (finding_of f) first found))
