use Rattle.std.proofs.Common.{List, map, rules, subst}
use Rattle.std.proofs.lemmas.Int.{to_z-of_z}
use mir.Val.{SFits}
use mir.Syntax.{w32}
use Rattle.kmipa_record.specs.Transcripts.{transcript_of}
use Rattle.kmipa_record.specs.Declarations.{declaration_of}
use Rattle.kmipa_record.specs.Witnesses.{turn_of, witness_of}
use Rattle.kmipa_record.specs.declared.turn.Turn.{Turn}
use Rattle.kmipa_runs.specs.Lines.{TalliesRecorded}
use Rattle.kmipa_telling.proofs.TellingLemmas.{told_no, told_yes}
use Rattle.kmipa_telling.proofs.telling.tell_verdict.Goals as goal

pub returns-in_ok-tell_date-in-No : goal.returns-in_ok-tell_date-in-No
returns-in_ok-tell_date-in-No c =
    let fits : SFits w32 c.in-No.refused.call = search rules in
    told_no (transcript_of c.args.transcript.now) (declaration_of c.args.declaration.now) (witness_of c.args.witness.now) c.args.verdict.now c.in-No.refused _ c.in_ok-stamp-in-No.stamp _ _ _
    c.in-No.is (to_z-of_z w32 c.in-No.refused.call fits) c.in_ok-stamp-in-No.ensures c.in_ok-tell_refused-in-No.ensures c.in_ok-tell_date-in-No.ensures

pub returns-in_ok-tell_tally-in-Yes : goal.returns-in_ok-tell_tally-in-Yes
returns-in_ok-tell_tally-in-Yes c =
    let marks = transcript_of c.args.transcript.now in
    let declared = declaration_of c.args.declaration.now in
    let T : List Turn → Type 0 = λ ts. TalliesRecorded marks declared (map turn_of ts) c.in_ok-tally-in-Yes.tally in
    told_yes marks declared (witness_of c.args.witness.now) c.args.verdict.now c.in_ok-tally-in-Yes.tally _ _ _ c.in-Yes.is (subst T c.deref.ensures.value c.in_ok-tally-in-Yes.ensures)
    c.in_ok-put_text-in-Yes.ensures.ok c.in_ok-tell_tally-in-Yes.ensures
