use Rattle.std.proofs.Common.{List, map, rules, subst}
use Rattle.std.proofs.lemmas.Int.{to_z-of_z}
use mir.Val.{SFits}
use mir.Syntax.{w32}
use Rattle.kmipa_record.specs.Transcripts.{transcript_of}
use Rattle.kmipa_record.specs.Declarations.{declaration_of}
use Rattle.kmipa_record.specs.Witnesses.{turn_of, witness_of}
use Rattle.kmipa_record.specs.declared.turn.Turn.{Turn}
use Rattle.kmipa_runs.specs.Lines.{TalliesRecorded}
use Rattle.kmipa_runs.proofs.LineLemmas.{yes_reported, no_reported}
use Rattle.kmipa_runs.proofs.lines.verdict_lines.Goals as goal

pub returns-in_ok-tally-in-Yes : goal.returns-in_ok-tally-in-Yes
returns-in_ok-tally-in-Yes c =
    let marks = transcript_of c.args.transcript.now in
    let declared = declaration_of c.args.declaration.now in
    let T : List Turn → Type 0 = λ ts. TalliesRecorded marks declared (map turn_of ts) c.in_ok-tally-in-Yes.tally in
    yes_reported marks declared (witness_of c.args.witness.now) c.args.verdict.now _ c.in_ok-tally-in-Yes.tally c.stamped_lines.result c.in-Yes.is
    (subst T c.deref.ensures.value c.in_ok-tally-in-Yes.ensures) c.stamped_lines.ensures

pub returns-in_ok-stamp-in-No : goal.returns-in_ok-stamp-in-No
returns-in_ok-stamp-in-No c =
    let fits : SFits w32 c.in-No.refused.call = search rules in
    no_reported (transcript_of c.args.transcript.now) (declaration_of c.args.declaration.now) (witness_of c.args.witness.now) c.args.verdict.now c.in-No.refused _ c.in_ok-stamp-in-No.stamp _ c.stamped_lines-in-No.result
    c.in-No.is (to_z-of_z w32 c.in-No.refused.call fits) c.in_ok-stamp-in-No.ensures c.stamped_lines-in-No.ensures
