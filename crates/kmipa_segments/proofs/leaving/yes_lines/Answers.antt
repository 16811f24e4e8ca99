use Rattle.std.proofs.Common.{List, map, subst}
use Rattle.kmipa_record.specs.Declarations.{declaration_of}
use Rattle.kmipa_record.specs.Transcripts.{transcript_of}
use Rattle.kmipa_record.specs.Witnesses.{turn_of, witness_of}
use Rattle.kmipa_record.specs.declared.turn.Turn.{Turn}
use Rattle.kmipa_runs.specs.Lines.{TalliesRecorded}
use Rattle.kmipa_segments.proofs.LeavingLemmas.{yes_told}
use Rattle.kmipa_segments.proofs.leaving.yes_lines.Goals as goal

pub returns : goal.returns
returns c =
    let marks = transcript_of c.args.segment.now.records.transcript in
    let declared = declaration_of c.args.segment.now.records.declaration in
    let T : List Turn → Type 0 = λ ts. TalliesRecorded marks declared (map turn_of ts) c.in_ok-tally.tally in
    yes_told marks declared (witness_of c.args.segment.now.records.witness) c.in_ok-tally.tally c.yes_text.result (subst T c.deref.ensures.value c.in_ok-tally.ensures) c.yes_text.ensures
