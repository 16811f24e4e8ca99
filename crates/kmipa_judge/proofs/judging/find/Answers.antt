use Rattle.std.proofs.Common.{ℕ, subst}
use Rattle.kmipa_record.specs.Declarations.{declaration_of}
use Rattle.kmipa_record.specs.Transcripts.{transcript_of}
use Rattle.kmipa_judge.specs.Unexplained.{IsLooked, as_ever}
use Rattle.kmipa_judge.specs.declared.searched.Looked.{Looked}
use Rattle.kmipa_judge.proofs.UnexplainedLemmas.{comes_to}
use Rattle.kmipa_judge.proofs.judging.find.Goals as goal

pub returns-in-Found : goal.returns-in-Found
returns-in-Found g c =
    let marks = transcript_of c.args.transcript.now in
    let declared = declaration_of c.args.declaration.now in
    let seconds = g.W.Watch.seconds c.args.paced.now.watch in
    record { told = λ recorded. comes_to seconds marks declared c.in-Found.outcome (subst (IsLooked marks declared) c.in-Found.is (c.in_ok-outcome.ensures recorded) seconds) }

pub returns-in_ok-outcome-in-Refuted : goal.returns-in_ok-outcome-in-Refuted
returns-in_ok-outcome-in-Refuted g c =
    let marks = transcript_of c.args.transcript.now in
    let declared = declaration_of c.args.declaration.now in
    let seconds = g.W.Watch.seconds c.args.paced.now.watch in
    record {
      told = λ recorded.
          c.convicted.ensures seconds marks declared (c.in_ok-outcome-in-Refuted.ensures.told recorded)
          (as_ever (subst (IsLooked marks declared) c.in-Refuted.is (c.in_ok-outcome.ensures recorded)));
    }

pub returns-in_ok-outcome-in-Undecided : goal.returns-in_ok-outcome-in-Undecided
returns-in_ok-outcome-in-Undecided g c =
    let seconds = g.W.Watch.seconds c.args.paced.now.watch in
    record { told = λ recorded. c.decided_beside.ensures seconds recorded (c.in_ok-outcome-in-Undecided.ensures.told recorded) }
