use Rattle.std.proofs.Common.{Option, Some, None, MatchOption, IfSome}
use Rattle.kmipa_check.specs.Calls.{CallOf, call_of}
use Rattle.kmipa_orders.specs.Candidates.{IsNotPlain, candidate_step}
use Rattle.kmipa_orders.specs.Guessing.{IsReadableOne}
use Rattle.kmipa_orders.specs.Plain.{IsPlainStep}
use Rattle.kmipa_orders.specs.declared.candidate.Candidate.{Candidate}
use Rattle.kmipa_orders.proofs.PlainLemmas.{plain_one_readable}
use Rattle.kmipa_orders.proofs.plain.plain_one.Goals as goal

pub returns : goal.returns
returns c = by c.candidate_of.result c.candidate_of.ensures
  where
    call : CallOf
    call = call_of c.args.call.now.call.now

    by : (o : Option Candidate) → MatchOption o (IsNotPlain call) (λ own. IsPlainStep call (candidate_step own)) → IfSome o IsReadableOne
    by None h = tt
    by (Some own) h = plain_one_readable c.requires.0 c.check_laws.ensures call (candidate_step own) c.requires.1 h
