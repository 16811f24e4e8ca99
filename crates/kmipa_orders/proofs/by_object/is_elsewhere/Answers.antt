use Rattle.std.proofs.Common.{Option, inl, subst}
use Rattle.std.specs.Prelude.{MatchOption}
use Rattle.kmipa_check.specs.Calls.{call_of}
use Rattle.kmipa_orders.specs.Candidates.{IsNotPlain, candidate_step}
use Rattle.kmipa_orders.specs.Plain.{IsPlainStep}
use Rattle.kmipa_orders.specs.declared.candidate.Candidate.{Candidate}
use Rattle.kmipa_orders.proofs.by_object.is_elsewhere.Goals as goal

pub returns-in-Some : goal.returns-in-Some
returns-in-Some c = λ e.
    let call = call_of c.args.call.now in
    let P : Option Candidate → Type 0 = λ o. MatchOption o (IsNotPlain call) (λ own. IsPlainStep call (candidate_step own)) in
    inl (candidate_step c.in-Some.own, subst P c.in-Some.is c.candidate_of.ensures, c.leaves_be.ensures e)
