use Rattle.std.proofs.Common.{Option, map, subst}
use Rattle.std.specs.Prelude.{MatchOption}
use Rattle.kmipa_check.specs.Calls.{call_of}
use Rattle.kmipa_msgs.specs.Messages.{lent}
use Rattle.kmipa_parts.specs.Parts.{is_among}
use Rattle.kmipa_orders.specs.Candidates.{IsNotPlain, candidate_step}
use Rattle.kmipa_orders.specs.Plain.{IsPlainStep}
use Rattle.kmipa_orders.specs.declared.candidate.Candidate.{Candidate}
use Rattle.kmipa_orders.proofs.RefutedLemmas.{part_of_plain}
use Rattle.kmipa_orders.proofs.by_object.plain_part.Goals as goal

pub returns-in-Some : goal.returns-in-Some
returns-in-Some c =
    let call = call_of c.args.call.now in
    let P : Option Candidate → Type 0 = λ o. MatchOption o (IsNotPlain call) (λ own. IsPlainStep call (candidate_step own)) in
    part_of_plain (is_among (map lent c.args.ids.now)) call (candidate_step c.in-Some.own) c.call_part.result (subst P c.in-Some.is c.candidate_of.ensures) c.call_part.ensures
