use Rattle.std.proofs.Common.{map}
use Rattle.kmipa_orders.specs.Candidates.{candidate_step}
use Rattle.kmipa_orders.proofs.CandidateLemmas.{candidates_ended}
use Rattle.kmipa_orders.proofs.RemainingLemmas.{remaining_taken}
use Rattle.kmipa_orders.proofs.remaining.Remaining.take.Goals as goal

pub returns : goal.returns
returns c = λ taken x n.
    remaining_taken (map candidate_step c.args.calls.now) taken c.args.self.now x (candidates_ended c.args.calls.now) c.args.place c.rank.result c.rank-2.result c.remove.new.self c.remove-2.new.self n c.rank.ensures c.rank-2.ensures
    c.remove.ensures.after c.remove.ensures.before c.remove-2.ensures.after c.remove-2.ensures.before
