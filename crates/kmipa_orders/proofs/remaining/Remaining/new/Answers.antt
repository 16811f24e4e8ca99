use Rattle.std.proofs.Common.{map, length, sym}
use Rattle.std.proofs.lemmas.List.{length-map}
use Rattle.kmipa_orders.specs.Candidates.{candidate_step}
use Rattle.kmipa_orders.proofs.RemainingLemmas.{remaining_all}
use Rattle.kmipa_orders.proofs.remaining.Remaining.new.Goals as goal

pub returns : goal.returns
returns c =
    remaining_all (map candidate_step c.args.calls.now) (length c.args.calls.now) c.in_ok-stamps.stamps c.in_ok-ends.ends c.in_ok-by_stamp.by_stamp c.in_ok-by_end.by_end (sym (length-map c.args.calls.now candidate_step))
    c.in_ok-stamps.ensures.0 c.in_ok-ends.ensures.0 (λ r h. c.in_ok-stamps.ensures.1 r h.0 h.1) (λ r h. c.in_ok-ends.ensures.1 r h.0 h.1) c.in_ok-by_stamp.ensures c.in_ok-by_end.ensures
