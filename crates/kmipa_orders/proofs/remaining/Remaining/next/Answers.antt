use Rattle.std.proofs.Common.{◌∙◌, Bool, cond, map, ap, subst, Some, None, arith}
use Rattle.std.proofs.lemmas.List.{length-map}
use Rattle.kmipa_orders.specs.Candidates.{candidate_step}
use Rattle.kmipa_orders.specs.Links.{at}
use Rattle.kmipa_orders.specs.Progress.{IsNextFrom}
use Rattle.kmipa_orders.proofs.CandidateLemmas.{candidates_ended}
use Rattle.kmipa_orders.proofs.RemainingLemmas.{remaining_none, remaining_reported}
use Rattle.kmipa_orders.proofs.remaining.Remaining.next.Goals as goal

pub returns-then-rank-calls-clause-next : goal.returns-then-rank-calls-clause-next
returns-then-rank-calls-clause-next c = λ taken begun x cursor.
    remaining_none (map candidate_step c.args.calls.now) taken c.args.self.now x (candidates_ended c.args.calls.now) c.args.from cursor c.after-rank.result (c.after-rank.ensures ∙ ap (at c.args.self.now.by_stamp.after.items) c.rank_from-behind.ensures)
    (omega (arith, c.if-rank-calls.true, length-map c.args.calls.now candidate_step))

pub returns-then-leads-clause-next : goal.returns-then-leads-clause-next
returns-then-leads-clause-next c = λ taken begun x cursor.
    let calls = map candidate_step c.args.calls.now in
    let P : Bool → Type 0 = λ b. IsNextFrom calls taken c.args.from (cond b (Some c.place-place.result) None) in
    subst P c.if-leads.true
    (remaining_reported calls taken c.args.self.now x (candidates_ended c.args.calls.now) c.args.from cursor c.after-rank.result c.place-place.result c.place-least.result c.place-soonest.result
    (c.after-rank.ensures ∙ ap (at c.args.self.now.by_stamp.after.items) c.rank_from-behind.ensures)
    (omega (arith, c.if-rank-calls.false, length-map c.args.calls.now candidate_step))
    c.place-place.ensures
    (c.place-least.ensures ∙ ap (at c.args.self.now.stamps.order.items) c.after.ensures)
    (c.place-soonest.ensures ∙ ap (at c.args.self.now.ends.order.items) c.after-2.ensures)
    begun c.leads.result
    (λ a b d. c.leads.ensures.reported (omega (arith, a, length-map c.args.calls.now candidate_step)) (omega (arith, b, length-map c.args.calls.now candidate_step)) (omega (arith, d, length-map c.args.calls.now candidate_step))))

pub returns-else-leads-clause-next : goal.returns-else-leads-clause-next
returns-else-leads-clause-next c = λ taken begun x cursor.
    let calls = map candidate_step c.args.calls.now in
    let P : Bool → Type 0 = λ b. IsNextFrom calls taken c.args.from (cond b (Some c.place-place.result) None) in
    subst P c.if-leads.false
    (remaining_reported calls taken c.args.self.now x (candidates_ended c.args.calls.now) c.args.from cursor c.after-rank.result c.place-place.result c.place-least.result c.place-soonest.result
    (c.after-rank.ensures ∙ ap (at c.args.self.now.by_stamp.after.items) c.rank_from-behind.ensures)
    (omega (arith, c.if-rank-calls.false, length-map c.args.calls.now candidate_step))
    c.place-place.ensures
    (c.place-least.ensures ∙ ap (at c.args.self.now.stamps.order.items) c.after.ensures)
    (c.place-soonest.ensures ∙ ap (at c.args.self.now.ends.order.items) c.after-2.ensures)
    begun c.leads.result
    (λ a b d. c.leads.ensures.reported (omega (arith, a, length-map c.args.calls.now candidate_step)) (omega (arith, b, length-map c.args.calls.now candidate_step)) (omega (arith, d, length-map c.args.calls.now candidate_step))))
