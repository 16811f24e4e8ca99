use Rattle.std.proofs.Common.{ℕ, map, arith, subst, sym}
use Rattle.std.proofs.lemmas.List.{length-map}
use Rattle.kmipa_orders.specs.Candidates.{candidate_step}
use Rattle.kmipa_orders.specs.Tries.{IsBetter}
use Rattle.kmipa_orders.proofs.PickLemmas.{best_on, best_all}
use Rattle.kmipa_orders.proofs.picking.best.Goals as goal

pub run-preserved : goal.run-preserved
run-preserved c = (
  omega (arith, c.if-seen-ge-WINDOW.false),
  λ taken begun x cursor.
      let h = c.run.invariant.1 taken begun x cursor in
      let P : ℕ → Type 0 = λ n. IsBetter c.args.wishes.now.rank.items n c.args.tried.done c.run.best c.in-Some.place c.better-best.result in
      best_on (map candidate_step c.args.calls.now) taken c.args.wishes.now.rank.items c.args.tried c.run.from c.run.best h c.in-Some.place c.better-best.result (c.in-Some.ensures.next taken begun x h.cursor)
      (subst P (sym (length-map c.args.calls.now candidate_step)) c.better-best.ensures),
)

pub returns : goal.returns
returns c = λ taken begun x cursor.
    best_all (map candidate_step c.args.calls.now) taken c.args.wishes.now.rank.items c.args.tried c.run.from c.run.best (c.run.invariant.1 taken begun x cursor)
    (omega (arith, c.run-test.false, length-map c.args.calls.now candidate_step))
