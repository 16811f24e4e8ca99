use Rattle.std.proofs.Common.{◌≡◌, ◌∙◌, ◌<◌, ◌+◌, ◌^◌, ℕ, List, [], ◌∷◌, length, Contains, refl, sym, ap, subst, arith, rules, Some, Ok, Option}
use Rattle.std.specs.Prelude.{vec_len}
use Rattle.std.proofs.lemmas.List.{length-append}
use Rattle.std.proofs.lemmas.List.Elements.{Contains-append_right}
use Rattle.kmipa_orders.proofs.PlaceLemmas.{has_head}
use Rattle.std.proofs.lemmas.Option.{slice_get_read}
use Rattle.kmipa_record.specs.declared.turn.Turn.{Turn}
use Rattle.kmipa_orders.specs.Guessing.{GuessTried}
use Rattle.kmipa_orders.specs.declared.guessing.Taken.{Taken}
use Rattle.kmipa_check.proofs.PlaceLemmas.{contains_at}
use Rattle.kmipa_orders.proofs.GuessLemmas.{guessing_begins, guessing_taken, guessing_back, some_marks, one_less}
use Rattle.kmipa_orders.proofs.guessing.guess_order.Goals as goal

pub tries-init : goal.tries-init
tries-init g c = record {
  guessing = (
      guessing_begins {T = Turn} (length c.args.calls.now) c.args.budget c.new-turns.result.items c.new-path.result.items 0 (g.L.Ledger.state c.args.ledger.now) c.new-path.ensures.items c.new-turns.ensures.items c.requires.sound);
  watch = refl;
}

pub try_one-requires-clause-recorded : goal.try_one-requires-clause-recorded
try_one-requires-clause-recorded g c =
    c.requires.recorded c.index-calls-place.result
    (contains_at c.args.calls.now c.in-Some.place c.index-calls-place.result
    (slice_get_read c.args.calls.now (length c.args.calls.now) c.in-Some.place c.index-calls-place.result refl c.in-Some.ensures.within c.index-calls-place.is))

pub tries-preserved-in-Some-2 : goal.tries-preserved-in-Some-2
tries-preserved-in-Some-2 g c = record {
  guessing = (
      let u = g.L.Ledger.state c.tries.ledger in
      let v = g.L.Ledger.state c.try_one.new.ledger in
      let Q : Option Taken → Type 0 = λ o. GuessTried u (Ok o) v in
      let e : GuessTried u (Ok (Some c.in-Some-2.taken)) v = subst Q c.in-Some-2.is c.in_ok-taken-in-Some.ensures in
      guessing_taken {T = Turn} (length c.args.calls.now) c.args.budget c.tries.path.items c.tries.turns.items c.tries.depth c.tries.steps u c.tries.invariant.guessing
      c.in-Some.place c.in-Some-2.taken.turn c.in-Some-2.taken.depth v c.push-in-Some-2.new.self.items c.push.new.self.items c.in-Some.ensures.within
      (let few = c.tries.invariant.guessing.few in let differ = c.if-steps-budget.false in omega (arith, few, differ))
      e.0 e.1 e.2 c.in_ok-push-in-Some-2-2.ensures.items c.in_ok-push-in-Some-2.ensures.items);
  watch = c.taken.ensures ∙ c.step.ensures ∙ c.tries.invariant.watch;
}

pub overflow_add-from-in-None : goal.overflow_add-from-in-None
overflow_add-from-in-None g c =
    let place = c.in-Some-pop.place in
    let P : List ℕ → Type 0 = λ ps. Contains ps place in
    let below = c.tries.invariant.guessing.within place (subst P (sym c.in-Some-pop.ensures.items) (Contains-append_right c.pop.new.self.items (place ∷ []) place (has_head place []))) in
    let bound : length c.args.calls.now < 2 ^ 63 = search rules in
    let fits : place + 1 < 2 ^ 64 = omega (arith, below, bound) in
    search rules

pub overflow_sub-depth : goal.overflow_sub-depth
overflow_sub-depth g c =
    let marks = (g.L.Ledger.state c.tries.ledger).marks in
    let some : 0 < length c.tries.path.items = omega (arith, ap length c.in-Some-pop.ensures.items, length-append c.pop.new.self.items (c.in-Some-pop.place ∷ [])) in
    omega (arith, c.tries.invariant.guessing.deep some, some_marks (length c.tries.path.items) marks some c.tries.invariant.guessing.after)

pub tries-preserved : goal.tries-preserved
tries-preserved g c = record {
  guessing = (
      let place = c.in-Some-pop.place in
      let some : 0 < length c.tries.path.items = omega (arith, ap length c.in-Some-pop.ensures.items, length-append c.pop.new.self.items (place ∷ [])) in
      let old : length c.tries.turns.items ≡ vec_len c.tries.turns = search rules in
      let new : length c.pop-in-None.new.self.items ≡ vec_len c.pop-in-None.new.self = search rules in
      let less = one_less c.pop-in-None.result (vec_len c.tries.turns) (vec_len c.pop-in-None.new.self) (omega (arith, some, c.tries.invariant.guessing.turned, old)) c.pop-in-None.ensures.cases in
      guessing_back {T = Turn} (length c.args.calls.now) c.args.budget c.tries.path.items c.tries.turns.items c.tries.depth c.tries.steps (g.L.Ledger.state c.tries.ledger) c.tries.invariant.guessing
      place c.pop.new.self.items c.pop-in-None.new.self.items (g.L.Ledger.state c.back.new.self) c.in-Some-pop.ensures.items (omega (arith, less, old, new)) c.back.ensures.meaning);
  watch = c.given_back.ensures ∙ c.tries.invariant.watch;
}
