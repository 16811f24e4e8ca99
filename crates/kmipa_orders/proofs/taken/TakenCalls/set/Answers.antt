use Rattle.std.proofs.Common.{◌≡◌, ◌<◌, ◌≤◌, ℕ, List, Bool, true, Contains, refl, subst}
use Rattle.kmipa_orders.specs.Ends.{flag}
use Rattle.kmipa_orders.proofs.TakenLemmas.{set_of}
use Rattle.kmipa_orders.proofs.taken.TakenCalls.set.Goals as goal

pub returns : goal.returns
returns c = λ all taken a long.
    let R = c.in_ok-marked_between.field-0 in
    let P : List Bool → Type 0 = λ fs. (p : ℕ) → c.args.self.now.low ≤ p → p < c.args.self.now.high → flag fs p ≡ true → Contains R.items p in
    let Q : List Bool → Type 0 = λ fs. (p : ℕ) → Contains R.items p → flag fs p ≡ true in
    set_of all taken c.args.self.now (record { count = c.args.count; low = c.args.self.now.low; rest = R }) a long refl
    (subst P c.deref.ensures.value c.in_ok-marked_between.ensures.are) (subst Q c.deref.ensures.value c.in_ok-marked_between.ensures.only)
