use Rattle.std.proofs.Common.{◌≡◌, ◌≤◌, ◌<◌, ℕ, List, Bool, true, length, vec_len, Contains, subst, arith, rules}
use Rattle.std.specs.Prelude.{AllPairs}
use Rattle.kmipa_orders.specs.Ends.{flag}
use Rattle.kmipa_orders.proofs.TakenLemmas.{counted_set}
use Rattle.kmipa_orders.proofs.taken.TakenCalls.are.Goals as goal

pub returns : goal.returns
returns c = λ all taken a long t.
    let f = c.args.self.now in
    let k = c.args.set.now in
    let count : length k.rest.items ≡ vec_len k.rest = search rules in
    let P : List Bool → Type 0 = λ fs. (p : ℕ) → Contains c.deref-2.result.now p → flag fs p ≡ true in
    let Q : List ℕ → Type 0 = λ xs. (p : ℕ) → Contains xs p → flag f.flags.items p ≡ true in
    let R : List ℕ → Type 0 = λ xs. (p : ℕ) → Contains xs p → f.low ≤ p in
    let S : List ℕ → Type 0 = λ xs. AllPairs (λ (p q : ℕ). p < q) xs in
    counted_set all taken f k a (omega (arith, long, c.if-set-count.false)) (omega (arith, c.if-set-self.false)) (omega (arith, count, c.len.ensures, c.saturating_sub.ensures, c.if-len-saturating_sub.false, c.if-set-count.false))
    (subst S c.deref-2.ensures.value (c.are_marked.ensures.rising t)) (subst R c.deref-2.ensures.value (c.are_marked.ensures.past t))
    (subst Q c.deref-2.ensures.value (subst P c.deref.ensures.value (c.are_marked.ensures.marked t)))
