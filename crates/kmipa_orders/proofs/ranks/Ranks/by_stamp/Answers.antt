use Rattle.std.proofs.Common.{◌≡◌, ◌≢◌, ◌∙◌, ℕ, ℤ, ◌∷◌, map, length, take, ap, arith}
use Rattle.std.specs.Prelude.{AllPairs}
use Rattle.std.proofs.lemmas.List.{take_all}
use Rattle.kmipa_orders.specs.Candidates.{candidate_step}
use Rattle.kmipa_orders.specs.Taken.{step_at}
use Rattle.kmipa_orders.specs.Ranks.{IsRanked, HasRank, AreNoted, ByStamp}
use Rattle.kmipa_orders.specs.declared.ranks.Ranks.{Ranks}
use Rattle.kmipa_orders.proofs.SortLemmas.{if_ok, ranked_as, by_stamp_of, stamps_total}
use Rattle.std.specs.Ordering.{ordering_then, nat_cmp, int_cmp, is_lt}
use Rattle.kmipa_orders.proofs.ranks.Ranks.by_stamp.Goals as goal

pub returns : goal.returns
returns c =
    let calls = map candidate_step c.args.calls.now in
    let n = length c.args.calls.now in
    let f : ℕ → ℤ = λ p. (step_at calls p).response.stamp in
    let ks = c.calls.keys.items in
    let ss = c.sort_unstable.new.self.items in
    let whole : c.calls.place ≡ n = omega (arith, c.calls-test.false, c.calls.invariant.within) in
    let all : take c.keys.key-index c.deref-key-items.result.now ≡ c.deref-key-items.result.now = take_all c.keys.key-index c.deref-key-items.result.now c.keys-test.false in
    let same : c.deref.result.now ≡ map (λ (key : ℤ × ℕ). key.1) ss =
    c.deref.ensures.value ∙ c.keys.invariant ∙ ap (map (λ (key : ℤ × ℕ). key.1)) (all ∙ c.deref-key-items.ensures.value) in
    if_ok (λ (r : Ranks). (r.order.items ≡ 0 ∷ c.deref.result.now) × (AllPairs (λ (x y : ℕ). x ≢ y) c.deref.result.now → AreNoted c.deref.result.now (length c.deref.result.now) r.rank.items))
    (λ (r : Ranks). IsRanked n (ByStamp calls) r.order.items r.rank.items × HasRank n r.rank.items) c.of.result
    (λ r h. ranked_as f n ks ss (λ (x y : ℤ × ℕ). is_lt (ordering_then (int_cmp x.0 y.0) (nat_cmp x.1 y.1))) stamps_total (c.calls.invariant.long ∙ whole)
    (λ k d below. c.calls.invariant.keys k d (omega (arith, below, whole))) c.sort_unstable.ensures.permutation c.sort_unstable.ensures.sorted
    (ByStamp calls) (λ x y a b apart e. by_stamp_of calls x y apart e) r.order.items r.rank.items c.deref.result.now same h.0 h.1)
    c.of.ensures
