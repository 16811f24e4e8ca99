use Rattle.std.proofs.Common.{◌≡◌, ◌≢◌, ◌∙◌, ℕ, ◌∷◌, map, length, take, get_or, ap, arith}
use Rattle.std.specs.Prelude.{AllPairs}
use Rattle.std.proofs.lemmas.List.{take_all}
use Rattle.kmipa_orders.specs.Ranks.{IsRanked, HasRank, AreNoted, InAnyOrder}
use Rattle.kmipa_orders.specs.declared.ranks.Ranks.{Ranks}
use Rattle.kmipa_orders.proofs.SortLemmas.{if_ok, ranked_as, ends_total, own_keys}
use Rattle.std.specs.Ordering.{ordering_then, nat_cmp, is_lt}
use Rattle.kmipa_orders.proofs.ranks.Ranks.by_wish.Goals as goal

pub returns : goal.returns
returns c =
    let n = length c.args.calls.now in
    let ks = c.calls.keys.items in
    let f : ℕ → ℕ = λ p. (get_or ks p (0, 0)).0 in
    let ss = c.sort_unstable.new.self.items in
    let whole : c.calls.place ≡ n = omega (arith, c.calls-test.false, c.calls.invariant.within) in
    let all : take c.keys.key-index c.deref-key-items.result.now ≡ c.deref-key-items.result.now = take_all c.keys.key-index c.deref-key-items.result.now c.keys-test.false in
    let same : c.deref.result.now ≡ map (λ (key : ℕ × ℕ). key.1) ss =
    c.deref.ensures.value ∙ c.keys.invariant ∙ ap (map (λ (key : ℕ × ℕ). key.1)) (all ∙ c.deref-key-items.ensures.value) in
    if_ok (λ (r : Ranks). (r.order.items ≡ 0 ∷ c.deref.result.now) × (AllPairs (λ (x y : ℕ). x ≢ y) c.deref.result.now → AreNoted c.deref.result.now (length c.deref.result.now) r.rank.items))
    (λ (r : Ranks). IsRanked n InAnyOrder r.order.items r.rank.items × HasRank n r.rank.items) c.of.result
    (λ r h. ranked_as f n ks ss (λ (x y : ℕ × ℕ). is_lt (ordering_then (nat_cmp x.0 y.0) (nat_cmp x.1 y.1))) ends_total (c.calls.invariant.long ∙ whole)
    (λ k d below. own_keys ks c.calls.place k d (omega (arith, below, whole)) c.calls.invariant.long c.calls.invariant.keys) c.sort_unstable.ensures.permutation c.sort_unstable.ensures.sorted
    InAnyOrder (λ x y a b apart e. tt) r.order.items r.rank.items c.deref.result.now same h.0 h.1)
    c.of.ensures
