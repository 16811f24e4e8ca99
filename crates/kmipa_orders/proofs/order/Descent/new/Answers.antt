use Rattle.std.proofs.Common.{ℕ, List, [], map, length, reverse, refl, sym, ap, subst, arith}
use Rattle.std.proofs.lemmas.List.{length-map}
use Rattle.kmipa_orders.specs.Candidates.{candidate_step}
use Rattle.kmipa_orders.specs.Descents.{Progress}
use Rattle.kmipa_orders.specs.Ends.{AreFlagged, Remembers}
use Rattle.kmipa_orders.specs.Progress.{places}
use Rattle.kmipa_orders.specs.Ranks.{IsRanked, InAnyOrder, WereLinked}
use Rattle.kmipa_orders.specs.declared.tried.Tried.{Tried}
use Rattle.kmipa_orders.specs.declared.tried.Visit.{Visit}
use Rattle.kmipa_orders.proofs.PickLemmas.{wishes_above}
use Rattle.kmipa_orders.proofs.ProgressLemmas.{progress_begin}
use Rattle.kmipa_orders.proofs.RememberLemmas.{remembers_begin}
use Rattle.kmipa_orders.proofs.WishLemmas.{wished_all}
use Rattle.kmipa_orders.proofs.order.Descent.new.Goals as goal

pub returns : goal.returns
returns g c = λ rules budget.
    let calls = map candidate_step c.args.calls.now in
    let u = g.L.Ledger.state c.args.ledger.now in
    let w = c.in_ok-remaining.remaining in
    let W = c.in_ok-wishes.wishes in
    let L = c.in_ok-by_wish.by_wish in
    let F = c.in_ok-taken.taken in
    let E = c.new-4.result.ends.items in
    let same = length-map c.args.calls.now candidate_step in
    let P : List Visit → Type 0 = λ xs. Progress rules calls W.rank.items budget u.now w (reverse xs) c.none.result 0 0 u in
    let T : Tried → Type 0 = λ t. Progress rules calls W.rank.items budget u.now w [] t 0 0 u in
    let M : List Visit → Type 0 = λ xs. Remembers rules calls u.now c.in_ok-front.front (places (reverse xs)) F E in
    let N : ℕ → Type 0 = λ n. AreFlagged n [] F in
    let R : ℕ → Type 0 = λ n. IsRanked n InAnyOrder W.order.items W.rank.items in
    let K : ℕ → Type 0 = λ n. WereLinked n W.rank.items [] L.after.items L.before.items in
    let J : List Visit → Type 0 = λ xs. WereLinked (length calls) W.rank.items (places (reverse xs)) L.after.items L.before.items in
    let ranked : IsRanked (length calls) InAnyOrder W.order.items W.rank.items = subst R (sym same) c.in_ok-wishes.ensures.0 in
    record {
      progress =
          subst P (sym c.new-5.ensures.items)
          (subst T (sym c.none.ensures)
          (progress_begin rules calls W.rank.items (wishes_above (length calls) (length calls) W refl ranked) budget u.now w 0 u refl c.requires c.in_ok-remaining.ensures));
      ranked = ranked;
      wished = λ b.
          subst J (sym c.new-5.ensures.items)
          (subst K (sym same) (wished_all (length c.args.calls.now) W.order.items W.rank.items L.after.items L.before.items c.in_ok-wishes.ensures.0 c.in_ok-wishes.ensures.1 c.in_ok-by_wish.ensures));
      memory =
          subst M (sym c.new-5.ensures.items)
          (remembers_begin rules calls u.now c.in_ok-front.front F E c.in_ok-front.ensures (subst N (sym same) c.in_ok-taken.ensures) c.new-4.ensures);
      paid = omega (arith, ap length c.new-5.ensures.items);
    }
