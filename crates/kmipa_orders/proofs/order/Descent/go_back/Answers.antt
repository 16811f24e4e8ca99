use Rattle.std.proofs.Common.{◌≡◌, ◌<◌, ◌+◌, List, [], ◌∷◌, map, length, reverse, None, suc, refl, ap, subst, arith}
use Rattle.std.proofs.lemmas.List.{length-append, length-map, length-reverse}
use Rattle.kmipa_orders.specs.Candidates.{candidate_step}
use Rattle.kmipa_orders.specs.Descents.{Progress}
use Rattle.kmipa_orders.specs.Ends.{Remembers}
use Rattle.kmipa_orders.specs.Progress.{AreBegun, places}
use Rattle.kmipa_orders.specs.Ranks.{WereLinked}
use Rattle.kmipa_orders.specs.Tries.{IsPicked}
use Rattle.kmipa_orders.specs.declared.tried.Visit.{Visit}
use Rattle.kmipa_orders.proofs.PickLemmas.{wishes_above}
use Rattle.kmipa_orders.proofs.ProgressLemmas.{progress_back, popped}
use Rattle.kmipa_orders.proofs.RememberLemmas.{remembers_back}
use Rattle.kmipa_orders.proofs.WishLemmas.{wished_with}
use Rattle.kmipa_orders.proofs.order.Descent.go_back.Goals as goal

pub returns-clause-descends : goal.returns-clause-descends
returns-clause-descends g c = λ rules first budget d due few went.
    let calls = map candidate_step c.args.calls.now in
    let s = c.args.self.now in
    let W = s.wishes in
    let u = g.L.Ledger.state c.args.ledger.now in
    let v = g.L.Ledger.state c.back.new.self in
    let visit = c.in-Some.visit in
    let visits = reverse c.pop.new.self.items in
    let ranks = wishes_above (length calls) (length calls) W refl d.ranked in
    let is : reverse s.path.items ≡ visit ∷ visits = popped s.path.items c.pop.new.self.items visit c.in-Some.ensures.items in
    let T : List Visit → Type 0 = λ xs. Progress rules calls W.rank.items budget first s.remaining xs s.tried s.depth s.steps u in
    let M : List Visit → Type 0 = λ xs. Remembers rules calls first s.front (places xs) s.taken s.ends.ends.items in
    let K : List Visit → Type 0 = λ xs. WereLinked (length calls) W.rank.items (places xs) s.by_wish.after.items s.by_wish.before.items in
    let N : List Visit → Type 0 = λ xs. IsPicked calls (places xs) W.rank.items s.tried None in
    let t = subst T is d.progress in
    let m = subst M is d.memory in
    let none : AreBegun calls → IsPicked calls (places (visit ∷ visits)) W.rank.items s.tried None = λ b. subst N is (due b) in
    let fewer : suc (length visits) < length calls = omega (arith, few, length-reverse s.path.items, ap length is, length-map c.args.calls.now candidate_step) in
    let long : length (places (visit ∷ visits)) ≡ c.len-count.result + 1 = omega (arith, length-map (visit ∷ visits) (λ (x : Visit). x.place), length-reverse c.pop.new.self.items, c.pop.new.self.ok.0, c.len-count.ensures) in
    record {
      progress =
          progress_back rules calls W.rank.items ranks budget first s.remaining c.give_back.new.self visit visits s.tried c.behind-self.result s.depth s.steps
          u v t none fewer c.back.ensures.meaning
          (λ b. c.give_back.ensures.remaining (places visits) (t.remaining b))
          c.behind-self.ensures;
      ranked = d.ranked;
      wished = λ b.
          wished_with (length calls) W (places visits) s.by_wish c.restore.new.self visit.place c.rank.result c.rank.ensures (subst K is (d.wished b)) c.restore.ensures.after c.restore.ensures.before;
      memory =
          remembers_back rules calls first s.front W.rank.items budget s.remaining visit visits s.tried s.depth s.steps u s.taken c.give_back-2.new.self s.ends.ends.items c.note.new.self.ends.items
          t none fewer m (λ b. c.note.ensures (length calls) (places (visit ∷ visits)) (m.flagged b) long)
          (λ b. c.give_back-2.ensures (length calls) (places visits) (m.flagged b) (c.give_back.ensures.cursor (places visits) (t.remaining b)).left);
      paid = (let p = d.paid in omega (arith, p, ap length c.in-Some.ensures.items, length-append c.pop.new.self.items (visit ∷ [])));
    }
