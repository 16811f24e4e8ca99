-- The places of a call, counted.
use Rattle.std.proofs.Common.{◌≡◌, ◌≤◌, ◌∙◌, sym, ap, subst, ◌+◌, ℤ, List, [], ◌∷◌, ◌++◌, Option, Some, None, arith}
use Rattle.kmipa_object.specs.Inventory.{Card}
use Rattle.kmipa_store.specs.Ledger.{Meaning}
use Rattle.kmipa_store.specs.Choices.{Choice}
use Rattle.kmipa_store.proofs.InventoryLemmas.{cards-inv}
use Rattle.kmipa_msgs.specs.Messages.{RulesOf}
use Rattle.kmipa_passed.specs.Leaving.{HeldOf}
use Rattle.kmipa_batch.specs.Orders.{one_of}
use Rattle.kmipa_aside.specs.Becoming.{stand_in}
use Rattle.kmipa_aside.specs.Explains.{world}
use Rattle.kmipa_aside.specs.Sights.{SightOf}
use Rattle.kmipa_aside.specs.Standing.{StandOf}
use Rattle.kmipa_aside.specs.Worlds.{WorldOf, stand}
use Rattle.kmipa_places.specs.Places.{PlaceOf}
use Rattle.kmipa_bundle.specs.Bundles.{DoesPlace}
use Rattle.kmipa_bundle.specs.Counts.{Counted, CountsAlong, CountsOf, counted, counted_there, ruling_of, total}
use Rattle.kmipa_bundle.specs.Deeds.{ChainOf}
use Rattle.kmipa_bundle.specs.Running.{Led}
use Rattle.kmipa_bundle.specs.declared.ruling.Ruling.{Ruling}
use Rattle.kmipa_bundle.specs.declared.ruling.Ruling.TheVariants.{ByRequest, ByAnswer, ByWitness, ByObject, Judged}

-- what is seen of a ledger is seen of each world
stand_world : (c : Choice) (m : Meaning) → stand (world c m) ≡ stand_in m
stand_world c m = ap (λ (cs : List Card). let s : StandOf = record { cards = cs; aside = m.aside } in s) (cards-inv c m.objects)

-- each counts once
counted_more : (r : Ruling) (n : CountsOf) → total (counted r n) ≡ total n + 1
counted_more ByRequest n = omega arith
counted_more ByAnswer n = omega arith
counted_more ByWitness n = omega arith
counted_more ByObject n = omega arith
counted_more Judged n = omega arith

pub counted_there_more : (rules : RulesOf) (s : StandOf) (before : HeldOf) (o : Option PlaceOf) (n : CountsOf) → total (counted_there rules s before o n) ≤ total n + 1
counted_there_more rules s before None n = omega arith
counted_there_more rules s before (Some place) n = let e = counted_more (ruling_of rules s before place) n in omega (arith, e)

module _ (sight : SightOf) (t : ℤ) where
  counts_join : (w : WorldOf) (before : HeldOf) (k : CountsOf) (xs ys : List PlaceOf) (v : WorldOf) (between : HeldOf) (l : CountsOf) (w' : WorldOf) (after : HeldOf) (n : CountsOf)
      → CountsAlong sight t xs w before k v between l → CountsAlong sight t ys v between l w' after n → CountsAlong sight t (xs ++ ys) w before k w' after n
  counts_join w before k [] ys v between l w' after n c d =
      let P : WorldOf → Type 0 = λ x. CountsAlong sight t ys x before k w' after n in
      let Q : HeldOf → Type 0 = λ h. CountsAlong sight t ys v h k w' after n in
      let R : CountsOf → Type 0 = λ x. CountsAlong sight t ys v between x w' after n in
      subst P c.0 (subst Q c.1 (subst R c.2 d))
  counts_join w before k (x ∷ xs) ys v between l w' after n c d =
      (c.0, c.1, c.2, counts_join c.0 c.1 (counted (ruling_of sight.rules (stand w) before x) k) xs ys v between l w' after n c.3 d)

  -- one that was done is counted
  counts_one : (o : Option PlaceOf) (w : WorldOf) (before : HeldOf) (k : CountsOf) (w' : WorldOf) (after : HeldOf) (n : CountsOf) → ChainOf (DoesPlace sight t) (one_of o) w before w' after
      → n ≡ counted_there sight.rules (stand w) before o k → CountsAlong sight t (one_of o) w before k w' after n
  counts_one None w before k w' after n c is = (c.0, c.1, is)
  counts_one (Some place) w before k w' after n c is = (c.0, c.1, c.2, (c.3.0, c.3.1, is))

  pub counts_more : (m : Meaning) (start : HeldOf) (k : CountsOf) (xs : List PlaceOf) (u : Meaning) (before : HeldOf) (l : CountsOf) (o : Option PlaceOf) (v : Meaning) (after : HeldOf) (n : CountsOf)
      → Counted sight t m start k xs u before l → Led sight t u before (one_of o) v after → n ≡ counted_there sight.rules (stand_in u) before o l
      → Counted sight t m start k (xs ++ one_of o) v after n
  counts_more m start k xs u before l o v after n c led is d h =
      let r = led.sound d h in
      let at : n ≡ counted_there sight.rules (stand (world d u)) before o l = is ∙ ap (λ (s : StandOf). counted_there sight.rules s before o l) (sym (stand_world d u)) in
      counts_join (world d m) start k xs (one_of o) (world d u) before l (world d v) after n (c d r.0) (counts_one o (world d u) before l (world d v) after n r.1 at)
