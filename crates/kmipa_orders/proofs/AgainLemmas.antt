-- The same calls taken in another order, where they say how all objects stand.
use Rattle.std.proofs.Common.{◌≡◌, ◌≢◌, ◌<◌, inl, inr, ℕ, List, [], ◌∷◌, length, Option, None, Some, slice_get, Contains, refl, sym, ap, ◌∙◌, subst, arith}
use Rattle.std.specs.Prelude.{AllPairs, option_map}
use Rattle.std.proofs.lemmas.Option.{get_or_from_slice_get}
use Rattle.kmipa_object.specs.Inventory.{Thing}
use Rattle.kmipa_object.specs.declared.life.Material.{Material}
use Rattle.kmipa_object.specs.declared.life.Material.TheVariants.{Secret}
use Rattle.kmipa_object.specs.declared.life.SecretNo.{SecretNo}
use Rattle.kmipa_store.specs.Ledger.{Held, Known, Meaning, bytes_at}
use Rattle.kmipa_store.specs.Choices.{Choice, Chooses, IsSound, inv}
use Rattle.kmipa_store.proofs.InventoryLemmas.{inv-agrees}
use Rattle.kmipa_record.specs.Declarations.{DeclarationOf}
use Rattle.kmipa_check.specs.Described.{Describes}
use Rattle.kmipa_check.specs.Runs.{Linked, rules_declared}
use Rattle.kmipa_check.specs.Steps.{StepOf}
use Rattle.kmipa_check.specs.Verdicts.{AreKnown}
use Rattle.kmipa_orders.specs.Taken.{no_step, step_at, so_far, IsDead, AreNext, AreSame}
use Rattle.kmipa_orders.specs.Settled.{AreApart, AreTold, IsLone, IsSettled, IsTold, target}
use Rattle.kmipa_check.proofs.PlaceLemmas.{at_within, same_elements, some_at}
use Rattle.kmipa_orders.proofs.EndLemmas.{dead_again, pairs_join}
use Rattle.kmipa_orders.proofs.NextLemmas.{call_taken, place_taken}
use Rattle.kmipa_orders.proofs.PlaceLemmas.{one_cases}
use Rattle.kmipa_orders.proofs.SettledLemmas.{Own, agree, steps_linked}

-- ---- one inventory is described

-- what is found in a secret that is there
found : (o : Option Known) (bytes : List ℕ) → option_map (λ (k : Known). k.bytes) o ≡ Some (Some bytes) → (k : Known) × (o ≡ Some k) × (k.bytes ≡ Some bytes)
found None bytes is = absurd cc
found (Some k) bytes is = (k, refl, cc)

-- known bytes are chosen
chosen : (secrets : List Known) (c : Choice) (number : ℕ) (bytes : List ℕ) → Chooses secrets c → bytes_at secrets number ≡ Some (Some bytes) → c number ≡ bytes
chosen secrets c number bytes chooses at =
    let k = found (slice_get secrets number) bytes at in
    (chooses.suits number k.0 k.1).known bytes k.2

one_start : (declared : DeclarationOf) (first : Meaning) → AreKnown declared [] first → AreTold first → (from start : List Thing) → Describes declared from → Describes declared start → from ≡ start
one_start declared first opened told from start described other =
    let g = opened.complete from from described refl in
    let h = opened.complete start start other refl in
    g.2 ∙ inv-agrees h.0 g.0 first.objects (λ p o secret at is. same g.0 h.0 g.1 h.1 p o secret at is) ∙ sym h.2
  where
    same : (c d : Choice) → Chooses first.secrets c → Chooses first.secrets d → (p : ℕ) (o : Held) (secret : SecretNo) → slice_get first.objects p ≡ Some o → o.material ≡ Secret secret → c secret.number ≡ d secret.number
    same c d chooses chooses_too p o secret at is =
        let T : Material → Type 0 = λ material. IsTold first.secrets material in
        let t : IsTold first.secrets (Secret secret) = subst T is (told p o at) in
        chosen first.secrets c secret.number t.0 chooses t.1 ∙ sym (chosen first.secrets d secret.number t.0 chooses_too t.1)

-- ---- the calls taken

module _ (calls : List StepOf) (apart : AreApart calls) where
  -- a call taken is at a place of its own
  at_place : (taken : List ℕ) → AreNext calls taken → (s : StepOf) → Contains (so_far calls taken) s → (p : ℕ) × Contains taken p × (p < length calls) × (step_at calls p ≡ s)
  at_place taken nexts s has =
      let q = place_taken calls taken s nexts has in
      (q.0, q.1, at_within calls q.0 s q.2, get_or_from_slice_get calls q.0 s no_step q.2)

  lone_so_far : (taken : List ℕ) → AreNext calls taken → (s : StepOf) → Contains (so_far calls taken) s → IsLone s
  lone_so_far taken nexts s has =
      let q = at_place taken nexts s has in
      let P : StepOf → Type 0 = λ x. IsLone x in
      subst P q.3 (apart.each q.0 q.2)

  one_target : (taken : List ℕ) → AreNext calls taken → (s z : StepOf) (id : List ℕ) → Contains (so_far calls taken) s → Contains (so_far calls taken) z → target s ≡ Some id → target z ≡ Some id → s ≡ z
  one_target taken nexts s z id has have is its =
      let p = at_place taken nexts s has in
      let q = at_place taken nexts z have in
      sym p.3 ∙ ap (step_at calls) (apart.own p.0 q.0 id p.2 q.2 (ap target p.3 ∙ is) (ap target q.3 ∙ its)) ∙ q.3

  own_so_far : (taken : List ℕ) → AreNext calls taken → Own (so_far calls taken)
  own_so_far [] nexts = tt
  own_so_far (p ∷ taken) nexts =
      pairs_join (λ (a b : StepOf). (id : List ℕ) → target a ≡ Some id → target b ≡ Some id → ⊥) (step_at calls p ∷ []) (so_far calls taken) (own_so_far taken nexts.1) cross
      ((λ y has. absurd (omega (arith, has.1))), tt)
    where
      cross : (y z : StepOf) → Contains (so_far calls taken) y → Contains (step_at calls p ∷ []) z → (id : List ℕ) → target y ≡ Some id → target z ≡ Some id → ⊥
      cross y z has last id is its = elim (one_cases (step_at calls p) z [] last) as (λ q. ⊥) [
        | inl e ↦
            let q = at_place taken nexts.1 y has in
            let P : ℕ → Type 0 = λ i. Contains taken i in
            nexts.0.left (subst P (apart.own q.0 p id q.2 (at_within calls p nexts.0.call nexts.0.there) (ap target q.3 ∙ is) (ap target e ∙ its)) q.1)
        | inr none ↦ absurd (omega (arith, none.1))
      ]

-- ---- the law

-- where they say how all objects stand, nothing hangs on their order
pub settled_dead : (declared : DeclarationOf) (calls : List StepOf) (first : Meaning) (taken others : List ℕ) (m : Meaning) → AllPairs (λ (a b : StepOf). a ≢ b) calls
    → AreKnown declared [] first → IsSettled calls first → AreNext calls taken → AreNext calls others → AreSame taken others → AreKnown declared (so_far calls taken) m → IsSound m
    → IsDead declared calls taken → IsDead declared calls others
settled_dead declared calls first taken others m apart opened settled nexts other_nexts same known sound dead = dead_again declared calls taken others apart nexts other_nexts same again dead
  where
    to_others : (s : StepOf) → Contains (so_far calls taken) s → Contains (so_far calls others) s
    to_others s has = let q = place_taken calls taken s nexts has in call_taken calls others q.0 s (same.each q.0 q.1) q.2

    to_taken : (s : StepOf) → Contains (so_far calls others) s → Contains (so_far calls taken) s
    to_taken s has = let q = place_taken calls others s other_nexts has in call_taken calls taken q.0 s (same.back q.0 q.1) q.2

    again : (start V X : List Thing) (rest : List StepOf) → Describes declared start → Linked (rules_declared declared) start (so_far calls others) V → Linked (rules_declared declared) V rest X
        → (from U Y : List Thing) × Describes declared from × Linked (rules_declared declared) from (so_far calls taken) U × Linked (rules_declared declared) U rest Y
    again start V X rest described linked behind =
        let rules = rules_declared declared in
        let s = known.sound sound.choice.0 sound.choice.1 in
        let W = inv sound.choice.0 m.objects in
        let P : List Thing → Type 0 = λ X. Linked (rules_declared declared) X (so_far calls taken) (inv sound.choice.0 m.objects) in
        let mine = subst P (one_start declared first opened settled.told s.0 start s.1 described) s.2 in
        let a = steps_linked rules start (so_far calls taken) W (lone_so_far calls settled.apart taken nexts) described.inventory.distinct mine in
        let b = steps_linked rules start (so_far calls others) V (lone_so_far calls settled.apart others other_nexts) described.inventory.distinct linked in
        let e : W ≡ V = same_elements W V (a.long ∙ sym b.long) (λ k x at.
        let o = some_at start k (let w = at_within W k x at in let l = a.long in omega (arith, w, l)) in
        let u = a.each k o.0 o.1 in
        let v = b.each k o.0 o.1 in
        let both : Some u.0 ≡ Some x = sym u.1 ∙ at in
        let own : u.0 ≡ x = cc in
        let one = agree (so_far calls taken) (so_far calls others) o.0 u.0 v.0 (own_so_far calls settled.apart taken nexts) (own_so_far calls settled.apart others other_nexts) to_others to_taken
        (one_target calls settled.apart taken nexts) u.2 v.2 in
        v.1 ∙ ap Some (sym one ∙ own)) in
        let Q : List Thing → Type 0 = λ X. Linked (rules_declared declared) start (so_far calls taken) X in
        (start, V, X, described, subst Q e mine, behind)
