-- Ends, as they are noted and found.
use Rattle.std.proofs.Common.{◌≡◌, ◌⊎◌, inl, inr, ℕ, List, [], ◌∷◌, ◌++◌, Contains, Option, Vec, sym, ap, subst, arith}
use Rattle.std.specs.declared.alloc.Global.{Global}
use Rattle.std.proofs.lemmas.List.Elements.{Contains-append_cases}
use Rattle.kmipa_store.specs.Ledger.{Meaning}
use Rattle.kmipa_orders.specs.Ends.{Shared, stills_shared, AreAlikeFrom, IsSetOf, IsEndOf, IsAdded, IsNoted}
use Rattle.kmipa_orders.specs.Stills.{stills}
use Rattle.kmipa_orders.specs.declared.ends.End.{End}
use Rattle.kmipa_orders.specs.declared.taken.CallSet.{CallSet}
use Rattle.kmipa_orders.proofs.PlaceLemmas.{one_cases}

-- no end is one more, or one
pub added_none : (old new : List End) (set : CallSet) (objects : Vec Shared Global) → new ≡ old → IsAdded old set objects new
added_none old new set objects is x has = let P : List End → Type 0 = λ l. Contains l x in inl (subst P is has)

pub added_last : (old new : List End) (e : End) → new ≡ old ++ e ∷ [] → IsAdded old e.set e.objects new
added_last old new e is x has =
    let P : List End → Type 0 = λ l. Contains l x in
    elim (Contains-append_cases old (e ∷ []) x (subst P is has)) as (λ q. Contains old x ⊎ ((x.set ≡ e.set) × (x.objects ≡ e.objects))) [
      | inl o ↦ inl o
      | inr r ↦ inr (own (one_cases e x [] r))
    ]
  where
    own : (e ≡ x) ⊎ Contains [] x → (x.set ≡ e.set) × (x.objects ≡ e.objects)
    own (inl s) = (ap (λ (y : End). y.set) (sym s), ap (λ (y : End). y.objects) (sym s))
    own (inr none) = absurd (omega (arith, none.1))

-- it is that of the calls whose set it has, over the ledger whose objects it has
pub noted : (front : Option ℕ) (old new : List End) (set : CallSet) (objects : Vec Shared Global) (places : List ℕ) (m : Meaning) → IsAdded old set objects new → IsSetOf places set → AreAlikeFrom front (stills_shared objects.items) (stills m)
    → IsNoted front old places m new
noted front old new set objects places m added s is e has = elim (added e has) as (λ q. Contains old e ⊎ IsEndOf front places m e) [
  | inl o ↦ inl o
  | inr h ↦
      let P : CallSet → Type 0 = λ k. IsSetOf places k in
      let Q : Vec Shared Global → Type 0 = λ v. AreAlikeFrom front (stills_shared v.items) (stills m) in
      inr (record { set = subst P (sym h.0) s; stands = subst Q (sym h.1) is })
]
