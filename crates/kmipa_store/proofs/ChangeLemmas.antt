-- Changes of objects and of secrets can be taken back.
use Rattle.std.proofs.Common.{◌≡◌, ℕ, zero, suc, true, List, [], ◌∷◌, slice_get, Option, Some, None, option_map, is_none, refl, ap, sym, ◌∙◌, subst}
use Rattle.kmipa_object.specs.Lists.{updated}
use Rattle.kmipa_object.specs.declared.life.Life.{Life}
use Rattle.kmipa_object.specs.declared.object.Object.{Object}
use Rattle.kmipa_object.specs.declared.rule.Rule.{Rule}
use Rattle.kmipa_object.proofs.ListLemmas.{updated-twice, updated-same}
use Rattle.kmipa_store.specs.Calls.{is_unknown}
use Rattle.kmipa_store.specs.Ledger.{Held, Known, LedgerState, changed, held, id_at, renewed, with_life, relived, told}
use Rattle.kmipa_store.specs.Objects.{become, exchanged}
use Rattle.kmipa_store.specs.Secrets.{forgotten}

-- an object with its former life
pub relived_back : (hs : List Held) (place : ℕ) (life : Life) (o : Object) → slice_get hs place ≡ Some (held o) → relived (relived hs place life) place o.life ≡ hs
relived_back hs place life o at =
    updated-twice hs place (λ h. with_life h life) (λ h. with_life h o.life)
    ∙ updated-same hs place (λ h. with_life (with_life h life) o.life)
    (λ h e. let same : Some (held o) ≡ Some h = sym at ∙ e in let is : held o ≡ h = cc in let P : Held → Type 0 = λ x. with_life (with_life x life) o.life ≡ x in subst P is refl)

unknown_is : (rule : Rule) (known : Option (List ℕ)) → is_none known ≡ true → ◌≡◌ {A = Known} (record { rule = rule; bytes = None }) (record { rule = rule; bytes = known })
unknown_is rule None e = refl
unknown_is rule (Some b) e = cc

-- a secret that was unknown, unknown again
pub told_back : (ks : List Known) (number : ℕ) (bytes : List ℕ) → is_unknown (slice_get ks number) ≡ true → forgotten (told ks number bytes) number ≡ ks
told_back ks number bytes unknown =
    updated-twice ks number (λ k. record { rule = k.rule; bytes = Some bytes }) (λ k. record { rule = k.rule; bytes = None })
    ∙ updated-same ks number (λ k. record { rule = k.rule; bytes = None }) (λ k e. unknown_is k.rule k.bytes (ap is_unknown (sym e) ∙ unknown))

-- two changes that leave the same
updated-alike : {X : Type 0} (xs : List X) (n : ℕ) (f g : X → X) → ((x : X) → slice_get xs n ≡ Some x → f x ≡ g x) → updated xs n f ≡ updated xs n g
updated-alike [] n f g h = refl
updated-alike (x ∷ xs) zero f g h = ap (λ y. y ∷ xs) (h x refl)
updated-alike (x ∷ xs) (suc n) f g h = ap (λ ys. x ∷ ys) (updated-alike xs n f g h)

-- another object of the same identifier
pub exchanged_is : (hs : List Held) (place : ℕ) (g h : Held) → slice_get hs place ≡ Some g → g.card.id ≡ h.card.id → exchanged hs place h ≡ updated hs place (λ _. h)
exchanged_is hs place g h at same = updated-alike hs place (λ x. become x h) (λ _. h) (λ x e.
    let both : Some g ≡ Some x = sym at ∙ e in
    let is : g ≡ x = cc in
    ap (λ (id : List ℕ). record { card = record h.card { id = id }; material = h.material }) (ap (λ (y : Held). y.card.id) (sym is) ∙ same))

-- and the former one again
pub exchanged_back : (hs : List Held) (place : ℕ) (g h former : Held) → slice_get hs place ≡ Some g → former ≡ become h g → exchanged (exchanged hs place h) place former ≡ hs
exchanged_back hs place g h former at is =
    updated-twice hs place (λ x. become x h) (λ x. become x former)
    ∙ updated-same hs place (λ x. become (become x h) former) (λ x e.
    let both : Some g ≡ Some x = sym at ∙ e in
    let same : g ≡ x = cc in
    let P : Held → Type 0 = λ y. record { card = record g.card { id = y.card.id }; material = g.material } ≡ y in
    ap (λ (y : Held). become (become x h) y) is ∙ subst P same refl)

-- where the object at a place has an identifier
pub at_id : (hs : List Held) (place : ℕ) (id : List ℕ) → id_at hs place ≡ Some id → (g : Held) × (slice_get hs place ≡ Some g) × (g.card.id ≡ id)
at_id hs place id e = (elim (slice_get hs place) as (λ (o : Option Held). option_map (λ (h : Held). h.card.id) o ≡ Some id → (g : Held) × (o ≡ Some g) × (g.card.id ≡ id)) [
  | None ↦ λ n. let bad : ⊥ = cc in absurd bad
  | Some g ↦ λ s. (g, refl, cc)
]) e

pub renewed_as : (s : LedgerState) (place : ℕ) (h : Held) (hs : List Held) → id_at s.now.objects place ≡ Some h.card.id → hs ≡ exchanged s.now.objects place h
    → changed s (record { objects = hs; secrets = s.now.secrets; aside = s.now.aside }) ≡ renewed s place h
renewed_as s place h hs same e =
    let g = at_id s.now.objects place h.card.id same in
    ap (λ (x : List Held). changed s (record { objects = x; secrets = s.now.secrets; aside = s.now.aside })) (e ∙ exchanged_is s.now.objects place g.0 h g.1 g.2)
