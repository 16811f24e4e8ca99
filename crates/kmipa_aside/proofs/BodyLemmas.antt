-- Bodies.
use Rattle.std.proofs.Common.{◌≡◌, ◌∙◌, inl, inr, refl, ap, sym, subst, ℕ, zero, suc, ℤ, List, [], ◌∷◌, Option, Some, None, option_map, slice_get, is_none}
use Rattle.kmipa_object.specs.Inventory.{Thing}
use Rattle.kmipa_object.specs.Lists.{updated}
use Rattle.kmipa_object.specs.Life.{Dates, dates_of}
use Rattle.kmipa_object.specs.declared.life.Life.{Life}
use Rattle.kmipa_object.specs.declared.life.Material.{Material}
use Rattle.kmipa_object.specs.declared.life.Material.TheVariants.{Gone, Secret}
use Rattle.kmipa_object.specs.declared.life.SecretNo.{SecretNo}
use Rattle.kmipa_store.specs.Ledger.{Held, LedgerState, relived, replaced}
use Rattle.kmipa_store.specs.Choices.{Choice, GoneIfDestroyed, inv, thing}
use Rattle.kmipa_store.proofs.InventoryLemmas.{get-inv, inv-emptied}
use Rattle.kmipa_store.proofs.SoundLemmas.{relived_from, sound_relived}
use Rattle.kmipa_aside.specs.Becoming.{Becomes, bodied}
use Rattle.kmipa_aside.specs.Explains.{SecretsApart}
use Rattle.kmipa_aside.specs.Worlds.{WorldOf, body}

-- two changes that agree on the element
module _ {X : Type 0} where
  pub updated_agree : (xs : List X) (n : ℕ) (f g : X → X) (x : X) → slice_get xs n ≡ Some x → f x ≡ g x → updated xs n f ≡ updated xs n g
  updated_agree [] n f g x e h = refl
  updated_agree (z ∷ xs) zero f g x e h = let q : z ≡ x = cc in ap (λ (y : X). y ∷ xs) (ap f q ∙ h ∙ ap g (sym q))
  updated_agree (z ∷ xs) (suc n) f g x e h = ap (λ (ys : List X). z ∷ ys) (updated_agree xs n f g x e h)

-- the secrets of a list that comes from another stay apart
abbrev pub ComesFrom : List Held → List Held → Type 0
ComesFrom new old = (p : ℕ) (g : Held) (s : SecretNo) → slice_get new p ≡ Some g → g.material ≡ Secret s → (h : Held) × (slice_get old p ≡ Some h) × (h.material ≡ Secret s)

pub apart_from : (new old : List Held) → ComesFrom new old → SecretsApart old → SecretsApart new
apart_from new old f a = record {
  apart = λ p q g h s t x y u v same.
      let i = f p g s x u in
      let j = f q h t y v in
      a.apart p q i.0 j.0 s t i.1 j.1 i.2 j.2 same;
}

module _ (s : LedgerState) (place : ℕ) (h : Held) (life : Life) (t : ℤ) (at : slice_get s.now.objects place ≡ Some h) (dates : dates_of life ≡ record h.card.dates { destroy = Some t })
    (gone : life.material ≡ Gone) where
  emptied : ComesFrom (relived s.now.objects place life) s.now.objects
  emptied p g n x mat =
      let r = relived_from s.now.objects place p life g x in
      elim r.2 [
        | inl a ↦ (r.0, r.1, ap (λ (y : Held). y.material) (sym a) ∙ mat)
        | inr b ↦ let bad : Gone ≡ Secret n = sym gone ∙ ap (λ (y : Held). y.material) (sym b.1) ∙ mat in cc
      ]

  destroyed : GoneIfDestroyed (is_none life.destroy) life.material
  destroyed =
      let d : life.destroy ≡ Some t = ap (λ (x : Dates). x.destroy) dates in
      let P : Material → Type 0 = λ m. GoneIfDestroyed (is_none life.destroy) m in
      let Q : Option ℤ → Type 0 = λ x. GoneIfDestroyed (is_none x) Gone in
      subst P (sym gone) (subst Q (sym d) tt)

  in_world : (c : Choice) → inv c (relived s.now.objects place life) ≡ updated (inv c s.now.objects) place (body t)
  in_world c =
      let f : Thing → Thing = λ o. record { card = record o.card { dates = dates_of life }; bytes = None } in
      inv-emptied c s.now.objects place life gone
      ∙ updated_agree (inv c s.now.objects) place f (body t) (thing c h) (get-inv c s.now.objects place ∙ ap (option_map (thing c)) at)
      (ap (λ (d : Dates). let o : Thing = record { card = record h.card { dates = d }; bytes = None } in o) dates)

  -- the object at a place leads the life of a body
  pub body_is : (u : LedgerState) → u ≡ replaced s place life → Becomes (bodied t (Some place)) s u
  body_is u is =
      let P : LedgerState → Type 0 = λ x. Becomes (bodied t (Some place)) s x in
      subst P (sym is)
      (record {
        worlds = λ c. ap (λ (V : List Thing). let w : WorldOf = record { things = V; aside = s.now.aside } in w) (in_world c);
        secrets = refl;
        marks = refl;
        sound = λ x. sound_relived s.now place h life x at destroyed (λ n e. let bad : Gone ≡ Secret n = sym gone ∙ e in cc);
        apart = λ x. apart_from (relived s.now.objects place life) s.now.objects emptied x;
      })

  pub body_at : (u : LedgerState) (o : Option ℕ) → o ≡ Some place → u ≡ replaced s place life → Becomes (bodied t o) s u
  body_at u o here is =
      let P : Option ℕ → Type 0 = λ x. Becomes (bodied t x) s u in
      subst P (sym here) (body_is u is)
