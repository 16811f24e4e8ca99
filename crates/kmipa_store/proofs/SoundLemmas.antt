-- What keeps a ledger sound.
use Rattle.std.proofs.Common.{◌≡◌, ◌≢◌, ◌<◌, ◌⊎◌, ℕ, zero, suc, is_none, Bool, true, false, List, [], ◌∷◌, ◌++◌, length, slice_get, Option, Some, None, option_map, refl, ap, sym, ◌∙◌, subst, inl, inr}
use Rattle.std.proofs.lemmas.Bool.Decides.{eqb_tells}
use Rattle.kmipa_object.specs.Lists.{updated}
use Rattle.kmipa_object.specs.Inventory.{Thing, Admitted, HasBytes, IsInventory, live, rule_of, possible}
use Rattle.kmipa_object.specs.declared.rule.Rule.{Rule}
use Rattle.kmipa_object.specs.declared.life.Life.{Life}
use Rattle.kmipa_object.specs.declared.life.Material.{Material}
use Rattle.kmipa_object.specs.declared.life.Material.TheVariants.{Gone, Secret}
use Rattle.kmipa_object.specs.declared.life.SecretNo.{SecretNo}
use Rattle.kmipa_object.proofs.ListLemmas.{get_below, get-append_cases, get-updated_other}
use Rattle.kmipa_object.proofs.RuleLemmas.{possible_admits}
use Rattle.kmipa_store.specs.Aside.{AsideOf, nothing_aside}
use Rattle.kmipa_store.specs.Ledger.{Held, Known, Meaning, relived, told, with_life}
use Rattle.kmipa_store.specs.Choices.{Choice, Chooses, Suits, InRange, GoneIfDestroyed, IsSound, Extends, inv, thing, bytes_of}
use Rattle.kmipa_store.specs.Soundness.{Fits}
use Rattle.kmipa_store.proofs.InventoryLemmas.{get-inv}
use Rattle.kmipa_store.proofs.ChoiceLemmas.{override, override_same, Chooses-none, Chooses-more, Chooses-override, Chooses-told, extends_push, extends_told}

pub InRange-extends : (hs : List Held) (ss ts : List Known) → InRange hs ss → Extends ss ts → InRange hs ts
InRange-extends hs ss ts r e = record {
  there = λ p h n at mat. let a = r.there p h n at mat in e.there n.number (record { rule = rule_of h.card; bytes = a.0 }) a.1;
}

-- an object's secret is there
pub number_below : (m : Meaning) (p : ℕ) (h : Held) (n : SecretNo) → IsSound m → slice_get m.objects p ≡ Some h → h.material ≡ Secret n → n.number < length m.secrets
number_below m p h n sound at mat = let q = sound.in_range.there p h n at mat in get_below m.secrets n.number _ q.1

-- a thing of an inventory is that of an object
thing_found : (c : Choice) (o : Option Held) (t : Thing) → option_map (thing c) o ≡ Some t → (h : Held) × (o ≡ Some h) × (thing c h ≡ t)
thing_found c None t e = let bad : ⊥ = cc in absurd bad
thing_found c (Some h) t e = (h, refl, cc)

pub inv_found : (c : Choice) (hs : List Held) (p : ℕ) (t : Thing) → slice_get (inv c hs) p ≡ Some t → (h : Held) × (slice_get hs p ≡ Some h) × (thing c h ≡ t)
inv_found c hs p t e = thing_found c (slice_get hs p) t (sym (get-inv c hs p) ∙ e)

has_bytes : (c : Choice) (ss : List Known) (b : Bool) (rule : Rule) (m : Material) → Chooses ss c → GoneIfDestroyed b m
    → ((n : SecretNo) → m ≡ Secret n → (known : Option (List ℕ)) × (slice_get ss n.number ≡ Some (record { rule = rule; bytes = known }))) → HasBytes b rule (bytes_of c m)
has_bytes c ss true rule Gone h g r = g
has_bytes c ss true rule (Secret n) h g r = let q = r n refl in (h.suits n.number _ q.1).admitted
has_bytes c ss false rule Gone h g r = tt
has_bytes c ss false rule (Secret n) h g r = g

-- the objects of a sound ledger are an inventory under each of its choices
pub inventory_of : (m : Meaning) (c : Choice) → IsSound m → Chooses m.secrets c → IsInventory (inv c m.objects)
inventory_of m c sound h = record {
  distinct = λ i j a b e f q.
      let x = inv_found c m.objects i a e in
      let y = inv_found c m.objects j b f in
      sound.distinct i j x.0 y.0 x.1 y.1 (ap (λ (t : Thing). t.card.id) x.2 ∙ q ∙ ap (λ (t : Thing). t.card.id) (sym y.2));
  bytes = λ i a e.
      let x = inv_found c m.objects i a e in
      let P : Thing → Type 0 = λ t. HasBytes (live t.card) (rule_of t.card) t.bytes in
      subst P x.2 (has_bytes c m.secrets (live x.0.card) (rule_of x.0.card) x.0.material h (sound.gone i x.0 x.1) (λ n mat. sound.in_range.there i x.0 n x.1 mat));
}

-- a ledger without objects and secrets
pub sound_none : IsSound (record { objects = []; secrets = []; aside = nothing_aside })
sound_none = record {
  in_range = record { there = λ p h n at mat. let bad : ⊥ = cc in absurd bad };
  gone = λ p h at. let bad : ⊥ = cc in absurd bad;
  distinct = λ p q g h e f same. cc;
  choice = ((λ n. []), Chooses-none (λ n. []));
}

-- one more secret
pub sound_with_secret : (m : Meaning) (rule : Rule) → IsSound m → possible rule ≡ true → IsSound (record { objects = m.objects; secrets = m.secrets ++ record { rule = rule; bytes = None } ∷ []; aside = m.aside })
sound_with_secret m rule sound may =
    let s : Known = record { rule = rule; bytes = None } in
    let b = possible_admits rule may in
    let suits : Suits s b.0 = record { admitted = b.1; known = λ k e. cc } in
    record {
      in_range = InRange-extends m.objects m.secrets (m.secrets ++ s ∷ []) sound.in_range (extends_push m.secrets s);
      gone = sound.gone;
      distinct = sound.distinct;
      choice = (override sound.choice.0 (length m.secrets) b.0, Chooses-more m.secrets s sound.choice.0 b.0 sound.choice.1 suits);
    }

-- an unknown secret that is told bytes that its rule admits
pub sound_told : (m : Meaning) (number : ℕ) (s : Known) (bytes : List ℕ) → IsSound m → slice_get m.secrets number ≡ Some s → s.bytes ≡ None → Admitted s.rule bytes
    → IsSound (record { objects = m.objects; secrets = told m.secrets number bytes; aside = m.aside })
sound_told m number s bytes sound at none admitted =
    let suits : Suits s bytes = record { admitted = admitted; known = λ k e. let clash : None ≡ Some k = sym none ∙ e in cc } in
    let c = override sound.choice.0 number bytes in
    record {
      in_range = InRange-extends m.objects m.secrets (told m.secrets number bytes) sound.in_range (extends_told m.secrets number bytes);
      gone = sound.gone;
      distinct = sound.distinct;
      choice = (c, Chooses-told m.secrets number s bytes c at (override_same sound.choice.0 number bytes) (Chooses-override m.secrets number s bytes sound.choice.0 at suits sound.choice.1));
    }

-- one more object, of an identifier that no other has
pub sound_added : (m : Meaning) (h : Held) → IsSound m → ((p : ℕ) (g : Held) → slice_get m.objects p ≡ Some g → g.card.id ≡ h.card.id → ⊥) → Fits h m.secrets
    → IsSound (record { objects = m.objects ++ h ∷ []; secrets = m.secrets; aside = m.aside })
sound_added m h sound fresh fit = record {
  in_range = record {
    there = λ p g n at mat. elim (get-append_cases m.objects h p g at) [
      | inl e ↦ sound.in_range.there p g n e mat
      | inr e ↦ let P : Held → Type 0 = λ x. (known : Option (List ℕ)) × (slice_get m.secrets n.number ≡ Some (record { rule = rule_of x.card; bytes = known })) in subst P (sym e.1) (fit.there n (ap (λ (x : Held). x.material) (sym e.1) ∙ mat))
    ];
  };
  gone = λ p g at. elim (get-append_cases m.objects h p g at) [
    | inl e ↦ sound.gone p g e
    | inr e ↦ let P : Held → Type 0 = λ x. GoneIfDestroyed (live x.card) x.material in subst P (sym e.1) fit.gone
  ];
  distinct = λ p q f g at of same. elim (get-append_cases m.objects h p f at) [
    | inl e ↦ elim (get-append_cases m.objects h q g of) [
      | inl d ↦ sound.distinct p q f g e d same
      | inr d ↦ absurd (fresh p f e (same ∙ ap (λ (x : Held). x.card.id) d.1))
    ]
    | inr e ↦ elim (get-append_cases m.objects h q g of) [
      | inl d ↦ absurd (fresh q g d (sym same ∙ ap (λ (x : Held). x.card.id) e.1))
      | inr d ↦ e.0 ∙ sym d.0
    ]
  ];
  choice = sound.choice;
}

-- an element after one was changed
module _ {X : Type 0} where
  pub updated_from : (xs : List X) (place p : ℕ) (f : X → X) (g : X) → slice_get (updated xs place f) p ≡ Some g → (h : X) × (slice_get xs p ≡ Some h) × ((g ≡ h) ⊎ ((p ≡ place) × (g ≡ f h)))
  updated_from [] place p f g e = let bad : ⊥ = cc in absurd bad
  updated_from (x ∷ xs) zero zero f g e = (x, refl, inr (refl, cc))
  updated_from (x ∷ xs) zero (suc p) f g e = (g, e, inl refl)
  updated_from (x ∷ xs) (suc place) zero f g e = (x, refl, inl cc)
  updated_from (x ∷ xs) (suc place) (suc p) f g e =
      let r = updated_from xs place p f g e in
      (r.0, r.1, elim r.2 [ inl a ↦ inl a | inr b ↦ inr (ap suc b.0, b.1) ])

  -- one at another place, or the one that was changed
  pub updated_cases : (xs : List X) (place p : ℕ) (f : X → X) (g : X) → slice_get (updated xs place f) p ≡ Some g → ((p ≢ place) × (slice_get xs p ≡ Some g)) ⊎ (p ≡ place)
  updated_cases xs place p f g e = elim (eqb_tells p place) [ inl t ↦ inr t.1 | inr n ↦ inl (n.1, sym (get-updated_other xs place p f n.1) ∙ e) ]

-- an object after one led another life
pub relived_from : (hs : List Held) (place p : ℕ) (life : Life) (g : Held) → slice_get (relived hs place life) p ≡ Some g
    → (h : Held) × (slice_get hs p ≡ Some h) × ((g ≡ h) ⊎ ((p ≡ place) × (g ≡ with_life h life)))
relived_from hs place p life g e = updated_from hs place p (λ h. with_life h life) g e

same_id : (life : Life) (place p : ℕ) (g h : Held) → (g ≡ h) ⊎ ((p ≡ place) × (g ≡ with_life h life)) → g.card.id ≡ h.card.id
same_id life place p g h (inl a) = ap (λ (x : Held). x.card.id) a
same_id life place p g h (inr b) = ap (λ (x : Held). x.card.id) b.1

-- an object leads another life, with its own secret or none
pub sound_relived : (m : Meaning) (place : ℕ) (h : Held) (life : Life) → IsSound m → slice_get m.objects place ≡ Some h → GoneIfDestroyed (is_none life.destroy) life.material
    → ((secret : SecretNo) → life.material ≡ Secret secret → h.material ≡ Secret secret) → IsSound (record { objects = relived m.objects place life; secrets = m.secrets; aside = m.aside })
sound_relived m place h life sound at gone own = record {
  in_range = record {
    there = λ p g n e mat.
        let r = relived_from m.objects place p life g e in
        elim r.2 [
          | inl a ↦ let P : Held → Type 0 = λ x. (known : Option (List ℕ)) × (slice_get m.secrets n.number ≡ Some (record { rule = rule_of x.card; bytes = known })) in subst P (sym a) (sound.in_range.there p r.0 n r.1 (ap (λ (x : Held). x.material) (sym a) ∙ mat))
          | inr b ↦
              let there : Some r.0 ≡ Some h = sym r.1 ∙ ap (slice_get m.objects) b.0 ∙ at in
              let is : r.0 ≡ h = cc in
              let P : Held → Type 0 = λ x. (known : Option (List ℕ)) × (slice_get m.secrets n.number ≡ Some (record { rule = rule_of x.card; bytes = known })) in
              subst P (sym b.1) (sound.in_range.there p r.0 n r.1 (ap (λ (x : Held). x.material) is ∙ own n (ap (λ (x : Held). x.material) (sym b.1) ∙ mat)))
        ];
  };
  gone = λ p g e.
      let r = relived_from m.objects place p life g e in
      let P : Held → Type 0 = λ x. GoneIfDestroyed (live x.card) x.material in
      elim r.2 [ inl a ↦ subst P (sym a) (sound.gone p r.0 r.1) | inr b ↦ subst P (sym b.1) gone ];
  distinct = λ p q f g e d same.
      let r = relived_from m.objects place p life f e in
      let s = relived_from m.objects place q life g d in
      sound.distinct p q r.0 s.0 r.1 s.1 (sym (same_id life place p f r.0 r.2) ∙ same ∙ same_id life place q g s.0 s.2);
  choice = sound.choice;
}

-- another object of the same identifier, with a secret that is there or none
renewed_id : (m : Meaning) (place : ℕ) (g h : Held) (p : ℕ) (x y : Held) → slice_get m.objects place ≡ Some g → g.card.id ≡ h.card.id → slice_get m.objects p ≡ Some y
    → (x ≡ y) ⊎ ((p ≡ place) × (x ≡ h)) → x.card.id ≡ y.card.id
renewed_id m place g h p x y at same there (inl a) = ap (λ (z : Held). z.card.id) a
renewed_id m place g h p x y at same there (inr b) =
    let both : Some g ≡ Some y = sym at ∙ ap (slice_get m.objects) (sym b.0) ∙ there in
    let is : g ≡ y = cc in
    ap (λ (z : Held). z.card.id) b.1 ∙ sym same ∙ ap (λ (z : Held). z.card.id) is

pub sound_renewed : (m : Meaning) (place : ℕ) (g h : Held) → IsSound m → slice_get m.objects place ≡ Some g → g.card.id ≡ h.card.id → Fits h m.secrets
    → IsSound (record { objects = updated m.objects place (λ _. h); secrets = m.secrets; aside = m.aside })
sound_renewed m place g h sound at same fit = record {
  in_range = record {
    there = λ p x n e mat.
        let r = updated_from m.objects place p (λ _. h) x e in
        let P : Held → Type 0 = λ z. (known : Option (List ℕ)) × (slice_get m.secrets n.number ≡ Some (record { rule = rule_of z.card; bytes = known })) in
        elim r.2 [
          | inl a ↦ subst P (sym a) (sound.in_range.there p r.0 n r.1 (ap (λ (z : Held). z.material) (sym a) ∙ mat))
          | inr b ↦ subst P (sym b.1) (fit.there n (ap (λ (z : Held). z.material) (sym b.1) ∙ mat))
        ];
  };
  gone = λ p x e.
      let r = updated_from m.objects place p (λ _. h) x e in
      let P : Held → Type 0 = λ z. GoneIfDestroyed (live z.card) z.material in
      elim r.2 [ inl a ↦ subst P (sym a) (sound.gone p r.0 r.1) | inr b ↦ subst P (sym b.1) fit.gone ];
  distinct = λ p q x y e d alike.
      let r = updated_from m.objects place p (λ _. h) x e in
      let s = updated_from m.objects place q (λ _. h) y d in
      sound.distinct p q r.0 s.0 r.1 s.1 (sym (renewed_id m place g h p x r.0 at same r.1 r.2) ∙ alike ∙ renewed_id m place g h q y s.0 at same s.1 s.2);
  choice = sound.choice;
}

-- whatever is set aside
pub sound_aside : (m : Meaning) (a : AsideOf) → IsSound m → IsSound (record { objects = m.objects; secrets = m.secrets; aside = a })
sound_aside m a sound = record { in_range = sound.in_range; gone = sound.gone; distinct = sound.distinct; choice = sound.choice }
