-- Whatever an item leaves, later objects have later secrets.
use Rattle.std.proofs.Common.{◌≡◌, ◌<◌, ◌⊎◌, inl, inr, ℕ, zero, suc, ℤ, Bool, true, false, List, [], ◌∷◌, ◌++◌, length, Option, Some, None, if◌then◌else◌, slice_get, refl, sym, ap, ◌∙◌, arith}
use Rattle.std.proofs.lemmas.Option.{slice_get_within}
use Rattle.kmipa_object.specs.Inventory.{Card}
use Rattle.kmipa_object.specs.Lists.{updated}
use Rattle.kmipa_object.specs.declared.life.Material.{Material}
use Rattle.kmipa_object.specs.declared.life.Material.TheVariants.{Gone, Secret}
use Rattle.kmipa_object.specs.declared.life.SecretNo.{SecretNo}
use Rattle.kmipa_store.specs.Ledger.{Held, Meaning}
use Rattle.kmipa_store.specs.Choices.{IsSound}
use Rattle.kmipa_store.proofs.SoundLemmas.{number_below}
use Rattle.kmipa_msgs.specs.Messages.{AskedOf, PayloadOf, GotOf, RegisteredOf, creates, registers, locates, gets, gets_attributes, activates, revokes, destroys, idles, does_other}
use Rattle.kmipa_msgs.specs.declared.response.Status.{Status}
use Rattle.kmipa_msgs.specs.declared.response.Status.TheVariants.{Success, Failed, Undone}
use Rattle.kmipa_ops.specs.Adding.{with_own}
use Rattle.kmipa_ops.specs.After.{after, after_done}
use Rattle.kmipa_ops.specs.Changes.{changed_at, held_left, material_after}
use Rattle.kmipa_ops.specs.Create.{create_leaves}
use Rattle.kmipa_ops.specs.Register.{register_leaves}
use Rattle.kmipa_ops.specs.Get.{get_leaves, taught, taught_at}
use Rattle.kmipa_ops.specs.declared.change.Change.{Change}
use Rattle.kmipa_ops.specs.declared.change.Change.TheVariants.{Activate, Revoke, Destroy}
use Rattle.kmipa_ops.specs.Ascending.{SecretsAscend}
use Rattle.kmipa_object.proofs.ListLemmas.{get-append_cases}

-- each object of the one list stands at its place in the other, and has its secret there
abbrev ComesFrom : List Held → List Held → Type 0
ComesFrom new old = (p : ℕ) (g : Held) (s : SecretNo) → slice_get new p ≡ Some g → g.material ≡ Secret s → (h : Held) × (slice_get old p ≡ Some h) × (h.material ≡ Secret s)

ascend_from : (old new : List Held) → ComesFrom new old → SecretsAscend old → SecretsAscend new
ascend_from old new f a = record {
  ascend = λ p q g h s t less x y u v.
      let i = f p g s x u in
      let j = f q h t y v in
      a.ascend p q i.0 j.0 s t less i.1 j.1 i.2 j.2;
}

-- ---- a new object

pub ascend_own : (m : Meaning) (card : Card) (known : Option (List ℕ)) → IsSound m → SecretsAscend m.objects → SecretsAscend (with_own m card known).objects
ascend_own m card known sound a = record { ascend = λ p q g h s t less x y u v. by p q g h s t less u v (get-append_cases m.objects new p g x) (get-append_cases m.objects new q h y) }
  where
    new : Held
    new = record { card = card; material = Secret (record { number = length m.secrets }) }

    by : (p q : ℕ) (g h : Held) (s t : SecretNo) → p < q → g.material ≡ Secret s → h.material ≡ Secret t → (slice_get m.objects p ≡ Some g) ⊎ ((p ≡ length m.objects) × (g ≡ new))
        → (slice_get m.objects q ≡ Some h) ⊎ ((q ≡ length m.objects) × (h ≡ new)) → s.number < t.number
    by p q g h s t less u v (inl x) (inl y) = a.ascend p q g h s t less x y u v
    by p q g h s t less u v (inl x) (inr y) =
        let e : Secret (record { number = length m.secrets }) ≡ Secret t = ap (λ (o : Held). o.material) (sym y.1) ∙ v in
        let n : record { number = length m.secrets } ≡ t = cc in
        let k : length m.secrets ≡ t.number = ap (λ (o : SecretNo). o.number) n in
        let b = number_below m p g s sound x u in
        omega (arith, k, b)
    by p q g h s t less u v (inr x) (inl y) = absurd (omega (arith, less, x.0, slice_get_within m.objects q h y))
    by p q g h s t less u v (inr x) (inr y) = absurd (omega (arith, less, x.0, y.0))

-- ---- a changed one

updated_from : (f : Held → Held) (hs : List Held) (place p : ℕ) (g : Held) → slice_get (updated hs place f) p ≡ Some g → (h : Held) × (slice_get hs p ≡ Some h) × ((g ≡ h) ⊎ (g ≡ f h))
updated_from f [] place p g e = let bad : ⊥ = cc in absurd bad
updated_from f (x ∷ hs) zero zero g e = (x, refl, inr cc)
updated_from f (x ∷ hs) zero (suc p) g e = (g, e, inl refl)
updated_from f (x ∷ hs) (suc place) zero g e = (x, refl, inl cc)
updated_from f (x ∷ hs) (suc place) (suc p) g e = updated_from f hs place p g e

still_its : (b : Bool) (change : Change) (mat : Material) (s : SecretNo) → (if b then mat else material_after change mat) ≡ Secret s → mat ≡ Secret s
still_its true change mat s e = e
still_its false Activate mat s e = e
still_its false (Revoke code) mat s e = e
still_its false Destroy mat s e = absurd cc

ascend_changed : (change : Change) (t : ℤ) (hs : List Held) (place : Option ℕ) → SecretsAscend hs → SecretsAscend (changed_at hs place (held_left change t))
ascend_changed change t hs None a = a
ascend_changed change t hs (Some place) a = ascend_from hs (updated hs place (held_left change t)) from a
  where
    from : ComesFrom (updated hs place (held_left change t)) hs
    from p g s e is =
        let r = updated_from (held_left change t) hs place p g e in
        (r.0, r.1, elim r.2 [ inl q ↦ ap (λ (o : Held). o.material) (sym q) ∙ is | inr q ↦ still_its _ change r.0.material s (ap (λ (o : Held). o.material) (sym q) ∙ is) ])

-- ---- a told one

ascend_at : (m : Meaning) (mat : Material) (bytes : List ℕ) → SecretsAscend m.objects → SecretsAscend (taught_at m mat bytes).objects
ascend_at m Gone bytes a = a
ascend_at m (Secret s) bytes a = a

ascend_taught : (m : Meaning) (o : Option Held) (bytes : List ℕ) → SecretsAscend m.objects → SecretsAscend (taught m o bytes).objects
ascend_taught m None bytes a = a
ascend_taught m (Some h) bytes a = ascend_at m h.material bytes a

ascend_got : (m : Meaning) (about : Option (List ℕ)) (shown : Option GotOf) → SecretsAscend m.objects → SecretsAscend (get_leaves m about shown).objects
ascend_got m about None a = a
ascend_got m about (Some x) a = ascend_taught m _ x.block.material a

-- ---- any item

ascend_created : (m : Meaning) (t : ℤ) (a : _) (shown : Option RegisteredOf) → IsSound m → SecretsAscend m.objects → SecretsAscend (create_leaves m t a shown).objects
ascend_created m t a None sound h = h
ascend_created m t a (Some x) sound h = ascend_own m _ None sound h

ascend_registered : (m : Meaning) (t : ℤ) (r : _) (shown : Option RegisteredOf) → IsSound m → SecretsAscend m.objects → SecretsAscend (register_leaves m t r shown).objects
ascend_registered m t r None sound h = h
ascend_registered m t r (Some x) sound h = ascend_own m _ (Some r.block.material) sound h

ascend_done : (m : Meaning) (before : Option (List ℕ)) (t : ℤ) (asked : AskedOf) (payload : Option PayloadOf) → IsSound m → SecretsAscend m.objects
    → SecretsAscend (after_done m before t asked payload).objects
ascend_done m before t (creates x) payload sound a = ascend_created m t x _ sound a
ascend_done m before t (registers r) payload sound a = ascend_registered m t r _ sound a
ascend_done m before t (locates q) payload sound a = a
ascend_done m before t (gets id) payload sound a = ascend_got m _ _ a
ascend_done m before t (gets_attributes g) payload sound a = a
ascend_done m before t (activates id) payload sound a = ascend_changed Activate t m.objects _ a
ascend_done m before t (revokes r) payload sound a = ascend_changed (Revoke r.code) t m.objects _ a
ascend_done m before t (destroys id) payload sound a = ascend_changed Destroy t m.objects _ a
ascend_done m before t (idles number) payload sound a = a
ascend_done m before t (does_other number) payload sound a = a

pub after_ascends : (status : Status) (m : Meaning) (before : Option (List ℕ)) (t : ℤ) (asked : AskedOf) (payload : Option PayloadOf) → IsSound m → SecretsAscend m.objects
    → SecretsAscend (after status m before t asked payload).objects
after_ascends Success m before t asked payload sound a = ascend_done m before t asked payload sound a
after_ascends Undone m before t asked payload sound a = ascend_done m before t asked payload sound a
after_ascends Failed m before t asked payload sound a = a

-- ---- a destroyed object

pub ascend_dead : (m : Meaning) (card : Card) → SecretsAscend m.objects → SecretsAscend (m.objects ++ record { card = card; material = Gone } ∷ [])
ascend_dead m card a = record { ascend = λ p q g h s t less x y u v. by p q g h s t less u v (get-append_cases m.objects new p g x) (get-append_cases m.objects new q h y) }
  where
    new : Held
    new = record { card = card; material = Gone }

    by : (p q : ℕ) (g h : Held) (s t : SecretNo) → p < q → g.material ≡ Secret s → h.material ≡ Secret t → (slice_get m.objects p ≡ Some g) ⊎ ((p ≡ length m.objects) × (g ≡ new))
        → (slice_get m.objects q ≡ Some h) ⊎ ((q ≡ length m.objects) × (h ≡ new)) → s.number < t.number
    by p q g h s t less u v (inl x) (inl y) = a.ascend p q g h s t less x y u v
    by p q g h s t less u v (inl x) (inr y) = let e : Gone ≡ Secret t = ap (λ (o : Held). o.material) (sym y.1) ∙ v in absurd cc
    by p q g h s t less u v (inr x) z = let e : Gone ≡ Secret s = ap (λ (o : Held). o.material) (sym x.1) ∙ u in absurd cc
