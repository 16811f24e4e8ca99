-- A list but for one of its elements, and a ledger but for one of its objects.
use Rattle.std.proofs.Common.{◌≡◌, ◌≢◌, ◌∙◌, ◌||◌, ◌&&◌, refl, ap, sym, ℕ, zero, suc, Bool, false, List, [], ◌∷◌, ◌++◌, map, Option, Some, None, slice_get, option_map, arith}
use Rattle.std.specs.List.{list_any}
use Rattle.std.proofs.lemmas.Slice.Eq.{bytes_eq-Decides}
use Rattle.kmipa_object.specs.Inventory.{Card, live, place_of}
use Rattle.kmipa_store.specs.Ledger.{Held, Meaning, cards_of}
use Rattle.kmipa_store.specs.Choices.{IsSound}
use Rattle.kmipa_store.proofs.InventoryLemmas.{get-cards_of, place_found}
use Rattle.kmipa_msgs.specs.Messages.{RulesOf}
use Rattle.kmipa_attrs.specs.Sets.{NameOf}
use Rattle.kmipa_ops.specs.Adding.{name_taken}
use Rattle.kmipa_ops.specs.Objects.{is_named}
use Rattle.kmipa_aside.specs.Graves.{lacking, without}

-- the place at which an element stood
abbrev source : ℕ → ℕ → ℕ
source zero p = suc p
source (suc n) zero = zero
source (suc n) (suc p) = suc (source n p)

module _ {X : Type 0} where
  pub map_without : {Y : Type 0} (f : X → Y) (n : ℕ) (xs : List X) → map f (without n xs) ≡ without n (map f xs)
  map_without f n [] = refl
  map_without f zero (x ∷ xs) = refl
  map_without f (suc n) (x ∷ xs) = ap (λ ys. f x ∷ ys) (map_without f n xs)

  get_source : (xs : List X) (n p : ℕ) (z : X) → slice_get xs n ≡ Some z → slice_get (without n xs) p ≡ slice_get xs (source n p)
  get_source [] n p z e = let bad : ⊥ = cc in absurd bad
  get_source (x ∷ xs) zero p z e = refl
  get_source (x ∷ xs) (suc n) zero z e = refl
  get_source (x ∷ xs) (suc n) (suc p) z e = get_source xs n p z e

  any_without : (f : X → Bool) (xs : List X) (n : ℕ) (z : X) → slice_get xs n ≡ Some z → f z ≡ false → list_any f (without n xs) ≡ list_any f xs
  any_without f [] n z e h = refl
  any_without f (x ∷ xs) zero z e h = let is : x ≡ z = cc in ap (λ (b : Bool). b || list_any f xs) (sym (ap f is ∙ h))
  any_without f (x ∷ xs) (suc n) z e h = ap (λ (b : Bool). f x || b) (any_without f xs n z e h)

  pub last_same : (xs : List X) (a b : X) → xs ++ a ∷ [] ≡ xs ++ b ∷ [] → a ≡ b
  last_same [] a b e = cc
  last_same (x ∷ xs) a b e = let tail : xs ++ a ∷ [] ≡ xs ++ b ∷ [] = cc in last_same xs a b tail

source_apart : (n p : ℕ) → source n p ≢ n
source_apart zero p = λ e. omega (arith, e)
source_apart (suc n) zero = λ e. omega (arith, e)
source_apart (suc n) (suc p) = λ e. source_apart n p (omega (arith, e))

source_same : (n p q : ℕ) → source n p ≡ source n q → p ≡ q
source_same zero p q e = omega (arith, e)
source_same (suc n) zero zero e = refl
source_same (suc n) zero (suc q) e = absurd (omega (arith, e))
source_same (suc n) (suc p) zero e = absurd (omega (arith, e))
source_same (suc n) (suc p) (suc q) e = ap suc (source_same n p q (omega (arith, e)))

-- ---- a ledger but for the object at a place

module _ (m : Meaning) (place : ℕ) (h : Held) (sound : IsSound m) (at : slice_get m.objects place ≡ Some h) where
  stood : (p : ℕ) (g : Held) → slice_get (without place m.objects) p ≡ Some g → slice_get m.objects (source place p) ≡ Some g
  stood p g e = sym (get_source m.objects place p h at) ∙ e

  pub sound_without : IsSound (lacking place m)
  sound_without = record {
    in_range = record { there = λ p g n e mat. sound.in_range.there (source place p) g n (stood p g e) mat };
    gone = λ p g e. sound.gone (source place p) g (stood p g e);
    distinct = λ p q f g d e same. source_same place p q (sound.distinct (source place p) (source place q) f g (stood p f d) (stood q g e) same);
    choice = sound.choice;
  }

  found_object : (hs : List Held) (p : ℕ) (c : Card) → slice_get (cards_of hs) p ≡ Some c → (g : Held) × (slice_get hs p ≡ Some g) × (g.card ≡ c)
  found_object [] p c e = let bad : ⊥ = cc in absurd bad
  found_object (g ∷ hs) zero c e = (g, refl, cc)
  found_object (g ∷ hs) (suc p) c e = found_object hs p c e

  -- no other object has its identifier
  pub free_without : (id : List ℕ) → id ≡ h.card.id → (o : Option ℕ) → place_of id (cards_of (without place m.objects)) ≡ o → o ≡ None
  free_without id is None e = refl
  free_without id is (Some p) e =
      let f = place_found (cards_of (without place m.objects)) id p e in
      let o = found_object (without place m.objects) p f.0 f.1 in
      let same : o.0.card.id ≡ h.card.id = ap (λ (c : Card). c.id) o.2 ∙ sym ((bytes_eq-Decides id f.0.id).0 f.2) ∙ is in
      absurd (source_apart place p (sound.distinct (source place p) place o.0 h (stood p o.0 o.1) at same))

-- a destroyed object keeps no name
pub names_without : (rules : RulesOf) (hs : List Held) (place : ℕ) (h : Held) (names : List NameOf) → slice_get hs place ≡ Some h → live h.card ≡ false
    → name_taken rules (cards_of (without place hs)) names ≡ name_taken rules (cards_of hs) names
names_without rules hs place h names at dead =
    let test : Card → Bool = λ c. live c && is_named names c in
    let there : slice_get (cards_of hs) place ≡ Some h.card = get-cards_of hs place ∙ ap (option_map (λ (g : Held). g.card)) at in
    ap (λ (b : Bool). rules.unique_names && b)
    (ap (list_any test) (map_without (λ (g : Held). g.card) place hs)
    ∙ any_without test (cards_of hs) place h.card there (ap (λ (b : Bool). b && is_named names h.card) dead))
