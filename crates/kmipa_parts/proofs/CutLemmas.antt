-- An inventory that is cut to some objects: what stands in it, and what becomes of it where an object comes or changes.
use Rattle.std.proofs.Common.{◌≡◌, ◌<◌, ◌||◌, ◌⊎◌, inl, inr, ℕ, zero, suc, ◌+◌, Bool, true, false, cond, List, [], ◌∷◌, ◌++◌, bytes_eq, slice_get, Option, Some, None, option_and_then, Contains, refl, sym, ap, ◌∙◌, subst, arith}
use Rattle.std.specs.List.{position_from, list_any}
use Rattle.std.proofs.lemmas.List.Elements.{filter-append}
use Rattle.std.proofs.lemmas.Slice.Eq.{bytes_eq-Decides}
use Rattle.kmipa_object.specs.Inventory.{Card, Thing, cards, place_of}
use Rattle.kmipa_object.specs.Lists.{updated}
use Rattle.kmipa_store.proofs.InventoryLemmas.{place_found, place_none}
use Rattle.kmipa_ops.specs.Objects.{card_meant, HasObject}
use Rattle.kmipa_check.proofs.PlaceLemmas.{contains_at, at_contains, mapped_from, get_at}
use Rattle.kmipa_parts.specs.Parts.{OwnOf, cut}

-- ---- identifiers

pub true_or_not : (b : Bool) → (b ≡ true) ⊎ (b ≡ false)
true_or_not true = inl refl
true_or_not false = inr refl

-- ---- one element of a cut

cut_here : (own : OwnOf) (o : Thing) (V : List Thing) → own o.card.id ≡ true → cut own (o ∷ V) ≡ o ∷ cut own V
cut_here own o V e = ap (λ b. cond b (o ∷ cut own V) (cut own V)) e

cut_past : (own : OwnOf) (o : Thing) (V : List Thing) → own o.card.id ≡ false → cut own (o ∷ V) ≡ cut own V
cut_past own o V e = ap (λ b. cond b (o ∷ cut own V) (cut own V)) e

-- the object is the first of its identifier, at this place
abbrev pub IsFirst : List ℕ → List Thing → ℕ → Thing → Type 0
IsFirst id [] place object = ⊥
IsFirst id (o ∷ V) zero object = (o ≡ object) × (bytes_eq id o.card.id ≡ true)
IsFirst id (o ∷ V) (suc place) object = (bytes_eq id o.card.id ≡ false) × IsFirst id V place object

late : (id : List ℕ) (W : List Thing) (j p : ℕ) → position_from (λ (c : Card). bytes_eq id c.id) j (cards W) ≡ Some p → p < j → ⊥
late id [] j p r lt = let bad : ⊥ = cc in bad
late id (w ∷ W) j p r lt = onward (λ q. late id W (j + 1) p q (omega (arith, lt))) (true_or_not (bytes_eq id w.card.id))
  where
    onward : (position_from (λ (c : Card). bytes_eq id c.id) (j + 1) (cards W) ≡ Some p → ⊥) → (bytes_eq id w.card.id ≡ true) ⊎ (bytes_eq id w.card.id ≡ false) → ⊥
    onward rest (inl y) =
        let z : Some j ≡ Some p = sym (ap (λ b. cond b (Some j) (position_from (λ (c : Card). bytes_eq id c.id) (j + 1) (cards W))) y) ∙ r in
        let same : j ≡ p = cc in
        omega (arith, same, lt)
    onward rest (inr y) = rest (sym (ap (λ b. cond b (Some j) (position_from (λ (c : Card). bytes_eq id c.id) (j + 1) (cards W))) y) ∙ r)

first_from : (id : List ℕ) (V : List Thing) (i p place : ℕ) (object : Thing) → position_from (λ (c : Card). bytes_eq id c.id) i (cards V) ≡ Some p → p ≡ i + place → slice_get V place ≡ Some object
    → IsFirst id V place object
first_from id [] i p place object e at stands = let bad : ⊥ = cc in absurd bad
first_from id (o ∷ V) i p place object e at stands = by (λ n q z s. first_from id V (i + 1) p n object q z s) (true_or_not (bytes_eq id o.card.id))
  where
    by : ((n : ℕ) → position_from (λ (c : Card). bytes_eq id c.id) (i + 1) (cards V) ≡ Some p → p ≡ (i + 1) + n → slice_get V n ≡ Some object → IsFirst id V n object)
        → (bytes_eq id o.card.id ≡ true) ⊎ (bytes_eq id o.card.id ≡ false) → IsFirst id (o ∷ V) place object
    by rest (inl is) =
        let q : Some i ≡ Some p = sym (ap (λ b. cond b (Some i) (position_from (λ (c : Card). bytes_eq id c.id) (i + 1) (cards V))) is) ∙ e in
        let same : i ≡ p = cc in
        here place (omega (arith, same, at)) stands
      where
        here : (n : ℕ) → n ≡ 0 → slice_get (o ∷ V) n ≡ Some object → IsFirst id (o ∷ V) n object
        here zero z s = let same : o ≡ object = cc in (same, is)
        here (suc n) z s = absurd (omega (arith, z))
    by rest (inr is) =
        let q : position_from (λ (c : Card). bytes_eq id c.id) (i + 1) (cards V) ≡ Some p =
        sym (ap (λ b. cond b (Some i) (position_from (λ (c : Card). bytes_eq id c.id) (i + 1) (cards V))) is) ∙ e in
        there place q at stands
      where
        there : (n : ℕ) → position_from (λ (c : Card). bytes_eq id c.id) (i + 1) (cards V) ≡ Some p → p ≡ i + n → slice_get (o ∷ V) n ≡ Some object → IsFirst id (o ∷ V) n object
        there zero q z s = absurd (late id V (i + 1) p q (omega (arith, z)))
        there (suc n) q z s = (is, rest n q (omega (arith, z)) s)

first_of : (id : List ℕ) (V : List Thing) (place : ℕ) (object : Thing) → HasObject V id place object → IsFirst id V place object
first_of id V place object h = first_from id V 0 place place object h.named (omega arith) h.stands

-- it has the identifier
first_is : (id : List ℕ) (V : List Thing) (place : ℕ) (object : Thing) → IsFirst id V place object → id ≡ object.card.id
first_is id [] place object f = absurd f
first_is id (o ∷ V) zero object f = (bytes_eq-Decides id o.card.id).0 f.1 ∙ ap (λ (x : Thing). x.card.id) f.0
first_is id (o ∷ V) (suc place) object f = first_is id V place object f.1

-- and is found there
found_from : (id : List ℕ) (V : List Thing) (i place : ℕ) (object : Thing) → IsFirst id V place object → position_from (λ (c : Card). bytes_eq id c.id) i (cards V) ≡ Some (i + place)
found_from id [] i place object f = absurd f
found_from id (o ∷ V) i zero object f =
    ap (λ b. cond b (Some i) (position_from (λ (c : Card). bytes_eq id c.id) (i + 1) (cards V))) f.1 ∙ ap (λ (n : ℕ). Some n) (omega arith)
found_from id (o ∷ V) i (suc place) object f =
    ap (λ b. cond b (Some i) (position_from (λ (c : Card). bytes_eq id c.id) (i + 1) (cards V))) f.0
    ∙ found_from id V (i + 1) place object f.1 ∙ ap (λ (n : ℕ). Some n) (omega arith)

stands_at : (id : List ℕ) (V : List Thing) (place : ℕ) (object : Thing) → IsFirst id V place object → slice_get V place ≡ Some object
stands_at id [] place object f = absurd f
stands_at id (o ∷ V) zero object f = ap (λ (x : Thing). Some x) f.0
stands_at id (o ∷ V) (suc place) object f = stands_at id V place object f.1

object_of : (id : List ℕ) (V : List Thing) (place : ℕ) (object : Thing) → IsFirst id V place object → HasObject V id place object
object_of id V place object f = record { named = found_from id V 0 place object f ∙ ap (λ (n : ℕ). Some n) (omega arith); stands = stands_at id V place object f }

-- an object of a cut stands in it, first of its identifier, and is changed there as in the whole
pub record StandsIn (own : OwnOf) (id : List ℕ) (V : List Thing) (place : ℕ) (object : Thing) : Type 0 where
  pub at : ℕ
  pub first : IsFirst id (cut own V) at object
  pub changed : (f : Thing → Thing) → ((x : Thing) → (f x).card.id ≡ x.card.id) → cut own (updated V place f) ≡ updated (cut own V) at f

first_cut : (own : OwnOf) (id : List ℕ) → own id ≡ true → (V : List Thing) (place : ℕ) (object : Thing) → IsFirst id V place object → StandsIn own id V place object
first_cut own id is [] place object f = absurd f
first_cut own id is (o ∷ V) zero object f =
    let here : own o.card.id ≡ true = ap own (sym ((bytes_eq-Decides id o.card.id).0 f.1)) ∙ is in
    let P : List Thing → Type 0 = λ W. IsFirst id W 0 object in
    record {
      at = 0;
      first = subst P (sym (cut_here own o V here)) f;
      changed = λ g keeps.
          cut_here own (g o) V (ap own (keeps o) ∙ here) ∙ sym (ap (λ (W : List Thing). updated W 0 g) (cut_here own o V here));
    }
first_cut own id is (o ∷ V) (suc place) object f = by (first_cut own id is V place object f.1) (true_or_not (own o.card.id))
  where
    by : StandsIn own id V place object → (own o.card.id ≡ true) ⊎ (own o.card.id ≡ false) → StandsIn own id (o ∷ V) (suc place) object
    by r (inl e) =
        let P : List Thing → Type 0 = λ W. IsFirst id W (suc r.at) object in
        record {
          at = suc r.at;
          first = subst P (sym (cut_here own o V e)) (f.0, r.first);
          changed = λ g keeps.
              cut_here own o (updated V place g) e ∙ ap (λ (W : List Thing). o ∷ W) (r.changed g keeps)
              ∙ sym (ap (λ (W : List Thing). updated W (suc r.at) g) (cut_here own o V e));
        }
    by r (inr e) =
        let P : List Thing → Type 0 = λ W. IsFirst id W r.at object in
        record {
          at = r.at;
          first = subst P (sym (cut_past own o V e)) r.first;
          changed = λ g keeps.
              cut_past own o (updated V place g) e ∙ r.changed g keeps ∙ sym (ap (λ (W : List Thing). updated W r.at g) (cut_past own o V e));
        }

pub stands_in : (own : OwnOf) (id : List ℕ) (V : List Thing) (place : ℕ) (object : Thing) → own id ≡ true → HasObject V id place object → StandsIn own id V place object
stands_in own id V place object is h = first_cut own id is V place object (first_of id V place object h)

pub has_cut : (own : OwnOf) (id : List ℕ) (V : List Thing) (place : ℕ) (object : Thing) (s : StandsIn own id V place object) → HasObject (cut own V) id s.at object
has_cut own id V place object s = object_of id (cut own V) s.at object s.first

-- where none has the identifier, none of the cut has
abbrev place_after : List ℕ → ℕ → List Thing → Option ℕ
place_after id i W = position_from (λ (c : Card). bytes_eq id c.id) i (cards W)

none_step : (own : OwnOf) (id : List ℕ) (o : Thing) (W : List Thing) (i : ℕ) → bytes_eq id o.card.id ≡ false → place_after id (i + 1) (cut own W) ≡ None → place_after id i (cut own W) ≡ None
    → (own o.card.id ≡ true) ⊎ (own o.card.id ≡ false) → place_after id i (cut own (o ∷ W)) ≡ None
none_step own id o W i other next same (inl e) =
    ap (place_after id i) (cut_here own o W e) ∙ ap (λ b. cond b (Some i) (place_after id (i + 1) (cut own W))) other ∙ next
none_step own id o W i other next same (inr e) = ap (place_after id i) (cut_past own o W e) ∙ same

none_cut : (own : OwnOf) (id : List ℕ) (W : List Thing) (i : ℕ) → ((k : ℕ) (o : Thing) → slice_get W k ≡ Some o → bytes_eq id o.card.id ≡ false) → place_after id i (cut own W) ≡ None
none_cut own id [] i f = refl
none_cut own id (o ∷ W) i f =
    none_step own id o W i (f zero o refl) (none_cut own id W (i + 1) (λ k x at. f (suc k) x at)) (none_cut own id W i (λ k x at. f (suc k) x at)) (true_or_not (own o.card.id))

pub free_cut : (own : OwnOf) (id : List ℕ) (V : List Thing) → place_of id (cards V) ≡ None → place_of id (cards (cut own V)) ≡ None
free_cut own id V none = none_cut own id V 0 (λ k o at. place_none (cards V) id none k o.card (get_at (λ (x : Thing). x.card) V k o at))

-- an object whose place is found is there
pub held : (V : List Thing) (id : List ℕ) (p : ℕ) → place_of id (cards V) ≡ Some p → (o : Thing) × HasObject V id p o
held V id p e =
    let f = place_found (cards V) id p e in
    let x = mapped_from (λ (x : Thing). x.card) V p f.0 f.1 in
    (x.0, record { named = e; stands = x.1 })

pub card_found : (V : List Thing) (id : List ℕ) (place : ℕ) (object : Thing) → HasObject V id place object → card_meant (cards V) (Some id) ≡ Some object.card
card_found V id place object h = ap (option_and_then (slice_get (cards V))) h.named ∙ get_at (λ (x : Thing). x.card) V place object h.stands

-- the identifier leads to the same object
pub card_cut : (own : OwnOf) (id : List ℕ) (V : List Thing) → own id ≡ true → card_meant (cards V) (Some id) ≡ card_meant (cards (cut own V)) (Some id)
card_cut own id V is = by (place_of id (cards V)) refl
  where
    by : (p : Option ℕ) → place_of id (cards V) ≡ p → card_meant (cards V) (Some id) ≡ card_meant (cards (cut own V)) (Some id)
    by None e = ap (option_and_then (slice_get (cards V))) e ∙ sym (ap (option_and_then (slice_get (cards (cut own V)))) (free_cut own id V e))
    by (Some p) e =
        let o = held V id p e in
        let s = stands_in own id V p o.0 is o.1 in
        card_found V id p o.0 o.1 ∙ sym (card_found (cut own V) id s.at o.0 (has_cut own id V p o.0 s))

-- ---- what stands in a cut

pub cut_has : (own : OwnOf) (V : List Thing) (k : ℕ) (o : Thing) → slice_get (cut own V) k ≡ Some o → ((j : ℕ) × (slice_get V j ≡ Some o)) × (own o.card.id ≡ true)
cut_has own [] k o at = let bad : ⊥ = cc in absurd bad
cut_has own (x ∷ V) k o at = by (λ n s. cut_has own V n o s) (true_or_not (own x.card.id))
  where
    up : ((j : ℕ) × (slice_get V j ≡ Some o)) × (own o.card.id ≡ true) → ((j : ℕ) × (slice_get (x ∷ V) j ≡ Some o)) × (own o.card.id ≡ true)
    up r = ((suc r.0.0, r.0.1), r.1)

    by : ((n : ℕ) → slice_get (cut own V) n ≡ Some o → ((j : ℕ) × (slice_get V j ≡ Some o)) × (own o.card.id ≡ true)) → (own x.card.id ≡ true) ⊎ (own x.card.id ≡ false)
        → ((j : ℕ) × (slice_get (x ∷ V) j ≡ Some o)) × (own o.card.id ≡ true)
    by rest (inl e) = here k (let P : List Thing → Type 0 = λ W. slice_get W k ≡ Some o in subst P (cut_here own x V e) at)
      where
        here : (n : ℕ) → slice_get (x ∷ cut own V) n ≡ Some o → ((j : ℕ) × (slice_get (x ∷ V) j ≡ Some o)) × (own o.card.id ≡ true)
        here zero s = let same : x ≡ o = cc in ((0, s), ap (λ (y : Thing). own y.card.id) (sym same) ∙ e)
        here (suc n) s = up (rest n s)
    by rest (inr e) = up (rest k (let P : List Thing → Type 0 = λ W. slice_get W k ≡ Some o in subst P (cut_past own x V e) at))

-- a card in it is one of the inventory's, of one of the identifiers
pub card_in : (own : OwnOf) (V : List Thing) (c : Card) → Contains (cards (cut own V)) c → Contains (cards V) c × (own c.id ≡ true)
card_in own V c has =
    let i = at_contains (cards (cut own V)) c has in
    let x = mapped_from (λ (x : Thing). x.card) (cut own V) i.0 c i.1 in
    let j = cut_has own V i.0 x.0 x.1 in
    (contains_at (cards V) j.0.0 c (get_at (λ (x : Thing). x.card) V j.0.0 x.0 j.0.1 ∙ ap Some x.2), ap (λ (y : Card). own y.id) (sym x.2) ∙ j.1)

later : (b c : Bool) → (b || c) ≡ false → c ≡ false
later true c h = absurd cc
later false c h = h

-- a test that no card passes
pub none_in_cut : (own : OwnOf) (V : List Thing) (test : Card → Bool) → list_any test (cards V) ≡ false → list_any test (cards (cut own V)) ≡ false
none_in_cut own [] test e = refl
none_in_cut own (o ∷ V) test e = by (none_in_cut own V test (later (test o.card) (list_any test (cards V)) e)) (true_or_not (own o.card.id))
  where
    by : list_any test (cards (cut own V)) ≡ false → (own o.card.id ≡ true) ⊎ (own o.card.id ≡ false) → list_any test (cards (cut own (o ∷ V))) ≡ false
    by rest (inl q) = ap (λ (W : List Thing). list_any test (cards W)) (cut_here own o V q) ∙ first (test o.card) (list_any test (cards V)) (list_any test (cards (cut own V))) e rest
      where
        first : (b c d : Bool) → (b || c) ≡ false → d ≡ false → (b || d) ≡ false
        first true c d h r = absurd cc
        first false c d h r = r
    by rest (inr q) = ap (λ (W : List Thing). list_any test (cards W)) (cut_past own o V q) ∙ rest

-- ---- where an object comes or changes

pub cut_added : (own : OwnOf) (V : List Thing) (x : Thing) → own x.card.id ≡ true → cut own (V ++ x ∷ []) ≡ cut own V ++ x ∷ []
cut_added own V x is = filter-append (λ (o : Thing). own o.card.id) V (x ∷ []) ∙ ap (λ (W : List Thing). cut own V ++ W) (cut_here own x [] is)

append_none : {X : Type 0} (xs : List X) → xs ++ [] ≡ xs
append_none [] = refl
append_none (x ∷ xs) = ap (λ ys. x ∷ ys) (append_none xs)

pub cut_other : (own : OwnOf) (V : List Thing) (x : Thing) → own x.card.id ≡ false → cut own (V ++ x ∷ []) ≡ cut own V
cut_other own V x apart =
    filter-append (λ (o : Thing). own o.card.id) V (x ∷ []) ∙ ap (λ (W : List Thing). cut own V ++ W) (cut_past own x [] apart) ∙ append_none (cut own V)

-- another one
module _ (f : Thing → Thing) (keeps : (x : Thing) → (f x).card.id ≡ x.card.id) where
  pub cut_kept : (own : OwnOf) (V : List Thing) (place : ℕ) (object : Thing) → slice_get V place ≡ Some object → own object.card.id ≡ false → cut own (updated V place f) ≡ cut own V
  cut_kept own [] place object at apart = refl
  cut_kept own (o ∷ V) zero object at apart =
      let same : o ≡ object = cc in
      let past : own o.card.id ≡ false = ap (λ (x : Thing). own x.card.id) same ∙ apart in
      cut_past own (f o) V (ap own (keeps o) ∙ past) ∙ sym (cut_past own o V past)
  cut_kept own (o ∷ V) (suc place) object at apart = by (cut_kept own V place object at apart) (true_or_not (own o.card.id))
    where
      by : cut own (updated V place f) ≡ cut own V → (own o.card.id ≡ true) ⊎ (own o.card.id ≡ false) → cut own (o ∷ updated V place f) ≡ cut own (o ∷ V)
      by rest (inl e) = cut_here own o (updated V place f) e ∙ ap (λ (W : List Thing). o ∷ W) rest ∙ sym (cut_here own o V e)
      by rest (inr e) = cut_past own o (updated V place f) e ∙ rest ∙ sym (cut_past own o V e)

-- an object that an identifier leads to has it
pub of_id : (V : List Thing) (id : List ℕ) (place : ℕ) (object : Thing) → HasObject V id place object → id ≡ object.card.id
of_id V id place object h = first_is id V place object (first_of id V place object h)
