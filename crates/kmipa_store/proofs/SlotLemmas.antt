-- Objects found by the slots of their identifiers.
use Rattle.std.proofs.Common.{◌≡◌, ◌≢◌, ◌<◌, ◌⊎◌, ◌∙◌, ◌+◌, ◌-◌, ◌++◌, ◌∷◌, [], ℕ, zero, suc, true, false, List, length, take, set, get_or, Option, Some, None, slice_get, string_bytes, bytes_eq, refl, ap, sym, subst, inl, inr, add-one, arith}
use Rattle.std.specs.BTreeMap.{is_at}
use Rattle.std.specs.BTreeSet.{insert_key}
use Rattle.std.specs.Set.{remove_key}
use Rattle.std.proofs.lemmas.Bool.{false_from_ne_true, le-ltb, lt-ltb, ltb-true}
use Rattle.std.proofs.lemmas.List.{get_or_default, get_or-set_same, get_or-set_other, length-set, length-take-le}
use Rattle.std.proofs.lemmas.Nat.{and_le_r}
use Rattle.kmipa_object.specs.Inventory.{place_of}
use Rattle.kmipa_object.specs.declared.life.Life.{Life}
use Rattle.kmipa_object.proofs.ListLemmas.{get-append_cases, get-append_old, get_below, map-push}
use Rattle.kmipa_store.specs.Hashes.{id_hash, id_number}
use Rattle.kmipa_object.specs.declared.object.Object.{Object}
use Rattle.kmipa_store.specs.Ledger.{Held, cards_of, held, relived, with_life}
use Rattle.kmipa_store.specs.Objects.{Hashed, become, exchanged, has_id, hashed_cmp, is_hashed, objects_of}
use Rattle.kmipa_store.specs.Slots.{AreAllNoted, AreListed, AreNoted, IsNoted, KeepsBefore, holder, is_before, slot_of}
use Rattle.kmipa_store.specs.declared.slots.Slots.{Slots}
use Rattle.kmipa_store.proofs.HashLemmas.{apart_from, found_within, hashed_itself, itself, none_from, none_has, same_id}
use Rattle.kmipa_store.proofs.NameLemmas.{length-map}
use Rattle.kmipa_store.proofs.ObjectLemmas.{take-next}
use Rattle.kmipa_store.proofs.OrderLemmas.{found_inserted, still_found, still_there}
use Rattle.kmipa_store.proofs.SoundLemmas.{relived_from, updated_from}

-- each identifier has a slot, where there are any
slot_within : (id : List ℕ) (count : ℕ) → 0 < count → slot_of id count < count
slot_within id count some = let low = and_le_r (id_number id) (count - 1) in omega (arith, low, some)

-- what stands in the slot of an identifier
pub stands_at : (slots : Slots) (id : List ℕ) (slot count : ℕ) (standing : Option ℕ) → count ≡ length slots.places.items → slot ≡ slot_of id count → slot < count
    → standing ≡ get_or slots.places.items slot standing → holder slots id ≡ standing
stands_at slots id slot count standing long is within at =
    let places = slots.places.items in
    ap (λ (n : ℕ). get_or places (slot_of id n) None) (sym long)
    ∙ ap (λ (k : ℕ). get_or places k None) (sym is)
    ∙ get_or_default places slot None standing (omega (arith, within, long))
    ∙ sym at

-- the slot of an identifier is all that changes
pub record Puts (old : Slots) (id : List ℕ) (place : Option ℕ) (new : Slots) : Type 0 where
  pub places : new.places.items ≡ set old.places.items (slot_of id (length old.places.items)) place
  pub by_hash : new.by_hash.keys ≡ old.by_hash.keys

pub puts_at : (old new : Slots) (id : List ℕ) (slot count : ℕ) (value : Option ℕ) → count ≡ length old.places.items → slot ≡ slot_of id count → new.places.items ≡ set old.places.items slot value
    → new.by_hash.keys ≡ old.by_hash.keys → Puts old id value new
puts_at old new id slot count value long is items keys =
    record { places = items ∙ ap (λ (k : ℕ). set old.places.items k value) (is ∙ ap (λ (n : ℕ). slot_of id n) long); by_hash = keys }

-- a place in the slot of one identifier
holder_put : (old new : Slots) (id jd : List ℕ) (value : Option ℕ) → Puts old id value new
    → holder new jd ≡ get_or (set old.places.items (slot_of id (length old.places.items)) value) (slot_of jd (length old.places.items)) None
holder_put old new id jd value puts =
    let places = old.places.items in
    let slot = slot_of id (length places) in
    ap (λ (xs : List (Option ℕ)). get_or xs (slot_of jd (length xs)) None) puts.places
    ∙ ap (λ (n : ℕ). get_or (set places slot value) (slot_of jd n) None) (length-set places slot value)

pub put_stands : (old new : Slots) (id : List ℕ) (value : Option ℕ) → 0 < length old.places.items → Puts old id value new → holder new id ≡ value
put_stands old new id value some puts =
    let places = old.places.items in
    holder_put old new id id value puts
    ∙ get_or-set_same places (slot_of id (length places)) value None (slot_within id (length places) some)

-- the slot of an identifier in which no place before one stands
pub put_keeps : (old new : Slots) (id : List ℕ) (place : ℕ) (value : Option ℕ) → Puts old id value new → ((q : ℕ) → holder old id ≡ Some q → q < place → ⊥) → KeepsBefore old place new
put_keeps old new id place value puts free jd p below n =
    let places = old.places.items in
    let count = length places in
    let up = n.up_to in
    let apart : slot_of jd count ≢ slot_of id count = λ e.
    free n.first (ap (λ (k : ℕ). get_or places k None) (sym e) ∙ n.stands) (omega (arith, below, up)) in record {
      first = n.first;
      stands = holder_put old new id jd value puts ∙ get_or-set_other places (slot_of id count) (slot_of jd count) value None apart ∙ n.stands;
      up_to = up;
      found = elim n.found [ inl e ↦ inl e | inr h ↦ inr (ap (λ (ks : List Hashed). is_hashed ks (id_hash jd) p) puts.by_hash ∙ h) ];
    }

-- a place before another stands there, or none does
pub before_is : (standing : Option ℕ) (place : ℕ) → is_before standing place ≡ true → (q : ℕ) × (standing ≡ Some q) × (q < place)
before_is None place e = cc
before_is (Some q) place e = (q, refl, ltb-true q place e)

not_before : (standing : Option ℕ) (place q : ℕ) → is_before standing place ≡ false → standing ≡ Some q → q < place → ⊥
not_before standing place q e is below =
    let clash : true ≡ false = sym (lt-ltb q place below) ∙ ap (λ o. is_before o place) (sym is) ∙ e in
    cc

pub none_before : (standing : Option ℕ) (place : ℕ) → is_before standing place ≡ false → (old : Slots) (id : List ℕ) → standing ≡ holder old id → (q : ℕ) → holder old id ≡ Some q → q < place → ⊥
none_before standing place e old id is q stands below = not_before standing place q e (is ∙ stands) below

pub itself_not_before : (standing : Option ℕ) (place : ℕ) → standing ≡ Some place → is_before standing place ≡ false
itself_not_before standing place is = ap (λ (o : Option ℕ). is_before o place) is ∙ le-ltb place place (omega arith)

-- a hash more
pub insert_keeps : (old new : Slots) (hash place : ℕ) → new.places.items ≡ old.places.items → new.by_hash.keys ≡ insert_key hashed_cmp old.by_hash.keys (hash, place) → KeepsBefore old place new
insert_keeps old new hash place same keys jd p below n = record {
  first = n.first;
  stands = ap (λ (xs : List (Option ℕ)). get_or xs (slot_of jd (length xs)) None) same ∙ n.stands;
  up_to = n.up_to;
  found = elim n.found [
    | inl e ↦ inl e
    | inr h ↦ inr (ap (λ (ks : List Hashed). is_hashed ks (id_hash jd) p) keys
        ∙ still_found hashed_cmp (hash, place) (hashed_itself (hash, place)) (is_at (hashed_cmp (id_hash jd, p))) old.by_hash.keys h)
  ];
}

-- a hash fewer
pub remove_keeps : (old new : Slots) (hash place : ℕ) → new.places.items ≡ old.places.items → new.by_hash.keys ≡ remove_key (is_at (hashed_cmp (hash, place))) old.by_hash.keys → KeepsBefore old place new
remove_keeps old new hash place same keys jd p below n =
    let before : p ≢ place = λ (e : p ≡ place). absurd (omega (arith, below, e)) in record {
      first = n.first;
      stands = ap (λ (xs : List (Option ℕ)). get_or xs (slot_of jd (length xs)) None) same ∙ n.stands;
      up_to = n.up_to;
      found = elim n.found [
        | inl e ↦ inl e
        | inr h ↦ inr (ap (λ (ks : List Hashed). is_hashed ks (id_hash jd) p) keys
            ∙ still_there (is_at (hashed_cmp (id_hash jd, p))) (is_at (hashed_cmp (hash, place))) (apart_from (id_hash jd) hash p place before) old.by_hash.keys h)
      ];
    }

-- an identifier whose hash is listed
pub noted_by_hash : (old new : Slots) (id : List ℕ) (hash place q : ℕ) → holder old id ≡ Some q → q < place → hash ≡ id_hash id → new.places.items ≡ old.places.items
    → new.by_hash.keys ≡ insert_key hashed_cmp old.by_hash.keys (hash, place) → IsNoted new id place
noted_by_hash old new id hash place q stands before is same keys = record {
  first = q;
  stands = ap (λ (xs : List (Option ℕ)). get_or xs (slot_of id (length xs)) None) same ∙ stands;
  up_to = omega (arith, before);
  found = inr (ap (λ (ks : List Hashed). is_hashed ks (id_hash id) place) keys
      ∙ ap (λ (k : ℕ). is_hashed (insert_key hashed_cmp old.by_hash.keys (hash, place)) k place) (sym is)
      ∙ found_inserted hashed_cmp (hash, place) (hashed_itself (hash, place)) old.by_hash.keys);
}

pub noted_in_slot : (new : Slots) (id : List ℕ) (place : ℕ) → holder new id ≡ Some place → IsNoted new id place
noted_in_slot new id place stands = record { first = place; stands = stands; up_to = omega arith; found = inl refl }

-- no object has an identifier in whose slot no place stands
pub none_stands : (slots : Slots) (objects : List Held) (id : List ℕ) → AreAllNoted slots objects → holder slots id ≡ None → place_of id (cards_of objects) ≡ None
none_stands slots objects id all none = none_from id objects 0 (λ p h at. false_from_ne_true (bytes_eq id h.card.id) (λ e.
    let n = all p h at in
    let clash : None ≡ Some n.first = sym none ∙ ap (holder slots) (same_id id h.card.id e) ∙ n.stands in
    cc))

-- an identifier that the object in its slot does not have
pub others_listed : (slots : Slots) (objects : List Held) (id : List ℕ) (q : ℕ) → AreAllNoted slots objects → holder slots id ≡ Some q → has_id (slice_get objects q) id ≡ false → AreListed slots objects id
others_listed slots objects id q all stands other p h at same =
    let n = all p h at in
    let first : Some n.first ≡ Some q = sym n.stands ∙ ap (holder slots) (sym same) ∙ stands in
    (elim n.found [
      | inl e ↦
          let here : q ≡ p = (let same_place : n.first ≡ q = cc in sym same_place ∙ e) in
          let has : has_id (slice_get objects q) id ≡ true = ap (λ (k : ℕ). has_id (slice_get objects k) id) here ∙ ap (λ o. has_id o id) at ∙ ap (bytes_eq id) (sym same) ∙ itself id in
          let clash : true ≡ false = sym has ∙ other in
          cc
      | inr l ↦ ap (λ (k : ℕ). is_hashed slots.by_hash.keys k p) (ap id_hash same) ∙ l
    ])

-- an object that has the identifier is one of them
pub objects_within : (objects : List Object) (id : List ℕ) (p : ℕ) → has_id (slice_get (objects_of objects) p) id ≡ true → p < length objects
objects_within objects id p is =
    let within = found_within (objects_of objects) id p is in
    omega (arith, within, length-map held objects)

pub none_noted : (slots : Slots) → AreAllNoted slots []
none_noted slots p h at = let bad : ⊥ = cc in absurd bad

-- an object more
pub noted_more : (slots new : Slots) (hs : List Held) (h : Held) → KeepsBefore slots (length hs) new → IsNoted new h.card.id (length hs) → AreAllNoted slots hs → AreAllNoted new (hs ++ h ∷ [])
noted_more slots new hs h keeps here all p g at = elim (get-append_cases hs h p g at) [
  | inl old ↦ keeps g.card.id p (get_below hs p g old) (all p g old)
  | inr last ↦ subst (λ (k : ℕ). IsNoted new g.card.id k) (sym last.0) (subst (λ (x : Held). IsNoted new x.card.id (length hs)) (sym last.1) here)
]

pub noted_pushed : (slots new : Slots) (hs : List Held) (h : Held) → KeepsBefore slots (length hs) new → IsNoted new h.card.id (length hs) → place_of h.card.id (cards_of hs) ≡ None → AreNoted slots hs
    → AreNoted new (hs ++ h ∷ [])
noted_pushed slots new hs h keeps here none a = record {
  noted = noted_more slots new hs h keeps here a.noted;
  distinct = λ p q f g atp atq same. elim (get-append_cases hs h p f atp) [
    | inl oldp ↦ elim (get-append_cases hs h q g atq) [
      | inl oldq ↦ a.distinct p q f g oldp oldq same
      | inr newq ↦ absurd (none_has h.card.id hs p f none oldp (same ∙ ap (λ (x : Held). x.card.id) newq.1))
    ]
    | inr newp ↦ elim (get-append_cases hs h q g atq) [
      | inl oldq ↦ absurd (none_has h.card.id hs q g none oldq (sym same ∙ ap (λ (x : Held). x.card.id) newp.1))
      | inr newq ↦ newp.0 ∙ sym newq.0
    ]
  ];
}

-- noting objects one after the other
pub noted_on : (slots new : Slots) (objects : List Object) (place : ℕ) (o : Object) → slice_get objects place ≡ Some o → KeepsBefore slots place new → IsNoted new (string_bytes o.id) place
    → AreAllNoted slots (objects_of (take place objects)) → AreAllNoted new (objects_of (take (place + 1) objects))
noted_on slots new objects place o at keeps here all =
    let hs = objects_of (take place objects) in
    let below = get_below objects place o at in
    let long : place ≡ length hs = sym (length-map held (take place objects) ∙ length-take-le place objects (omega (arith, below))) in
    let more : objects_of (take (place + 1) objects) ≡ hs ++ held o ∷ [] =
    ap (λ (n : ℕ). objects_of (take n objects)) (add-one place) ∙ ap (λ (xs : List Object). objects_of xs) (take-next objects place o at) ∙ map-push held (take place objects) o in
    subst (λ (x : List Held). AreAllNoted new x) (sym more)
    (noted_more slots new hs (held o) (subst (λ (n : ℕ). KeepsBefore slots n new) long keeps) (subst (λ (n : ℕ). IsNoted new (string_bytes o.id) n) long here) all)

-- what is noted with a place behind all
pub noted_still : (slots new : Slots) (hs : List Held) → KeepsBefore slots (length hs) new → AreNoted slots hs → AreNoted new hs
noted_still slots new hs keeps a = record { noted = λ p g at. keeps g.card.id p (get_below hs p g at) (a.noted p g at); distinct = a.distinct }

-- an object fewer
pub noted_popped : (slots : Slots) (hs : List Held) (h : Held) → AreNoted slots (hs ++ h ∷ []) → AreNoted slots hs
noted_popped slots hs h a = record {
  noted = λ p g at. a.noted p g (get-append_old hs h p g at);
  distinct = λ p q f g atp atq same. a.distinct p q f g (get-append_old hs h p f atp) (get-append_old hs h q g atq) same;
}

-- an object that leads another life
id_stays : (place p : ℕ) (life : Life) (g h : Held) → (g ≡ h) ⊎ ((p ≡ place) × (g ≡ with_life h life)) → g.card.id ≡ h.card.id
id_stays place p life g h (inl e) = ap (λ (x : Held). x.card.id) e
id_stays place p life g h (inr e) = ap (λ (x : Held). x.card.id) e.1

pub noted_relived : (slots : Slots) (hs : List Held) (place : ℕ) (life : Life) → AreNoted slots hs → AreNoted slots (relived hs place life)
noted_relived slots hs place life a = record {
  noted = λ p g at.
      let r = relived_from hs place p life g at in
      subst (λ (id : List ℕ). IsNoted slots id p) (sym (id_stays place p life g r.0 r.2)) (a.noted p r.0 r.1);
  distinct = λ p q f g atp atq same.
      let r = relived_from hs place p life f atp in
      let s = relived_from hs place q life g atq in
      a.distinct p q r.0 s.0 r.1 s.1 (sym (id_stays place p life f r.0 r.2) ∙ same ∙ id_stays place q life g s.0 s.2);
}

-- another object with its identifier
id_kept : (place p : ℕ) (x g h : Held) → (g ≡ h) ⊎ ((p ≡ place) × (g ≡ become h x)) → g.card.id ≡ h.card.id
id_kept place p x g h (inl e) = ap (λ (y : Held). y.card.id) e
id_kept place p x g h (inr e) = ap (λ (y : Held). y.card.id) e.1

pub noted_exchanged : (slots : Slots) (hs : List Held) (place : ℕ) (x : Held) → AreNoted slots hs → AreNoted slots (exchanged hs place x)
noted_exchanged slots hs place x a = record {
  noted = λ p g at.
      let r = updated_from hs place p (λ y. become y x) g at in
      subst (λ (id : List ℕ). IsNoted slots id p) (sym (id_kept place p x g r.0 r.2)) (a.noted p r.0 r.1);
  distinct = λ p q f g atp atq same.
      let r = updated_from hs place p (λ y. become y x) f atp in
      let s = updated_from hs place q (λ y. become y x) g atq in
      a.distinct p q r.0 s.0 r.1 s.1 (sym (id_kept place p x f r.0 r.2) ∙ same ∙ id_kept place q x g s.0 s.2);
}

-- before its place no object has its identifier
taken_from : (hs : List Held) (n p : ℕ) (g : Held) → slice_get (take n hs) p ≡ Some g → (slice_get hs p ≡ Some g) × (p < n)
taken_from [] zero p g e = let bad : ⊥ = cc in absurd bad
taken_from [] (suc n) p g e = let bad : ⊥ = cc in absurd bad
taken_from (h ∷ hs) zero p g e = let bad : ⊥ = cc in absurd bad
taken_from (h ∷ hs) (suc n) zero g e = (e, omega arith)
taken_from (h ∷ hs) (suc n) (suc p) g e = let r = taken_from hs n p g e in let b = r.1 in (r.0, omega (arith, b))

pub free_before : (slots : Slots) (hs : List Held) (p : ℕ) (h : Held) → AreNoted slots hs → slice_get hs p ≡ Some h → place_of h.card.id (cards_of (take p hs)) ≡ None
free_before slots hs p h a at = none_from h.card.id (take p hs) 0 (λ q g of. false_from_ne_true (bytes_eq h.card.id g.card.id) (λ e.
    let t = taken_from hs p q g of in
    let same : q ≡ p = a.distinct q p g h t.0 at (sym (same_id h.card.id g.card.id e)) in
    let before = t.1 in
    absurd (omega (arith, same, before))))
