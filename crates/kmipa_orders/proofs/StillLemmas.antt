-- Copies of objects, place by place.
use Rattle.std.proofs.Common.{◌≡◌, ◌≤◌, ◌<◌, ◌⊎◌, inl, inr, ℕ, ◌+◌, ◌-◌, List, [], ◌∷◌, ◌++◌, map, length, take, get_or, Some, slice_get, refl, sym, ap, ◌∙◌, subst, arith}
use Rattle.std.proofs.lemmas.List.{length-append, length-map, map-append, take_more}
use Rattle.std.proofs.lemmas.Option.{slice_get_within, slice_get_read, get_or_from_slice_get}
use Rattle.kmipa_attrs.specs.Sets.{NameOf, name_of}
use Rattle.kmipa_attrs.specs.declared.name.Name.{Name}
use Rattle.kmipa_store.specs.Ledger.{Held, Meaning}
use Rattle.kmipa_orders.specs.Ends.{Shared, IsAlikeAt, AreAlike, StandsAmong, StandAmong, still_shared, stills_shared}
use Rattle.kmipa_orders.specs.Stills.{StillOf, still, stills}
use Rattle.kmipa_check.proofs.PlaceLemmas.{same_elements, mapped_from, get_at, some_at, at_within, pushed_at}
use Rattle.kmipa_orders.proofs.LinksLemmas.{same_or}

-- one object more on both sides
alike_push : (front place : ℕ) (xs ys : List StillOf) (x y : StillOf) → length xs ≡ place → AreAlike front xs ys → IsAlikeAt front place x y → AreAlike front (xs ++ x ∷ []) (ys ++ y ∷ [])
alike_push front place xs ys x y here alike last = record {
  long = (let l = alike.long in omega (arith, l, length-append xs (x ∷ []), length-append ys (y ∷ [])));
  each = λ k a b at stands. by k a b (pushed_at xs x k a at) (pushed_at ys y k b stands);
}
  where
    by : (k : ℕ) (a b : StillOf) → (slice_get xs k ≡ Some a) ⊎ ((k ≡ length xs) × (x ≡ a)) → (slice_get ys k ≡ Some b) ⊎ ((k ≡ length ys) × (y ≡ b)) → IsAlikeAt front k a b
    by k a b (inl at) (inl stands) = alike.each k a b at stands
    by k a b (inl at) (inr (e, is)) = absurd (let w = at_within xs k a at in let l = alike.long in omega (arith, w, e, l))
    by k a b (inr (e, is)) (inl stands) = absurd (let w = at_within ys k b stands in let l = alike.long in omega (arith, w, e, l))
    by k a b (inr (e, is)) (inr (f, its)) =
        let P : ℕ → Type 0 = λ i. IsAlikeAt front i a b in
        let Q : StillOf → Type 0 = λ z. IsAlikeAt front place z b in
        let R : StillOf → Type 0 = λ z. IsAlikeAt front place x z in
        let same : place ≡ k = sym here ∙ sym e in
        subst P same (subst Q is (subst R its last))

-- one copy more is made
pub copied : (front : ℕ) (objects more : List Shared) (m : Meaning) (place : ℕ) (h : Held) (s : Shared) → slice_get m.objects place ≡ Some h → length objects ≡ place
    → AreAlike front (stills_shared objects) (take place (stills m)) → IsAlikeAt front place (still_shared s) (still m.secrets h) → more ≡ objects ++ s ∷ []
    → AreAlike front (stills_shared more) (take (place + 1) (stills m))
copied front objects more m place h s there long so is longer =
    let at : slice_get (stills m) place ≡ Some (still m.secrets h) = get_at (still m.secrets) m.objects place h there in
    let shared : stills_shared more ≡ stills_shared objects ++ still_shared s ∷ [] = ap (stills_shared) longer ∙ map-append still_shared objects (s ∷ []) in
    let next : take (place + 1) (stills m) ≡ take place (stills m) ++ still m.secrets h ∷ [] =
    take_more (stills m) place (still m.secrets h) (slice_get_within (stills m) place (still m.secrets h) at)
    ∙ ap (λ (x : StillOf). take place (stills m) ++ x ∷ []) (get_or_from_slice_get (stills m) place (still m.secrets h) (still m.secrets h) at) in
    let P : List StillOf → Type 0 = λ xs. AreAlike front xs (take (place + 1) (stills m)) in
    let Q : List StillOf → Type 0 = λ ys. AreAlike front (stills_shared objects ++ still_shared s ∷ []) ys in
    subst P (sym shared)
    (subst Q (sym next) (alike_push front place (stills_shared objects) (take place (stills m)) (still_shared s) (still m.secrets h) (length-map objects still_shared ∙ long) so is))

pub none_alike : (front : ℕ) (xs ys : List StillOf) → xs ≡ [] → ys ≡ [] → AreAlike front xs ys
none_alike front xs ys e f = record {
  long = ap length e ∙ ap length (sym f);
  each = λ k a b at stands. let w = at_within xs k a at in absurd (omega (arith, w, ap length e));
}

-- what stands alike with others that stand among these stands among them
pub alike_between : (front : ℕ) (xs ys zs : List StillOf) → AreAlike front xs ys → StandAmong front xs zs → StandAmong front ys zs
alike_between front xs ys zs a b = record {
  long = sym a.long ∙ b.long;
  each = λ k y at.
      let x = some_at xs k (let w = at_within ys k y at in let l = a.long in omega (arith, w, l)) in
      let p = a.each k x.0 y x.1 at in
      let q = b.each k x.0 x.1 in
      record {
        at = q.at;
        other = q.other;
        there = q.there;
        alike = (record { dates = sym p.0.dates ∙ q.alike.0.dates; bytes = sym p.0.bytes ∙ q.alike.0.bytes }, λ past. sym (p.1 past) ∙ q.alike.1 past);
        own = q.own;
      };
}

-- what is equal is alike
pub alike_at : (front place : ℕ) (a b : StillOf) → a ≡ b → IsAlikeAt front place a b
alike_at front place a b e = (record { dates = ap (λ (s : StillOf). s.card.dates) e; bytes = ap (λ (s : StillOf). s.bytes) e }, λ past. e)

-- an object of a ledger that stands alike stands among all of them
pub among_at : (front place at : ℕ) (a : StillOf) (m : Meaning) (h : Held) → slice_get m.objects at ≡ Some h → IsAlikeAt front place a (still m.secrets h) → (place < front → at ≡ place) → StandsAmong front place a (stills m)
among_at front place at a m h there alike own = record { at = at; other = still m.secrets h; there = get_at (still m.secrets) m.objects at h there; alike = alike; own = own }

-- those from a place on stand among these, and the one before it does
pub among_on : (front : ℕ) (objects : List Shared) (all : List StillOf) (place : ℕ) (s : Shared) → 0 < place → place ≤ length objects → s ≡ get_or objects (place - 1) s → StandsAmong front (place - 1) (still_shared s) all
    → ((k : ℕ) (t : Shared) → place ≤ k → slice_get objects k ≡ Some t → StandsAmong front k (still_shared t) all)
    → (k : ℕ) (t : Shared) → place - 1 ≤ k → slice_get objects k ≡ Some t → StandsAmong front k (still_shared t) all
among_on front objects all place s some within read is before k t from at = elim (same_or k (place - 1)) [
  | inl e ↦
      let own : slice_get objects (place - 1) ≡ Some s = slice_get_read objects (length objects) (place - 1) s refl (omega (arith, some, within)) read in
      let P : ℕ → Type 0 = λ i. slice_get objects i ≡ Some t in
      let both : Some s ≡ Some t = sym own ∙ subst P e at in
      let same : s ≡ t = cc in
      let R : ℕ → Type 0 = λ i. StandsAmong front i (still_shared t) all in
      let S : Shared → Type 0 = λ z. StandsAmong front (place - 1) (still_shared z) all in
      subst R (sym e) (subst S same is)
  | inr d ↦ before k t (omega (arith, from, d, some)) at
]

pub all_among : (front : ℕ) (objects : List Shared) (all : List StillOf) → length objects ≡ length all → ((k : ℕ) (s : Shared) → 0 ≤ k → slice_get objects k ≡ Some s → StandsAmong front k (still_shared s) all)
    → StandAmong front (stills_shared objects) all
all_among front objects all long h = record {
  long = length-map objects still_shared ∙ long;
  each = λ k a at.
      let s = mapped_from still_shared objects k a at in
      let P : StillOf → Type 0 = λ z. StandsAmong front k z all in
      subst P s.2 (h k s.0 (omega arith) s.1);
}

pub all_names : (names others : List Name) → length names ≡ length others → ((k : ℕ) (a b : Name) → 0 ≤ k → slice_get names k ≡ Some a → slice_get others k ≡ Some b → name_of a ≡ name_of b) → map name_of names ≡ map name_of others
all_names names others long h =
    same_elements (map name_of names) (map name_of others) (length-map names name_of ∙ long ∙ sym (length-map others name_of))
    (λ i x at.
    let a = mapped_from name_of names i x at in
    let b = some_at others i (let w = slice_get_within names i a.0 a.1 in omega (arith, w, long)) in
    let P : NameOf → Type 0 = λ z. slice_get (map name_of others) i ≡ Some z in
    subst P (sym (h i a.0 b.0 (omega arith) a.1 b.1) ∙ a.2) (get_at name_of others i b.0 b.1))
