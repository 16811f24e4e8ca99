-- What is remembered of what was looked for says of the objects.
use Rattle.std.proofs.Common.{◌≡◌, ◌≢◌, ◌<◌, ◌≤◌, ◌==◌, ◌+◌, ◌-◌, ◌||◌, ◌⊎◌, ℕ, zero, suc, Bool, true, false, List, [], ◌∷◌, ◌++◌, length, map, take, Option, Some, None, option_map, slice_get, get_or, ℤ, refl, ap, sym, ◌∙◌, subst, inl, inr, arith}
use Rattle.std.specs.declared.cmp.Ordering.TheVariants.{Less}
use Rattle.std.specs.Ordering.{nat_cmp, ordering_then}
use Rattle.std.specs.BTreeMap.{is_at}
use Rattle.std.specs.BTreeSet.{insert_key}
use Rattle.std.proofs.lemmas.Bool.{false_from_ne_true}
use Rattle.std.proofs.lemmas.Bool.Decides.{nat_tests}
use Rattle.kmipa_attrs.specs.Sets.{NameOf, name_of}
use Rattle.kmipa_attrs.specs.declared.name.Name.{Name}
use Rattle.kmipa_object.specs.Lists.{updated}
use Rattle.kmipa_object.specs.declared.life.Life.{Life}
use Rattle.kmipa_object.proofs.ListLemmas.{below_get, get-at, get_below, get-append_cases}
use Rattle.kmipa_store.specs.Ledger.{Held, relived, with_life}
use Rattle.kmipa_store.specs.Names.{Named, is_listed, named_cmp}
use Rattle.kmipa_store.specs.Objects.{become, exchanged}
use Rattle.kmipa_store.specs.Queries.{AllLack, Lasting, Leaps, lacks, lacks_feature, lacks_name}
use Rattle.kmipa_store.specs.Sought.{DifferAt, IsNumberOf, KnowsSought, LacksAt, asked_by, is_kept}
use Rattle.kmipa_store.specs.declared.feature.Feature.TheVariants.{Kind, Algorithm, Length}
use Rattle.kmipa_store.specs.declared.sought.Sought.{Sought}
use Rattle.kmipa_store.specs.declared.sought.Wanted.{Wanted}
use Rattle.kmipa_store.proofs.FeatureLemmas.{kept_before}
use Rattle.kmipa_store.proofs.NameLemmas.{Rests, less_than, named_itself, none_before, still_under, tied, under}
use Rattle.kmipa_store.proofs.OrderLemmas.{found_inserted, still_found}

none_there : {X : Type 0} (xs : List X) (i : ℕ) (x : X) → xs ≡ [] → slice_get xs i ≡ Some x → ⊥
none_there [] i x e at = cc
none_there (y ∷ ys) i x e at = cc

-- where there is no filter, nothing is claimed
pub none_sought : (s : Sought) (objects : List Held) → s.wanted.items ≡ [] → KnowsSought s objects
none_sought s objects e = λ i w at. absurd (none_there s.wanted.items i w e at)

-- what was read there
pub read_at : (xs : List Wanted) (n : ℕ) (x w : Wanted) → n < length xs → x ≡ get_or xs n x → slice_get xs n ≡ Some w → x ≡ w
read_at xs n x w within is at = let both : Some x ≡ Some w = sym (get-at xs n x within is) ∙ at in cc

-- A LOOK-UP

module _ (s : Sought) (objects : List Held) (i : ℕ) (w : Wanted) (from : ℕ) (knows : KnowsSought s objects) (at : slice_get s.wanted.items i ≡ Some w) where
  -- one that isn't listed, ahead of the end
  lacks_unlisted : (p : ℕ) (h : Held) → p < w.end → is_kept s i p ≡ false → slice_get objects p ≡ Some h → lacks (asked_by w) h ≡ true
  lacks_unlisted p h below gone here =
      let l = knows i w at p below gone in
      let both : Some l.0 ≡ Some h = sym l.1 ∙ here in
      let same : l.0 ≡ h = cc in
      ap (lacks (asked_by w)) (sym same) ∙ l.2

  pub ahead_none : (rest : List Named) → rest ≡ under i from w.end s.by_number.keys → rest ≡ [] → from ≤ w.end → Leaps (asked_by w) objects from w.end
  ahead_none rest e none le = (
    le,
    λ p h low below here. lacks_unlisted p h below (false_from_ne_true (is_kept s i p) (λ kept.
        let u = still_under i from w.end s.by_number.keys p 0 low below kept in
        let clash : true ≡ false = sym u ∙ ap (λ (x : List Named). is_listed x i p 0) (sym e) ∙ ap (λ (x : List Named). is_listed x i p 0) none in
        cc)) here,
  )

  pub ahead_one : (one : Named) (rest : List Named) (to : ℕ) → one ∷ rest ≡ under i from w.end s.by_number.keys → Rests i from (one ∷ rest) → to ≤ w.end → to ≤ one.1 → from ≤ to → Leaps (asked_by w) objects from to
  ahead_one one rest to e r up on le = (
    le,
    λ p h low below here.
        let within : p < w.end = omega (arith, below, up) in
        let before : p < one.1 = omega (arith, below, on) in
        lacks_unlisted p h within (false_from_ne_true (is_kept s i p) (λ kept.
        let u = still_under i from w.end s.by_number.keys p 0 low within kept in
        let less : named_cmp (i, p, 0) one ≡ Less =
        ap (λ (m : ℕ). ordering_then (ordering_then (nat_cmp i m) (nat_cmp p one.1)) (nat_cmp 0 one.2)) (sym r.inside.0.0)
        ∙ ap (λ o. ordering_then (ordering_then o (nat_cmp p one.1)) (nat_cmp 0 one.2)) (tied i) ∙ ap (λ o. ordering_then o (nat_cmp 0 one.2)) (less_than p one.1 before) in
        let clash : true ≡ false = sym u ∙ ap (λ (x : List Named). is_listed x i p 0) (sym e) ∙ none_before (i, p, 0) one rest r.sorted less in
        cc)) here,
  )

  pub from_of : (one : Named) (rest : List Named) → Rests i from (one ∷ rest) → from ≤ one.1
  from_of one rest r = r.inside.0.1

-- by a number of the same
pub leaps_by : (s : Sought) (objects : List Held) (asked : Lasting) (number from to : ℕ) → IsNumberOf s asked number
    → ((w : Wanted) (hs : List Held) → slice_get s.wanted.items number ≡ Some w → KnowsSought s hs → Leaps (asked_by w) hs from to) → KnowsSought s objects → Leaps asked objects from to
leaps_by s objects asked number from to n f knows = subst (λ (x : Lasting). Leaps x objects from to) n.2 (f n.0 objects n.1 knows)

pub number_within : (s : Sought) (asked : Lasting) (number : ℕ) → IsNumberOf s asked number → number < length s.wanted.items
number_within s asked number n = get_below s.wanted.items number n.0 n.1

-- WHAT IS REMEMBERED

-- filters that stay, of which more is listed
abbrev pub KeepsSought : Sought → Sought → Type 0
KeepsSought old new = (new.wanted.items ≡ old.wanted.items) × ((i p : ℕ) → is_kept old i p ≡ true → is_kept new i p ≡ true)

unlisted_before : (old new : Sought) → ((i p : ℕ) → is_kept old i p ≡ true → is_kept new i p ≡ true) → (i p : ℕ) → is_kept new i p ≡ false → is_kept old i p ≡ false
unlisted_before old new keeps i p gone = false_from_ne_true (is_kept old i p) (λ kept. let clash : true ≡ false = sym (keeps i p kept) ∙ gone in cc)

-- a new filter, of which nothing is claimed
pub sought_begun : (old new : Sought) (w : Wanted) (objects : List Held) → new.wanted.items ≡ old.wanted.items ++ w ∷ [] → new.by_number.keys ≡ old.by_number.keys → w.end ≡ 0 → KnowsSought old objects → KnowsSought new objects
sought_begun old new w objects items keys none knows = λ i v at p below gone.
    elim (get-append_cases old.wanted.items w i v (ap (λ (x : List Wanted). slice_get x i) (sym items) ∙ at)) [
      | inl b ↦ knows i v b p below (ap (λ (x : List Named). is_listed x i p 0) (sym keys) ∙ gone)
      | inr b ↦
          let first : v.end ≡ 0 = ap (λ (x : Wanted). x.end) b.1 ∙ none in
          absurd (omega (arith, below, first))
    ]

-- the same filter with another end
set_cases : (xs : List Wanted) (n i : ℕ) (v x : Wanted) → slice_get (updated xs n (λ _. v)) i ≡ Some x → ((i ≢ n) × (slice_get xs i ≡ Some x)) ⊎ ((i ≡ n) × (v ≡ x))
set_cases [] n i v x e = absurd (none_there [] i x refl e)
set_cases (y ∷ ys) zero zero v x e = inr (refl, cc)
set_cases (y ∷ ys) zero (suc i) v x e = inl ((λ h. cc), e)
set_cases (y ∷ ys) (suc n) zero v x e = inl ((λ h. cc), e)
set_cases (y ∷ ys) (suc n) (suc i) v x e = (elim (set_cases ys n i v x e) [ inl a ↦ inl ((λ h. a.0 (omega (arith, h))), a.1) | inr b ↦ inr (ap suc b.0, b.1) ])

lt_or_le : (a b : ℕ) → (a < b) ⊎ (b ≤ a)
lt_or_le a zero = inr (omega arith)
lt_or_le zero (suc b) = inl (omega arith)
lt_or_le (suc a) (suc b) = elim (lt_or_le a b) [ inl h ↦ inl (omega arith) | inr h ↦ inr (omega arith) ]

module _ (old new : Sought) (number : ℕ) (w v : Wanted) (at : slice_get old.wanted.items number ≡ Some w) (items : new.wanted.items ≡ updated old.wanted.items number (λ _. v)) (same : asked_by v ≡ asked_by w)
    (objects : List Held) (knows : KnowsSought old objects) where
  -- what stays is still known, and what is new by this
  known_by : ((i p : ℕ) → is_kept old i p ≡ true → is_kept new i p ≡ true) → ((p : ℕ) → w.end ≤ p → p < v.end → is_kept new number p ≡ false → LacksAt (asked_by w) objects p) → KnowsSought new objects
  known_by keeps more i x here p below gone =
      let before = unlisted_before old new keeps i p gone in
      elim (set_cases old.wanted.items number i v x (ap (λ (z : List Wanted). slice_get z i) (sym items) ∙ here)) [
        | inl a ↦ knows i x a.1 p below before
        | inr b ↦
            let P : Lasting → Type 0 = λ a. LacksAt a objects p in
            let Q : ℕ → Type 0 = λ k. is_kept new k p ≡ false in
            let R : ℕ → Type 0 = λ k. is_kept old k p ≡ false in
            let under : p < v.end = let e : v.end ≡ x.end = ap (λ (z : Wanted). z.end) b.1 in omega (arith, below, e) in
            subst P (sym same ∙ ap asked_by b.1)
            (elim (lt_or_le p w.end) [
              | inl low ↦ knows number w at p low (subst R b.0 before)
              | inr high ↦ more p high under (subst Q b.0 gone)
            ])
      ]

  pub sought_extended : (from : ℕ) → new.by_number.keys ≡ old.by_number.keys → from ≤ w.end → v.end ≤ length objects → AllLack (asked_by w) objects from v.end → KnowsSought new objects
  sought_extended from keys le long lack = known_by (λ i p h. ap (λ (x : List Named). is_listed x i p 0) keys ∙ h) (λ p high below gone.
      let g = below_get objects p (omega (arith, below, long)) in
      (g.0, g.1, lack p g.0 (omega (arith, le, high)) below g.1))

  pub sought_listed : (place : ℕ) → new.by_number.keys ≡ insert_key named_cmp old.by_number.keys (number, place, 0) → w.end ≡ place → v.end ≡ place + 1 → KnowsSought new objects
  sought_listed place keys is end = known_by (λ i p h.
      ap (λ (x : List Named). is_listed x i p 0) keys ∙ still_found named_cmp (number, place, 0) (named_itself (number, place, 0)) (is_at (named_cmp (i, p, 0))) old.by_number.keys h) (λ p high below gone.
      let here : p ≡ place = omega (arith, high, below, is, end) in
      let there : is_kept new number p ≡ true =
      ap (λ (x : List Named). is_listed x number p 0) keys ∙ ap (λ (k : ℕ). is_listed (insert_key named_cmp old.by_number.keys (number, place, 0)) number k 0) here
      ∙ found_inserted named_cmp (number, place, 0) (named_itself (number, place, 0)) old.by_number.keys in
      let clash : true ≡ false = sym there ∙ gone in
      cc)

-- A PLACE THAT CHANGES

-- it is listed for the filters before one
pub record Touched (old : Sought) (place count : ℕ) (now : Sought) : Type 0 where
  pub keeps : KeepsSought old now
  pub lists : (i : ℕ) (w : Wanted) → i < count → slice_get old.wanted.items i ≡ Some w → place < w.end → is_kept now i place ≡ true

same_count : (i count : ℕ) → i < count + 1 → (i < count) ⊎ (i ≡ count)
same_count i count below = elim (lt_or_le i count) [ inl a ↦ inl a | inr b ↦ inr (omega (arith, below, b)) ]

pub touched_on : (old now new : Sought) (place number : ℕ) → Touched old place number now → new.wanted.items ≡ now.wanted.items → new.by_number.keys ≡ insert_key named_cmp now.by_number.keys (number, place, 0)
    → Touched old place (number + 1) new
touched_on old now new place number t items keys =
    let more : (i p : ℕ) → is_kept now i p ≡ true → is_kept new i p ≡ true = λ i p h.
    ap (λ (x : List Named). is_listed x i p 0) keys ∙ still_found named_cmp (number, place, 0) (named_itself (number, place, 0)) (is_at (named_cmp (i, p, 0))) now.by_number.keys h in
    record {
      keeps = (items ∙ t.keeps.0, λ i p h. more i p (t.keeps.1 i p h));
      lists = λ i x below there under. elim (same_count i number below) [
        | inl a ↦ more i place (t.lists i x a there under)
        | inr b ↦
            ap (λ (z : List Named). is_listed z i place 0) keys ∙ ap (λ (k : ℕ). is_listed (insert_key named_cmp now.by_number.keys (number, place, 0)) k place 0) b
            ∙ found_inserted named_cmp (number, place, 0) (named_itself (number, place, 0)) now.by_number.keys
      ];
    }

pub touched_all : (old new : Sought) (place count : ℕ) (objects others : List Held) → Touched old place count new → length old.wanted.items ≤ count → DifferAt place objects others → KnowsSought old objects → KnowsSought new others
touched_all old new place count objects others t all differ knows = λ i w at p below gone.
    let was : slice_get old.wanted.items i ≡ Some w = ap (λ (z : List Wanted). slice_get z i) (sym t.keeps.0) ∙ at in
    let within = get_below old.wanted.items i w was in
    (elim (p == place) as (λ r. (p == place) ≡ r → LacksAt (asked_by w) others p) [
      | true ↦ λ e.
          let same : p ≡ place = grind (arith, nat_tests, e) in
          let under : place < w.end = omega (arith, below, same) in
          let clash : true ≡ false = sym (t.lists i w (omega (arith, within, all)) was under) ∙ ap (is_kept new i) (sym same) ∙ gone in
          cc
      | false ↦ λ e.
          let other : p ≢ place = λ same. let yes : (place == place) ≡ false = ap (λ (k : ℕ). k == place) (sym same) ∙ e in grind (arith, nat_tests) in
          let l = knows i w was p below (unlisted_before old new t.keeps.1 i p gone) in
          (l.0, differ p l.0 other l.1, l.2)
    ]) refl

-- THE OBJECTS OF THE PRESENT

pub sought_more : (s : Sought) (objects ys : List Held) (h : Held) → ys ≡ objects ++ h ∷ [] → KnowsSought s objects → KnowsSought s ys
sought_more s objects ys h e knows = λ i w at p below gone.
    let l = knows i w at p below gone in (l.0, ap (λ (x : List Held). slice_get x p) e ∙ kept_before objects h p l.0 l.1, l.2)

-- an object keeps what lasts, whatever life it leads
module _ (h : Held) (life : Life) where
  kind_led : (o : Option ℕ) → lacks_feature (option_map Kind o) (with_life h life) ≡ lacks_feature (option_map Kind o) h
  kind_led None = refl
  kind_led (Some n) = refl

  algorithm_led : (o : Option ℕ) → lacks_feature (option_map Algorithm o) (with_life h life) ≡ lacks_feature (option_map Algorithm o) h
  algorithm_led None = refl
  algorithm_led (Some n) = refl

  length_led : (o : Option ℤ) → lacks_feature (option_map Length o) (with_life h life) ≡ lacks_feature (option_map Length o) h
  length_led None = refl
  length_led (Some n) = refl

  lacks_led : (asked : Lasting) → lacks asked (with_life h life) ≡ lacks asked h
  lacks_led asked =
      let names = lacks_name asked.names h in
      ap (λ (b : Bool). names || b || lacks_feature (option_map Algorithm asked.algorithm) (with_life h life) || lacks_feature (option_map Length asked.length) (with_life h life)) (kind_led asked.object_type)
      ∙ ap (λ (b : Bool). names || lacks_feature (option_map Kind asked.object_type) h || b || lacks_feature (option_map Length asked.length) (with_life h life)) (algorithm_led asked.algorithm)
      ∙ ap (λ (b : Bool). names || lacks_feature (option_map Kind asked.object_type) h || lacks_feature (option_map Algorithm asked.algorithm) h || b) (length_led asked.length)

led_at : (hs : List Held) (place : ℕ) (life : Life) (p : ℕ) (h : Held) → slice_get hs p ≡ Some h → (g : Held) × (slice_get (relived hs place life) p ≡ Some g) × ((g ≡ h) ⊎ (g ≡ with_life h life))
led_at [] place life p h e = absurd (none_there [] p h refl e)
led_at (x ∷ xs) zero life zero h e = let same : x ≡ h = cc in (with_life x life, refl, inr (ap (λ (z : Held). with_life z life) same))
led_at (x ∷ xs) zero life (suc p) h e = (h, e, inl refl)
led_at (x ∷ xs) (suc place) life zero h e = (h, e, inl refl)
led_at (x ∷ xs) (suc place) life (suc p) h e = led_at xs place life p h e

pub sought_led : (s : Sought) (objects ys : List Held) (place : ℕ) (life : Life) → ys ≡ relived objects place life → KnowsSought s objects → KnowsSought s ys
sought_led s objects ys place life e knows = λ i w at p below gone.
    let l = knows i w at p below gone in
    let g = led_at objects place life p l.0 l.1 in (
      g.0,
      ap (λ (x : List Held). slice_get x p) e ∙ g.1,
      (elim g.2 [ inl a ↦ ap (lacks (asked_by w)) a ∙ l.2 | inr b ↦ ap (lacks (asked_by w)) b ∙ lacks_led l.0 life (asked_by w) ∙ l.2 ]),
    )

other_at : (hs : List Held) (place : ℕ) (f : Held → Held) (p : ℕ) (h : Held) → (p ≡ place → ⊥) → slice_get hs p ≡ Some h → slice_get (updated hs place f) p ≡ Some h
other_at [] place f p h other e = e
other_at (x ∷ xs) zero f zero h other e = absurd (other refl)
other_at (x ∷ xs) zero f (suc p) h other e = e
other_at (x ∷ xs) (suc place) f zero h other e = e
other_at (x ∷ xs) (suc place) f (suc p) h other e = other_at xs place f p h (λ same. other (ap suc same)) e

pub differ_exchanged : (hs ys : List Held) (place : ℕ) (h : Held) → ys ≡ exchanged hs place h → DifferAt place hs ys
differ_exchanged hs ys place h e = λ p g other at. ap (λ (x : List Held). slice_get x p) e ∙ other_at hs place (λ x. become x h) p g other at

still_taken : (hs : List Held) (n p : ℕ) (h : Held) → p < n → slice_get hs p ≡ Some h → slice_get (take n hs) p ≡ Some h
still_taken [] zero p h below at = at
still_taken [] (suc n) p h below at = at
still_taken (x ∷ xs) zero p h below at = absurd (omega (arith, below))
still_taken (x ∷ xs) (suc n) zero h below at = at
still_taken (x ∷ xs) (suc n) (suc p) h below at = still_taken xs n p h (omega (arith, below)) at

taken_length : (hs : List Held) (n : ℕ) → n ≤ length hs → length (take n hs) ≡ n
taken_length [] zero le = refl
taken_length [] (suc n) le = absurd (omega (arith, le))
taken_length (x ∷ xs) zero le = refl
taken_length (x ∷ xs) (suc n) le = ap suc (taken_length xs n (omega (arith, le)))

pub popped_place : (hs ys : List Held) (place : ℕ) → ys ≡ take (length hs - 1) hs → place ≡ length ys → place ≡ length hs - 1
popped_place hs ys place e is = is ∙ ap (λ (x : List Held). length x) e ∙ taken_length hs (length hs - 1) (omega arith)

pub differ_popped : (hs ys : List Held) (place : ℕ) → ys ≡ take (length hs - 1) hs → place ≡ length hs - 1 → DifferAt place hs ys
differ_popped hs ys place e is = λ p h other at.
    let within = get_below hs p h at in
    let below : p < length hs - 1 = let o : (p ≡ length hs - 1) → ⊥ = λ same. other (same ∙ sym is) in least p (length hs) within o in
    ap (λ (x : List Held). slice_get x p) e ∙ still_taken hs (length hs - 1) p h below at
  where
    least : (p n : ℕ) → p < n → ((p ≡ n - 1) → ⊥) → p < n - 1
    least p n below other = elim (lt_or_le p (n - 1)) [ inl a ↦ a | inr b ↦ absurd (other (omega (arith, below, b))) ]

-- NAMES

pub all_names : (names others : List Name) → length names ≡ length others → ((k : ℕ) (a b : Name) → 0 ≤ k → slice_get names k ≡ Some a → slice_get others k ≡ Some b → name_of a ≡ name_of b) → map name_of names ≡ map name_of others
all_names [] [] long h = refl
all_names [] (y ∷ ys) long h = absurd (omega (arith, long))
all_names (x ∷ xs) [] long h = absurd (omega (arith, long))
all_names (x ∷ xs) (y ∷ ys) long h =
    let here : name_of x ≡ name_of y = h 0 x y (omega arith) refl refl in
    let rest = all_names xs ys (omega (arith, long)) (λ k a b z at there. h (suc k) a b (omega arith) at there) in
    ap (λ (n : NameOf). n ∷ map name_of xs) here ∙ ap (λ (ns : List NameOf). name_of y ∷ ns) rest
