-- An order that is handed in is looked at place by place.
use Rattle.std.proofs.Common.{◌≡◌, ◌≢◌, ◌≤◌, ◌<◌, ◌⊎◌, inl, inr, ℕ, zero, suc, ◌+◌, ◌-◌, Bool, true, false, List, [], ◌∷◌, ◌++◌, length, map, take, Option, Some, None, option_map, slice_get, slice_set, replicate, get_or, refl, sym, ap, ◌∙◌, subst, arith, add-one}
use Rattle.std.specs.Prelude.{nat_eq}
use Rattle.std.proofs.lemmas.Bool.Decides.{nat_tests}
use Rattle.std.proofs.lemmas.List.{length-map, take_all}
use Rattle.std.proofs.lemmas.Option.{slice_get-map, slice_get-get_or, slice_get_within, get_or_from_slice_get}
use Rattle.kmipa_object.proofs.ListLemmas.{below_get, get-append_last}
use Rattle.kmipa_msgs.specs.declared.request.BatchOption.TheVariants.{Continue}
use Rattle.kmipa_msgs.specs.Messages.{RequestOf, ResponseOf}
use Rattle.kmipa_batch.specs.Shapes.{IsFirstFailed}
use Rattle.kmipa_batch.specs.Fits.{FailedAt}
use Rattle.kmipa_batch.specs.Orders.{AreTakingOrder}
use Rattle.kmipa_batch.specs.Standing.{StandOnce, Sees, EndsAt}
use Rattle.kmipa_batch.proofs.ShapeLemmas.{less_or_not, none_first, same_first}
use Rattle.kmipa_batch.proofs.OrderLemmas.{take_next}

-- how many were seen
abbrev pub trues : List Bool → ℕ
trues [] = 0
trues (true ∷ seen) = suc (trues seen)
trues (false ∷ seen) = trues seen

trues_none : (n : ℕ) → trues (replicate n false) ≡ 0
trues_none zero = refl
trues_none (suc n) = trues_none n

none_seen : (n k : ℕ) → slice_get (replicate n false) k ≡ Some true → ⊥
none_seen zero k e = let bad : ⊥ = cc in bad
none_seen (suc n) zero e = let bad : ⊥ = cc in bad
none_seen (suc n) (suc k) e = none_seen n k e

length_none : (n : ℕ) → length (replicate n false) ≡ n
length_none zero = refl
length_none (suc n) = ap suc (length_none n)

trues_more : (seen : List Bool) (k : ℕ) → slice_get seen k ≡ Some false → trues (slice_set seen k true) ≡ suc (trues seen)
trues_more [] k e = let bad : ⊥ = cc in absurd bad
trues_more (true ∷ seen) zero e = let bad : ⊥ = cc in absurd bad
trues_more (false ∷ seen) zero e = refl
trues_more (true ∷ seen) (suc k) e = ap suc (trues_more seen k e)
trues_more (false ∷ seen) (suc k) e = trues_more seen k e

trues_few : (seen : List Bool) → trues seen ≤ length seen
trues_few [] = omega arith
trues_few (true ∷ seen) = let h = trues_few seen in omega (arith, h)
trues_few (false ∷ seen) = let h = trues_few seen in omega (arith, h)

trues_all : (seen : List Bool) → trues seen ≡ length seen → (k : ℕ) → k < length seen → slice_get seen k ≡ Some true
trues_all [] e k h = absurd (omega (arith, h))
trues_all (true ∷ seen) e zero h = refl
trues_all (true ∷ seen) e (suc k) h = trues_all seen (omega (arith, e)) k (omega (arith, h))
trues_all (false ∷ seen) e k h = let few = trues_few seen in absurd (omega (arith, e, few))

all_trues : (seen : List Bool) → ((k : ℕ) → k < length seen → slice_get seen k ≡ Some true) → trues seen ≡ length seen
all_trues [] h = refl
all_trues (true ∷ seen) h = ap suc (all_trues seen (λ k below. h (suc k) (omega (arith, below))))
all_trues (false ∷ seen) h = let e : Some false ≡ Some true = h zero (omega arith) in let bad : ⊥ = cc in absurd bad

set_same : (seen : List Bool) (k : ℕ) → slice_get seen k ≡ Some false → slice_get (slice_set seen k true) k ≡ Some true
set_same [] k e = let bad : ⊥ = cc in absurd bad
set_same (x ∷ seen) zero e = refl
set_same (x ∷ seen) (suc k) e = set_same seen k e

set_other : (seen : List Bool) (k j : ℕ) → j ≢ k → slice_get (slice_set seen k true) j ≡ slice_get seen j
set_other [] k j h = refl
set_other (x ∷ seen) zero zero h = absurd (h refl)
set_other (x ∷ seen) zero (suc j) h = refl
set_other (x ∷ seen) (suc k) zero h = refl
set_other (x ∷ seen) (suc k) (suc j) h = set_other seen k j (λ e. h (ap suc e))

set_long : (seen : List Bool) (k : ℕ) → length (slice_set seen k true) ≡ length seen
set_long [] k = refl
set_long (x ∷ seen) zero = refl
set_long (x ∷ seen) (suc k) = ap suc (set_long seen k)

-- a test of two numbers
pub reported_equal : (a b : ℕ) → nat_eq a b ≡ true → a ≡ b
reported_equal a b e = grind (arith, nat_tests)

pub equal_reported : (a b : ℕ) → a ≡ b → nat_eq a b ≡ true
equal_reported a b e = grind (arith, nat_tests)

-- numbers are equal, or they aren't
same_or_not : (a b : ℕ) → (a ≡ b) ⊎ (a ≢ b)
same_or_not zero zero = inl refl
same_or_not zero (suc b) = inr (λ e. omega (arith, e))
same_or_not (suc a) zero = inr (λ e. omega (arith, e))
same_or_not (suc a) (suc b) = elim (same_or_not a b) [ inl e ↦ inl (ap suc e) | inr h ↦ inr (λ e. h (omega (arith, e))) ]

below_next : (i n : ℕ) → i < n + 1 → (i < n) ⊎ (i ≡ n)
below_next i n h = elim (less_or_not i n) [ inl x ↦ inl x.0 | inr x ↦ inr (let g : n ≤ i = x.0 in omega (arith, h, g)) ]

-- so many places were seen, each once, and none besides
pub record Seen (places : List ℕ) (count position : ℕ) (seen : List Bool) : Type 0 where
  pub long : length seen ≡ count
  pub many : trues seen ≡ position
  pub upto : position ≤ length places
  pub marked : (k : ℕ) → slice_get seen k ≡ Some true → (i : ℕ) × (i < position) × (slice_get places i ≡ Some (suc k))
  pub marks : (i place : ℕ) → i < position → slice_get places i ≡ Some place → (k : ℕ) × (place ≡ suc k) × (slice_get seen k ≡ Some true)
  pub once : (i j place : ℕ) → i < position → j < position → slice_get places i ≡ Some place → slice_get places j ≡ Some place → i ≡ j

pub seen_none : (places : List ℕ) (count : ℕ) (seen : List Bool) → seen ≡ replicate count false → Seen places count 0 seen
seen_none places count seen is = subst (λ (s : List Bool). Seen places count 0 s) (sym is) (record {
  long = length_none count;
  many = trues_none count;
  upto = omega arith;
  marked = λ k e. absurd (none_seen count k e);
  marks = λ i place h e. absurd (omega (arith, h));
  once = λ i j place h g e f. absurd (omega (arith, h));
})

module _ (places : List ℕ) (count position : ℕ) (seen : List Bool) (s : Seen places count position seen) where
  module _ (place : ℕ) (there : slice_get places position ≡ Some place) where
    module _ (k : ℕ) (is : place ≡ suc k) (free : slice_get seen k ≡ Some false) where
      -- what stood before is no place that was free
      free_of : (i : ℕ) → i < position → slice_get places i ≡ Some place → ⊥
      free_of i h e =
          let m = s.marks i place h e in
          let same : m.0 ≡ k = (let a = m.1 in omega (arith, a, is)) in
          let P : ℕ → Type 0 = λ n. slice_get seen n ≡ Some true in
          let one : slice_get seen k ≡ Some true = subst P same m.2 in
          let bad : ⊥ = cc in bad

      more_marked : (j : ℕ) → slice_get (slice_set seen k true) j ≡ Some true → (i : ℕ) × (i < position + 1) × (slice_get places i ≡ Some (suc j))
      more_marked j e = elim (same_or_not j k) [
        | inl same ↦ (position, omega arith, there ∙ ap Some (is ∙ ap suc (sym same)))
        | inr differs ↦ (let m = s.marked j (sym (set_other seen k j differs) ∙ e) in (m.0, (let h = m.1 in omega (arith, h)), m.2))
      ]

      more_marks : (i other : ℕ) → i < position + 1 → slice_get places i ≡ Some other → (j : ℕ) × (other ≡ suc j) × (slice_get (slice_set seen k true) j ≡ Some true)
      more_marks i other h e = elim (below_next i position h) [
        | inr last ↦ (
            let P : ℕ → Type 0 = λ n. slice_get places n ≡ Some other in
            let two : Some place ≡ Some other = sym there ∙ subst P last e in
            let one : place ≡ other = cc in
            (k, sym one ∙ is, set_same seen k free))
        | inl below ↦ (
            let m = s.marks i other below e in
            let differs : m.0 ≢ k = λ same.
            free_of i below (e ∙ ap Some (m.1 ∙ ap suc same ∙ sym is)) in
            (m.0, m.1, set_other seen k m.0 differs ∙ m.2))
      ]

      more_once : (i j other : ℕ) → i < position + 1 → j < position + 1 → slice_get places i ≡ Some other → slice_get places j ≡ Some other → i ≡ j
      more_once i j other h g e f = elim (below_next i position h) [
        | inl a ↦ (elim (below_next j position g) [
          | inl b ↦ s.once i j other a b e f
          | inr b ↦ absurd (free_of i a (e ∙ sym f ∙ ap (slice_get places) b ∙ there))
        ])
        | inr a ↦ (elim (below_next j position g) [
          | inl b ↦ absurd (free_of j b (f ∙ sym e ∙ ap (slice_get places) a ∙ there))
          | inr b ↦ a ∙ sym b
        ])
      ]

      seen_next : Seen places count (position + 1) (slice_set seen k true)
      seen_next = record {
        long = set_long seen k ∙ s.long;
        many = trues_more seen k free ∙ ap suc s.many ∙ sym (add-one position);
        upto = let h = slice_get_within places position place there in omega (arith, h);
        marked = more_marked;
        marks = more_marks;
        once = more_once;
      }

    pub seen_more : (after : List Bool) → Sees seen place true after → Seen places count (position + 1) after
    seen_more after x = subst (λ (l : List Bool). Seen places count (position + 1) l) (sym x.3) (seen_next x.0 x.1 x.2)

    seen_twice : (k : ℕ) → slice_get seen k ≡ Some true → slice_get places position ≡ Some (suc k) → StandOnce places count → ⊥
    seen_twice k e here o =
        let m = s.marked k e in
        let same : m.0 ≡ position = o.once m.0 position (suc k) m.2 here in
        let h = m.1 in omega (arith, h, same)

    pub seen_stops : (after : List Bool) → Sees seen place false after → StandOnce places count → ⊥
    seen_stops after x o =
        let w = o.within position place there in
        let b = below_get seen w.0 (let h = w.2 in let l = s.long in omega (arith, h, l)) in
        by w.0 w.1 b.0 b.1
      where
        by : (k : ℕ) → place ≡ suc k → (b : Bool) → slice_get seen k ≡ Some b → ⊥
        by k is true e = seen_twice k e (there ∙ ap Some is) o
        by k is false e = x k is e

  -- after all places
  module _ (past : length places ≤ position) where
    whole : position ≡ length places
    whole = let h = s.upto in omega (arith, past, h)

    pub seen_all : length places ≡ count → StandOnce places count
    seen_all e =
        let full : trues seen ≡ length seen = (let m = s.many in let l = s.long in let w = whole in omega (arith, m, l, w, e)) in
        record {
          within = λ i place at.
              let below = slice_get_within places i place at in
              let m = s.marks i place (let w = whole in omega (arith, below, w)) at in
              let h = slice_get_within seen m.0 true m.2 in
              (m.0, m.1, (let l = s.long in omega (arith, h, l)));
          all = λ k h. let m = s.marked k (trues_all seen full k (let l = s.long in omega (arith, h, l))) in (m.0, m.2);
          once = λ i j place a b.
              let x = slice_get_within places i place a in
              let y = slice_get_within places j place b in
              let w = whole in s.once i j place (omega (arith, x, w)) (omega (arith, y, w)) a b;
        }

    pub seen_many : StandOnce places count → length places ≡ count
    seen_many o =
        let full : trues seen ≡ length seen = all_trues seen (λ k h.
        let a = o.all k (let l = s.long in omega (arith, h, l)) in
        let x = slice_get_within places a.0 (suc k) a.1 in
        let m = s.marks a.0 (suc k) (let w = whole in omega (arith, x, w)) a.1 in
        let same : m.0 ≡ k = (let e = m.1 in omega (arith, e)) in
        let P : ℕ → Type 0 = λ n. slice_get seen n ≡ Some true in
        subst P same m.2) in
        let m = s.many in let l = s.long in let w = whole in omega (arith, m, l, w, full)

-- the places from 1 and the order from 0
abbrev before : ℕ → ℕ
before place = place - 1

order_there : (places : List ℕ) (position place : ℕ) → slice_get places position ≡ Some place → slice_get (map before places) position ≡ Some (place - 1)
order_there places position place e = slice_get-map before places position ∙ ap (option_map before) e

behind_there : (places : List ℕ) (position k : ℕ) → slice_get places position ≡ Some (suc k) → slice_get (map before places) position ≡ Some k
behind_there places position k e = let is : suc k - 1 ≡ k = omega arith in order_there places position (suc k) e ∙ ap Some is

place_there : (places : List ℕ) (position k : ℕ) → slice_get (map before places) position ≡ Some k → (place : ℕ) × (slice_get places position ≡ Some place) × (place - 1 ≡ k)
place_there places position k e =
    let h : position < length places = (let x = slice_get_within (map before places) position k e in omega (arith, x, length-map places before)) in
    let p = below_get places position h in
    let two : Some (p.0 - 1) ≡ Some k = sym (order_there places position p.0 p.1) ∙ e in
    let one : p.0 - 1 ≡ k = cc in
    (p.0, p.1, one)

module _ (request : RequestOf) (response : ResponseOf) (places : List ℕ) (count : ℕ) (few : (k : ℕ) → suc k ≤ count → (k < length request.items) × (k < length response.items))
    (most : (k : ℕ) → k < length request.items → k < length response.items → suc k ≤ count) where
  abbrev order : List ℕ
  order = map before places

  module _ (o : StandOnce places count) where
    one_at : (position k : ℕ) → slice_get order position ≡ Some k → slice_get places position ≡ Some (suc k)
    one_at position k e =
        let p = place_there places position k e in
        let w = o.within position p.0 p.1 in
        let is : p.0 ≡ suc k = (let a = w.1 in let b = p.2 in omega (arith, a, b)) in
        p.1 ∙ ap Some is

    stands_last : (f : ℕ) → slice_get places (length places - 1) ≡ Some (suc f) → (front : List ℕ) × (order ≡ front ++ f ∷ [])
    stands_last f e =
        let n : ℕ = length places - 1 in
        let at : slice_get order n ≡ Some f = behind_there places n f e in
        let h = slice_get_within places n (suc f) e in
        let long : length order ≤ suc n = (let l = length-map places before in omega (arith, l, h)) in
        (take n order, sym (take_all (suc n) order long) ∙ take_next order n f at)

    stands_last_of : (option : Option ℕ) → FailedAt response.items option → request.option ≢ Continue → EndsAt request.option option places → (f : ℕ) → IsFirstFailed response.items f
        → (front : List ℕ) × (order ≡ front ++ f ∷ [])
    stands_last_of None at ends e f w = absurd (none_first response.items f at w)
    stands_last_of (Some g) at ends e f w =
        let same : g ≡ f = same_first response.items g f at w in
        stands_last f (e ends f (ap Some same) ∙ ap Some (add-one f))

    pub are_order : (failed : Option ℕ) → FailedAt response.items failed → EndsAt request.option failed places → AreTakingOrder request response places
    are_order failed first e = (
      λ k d below.
          let at = slice_get-get_or places k d below in
          let w = o.within k (get_or places k d) at in
          let is = w.1 in omega (arith, is),
      record {
        answered = λ position k at. let w = o.within position (suc k) (one_at position k at) in few k (let a = w.1 in let b = w.2 in omega (arith, a, b));
        all = λ k h. let a = o.all k (most k h.0 h.1) in (a.0, behind_there places a.0 k a.1);
        once = λ i j k a b. o.once i j (suc k) (one_at i k a) (one_at j k b);
        last = λ ends f w. stands_last_of failed first ends e f w;
      },
    )

  module _ (a : AreTakingOrder request response places) where
    from_one : (position place : ℕ) → slice_get places position ≡ Some place → place ≡ suc (place - 1)
    from_one position place e =
        let h = slice_get_within places position place e in
        let P : ℕ → Type 0 = λ n. 1 ≤ n in
        let x : 1 ≤ place = subst P (get_or_from_slice_get places position place place e) (a.0 position place h) in
        omega (arith, x)

    at_one : (position k : ℕ) → slice_get order position ≡ Some k → slice_get places position ≡ Some (suc k)
    at_one position k e =
        let p = place_there places position k e in
        let one = from_one position p.0 p.1 in
        let is : p.0 ≡ suc k = (let b = p.2 in omega (arith, one, b)) in
        p.1 ∙ ap Some is

    pub stand_once : StandOnce places count
    stand_once = record {
      within = λ position place e.
          let h = a.1.answered position (place - 1) (order_there places position place e) in
          (place - 1, from_one position place e, most (place - 1) h.0 h.1);
      all = λ k h. let x = a.1.all k (few k h) in (x.0, at_one x.0 k x.1);
      once = λ i j place e f. a.1.once i j (place - 1) (order_there places i place e) (order_there places j place f);
    }

    pub ends_at : (failed : Option ℕ) → FailedAt response.items failed → EndsAt request.option failed places
    ends_at failed first ends f is =
        let at : IsFirstFailed response.items f = subst (λ (o : Option ℕ). FailedAt response.items o) is first in
        let l = a.1.last ends f at in
        let long : length order ≡ length (l.0 ++ f ∷ []) = ap length l.1 in
        let here : slice_get order (length l.0) ≡ Some f = ap (λ (xs : List ℕ). slice_get xs (length l.0)) l.1 ∙ get-append_last l.0 f in
        let n : length places - 1 ≡ length l.0 = (let m = length-map places before in let s = length_more l.0 f in omega (arith, m, s, long)) in
        ap (slice_get places) n ∙ at_one (length l.0) f here ∙ ap Some (sym (add-one f))
      where
        length_more : (xs : List ℕ) (x : ℕ) → length (xs ++ x ∷ []) ≡ suc (length xs)
        length_more [] x = refl
        length_more (y ∷ xs) x = ap suc (length_more xs x)
