-- States that are told at one moment.
use Rattle.std.proofs.Common.{◌≡◌, ◌≢◌, ◌⊎◌, ◌==◌, ◌<◌, ◌≤◌, ℕ, zero, suc, ℤ, ◌-◌, ◌<ℤ◌, ◌≤ℤ◌, Bool, true, false, ◌&&◌, ◌||◌, not, if◌then◌else◌, is_some, List, [], ◌∷◌, ◌++◌, map, length, set, take, slice_get, Option, Some, None, option_map, refl, ap, sym, ◌∙◌, subst, inl, inr, arith}
use Rattle.std.specs.Prelude.{int_le}
use Rattle.std.specs.Int.{int_max, int_min}
use Rattle.std.specs.List.{filter}
use Rattle.std.specs.BTreeMap.{is_at}
use Rattle.std.specs.BTreeMap.Range.{range_contains}
use Rattle.std.specs.declared.ops.Bound.TheVariants.{Included, Excluded}
use Rattle.std.specs.Cmp.{int_cmp_is}
use Rattle.std.specs.Ordering.{int_cmp, nat_cmp, is_eq, is_lt, ordering_then}
use Rattle.std.specs.declared.cmp.Ordering.TheVariants.{Less, Equal, Greater}
use Rattle.std.proofs.lemmas.Bool.Decides.{nat_tests}
use Rattle.std.proofs.lemmas.Cmp.{int_ranked, ranked}
use Rattle.std.proofs.lemmas.Int.{ints}
use Rattle.std.proofs.lemmas.Map.Views.{any-filter_same}
use Rattle.std.proofs.lemmas.List.{take-map}
use Rattle.kmipa_object.specs.Lists.{updated}
use Rattle.kmipa_object.specs.Life.{Dates, dates_of, has_come, state}
use Rattle.kmipa_object.specs.declared.life.Life.{Life}
use Rattle.kmipa_object.specs.declared.state.State.{State}
use Rattle.kmipa_object.specs.declared.state.State.TheVariants.{PreActive, Active, Deactivated, Compromised, Destroyed, DestroyedCompromised}
use Rattle.kmipa_object.proofs.ListLemmas.{get-map, get-updated_other, get-updated_same, length-updated, map-push, map-updated, below_get, get_below}
use Rattle.kmipa_store.specs.Clock.{Awaits, Due, due_cmp, is_due, looked, looked_at, states_at}
use Rattle.kmipa_store.specs.Ledger.{Held, relived, with_life}
use Rattle.kmipa_store.specs.Objects.{become, exchanged}
use Rattle.kmipa_store.specs.Queries.{state_of_place}
use Rattle.kmipa_store.proofs.DueLemmas.{due_above, due_same, max_first, max_second, same_place}
use Rattle.kmipa_store.proofs.NameLemmas.{length-map}
use Rattle.kmipa_store.proofs.OrderLemmas.{equal_at}

-- states of one object more, of one fewer, and of an object that leads another life
pub states_pushed : (hs : List Held) (h : Held) (t : ℤ) → states_at (hs ++ h ∷ []) t ≡ states_at hs t ++ state h.card.dates t ∷ []
states_pushed hs h t = map-push (λ (x : Held). state x.card.dates t) hs h

pub states_popped : (hs : List Held) (t : ℤ) → states_at (take (length hs - 1) hs) t ≡ take (length (states_at hs t) - 1) (states_at hs t)
states_popped hs t =
    sym (take-map (λ (x : Held). state x.card.dates t) (length hs - 1) hs)
    ∙ ap (λ n. take (n - 1) (states_at hs t)) (sym (length-map (λ (x : Held). state x.card.dates t) hs))

pub states_relived : (hs : List Held) (place : ℕ) (life : Life) (t : ℤ) → states_at (relived hs place life) t ≡ updated (states_at hs t) place (λ _. state (dates_of life) t)
states_relived hs place life t = map-updated (λ (x : Held). state x.card.dates t) (λ h. with_life h life) (λ _. state (dates_of life) t) hs place (λ x. refl)

pub states_exchanged : (hs : List Held) (place : ℕ) (h : Held) (t : ℤ) → states_at (exchanged hs place h) t ≡ updated (states_at hs t) place (λ _. state h.card.dates t)
states_exchanged hs place h t = map-updated (λ (x : Held). state x.card.dates t) (λ x. become x h) (λ _. state h.card.dates t) hs place (λ x. refl)

-- two moments that stand between two others
pub record Within (low high : ℤ) (t : ℤ) : Type 0 where
  pub from : low ≤ℤ t
  pub to : t ≤ℤ high

come_same : (o : Option ℤ) (low high a b : ℤ) → Within low high a → Within low high b → ((d : ℤ) → o ≡ Some d → low <ℤ d → d ≤ℤ high → ⊥) → has_come o a ≡ has_come o b
come_same None low high a b v w n = refl
come_same (Some d) low high a b v w n = (elim (int_le d a) as (λ r. int_le d a ≡ r → r ≡ int_le d b) [
  | true ↦ λ e. (elim (int_le d b) as (λ s. int_le d b ≡ s → true ≡ s) [
    | true ↦ λ f. refl
    | false ↦ λ f.
        let over : low <ℤ d = let lb = w.from in grind (arith, ints) in
        let under : d ≤ℤ high = let ah = v.to in grind (arith, ints) in
        absurd (n d refl over under)
  ]) refl
  | false ↦ λ e. (elim (int_le d b) as (λ s. int_le d b ≡ s → false ≡ s) [
    | true ↦ λ f.
        let over : low <ℤ d = let la = v.from in grind (arith, ints) in
        let under : d ≤ℤ high = let bh = w.to in grind (arith, ints) in
        absurd (n d refl over under)
    | false ↦ λ f. refl
  ]) refl
]) refl

state_same : (d : Dates) (a b : ℤ) → has_come d.activation a ≡ has_come d.activation b → has_come d.deactivation a ≡ has_come d.deactivation b → state d a ≡ state d b
state_same d a b e f =
    ap (λ (x : Bool). if is_some d.destroy && is_some d.compromise then DestroyedCompromised else if is_some d.destroy then Destroyed else if is_some d.compromise then Compromised else
    if not x then PreActive else if has_come d.deactivation a then Deactivated else Active) e
    ∙ ap (λ (x : Bool). if is_some d.destroy && is_some d.compromise then DestroyedCompromised else if is_some d.destroy then Destroyed else if is_some d.compromise then Compromised else
    if not (has_come d.activation b) then PreActive else if x then Deactivated else Active) f

-- each date of an object between two moments is among those that are left
pub record Waits (low high : ℤ) (rest : List Due) (p : ℕ) (h : Held) : Type 0 where
  pub activation : (d : ℤ) → h.card.dates.activation ≡ Some d → low <ℤ d → d ≤ℤ high → is_due rest d p ≡ true
  pub deactivation : (d : ℤ) → h.card.dates.deactivation ≡ Some d → low <ℤ d → d ≤ℤ high → is_due rest d p ≡ true

-- each object is told as of the new moment, or as of the old one while dates of it are left
pub record Looks (objects : List Held) (low high before t : ℤ) (rest : List Due) (states : List State) : Type 0 where
  pub long : length states ≡ length objects
  pub each : (p : ℕ) (h : Held) → slice_get objects p ≡ Some h
      → (slice_get states p ≡ Some (state h.card.dates t)) ⊎ ((slice_get states p ≡ Some (state h.card.dates before)) × Waits low high rest p h)

-- no date is left
still : (h : Held) (low high a b : ℤ) (p : ℕ) → Within low high a → Within low high b → Waits low high [] p h → state h.card.dates a ≡ state h.card.dates b
still h low high a b p v w none = state_same h.card.dates a b
    (come_same h.card.dates.activation low high a b v w (λ d e over under. let bad : false ≡ true = none.activation d e over under in cc))
    (come_same h.card.dates.deactivation low high a b v w (λ d e over under. let bad : false ≡ true = none.deactivation d e over under in cc))

mapped : {X Y : Type 0} (f : X → Y) (ys : List Y) (xs : List X) → length ys ≡ length xs → ((p : ℕ) (x : X) → slice_get xs p ≡ Some x → slice_get ys p ≡ Some (f x)) → ys ≡ map f xs
mapped f [] [] l h = refl
mapped f [] (x ∷ xs) l h = absurd (omega (arith, l))
mapped f (y ∷ ys) [] l h = absurd (omega (arith, l))
mapped f (y ∷ ys) (x ∷ xs) l h =
    let first : Some y ≡ Some (f x) = h 0 x refl in
    let same : y ≡ f x = cc in
    ap (λ z. z ∷ ys) same ∙ ap (λ zs. f x ∷ zs) (mapped f ys xs (omega (arith, l)) (λ p z at. h (suc p) z at))

looks_end : (objects : List Held) (low high before t : ℤ) (states : List State) → Within low high before → Within low high t → Looks objects low high before t [] states → states ≡ states_at objects t
looks_end objects low high before t states v w l = mapped (λ (h : Held). state h.card.dates t) states objects l.long (λ p h at. elim (l.each p h at) [
  | inl now ↦ now
  | inr old ↦ old.0 ∙ ap Some (still h low high before t p v w old.1)
])

-- one date fewer is left
rest_has : (date d : ℤ) (q p : ℕ) (rest : List Due) → is_due ((date, q) ∷ rest) d p ≡ true → (p ≡ q) ⊎ (is_due rest d p ≡ true)
rest_has date d q p rest h = (elim (due_cmp (d, p) (date, q)) as (λ o. due_cmp (d, p) (date, q) ≡ o → (is_eq o || is_due rest d p) ≡ true → (p ≡ q) ⊎ (is_due rest d p ≡ true)) [
  | Less ↦ λ e g. inr g
  | Equal ↦ λ e g. inl (same_place d date p q e)
  | Greater ↦ λ e g. inr g
]) refl h

equal_is : (p q : ℕ) → (p == q) ≡ true → p ≡ q
equal_is p q e = grind (arith, nat_tests)

unequal_is : (p q : ℕ) → (p == q) ≡ false → p ≢ q
unequal_is p q e s = let h : (q == q) ≡ false = ap (λ (x : ℕ). x == q) (sym s) ∙ e in grind (arith, nat_tests)

abbrev Told : List State → ℕ → Held → ℤ → Type 0
Told states p h t = slice_get states p ≡ Some (state h.card.dates t)

-- the object at the date's place is told anew, and the others wait as before
told_anew : (objects : List Held) (low high before t : ℤ) (date : ℤ) (q : ℕ) (rest : List Due) (states : List State) (g : Held) → slice_get objects q ≡ Some g
    → Looks objects low high before t ((date, q) ∷ rest) states → (p : ℕ) (h : Held) → slice_get objects p ≡ Some h
    → Told (updated states q (λ _. state g.card.dates t)) p h t ⊎ (Told (updated states q (λ _. state g.card.dates t)) p h before × Waits low high rest p h)
told_anew objects low high before t date q rest states g there l p h at = (elim (p == q) as (λ r. (p == q) ≡ r
    → Told (updated states q (λ _. state g.card.dates t)) p h t ⊎ (Told (updated states q (λ _. state g.card.dates t)) p h before × Waits low high rest p h)) [
      | true ↦ λ e.
          let same : p ≡ q = equal_is p q e in
          let within : q < length states = let w = get_below objects q g there in let n = l.long in omega (arith, w, n) in
          let s = below_get states q within in
          let one : Some g ≡ Some h = sym there ∙ ap (slice_get objects) (sym same) ∙ at in
          let is : g ≡ h = cc in
          inl (ap (slice_get (updated states q (λ _. state g.card.dates t))) same ∙ get-updated_same states q (λ _. state g.card.dates t) s.0 s.1 ∙ ap (λ (x : Held). Some (state x.card.dates t)) is)
      | false ↦ λ e.
          let other : slice_get (updated states q (λ _. state g.card.dates t)) p ≡ slice_get states p = get-updated_other states q p (λ _. state g.card.dates t) (unequal_is p q e) in
          elim (l.each p h at) [
            | inl now ↦ inl (other ∙ now)
            | inr old ↦ inr (
              other ∙ old.0,
              record {
                activation = λ d a over under. elim (rest_has date d q p rest (old.1.activation d a over under)) [ inl s ↦ absurd (unequal_is p q e s) | inr left ↦ left ];
                deactivation = λ d a over under. elim (rest_has date d q p rest (old.1.deactivation d a over under)) [ inl s ↦ absurd (unequal_is p q e s) | inr left ↦ left ];
              },
            )
          ]
    ]) refl

nothing_there : (objects : List Held) (low high before t : ℤ) (date : ℤ) (q : ℕ) (rest : List Due) (states : List State) → slice_get objects q ≡ None
    → Looks objects low high before t ((date, q) ∷ rest) states → Looks objects low high before t rest states
nothing_there objects low high before t date q rest states none l = record {
  long = l.long;
  each = λ p h at.
      let apart : (p ≡ q) → ⊥ = λ s. let bad : None ≡ Some h = sym none ∙ ap (slice_get objects) (sym s) ∙ at in cc in
      elim (l.each p h at) [
        | inl now ↦ inl now
        | inr old ↦ inr (
          old.0,
          record {
            activation = λ d a over under. elim (rest_has date d q p rest (old.1.activation d a over under)) [ inl s ↦ absurd (apart s) | inr left ↦ left ];
            deactivation = λ d a over under. elim (rest_has date d q p rest (old.1.deactivation d a over under)) [ inl s ↦ absurd (apart s) | inr left ↦ left ];
          },
        )
      ];
}

looks_on : (objects : List Held) (low high before t : ℤ) (date : ℤ) (q : ℕ) (rest : List Due) (states : List State)
    → Looks objects low high before t ((date, q) ∷ rest) states → Looks objects low high before t rest (looked objects states q t)
looks_on objects low high before t date q rest states l = (elim (slice_get objects q) as (λ o. slice_get objects q ≡ o → Looks objects low high before t rest (looked_at o states q t)) [
  | None ↦ λ e. nothing_there objects low high before t date q rest states e l
  | Some g ↦ λ e. record { long = length-updated states q (λ _. state g.card.dates t) ∙ l.long; each = told_anew objects low high before t date q rest states g e l }
]) refl

not_past : (high d : ℤ) (max p : ℕ) → p ≤ max → d ≤ℤ high → is_lt (due_cmp (high, max) (d, p)) ≡ false
not_past high d max p small under = (elim (int_cmp high d) as (λ o. int_cmp high d ≡ o → is_lt (ordering_then o (nat_cmp max p)) ≡ false) [
  | Less ↦ λ e. let over : high <ℤ d = int_ranked high d Less (sym e) in absurd (omega (arith, ints))
  | Equal ↦ λ e. (elim (nat_cmp max p) as (λ o. nat_cmp max p ≡ o → is_lt o ≡ false) [
    | Less ↦ λ f. let past : max < p = ranked max p Less (sym f) in absurd (omega arith)
    | Equal ↦ λ f. refl
    | Greater ↦ λ f. refl
  ]) refl
  | Greater ↦ λ e. refl
]) refl

between : (low high : ℤ) (max : ℕ) (d : ℤ) (p : ℕ) → p ≤ max → low <ℤ d → d ≤ℤ high → range_contains due_cmp (Excluded (low, max)) (Included (high, max)) (d, p) ≡ true
between low high max d p small over under =
    let first : int_cmp low d ≡ Less = sym (int_cmp_is low d Less over) in
    let start : due_cmp (low, max) (d, p) ≡ Less = ap (λ o. ordering_then o (nat_cmp max p)) first in
    let end : is_lt (due_cmp (high, max) (d, p)) ≡ false = not_past high d max p small under in
    ap (λ o. is_lt o && not (is_lt (due_cmp (high, max) (d, p)))) start ∙ ap not end

-- a date between that stands in order is among those between
in_range : (low high : ℤ) (max : ℕ) (due : List Due) (d : ℤ) (p : ℕ) → p ≤ max → low <ℤ d → d ≤ℤ high → is_due due d p ≡ true
    → is_due (filter (range_contains due_cmp (Excluded (low, max)) (Included (high, max))) due) d p ≡ true
in_range low high max due d p small over under h =
    any-filter_same (is_at (due_cmp (d, p))) (range_contains due_cmp (Excluded (low, max)) (Included (high, max))) true (λ k is.
    let same : (d, p) ≡ k = due_same (d, p) k (equal_at (due_cmp (d, p) k) is) in
    ap (range_contains due_cmp (Excluded (low, max)) (Included (high, max))) (sym same) ∙ between low high max d p small over under) due
    ∙ h

-- all dates between are left
looks_start : (objects : List Held) (low high before t : ℤ) (keys : List Due) (max : ℕ) → ((p : ℕ) (h : Held) → slice_get objects p ≡ Some h → p ≤ max) → Awaits objects (record { floor = low; keys = keys })
    → Looks objects low high before t (filter (range_contains due_cmp (Excluded (low, max)) (Included (high, max))) keys) (states_at objects before)
looks_start objects low high before t keys max small a = record {
  long = length-map (λ (x : Held). state x.card.dates before) objects;
  each = λ p h at. inr (
    get-map (λ (x : Held). state x.card.dates before) objects p ∙ ap (option_map (λ (x : Held). state x.card.dates before)) at,
    record {
      activation = λ d e over under. in_range low high max keys d p (small p h at) over under (due_above (record { floor = low; keys = keys }) d p over (a.activation p h d at e));
      deactivation = λ d e over under. in_range low high max keys d p (small p h at) over under (due_above (record { floor = low; keys = keys }) d p over (a.deactivation p h d at e));
    },
  );
}

-- the states while some dates are still to be looked at
pub record Looking (objects : List Held) (before t : ℤ) (rest : List Due) (states : List State) : Type 0 where
  pub low : ℤ
  pub high : ℤ
  pub old : Within low high before
  pub new : Within low high t
  pub looks : Looks objects low high before t rest states

min_first : (a b : ℤ) → int_min a b ≤ℤ a
min_first a b = grind (arith, ints)

min_second : (a b : ℤ) → int_min a b ≤ℤ b
min_second a b = grind (arith, ints)

pub looking_start : (objects : List Held) (low high before t : ℤ) (keys : List Due) (max : ℕ) (rest : List Due) (states : List State) → low ≡ int_min before t → high ≡ int_max before t → max ≡ length objects
    → rest ≡ filter (range_contains due_cmp (Excluded (low, max)) (Included (high, max))) keys → Awaits objects (record { floor = int_min before t; keys = keys }) → states ≡ states_at objects before → Looking objects before t rest states
looking_start objects low high before t keys max rest states l h m left a told = record {
  low = low;
  high = high;
  old = record { from = subst (λ (x : ℤ). x ≤ℤ before) (sym l) (min_first before t); to = subst (λ (x : ℤ). before ≤ℤ x) (sym h) (max_first before t) };
  new = record { from = subst (λ (x : ℤ). x ≤ℤ t) (sym l) (min_second before t); to = subst (λ (x : ℤ). t ≤ℤ x) (sym h) (max_second before t) };
  looks = subst (λ (ss : List State). Looks objects low high before t rest ss) (sym told)
      (subst (λ (ds : List Due). Looks objects low high before t ds (states_at objects before)) (sym left)
      (looks_start objects low high before t keys max (λ p o at. let b = get_below objects p o at in omega (arith, b, m)) (subst (λ (x : ℤ). Awaits objects (record { floor = x; keys = keys })) (sym l) a)));
}

pub looking_on : (objects : List Held) (before t : ℤ) (one : Due) (rest : List Due) (states : List State) → Looking objects before t (one ∷ rest) states → Looking objects before t rest (looked objects states one.1 t)
looking_on objects before t one rest states l =
    record { low = l.low; high = l.high; old = l.old; new = l.new; looks = looks_on objects l.low l.high before t one.0 one.1 rest states l.looks }

pub looking_end : (objects : List Held) (before t : ℤ) (states : List State) → Looking objects before t [] states → states ≡ states_at objects t
looking_end objects before t states l = looks_end objects l.low l.high before t states l.old l.new l.looks

pub set_is : {X : Type 0} (xs : List X) (n : ℕ) (w : X) → n < length xs → set xs n w ≡ updated xs n (λ _. w)
set_is [] n w h = absurd (omega (arith, h))
set_is (x ∷ xs) zero w h = refl
set_is (x ∷ xs) (suc n) w h = ap (λ ys. x ∷ ys) (set_is xs n w (omega (arith, h)))

pub looked_told : (objects : List Held) (states : List State) (place : ℕ) (t : ℤ) (told : State) → state_of_place objects place t ≡ Some told → looked objects states place t ≡ updated states place (λ _. told)
looked_told objects states place t told e = (elim (slice_get objects place) as (λ o. option_map (λ (h : Held). state h.card.dates t) o ≡ Some told → looked_at o states place t ≡ updated states place (λ _. told)) [
  | None ↦ λ h. cc
  | Some g ↦ λ h. let is : state g.card.dates t ≡ told = cc in ap (λ (s : State). updated states place (λ _. s)) is
]) e

pub looked_past : (objects : List Held) (states : List State) (place : ℕ) (t : ℤ) → slice_get objects place ≡ None → looked objects states place t ≡ states
looked_past objects states place t none = ap (λ o. looked_at o states place t) none

-- the objects before a place are told as of the new moment
pub record ToldTo (objects : List Held) (t : ℤ) (end : ℕ) (states : List State) : Type 0 where
  pub long : length states ≡ length objects
  pub each : (p : ℕ) (h : Held) → p < end → slice_get objects p ≡ Some h → Told states p h t

pub told_none : (objects : List Held) (t : ℤ) (end : ℕ) (states : List State) → end ≡ 0 → length states ≡ length objects → ToldTo objects t end states
told_none objects t end states none l = record { long = l; each = λ p h below at. absurd (omega (arith, below, none)) }

pub told_next : (objects : List Held) (t : ℤ) (end : ℕ) (states : List State) (s : State) → state_of_place objects end t ≡ Some s
    → ToldTo objects t end states → ToldTo objects t (suc end) (updated states end (λ _. s))
told_next objects t end states s is l = record {
  long = length-updated states end (λ _. s) ∙ l.long;
  each = λ p h below at. (elim (p == end) as (λ r. (p == end) ≡ r → Told (updated states end (λ _. s)) p h t) [
    | true ↦ λ e.
        let same : p ≡ end = equal_is p end e in
        let here : Some (state h.card.dates t) ≡ Some s = sym (ap (option_map (λ (x : Held). state x.card.dates t)) at) ∙ ap (λ (n : ℕ). state_of_place objects n t) same ∙ is in
        let within : end < length states = let w = get_below objects p h at in let n = l.long in omega (arith, w, n, same) in
        let old = below_get states end within in
        ap (slice_get (updated states end (λ _. s))) same ∙ get-updated_same states end (λ _. s) old.0 old.1 ∙ sym here
    | false ↦ λ e.
        let apart : p ≢ end = unequal_is p end e in
        let before : p < end = let b = below in omega (arith, b, apart) in
        get-updated_other states end p (λ _. s) apart ∙ l.each p h before at
  ]) refl;
}

pub told_all : (objects : List Held) (t : ℤ) (end : ℕ) (states : List State) → length objects ≤ end → ToldTo objects t end states → states ≡ states_at objects t
told_all objects t end states all l =
    mapped (λ (h : Held). state h.card.dates t) states objects l.long (λ p h at. l.each p h (let w = get_below objects p h at in omega (arith, w, all)) at)
