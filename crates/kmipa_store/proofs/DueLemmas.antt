-- Dates that are waited for: what was noted, and what was taken away.
use Rattle.std.proofs.Common.{◌≡◌, ◌<ℤ◌, ◌≤ℤ◌, ◌||◌, ℕ, ℤ, Bool, true, false, not, if◌then◌else◌, List, [], ◌∷◌, ◌++◌, length, Option, Some, None, Ok, refl, ap, sym, ◌∙◌, subst, inl, inr, arith}
use Rattle.std.specs.Prelude.{int_le, int_lt}
use Rattle.std.specs.Int.{int_max}
use Rattle.std.specs.declared.cmp.Ordering.TheVariants.{Less, Equal, Greater}
use Rattle.std.specs.Ordering.{int_cmp, nat_cmp, ordering_then}
use Rattle.std.specs.Cmp.{IsTotalOrder, on_total, then_total}
use Rattle.std.specs.BTreeMap.{is_at}
use Rattle.std.specs.BTreeSet.{insert_key}
use Rattle.std.proofs.lemmas.Cmp.{int_cmp_total, nat_cmp_total, int_ranked, ranked, tied_itself}
use Rattle.std.proofs.lemmas.Int.{ints}
use Rattle.kmipa_object.specs.Life.{dates_of}
use Rattle.kmipa_object.specs.Lists.{updated}
use Rattle.kmipa_object.specs.declared.life.Life.{Life}
use Rattle.kmipa_object.proofs.ListLemmas.{get-append_cases}
use Rattle.kmipa_store.specs.Clock.{Awaits, Due, Dues, NotesDate, Time, due_cmp, dropped, is_awaited, is_due, noted, noted_life}
use Rattle.kmipa_store.specs.Ledger.{Held, relived, with_life}
use Rattle.kmipa_store.proofs.OrderLemmas.{found_inserted, or_true, removed_again, still_found}
use Rattle.kmipa_store.proofs.SoundLemmas.{updated_from}

pub due_total : IsTotalOrder due_cmp
due_total = then_total (on_total (λ (x : Due). x.0) int_cmp_total) (on_total (λ (x : Due). x.1) nat_cmp_total)

due_itself : (x : Due) → due_cmp x x ≡ Equal
due_itself x = tied_itself due_total x

-- dates that compare equal stand at one place
pub same_place : (a b : ℤ) (p q : ℕ) → due_cmp (a, p) (b, q) ≡ Equal → p ≡ q
same_place a b p q e = (elim (int_cmp a b) as (λ o. ordering_then o (nat_cmp p q) ≡ Equal → p ≡ q) [
  | Less ↦ λ h. cc
  | Equal ↦ λ h. ranked p q Equal (sym h)
  | Greater ↦ λ h. cc
]) e

same_date : (a b : ℤ) (p q : ℕ) → due_cmp (a, p) (b, q) ≡ Equal → a ≡ b
same_date a b p q e = (elim (int_cmp a b) as (λ o. int_cmp a b ≡ o → ordering_then o (nat_cmp p q) ≡ Equal → a ≡ b) [
  | Less ↦ λ i h. cc
  | Equal ↦ λ i h. int_ranked a b Equal (sym i)
  | Greater ↦ λ i h. cc
]) refl e

pub due_same : (x y : Due) → due_cmp x y ≡ Equal → x ≡ y
due_same x y e =
    let place : x.1 ≡ y.1 = same_place x.0 y.0 x.1 y.1 e in
    let date : x.0 ≡ y.0 = same_date x.0 y.0 x.1 y.1 e in
    ap (λ (d : ℤ). (d, x.1)) date ∙ ap (λ (p : ℕ). (y.0, p)) place

-- a date that did not stand in order is taken away again
dropped_again : (keys : List Due) (place : ℕ) (date : ℤ) → is_due keys date place ≡ false → dropped (insert_key due_cmp keys (date, place)) place (Some date) ≡ keys
dropped_again keys place date h = removed_again due_cmp (date, place) (due_itself (date, place)) keys h

-- what is at most the floor is at most a higher one
still_low : (date floor higher : ℤ) → floor ≤ℤ higher → int_le date floor ≡ true → int_le date higher ≡ true
still_low date floor higher up h = grind (arith, ints)

pub max_first : (a b : ℤ) → a ≤ℤ int_max a b
max_first a b = grind (arith, ints)

pub max_second : (a b : ℤ) → b ≤ℤ int_max a b
max_second a b = grind (arith, ints)

low_itself : (date floor : ℤ) → date ≤ℤ floor → int_le date floor ≡ true
low_itself date floor h = grind (arith, ints)

itself : (a : ℤ) → a ≤ℤ a
itself a = grind (arith, ints)

above_floor : (date floor : ℤ) → floor <ℤ date → int_le date floor ≡ false
above_floor date floor h = grind (arith, ints)

-- by the floor, or in order
awaited_low : (due : Dues) (date : ℤ) (p : ℕ) → int_le date due.floor ≡ true → is_awaited due date p ≡ true
awaited_low due date p h = ap (λ (b : Bool). b || is_due due.keys date p) h

awaited_due : (due : Dues) (date : ℤ) (p : ℕ) → is_due due.keys date p ≡ true → is_awaited due date p ≡ true
awaited_due due date p h = ap (λ (b : Bool). int_le date due.floor || b) h ∙ or_true (int_le date due.floor)

-- where it is above the floor it stands in order
pub due_above : (due : Dues) (date : ℤ) (p : ℕ) → due.floor <ℤ date → is_awaited due date p ≡ true → is_due due.keys date p ≡ true
due_above due date p over h = ap (λ (b : Bool). b || is_due due.keys date p) (sym (above_floor date due.floor over)) ∙ h

-- no less is awaited where the floor is higher, or more dates stand in order
still_awaited : (due more : Dues) (date : ℤ) (p : ℕ) → due.floor ≤ℤ more.floor → (is_due due.keys date p ≡ true → is_due more.keys date p ≡ true) → is_awaited due date p ≡ true → is_awaited more date p ≡ true
still_awaited due more date p up same h = (elim (int_le date due.floor) as (λ b. int_le date due.floor ≡ b → (b || is_due due.keys date p) ≡ true → is_awaited more date p ≡ true) [
  | true ↦ λ e g. awaited_low more date p (still_low date due.floor more.floor up e)
  | false ↦ λ e g. awaited_due more date p (same g)
]) refl h

not_below : (a b : ℤ) → int_lt a b ≡ false → b ≤ℤ a
not_below a b h = grind (arith, ints)

pub awaits_above : (hs : List Held) (due : Dues) (least low : ℤ) → int_lt least due.floor ≡ false → least ≡ low → Awaits hs due → Awaits hs (record { floor = low; keys = due.keys })
awaits_above hs due least low above is a =
    let up : due.floor ≤ℤ low = subst (λ (x : ℤ). due.floor ≤ℤ x) is (not_below least due.floor above) in
    record {
      activation = λ p h date at e. still_awaited due (record { floor = low; keys = due.keys }) date p up (λ g. g) (a.activation p h date at e);
      deactivation = λ p h date at e. still_awaited due (record { floor = low; keys = due.keys }) date p up (λ g. g) (a.deactivation p h date at e);
    }

-- a date of the past, and a later one
noted_past : (t : ℤ) (due : Dues) (place : ℕ) (date : ℤ) → int_le date t ≡ true → noted t due place (Some date) ≡ record due { floor = int_max due.floor date }
noted_past t due place date h = ap (λ (b : Bool). if b then record due { floor = int_max due.floor date } else record due { keys = insert_key due_cmp due.keys (date, place) }) h

noted_later : (t : ℤ) (due : Dues) (place : ℕ) (date : ℤ) → int_le date t ≡ false → noted t due place (Some date) ≡ record due { keys = insert_key due_cmp due.keys (date, place) }
noted_later t due place date h = ap (λ (b : Bool). if b then record due { floor = int_max due.floor date } else record due { keys = insert_key due_cmp due.keys (date, place) }) h

abbrev Awaited : ℤ → ℕ → Dues → Type 0
Awaited date p due = is_awaited due date p ≡ true

noted_itself : (t : ℤ) (due : Dues) (place : ℕ) (date : ℤ) → Awaited date place (noted t due place (Some date))
noted_itself t due place date = (elim (int_le date t) as (λ b. int_le date t ≡ b → Awaited date place (noted t due place (Some date))) [
  | true ↦ λ e. subst (Awaited date place) (sym (noted_past t due place date e))
      (awaited_low (record due { floor = int_max due.floor date }) date place (low_itself date (int_max due.floor date) (max_second due.floor date)))
  | false ↦ λ e. subst (Awaited date place) (sym (noted_later t due place date e))
      (awaited_due (record due { keys = insert_key due_cmp due.keys (date, place) }) date place (found_inserted due_cmp (date, place) (due_itself (date, place)) due.keys))
]) refl

noted_here : (t : ℤ) (due : Dues) (place : ℕ) (o : Option ℤ) (date : ℤ) → o ≡ Some date → Awaited date place (noted t due place o)
noted_here t due place o date e = subst (λ (x : Option ℤ). Awaited date place (noted t due place x)) (sym e) (noted_itself t due place date)

still_noted : (t : ℤ) (due : Dues) (place : ℕ) (o : Option ℤ) (date : ℤ) (p : ℕ) → Awaited date p due → Awaited date p (noted t due place o)
still_noted t due place None date p h = h
still_noted t due place (Some d) date p h = (elim (int_le d t) as (λ b. int_le d t ≡ b → Awaited date p (noted t due place (Some d))) [
  | true ↦ λ e. subst (Awaited date p) (sym (noted_past t due place d e))
      (still_awaited due (record due { floor = int_max due.floor d }) date p (max_first due.floor d) (λ g. g) h)
  | false ↦ λ e. subst (Awaited date p) (sym (noted_later t due place d e))
      (still_awaited due (record due { keys = insert_key due_cmp due.keys (d, place) }) date p (itself due.floor)
      (λ g. still_found due_cmp (d, place) (due_itself (d, place)) (is_at (due_cmp (date, p))) due.keys g) h)
]) refl

life_still : (t : ℤ) (due : Dues) (place : ℕ) (life : Life) (date : ℤ) (p : ℕ) → Awaited date p due → Awaited date p (noted_life t due place life)
life_still t due place life date p h = still_noted t (noted t due place life.activation) place life.deactivation date p (still_noted t due place life.activation date p h)

life_activation : (t : ℤ) (due : Dues) (place : ℕ) (life : Life) (date : ℤ) → life.activation ≡ Some date → Awaited date place (noted_life t due place life)
life_activation t due place life date e = still_noted t (noted t due place life.activation) place life.deactivation date place (noted_here t due place life.activation date e)

life_deactivation : (t : ℤ) (due : Dues) (place : ℕ) (life : Life) (date : ℤ) → life.deactivation ≡ Some date → Awaited date place (noted_life t due place life)
life_deactivation t due place life date e = noted_here t (noted t due place life.activation) place life.deactivation date e

-- both dates of one life more: what an object that leads it awaits
own_dates : (t : ℤ) (due : Dues) (place p : ℕ) (life : Life) (g : Held) → p ≡ place → g.card.dates ≡ dates_of life
    → ((date : ℤ) → g.card.dates.activation ≡ Some date → Awaited date p (noted_life t due place life)) × ((date : ℤ) → g.card.dates.deactivation ≡ Some date → Awaited date p (noted_life t due place life))
own_dates t due place p life g e is =
    let P : ℕ → Type 0 = λ x. (date : ℤ) → g.card.dates.activation ≡ Some date → Awaited date x (noted_life t due place life) in
    let Q : ℕ → Type 0 = λ x. (date : ℤ) → g.card.dates.deactivation ≡ Some date → Awaited date x (noted_life t due place life) in (
      subst P (sym e) (λ date a. life_activation t due place life date (ap (λ d. d.activation) (sym is) ∙ a)),
      subst Q (sym e) (λ date a. life_deactivation t due place life date (ap (λ d. d.deactivation) (sym is) ∙ a)),
    )

-- an object after the others
pub awaits_pushed : (hs : List Held) (h : Held) (t : ℤ) (due : Dues) (place : ℕ) (life : Life) → place ≡ length hs → h.card.dates ≡ dates_of life → Awaits hs due → Awaits (hs ++ h ∷ []) (noted_life t due place life)
awaits_pushed hs h t due place life last is a = record {
  activation = λ p g date at e. elim (get-append_cases hs h p g at) [
    | inl old ↦ life_still t due place life date p (a.activation p g date old e)
    | inr new ↦ (own_dates t due place p life g (new.0 ∙ sym last) (ap (λ (x : Held). x.card.dates) new.1 ∙ is)).0 date e
  ];
  deactivation = λ p g date at e. elim (get-append_cases hs h p g at) [
    | inl old ↦ life_still t due place life date p (a.deactivation p g date old e)
    | inr new ↦ (own_dates t due place p life g (new.0 ∙ sym last) (ap (λ (x : Held). x.card.dates) new.1 ∙ is)).1 date e
  ];
}

-- an object that has the dates of a life from now on
pub awaits_updated : (hs : List Held) (t : ℤ) (due : Dues) (place : ℕ) (life : Life) (f : Held → Held) → ((x : Held) → (f x).card.dates ≡ dates_of life) → Awaits hs due → Awaits (updated hs place f) (noted_life t due place life)
awaits_updated hs t due place life f has a = record {
  activation = λ p g date at e.
      let r = updated_from hs place p f g at in
      elim r.2 [
        | inl old ↦ life_still t due place life date p (a.activation p r.0 date r.1 (ap (λ (x : Held). x.card.dates.activation) (sym old) ∙ e))
        | inr new ↦ (own_dates t due place p life g new.0 (ap (λ (x : Held). x.card.dates) new.1 ∙ has r.0)).0 date e
      ];
  deactivation = λ p g date at e.
      let r = updated_from hs place p f g at in
      elim r.2 [
        | inl old ↦ life_still t due place life date p (a.deactivation p r.0 date r.1 (ap (λ (x : Held). x.card.dates.deactivation) (sym old) ∙ e))
        | inr new ↦ (own_dates t due place p life g new.0 (ap (λ (x : Held). x.card.dates) new.1 ∙ has r.0)).1 date e
      ];
}

pub awaits_relived : (hs : List Held) (t : ℤ) (due : Dues) (place : ℕ) (life : Life) → Awaits hs due → Awaits (relived hs place life) (noted_life t due place life)
awaits_relived hs t due place life a = awaits_updated hs t due place life (λ x. with_life x life) (λ x. refl) a

-- a date of the past, a date that was put in order, and one that stood there
pub noted_low : (s : Time) (place : ℕ) (o : Option ℤ) (date floor : ℤ) → o ≡ Some date → int_le date s.moment ≡ true → floor ≡ int_max s.due.floor date
    → NotesDate s place o (Ok None) (record s { due = record { floor = floor; keys = s.due.keys } })
noted_low s place o date floor is past e = (
  ap (λ (x : ℤ). record s { due = record { floor = x; keys = s.due.keys } }) e
      ∙ ap (λ (x : Dues). record s { due = x }) (sym (noted_past s.moment s.due place date past) ∙ ap (noted s.moment s.due place) (sym is)),
  refl,
)

inserted : (s : Time) (place : ℕ) (o : Option ℤ) (date : ℤ) (keys : List Due) → o ≡ Some date → int_le date s.moment ≡ false → keys ≡ insert_key due_cmp s.due.keys (date, place)
    → record s { due = record { floor = s.due.floor; keys = keys } } ≡ record s { due = noted s.moment s.due place o }
inserted s place o date keys is later e =
    ap (λ (x : List Due). record s { due = record { floor = s.due.floor; keys = x } }) e
    ∙ ap (λ (x : Dues). record s { due = x }) (sym (noted_later s.moment s.due place date later) ∙ ap (noted s.moment s.due place) (sym is))

pub noted_fresh : (s : Time) (place : ℕ) (o : Option ℤ) (date : ℤ) (keys : List Due) → o ≡ Some date → int_le date s.moment ≡ false → keys ≡ insert_key due_cmp s.due.keys (date, place)
    → true ≡ not (is_due s.due.keys date place) → NotesDate s place o (Ok (Some date)) (record s { due = record { floor = s.due.floor; keys = keys } })
noted_fresh s place o date keys is later e fresh =
    let new : is_due s.due.keys date place ≡ false = (elim (is_due s.due.keys date place) as (λ b. true ≡ not b → b ≡ false) [ true ↦ λ h. h | false ↦ λ h. refl ]) fresh in (
      inserted s place o date keys is later e,
      ap (λ (ds : List Due). dropped ds place (Some date)) e ∙ dropped_again s.due.keys place date new,
    )

pub noted_again : (s : Time) (place : ℕ) (o : Option ℤ) (date : ℤ) (keys : List Due) → o ≡ Some date → int_le date s.moment ≡ false → keys ≡ insert_key due_cmp s.due.keys (date, place)
    → keys ≡ s.due.keys → NotesDate s place o (Ok None) (record s { due = record { floor = s.due.floor; keys = keys } })
noted_again s place o date keys is later e same = (inserted s place o date keys is later e, same)
