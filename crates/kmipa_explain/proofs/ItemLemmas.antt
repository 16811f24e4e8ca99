-- The items of an order, one at a time.
use Rattle.std.proofs.Common.{◌≡◌, ◌<◌, ◌≤◌, ℕ, ◌+◌, suc, ℤ, Bool, List, [], ◌∷◌, ◌++◌, map, drop, length, slice_get, Option, Some, None, refl, sym, ap, ◌∙◌, subst, arith}
use Rattle.std.proofs.lemmas.List.{append_assoc, append-nil, map-append}
use Rattle.kmipa_msgs.specs.Messages.{AskOf, AnswerOf}
use Rattle.kmipa_object.specs.Life.{Dates}
use Rattle.kmipa_ops.specs.After.{placeholder_after}
use Rattle.kmipa_batch.specs.Calls.{pairs_of}
use Rattle.kmipa_batch.specs.Orders.{order_given}
use Rattle.kmipa_batch.proofs.OrderLemmas.{from_within, length_from}
use Rattle.kmipa_check.specs.Steps.{StepOf, order_of}
use Rattle.kmipa_explain.specs.Effects.{dates_set, tells_bytes}
use Rattle.kmipa_explain.specs.Items.{number_asked, ItemOf, about, makes_object, item_of, item_then, items_along, places_taken, items_of_call, items_from, items_of}
use Rattle.kmipa_explain.specs.Reading.{seen_item}
use Rattle.kmipa_explain.specs.declared.item.Item.{Item}
use Rattle.kmipa_explain.proofs.KeptLemmas.{drop_at, drop_all}

module _ (turn : ℕ) (s : StepOf) (place : ℕ) (before : Option (List ℕ)) where
  -- an item with these fields is the item of the place
  pub fields_are : (ask : AskOf) (answer : AnswerOf) (call stamp : ℤ) (operation : ℕ) (makes : Bool) (sets : Dates) (teaches : Bool) (id : Option (List ℕ))
      → call ≡ s.number → stamp ≡ s.response.stamp → operation ≡ number_asked ask → makes ≡ makes_object ask.asked
      → sets ≡ dates_set s.response.stamp ask.asked → teaches ≡ tells_bytes ask.asked answer.payload → id ≡ about before ask.asked answer.payload
      → record { turn = turn; call = call; item = place + 1; stamp = stamp; operation = operation; status = answer.status; makes = makes; sets = sets; teaches = teaches; about = id }
      ≡ item_of turn s place before ask answer
  fields_are ask answer call stamp operation makes sets teaches id a b d e f g h = rw (a, b, d, e, f, g, h) refl

  -- nothing stands there
  pub item_absent : (xs : List ItemOf) (pair : Option (AskOf × AnswerOf)) (behind : Option (List ℕ) → List ItemOf) → pair ≡ None
      → xs ++ item_then turn s place before pair behind ≡ xs ++ behind before
  item_absent xs pair behind none = ap (λ (p : Option (AskOf × AnswerOf)). xs ++ item_then turn s place before p behind) none

  -- an item does
  pub item_added : (old new : List Item) (i : Item) (ask : AskOf) (answer : AnswerOf) (after : Option (List ℕ)) (pair : Option (AskOf × AnswerOf)) (behind : Option (List ℕ) → List ItemOf)
      → pair ≡ Some (ask, answer) → seen_item i ≡ item_of turn s place before ask answer → after ≡ placeholder_after answer.status before ask.asked answer.payload
      → new ≡ old ++ i ∷ [] → map seen_item old ++ item_then turn s place before pair behind ≡ map seen_item new ++ behind after
  item_added old new i ask answer after pair behind there is held grown =
      let own = item_of turn s place before ask answer in
      let next = placeholder_after answer.status before ask.asked answer.payload in
      ap (λ (p : Option (AskOf × AnswerOf)). map seen_item old ++ item_then turn s place before p behind) there
      ∙ sym (append_assoc (map seen_item old) (own ∷ []) (behind next))
      ∙ ap (λ (x : ItemOf). (map seen_item old ++ x ∷ []) ++ behind next) (sym is)
      ∙ ap (λ (l : List ItemOf). l ++ behind next) (sym (map-append seen_item old (i ∷ [])) ∙ ap (map seen_item) (sym grown))
      ∙ ap (λ (h : Option (List ℕ)). map seen_item new ++ behind h) (sym held)

module _ (turn : ℕ) (s : StepOf) (all : List ItemOf) where
  abbrev places : List ℕ
  places = places_taken (order_of s) (length s.request.items)

  -- with the items of the places that are left, these are all
  abbrev pub AddsUp : ℕ → List ItemOf → Option (List ℕ) → Type 0
  AddsUp position xs held = all ≡ xs ++ items_along turn s (drop position places) held

  pub adds_none : (xs : List ItemOf) (held : Option (List ℕ)) → all ≡ xs ++ items_of_call turn s → held ≡ None → AddsUp 0 xs held
  adds_none xs held is empty = is ∙ ap (λ (h : Option (List ℕ)). xs ++ items_along turn s places h) (sym empty)

  pub adds_more : (position place : ℕ) (xs ys : List ItemOf) (held after : Option (List ℕ)) → slice_get places position ≡ Some place
      → ((behind : Option (List ℕ) → List ItemOf) → xs ++ item_then turn s place held (slice_get (pairs_of s.request s.response) place) behind ≡ ys ++ behind after)
      → AddsUp position xs held → AddsUp (position + 1) ys after
  adds_more position place xs ys held after at added up =
      let P : ℕ → Type 0 = λ n. AddsUp n ys after in
      let e : suc position ≡ position + 1 = omega arith in
      subst P e (up ∙ ap (λ (ps : List ℕ). xs ++ items_along turn s ps held) (drop_at places position place at)
      ∙ added (λ (h : Option (List ℕ)). items_along turn s (drop (suc position) places) h))

  pub adds_all : (position : ℕ) (xs : List ItemOf) (held : Option (List ℕ)) → length places ≤ position → AddsUp position xs held → xs ≡ all
  adds_all position xs held end up = sym (up ∙ ap (λ (ps : List ℕ). xs ++ items_along turn s ps held) (drop_all places position end) ∙ append-nil xs)

module _ (order : List StepOf) where
  -- with the items of the calls that are left, these are all
  abbrev pub AreUpTo : ℕ → List ItemOf → Type 0
  AreUpTo at xs = items_of order ≡ xs ++ items_from (at + 1) (drop at order)

  pub items_none : (items : List Item) → items ≡ [] → AreUpTo 0 (map seen_item items)
  items_none items none = ap (λ (l : List Item). map seen_item l ++ items_of order) (sym none)

  pub items_more : (at : ℕ) (s : StepOf) (xs ys : List ItemOf) → slice_get order at ≡ Some s → ys ≡ xs ++ items_of_call (at + 1) s → AreUpTo at xs → AreUpTo (at + 1) ys
  items_more at s xs ys there grown up =
      let P : ℕ → Type 0 = λ n. items_of order ≡ ys ++ items_from (at + 1 + 1) (drop n order) in
      let e : suc at ≡ at + 1 = omega arith in
      subst P e (up ∙ ap (λ (l : List StepOf). xs ++ items_from (at + 1) l) (drop_at order at s there)
      ∙ sym (append_assoc xs (items_of_call (at + 1) s) (items_from (at + 1 + 1) (drop (suc at) order)))
      ∙ ap (λ (l : List ItemOf). l ++ items_from (at + 1 + 1) (drop (suc at) order)) (sym grown))

  pub items_all : (at : ℕ) (xs : List ItemOf) → length order ≤ at → AreUpTo at xs → xs ≡ items_of order
  items_all at xs end up = sym (up ∙ ap (λ (l : List StepOf). xs ++ items_from (at + 1) l) (drop_all order at end) ∙ append-nil xs)

-- ---- the places of a call that is taken by place

pub count_by_place : (places : Option (List ℕ)) (count : ℕ) → places ≡ None → count ≡ length (places_taken (order_given places) count)
count_by_place None count e = sym (length_from 0 count)
count_by_place (Some places) count e = absurd cc

pub place_by_place : (places : Option (List ℕ)) (count position : ℕ) → places ≡ None → position < length (places_taken (order_given places) count)
    → slice_get (places_taken (order_given places) count) position ≡ Some position
place_by_place None count position e h =
    let first : 0 + position ≡ position = omega arith in
    from_within 0 position count (omega (arith, h, length_from 0 count)) ∙ ap Some first
place_by_place (Some places) count position e h = absurd cc
