-- A no to a turn is a no to each order that begins by the same steps, up to and with that turn.
use Rattle.std.proofs.Common.{◌≡◌, ◌<◌, ℕ, zero, suc, ◌+◌, ℤ, List, [], ◌∷◌, length, take, Option, Some, slice_get, refl, sym, ap, ◌∙◌, subst, arith}
use Rattle.std.proofs.lemmas.Option.{slice_get_within}
use Rattle.kmipa_record.specs.Declarations.{DeclarationOf}
use Rattle.kmipa_ops.specs.declared.why.Why.{Why}
use Rattle.kmipa_ops.specs.declared.why.Why.TheVariants.{EarlierCallLate}
use Rattle.kmipa_check.specs.Runs.{rules_declared}
use Rattle.kmipa_check.specs.declared.verdict.Refused.{Refused}
use Rattle.kmipa_turns.specs.Steps.{StepOf}
use Rattle.kmipa_places.specs.Calls.{ReadOf}
use Rattle.kmipa_trail.specs.Leading.{Leads, AreKnown}
use Rattle.kmipa_trail.specs.Placing.{ArePlaced, IsPlacedAt, RunsBack}
use Rattle.kmipa_trail.specs.Verdicts.{ArePossible, ArePossibleUpTo, IsRefused, RefusedAt, in_place, in_item, RefusedItem, RefusedPlace, late, runs_back}

-- two orders have the same steps at the first places
abbrev pub BeginsAs : List StepOf → List StepOf → ℕ → Type 0
BeginsAs others order count = (place : ℕ) → place < count → slice_get others place ≡ slice_get order place

same_front : {X : Type 0} (n : ℕ) (xs ys : List X) → ((i : ℕ) → i < n → slice_get xs i ≡ slice_get ys i) → take n xs ≡ take n ys
same_front zero xs ys h = refl
same_front (suc n) [] [] h = refl
same_front (suc n) [] (y ∷ ys) h = let e = h 0 (omega arith) in absurd cc
same_front (suc n) (x ∷ xs) [] h = let e = h 0 (omega arith) in absurd cc
same_front (suc n) (x ∷ xs) (y ∷ ys) h =
    let e : Some x ≡ Some y = h 0 (omega arith) in
    let head : x ≡ y = cc in
    ap (λ (z : _). z ∷ take n xs) head ∙ ap (λ (l : List _). y ∷ l) (same_front n xs ys (λ i below. h (suc i) (omega (arith, below))))

module _ (declared : DeclarationOf) (order others : List StepOf) (turn : ℕ) (s : StepOf) (there : slice_get order turn ≡ Some s) (same : BeginsAs others order (suc turn))
    (before : ArePossible declared order turn) (placed : ArePlaced others (length others)) where
  here : slice_get others turn ≡ Some s
  here = same turn (omega arith) ∙ there

  within : turn < length others
  within = slice_get_within others turn s here

  front : take turn others ≡ take turn order
  front = same_front turn others order (λ i below. same i (omega (arith, below)))

  placed_here : IsPlacedAt others turn s
  placed_here =
      let p = placed turn within in
      let at = p.1.there in
      let found = here in
      let is : p.0 ≡ s = cc in
      let P : StepOf → Type 0 = λ x. IsPlacedAt others turn x in
      subst P is p.1

  placed_before : ArePlaced others turn
  placed_before i below = placed i (omega (arith, below, within))

  runs_too : RunsBack order turn s → RunsBack others turn s
  runs_too b = record {
    moment = b.moment;
    has = b.has;
    earlier = b.earlier;
    ahead = b.ahead;
    other = b.other;
    there = same b.earlier (let ahead = b.ahead in omega (arith, ahead)) ∙ b.there;
    last = b.last;
    had = b.had;
    less = b.less;
  }

  place_too : (why : Why) → (why ≡ EarlierCallLate → ⊥) → RefusedPlace order turn s why → RefusedPlace others turn s why
  place_too why timely (late is e) = absurd (timely e)
  place_too why timely (runs_back kept back e) = runs_back placed_here.kept (runs_too back) e

  -- what one order allows of the turn the other does, as far as its call goes
  other_up_to : (c : ReadOf) (places : Option (List ℕ)) (count : ℕ) → ArePossibleUpTo declared order turn s c places count → ArePossibleUpTo declared others turn s c places count
  other_up_to c places count p =
      let L : List StepOf → Type 0 = λ o. Leads (rules_declared declared) p.start o p.before in
      record {
        placed = placed_before;
        here = placed_here;
        start = p.start;
        described = p.described;
        before = p.before;
        linked = subst L (sym front) p.linked;
        items = p.items;
      }

  order_up_to : (c : ReadOf) (places : Option (List ℕ)) (count : ℕ) → IsPlacedAt order turn s → ArePossibleUpTo declared others turn s c places count → ArePossibleUpTo declared order turn s c places count
  order_up_to c places count at p =
      let L : List StepOf → Type 0 = λ o. Leads (rules_declared declared) p.start o p.before in
      record {
        placed = before.placed;
        here = at;
        start = p.start;
        described = p.described;
        before = p.before;
        linked = subst L front p.linked;
        items = p.items;
      }

  item_too : (item : ℕ) (why : Why) → RefusedItem declared order turn s item why → RefusedItem declared others turn s item why
  item_too item why r =
      let K : List StepOf → Type 0 = λ o. AreKnown declared o r.known in
      record {
        call = r.call;
        places = r.places;
        taken = r.taken;
        unrefused = r.unrefused;
        count = r.count;
        before = other_up_to r.call r.places r.count r.before;
        never = λ p. r.never (order_up_to r.call r.places (r.count + 1) r.before.here p);
        known = r.known;
        knows = subst K (sym front) r.knows;
        speaks = r.speaks;
      }

  at_too : (item : ℕ) (why : Why) → (why ≡ EarlierCallLate → ⊥) → RefusedAt declared order turn s item why → RefusedAt declared others turn s item why
  at_too item why timely (in_place is h) = in_place is (place_too why timely h)
  at_too item why timely (in_item h) = in_item (item_too item why h)

  possible_too : ArePossible declared others turn
  possible_too =
      let L : List StepOf → Type 0 = λ o. Leads (rules_declared declared) before.start o before.last in
      record { placed = placed_before; start = before.start; described = before.described; last = before.last; linked = subst L (sym front) before.linked }

pub refused_too : (declared : DeclarationOf) (order others : List StepOf) (r : Refused) (stamp : Option ℤ) (i : IsRefused declared order r stamp) → BeginsAs others order (suc i.turn)
    → ArePlaced others (length others) → (r.why ≡ EarlierCallLate → ⊥) → IsRefused declared others r stamp
refused_too declared order others r stamp i same placed timely = record {
  turn = i.turn;
  reported = i.reported;
  step = i.step;
  there = here declared order others i.turn i.step i.there same i.before placed;
  number = i.number;
  dated = i.dated;
  before = possible_too declared order others i.turn i.step i.there same i.before placed;
  refused = at_too declared order others i.turn i.step i.there same i.before placed r.item r.why timely i.refused;
}
