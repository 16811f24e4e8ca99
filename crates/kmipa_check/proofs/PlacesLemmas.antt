-- The places that a turn gives: what they are, and what filling in leaves of them.
use Rattle.std.proofs.Common.{◌≡◌, ◌≢◌, ◌<◌, ◌≤◌, ◌-◌, ℕ, zero, suc, ℤ, pos, ◌≤ℤ◌, ◌<ℤ◌, Bool, true, false, List, [], ◌∷◌, ◌++◌, map, length, take, get_or, Option, Some, None, option_map, slice_get, refl, sym, ap, ◌∙◌, subst, arith}
use Rattle.std.proofs.lemmas.Int.{ints}
use Rattle.std.proofs.lemmas.Option.{slice_get-get_or}
use Rattle.kmipa_msgs.specs.Messages.{AnswerOf, RequestOf, ResponseOf}
use Rattle.kmipa_record.specs.Witnesses.{FillOf, TurnOf}
use Rattle.std.specs.Prelude.{◌↔◌, ◌&&◌, not, nat_lt, All, IfSome, IsTrue, int_lt}
use Rattle.std.specs.Int.Signed.{clash_ℤ}
use Rattle.kmipa_batch.specs.Calls.{RefusesMessage, MayTake}
use Rattle.kmipa_batch.specs.Orders.{IsTakingOrder, AreTakingOrder, order_given}
use Rattle.kmipa_batch.proofs.ShapeLemmas.{Alike, first_alike}
use Rattle.kmipa_check.specs.declared.fault.WitnessKind.{WitnessKind}
use Rattle.kmipa_check.specs.declared.fault.WitnessKind.TheVariants.{OrderForm}
use Rattle.kmipa_check.specs.Calls.{CallOf}
use Rattle.kmipa_check.specs.Fills.{IsFilledAt, stays, put_in, IsFilled}
use Rattle.kmipa_check.specs.Places.{place_numbers, GivesPlaces, WantsOrder, MayBeTaken, PlacesFault, unwanted, disordered}
use Rattle.kmipa_check.specs.Grants.{GrantsOf}
use Rattle.kmipa_check.specs.Moments.{at_moment}
use Rattle.kmipa_check.specs.Steps.{StepOf, IsStep}
use Rattle.kmipa_check.proofs.PlaceLemmas.{some_at, at_within}
use Rattle.kmipa_check.proofs.RunLemmas.{take_next}

-- ---- one reading

one_list : (xs ys : List ℕ) → place_numbers xs ≡ place_numbers ys → xs ≡ ys
one_list [] [] e = refl
one_list [] (y ∷ ys) e = absurd cc
one_list (x ∷ xs) [] e = absurd cc
one_list (x ∷ xs) (y ∷ ys) e =
    let head : pos x ≡ pos y = cc in
    let same : x ≡ y = cc in
    let tail : place_numbers xs ≡ place_numbers ys = cc in
    ap (λ (z : ℕ). z ∷ xs) same ∙ ap (λ (zs : List ℕ). y ∷ zs) (one_list xs ys tail)

-- numbers give one list of places, or none
pub one_places : (numbers : List ℤ) (places others : Option (List ℕ)) → GivesPlaces numbers places → GivesPlaces numbers others → places ≡ others
one_places numbers None None g h = refl
one_places numbers None (Some others) g h = absurd (h.0 g)
one_places numbers (Some places) None g h = absurd (g.0 h)
one_places numbers (Some places) (Some others) g h = ap Some (one_list places others (sym g.1 ∙ h.1))

-- places by which the items may be taken have no fault
pub places_right : (request : RequestOf) (response : ResponseOf) (numbers : List ℤ) (places : Option (List ℕ)) (kind : WitnessKind) → GivesPlaces numbers places
    → MayBeTaken request response places → PlacesFault request response numbers kind → ⊥
places_right request response numbers None kind g taken (unwanted some wants is) = some g
places_right request response numbers None kind g taken (disordered some wants none is) = some g
places_right request response numbers (Some places) kind g taken (unwanted some wants is) = wants taken.0
places_right request response numbers (Some places) kind g taken (disordered some wants none is) = none places g.1 taken.1

-- and else one
pub one_places_fault : (request : RequestOf) (response : ResponseOf) (numbers : List ℤ) (kind other : WitnessKind) → PlacesFault request response numbers kind
    → PlacesFault request response numbers other → kind ≡ other
one_places_fault request response numbers kind other (unwanted some wants is) (unwanted any lacks same) = is ∙ sym same
one_places_fault request response numbers kind other (unwanted some wants is) (disordered any wanted none same) = absurd (wants wanted)
one_places_fault request response numbers kind other (disordered some wanted none is) (unwanted any lacks same) = absurd (lacks wanted)
one_places_fault request response numbers kind other (disordered some wanted none is) (disordered any wants nothing same) = is ∙ sym same

-- places that were tested, and are no order of the answered ones
pub no_order : (request : RequestOf) (response : ResponseOf) (numbers : List ℤ) (places : List ℕ) (reported : Bool) → numbers ≢ [] → WantsOrder request response → numbers ≡ place_numbers places
    → IsTrue reported ↔ AreTakingOrder request response places → reported ≡ false → PlacesFault request response numbers OrderForm
no_order request response numbers places reported some wants is tests not = disordered some wants (λ others same taken. by others (one_list others places (sym same ∙ is)) taken) refl
  where
    by : (others : List ℕ) → others ≡ places → AreTakingOrder request response others → ⊥
    by others e taken =
        let P : List ℕ → Type 0 = λ ps. AreTakingOrder request response ps in
        let yes = tests.1 (subst P e taken) in
        cc

-- ---- one number more

map_more : (xs : List ℕ) (y : ℕ) → place_numbers (xs ++ y ∷ []) ≡ place_numbers xs ++ pos y ∷ []
map_more [] y = refl
map_more (x ∷ xs) y = ap (λ (l : List ℤ). pos x ∷ l) (map_more xs y)

pub numbers_more : (numbers : List ℤ) (at : ℕ) (number : ℤ) (places : List ℕ) (place : ℕ) → take at numbers ≡ place_numbers places → slice_get numbers at ≡ Some number → number ≡ pos place
    → take (suc at) numbers ≡ place_numbers (places ++ place ∷ [])
numbers_more numbers at number places place so_far there is =
    take_next numbers at number there ∙ ap (λ (l : List ℤ). l ++ number ∷ []) so_far ∙ ap (λ (z : ℤ). place_numbers places ++ z ∷ []) is ∙ sym (map_more places place)

-- ---- numbers below 0

pub none_below : (numbers : List ℤ) (at : ℕ) (number : ℤ) → slice_get numbers at ≡ Some number → (pos 0 ≤ℤ number → ⊥) → (places : List ℕ) → numbers ≡ place_numbers places → ⊥
none_below numbers at number there below [] e = let P : List ℤ → Type 0 = λ xs. slice_get xs at ≡ Some number in let bad = subst P e there in cc
none_below [] at number there below (p ∷ places) e = absurd cc
none_below (x ∷ numbers) zero number there below (p ∷ places) e =
    let head : x ≡ pos p = cc in
    let same : x ≡ number = cc in
    let is : number ≡ pos p = cc in
    let P : ℤ → Type 0 = λ z. pos 0 ≤ℤ z in
    let from : pos 0 ≤ℤ pos p = omega (arith, ints) in
    below (subst P (sym is) from)
none_below (x ∷ numbers) (suc at) number there below (p ∷ places) e =
    let tail : numbers ≡ place_numbers places = cc in
    none_below numbers at number there below places tail

below_zero : (number : ℤ) → int_lt number (pos 0) ≡ true → number <ℤ pos 0
below_zero number less = omega (arith, ints)

pub negative : (numbers : List ℤ) (at : ℕ) → at < length numbers → int_lt (get_or numbers at (pos 0)) (pos 0) ≡ true → (places : List ℕ) → numbers ≡ place_numbers places → ⊥
negative numbers at below less =
    none_below numbers at (get_or numbers at (pos 0)) (slice_get-get_or numbers at (pos 0) below) (λ from. clash_ℤ (below_zero (get_or numbers at (pos 0)) less) from)

-- ---- what filling in leaves

module _ (request : RequestOf) (response : ResponseOf) (fills : List FillOf) (full : ResponseOf) (f : IsFilled request response fills full) where
  same_status : (place : ℕ) (answer filled : AnswerOf) → IsFilledAt request response fills place answer filled → filled.status ≡ answer.status
  same_status place answer filled (stays none is) = ap (λ (a : AnswerOf). a.status) is
  same_status place answer filled (put_in ask w fill one its p says is) = ap (λ (a : AnswerOf). a.status) is

  alike : Alike full.items response.items
  alike = record { same = λ place. by place (slice_get full.items place) (slice_get response.items place) refl refl }
    where
      by : (place : ℕ) (x y : Option AnswerOf) → slice_get full.items place ≡ x → slice_get response.items place ≡ y
          → option_map (λ (a : AnswerOf). a.status) (slice_get full.items place) ≡ option_map (λ (a : AnswerOf). a.status) (slice_get response.items place)
      by place None None a b = ap (option_map (λ (x : AnswerOf). x.status)) (a ∙ sym b)
      by place None (Some y) a b =
          let some = some_at full.items place (omega (arith, at_within response.items place y b, f.counted)) in
          let bad = some.1 in
          absurd cc
      by place (Some x) None a b =
          let some = some_at response.items place (omega (arith, at_within full.items place x a, f.counted)) in
          let bad = some.1 in
          absurd cc
      by place (Some x) (Some y) a b =
          ap (option_map (λ (u : AnswerOf). u.status)) a ∙ ap Some (same_status place y x (f.each place y x b a)) ∙ sym (ap (option_map (λ (u : AnswerOf). u.status)) b)

  -- a message that is refused was refused before
  refused_before : RefusesMessage full → RefusesMessage response
  refused_before r = by (some_at response.items 0 (omega (arith, one, f.counted)))
    where
      one : length full.items ≡ 1
      one = ap length r.alone

      here : slice_get full.items 0 ≡ Some r.answer
      here = ap (λ (xs : List AnswerOf). slice_get xs 0) r.alone

      single : (items : List AnswerOf) (a : AnswerOf) → length items ≡ 1 → slice_get items 0 ≡ Some a → items ≡ a ∷ []
      single [] a long at = absurd cc
      single (x ∷ []) a long at = let same : x ≡ a = cc in ap (λ (u : AnswerOf). u ∷ []) same
      single (x ∷ y ∷ items) a long at = absurd (omega (arith, long))

      kept : (a : AnswerOf) → slice_get response.items 0 ≡ Some a → IsFilledAt request response fills 0 a r.answer → RefusesMessage response
      kept a at (stays none is) = record {
        answer = a;
        alone = single response.items a (sym f.counted ∙ one) at;
        failed = ap (λ (u : AnswerOf). u.status) (sym is) ∙ r.failed;
        unnamed = ap (λ (u : AnswerOf). u.operation) (sym is) ∙ r.unnamed;
      }
      kept a at (put_in ask w fill one its p says is) =
          let status : r.answer.status ≡ a.status = ap (λ (u : AnswerOf). u.status) is in
          let failed = r.failed in
          let undone = w.wanted.undone in
          absurd cc

      by : (a : AnswerOf) × (slice_get response.items 0 ≡ Some a) → RefusesMessage response
      by (a, at) = kept a at (f.each 0 a r.answer at here)

  -- an order of the answered places stays one
  order_kept : (order : List ℕ) → IsTakingOrder request response order → IsTakingOrder request full order
  order_kept order o = record {
    answered = λ position place at. let a = o.answered position place at in (a.0, omega (arith, a.1, f.counted));
    all = λ place a. o.all place (a.0, omega (arith, a.1, f.counted));
    once = o.once;
    last = λ ends failed first. o.last ends failed (first_alike full.items response.items failed alike first);
  }

  pub places_kept : (places : Option (List ℕ)) → MayBeTaken request response places → MayBeTaken request full places
  places_kept None taken = tt
  places_kept (Some places) taken =
      ((taken.0.0, λ r. taken.0.1 (refused_before r)), (taken.1.0, order_kept (map (λ (place : ℕ). place - 1) places) taken.1.1))

-- so a call may take them
pub from_one : (request : RequestOf) (response : ResponseOf) (places : Option (List ℕ)) → MayBeTaken request response places → IfSome places (λ ps. All (λ (place : ℕ). 1 ≤ place) ps)
from_one request response None taken = tt
from_one request response (Some places) taken = taken.1.0

pub may_take : (request : RequestOf) (response : ResponseOf) (places : Option (List ℕ)) → MayBeTaken request response places → MayTake request response (order_given places)
may_take request response None taken = tt
may_take request response (Some places) taken = (taken.0.0, taken.0.1, taken.1.1)

-- a response is a refusal at any moment or at none
pub refused_at : (response : ResponseOf) (moment : ℤ) → RefusesMessage (at_moment response moment) → RefusesMessage response
refused_at response moment r = record { answer = r.answer; alone = r.alone; failed = r.failed; unnamed = r.unnamed }

-- whatever the moment
taken_at : (request : RequestOf) (response : ResponseOf) (moment : ℤ) (places : Option (List ℕ)) → MayBeTaken request response places → MayBeTaken request (at_moment response moment) places
taken_at request response moment None taken = tt
taken_at request response moment (Some places) taken =
    let order = taken.1.1 in
    ((taken.0.0, λ r. taken.0.1 (refused_at response moment r)), (taken.1.0, record { answered = order.answered; all = order.all; once = order.once; last = order.last }))

-- with the births put in they may be taken so, too
born_taken : (request asked : RequestOf) (response : ResponseOf) (places : Option (List ℕ)) → asked.option ≡ request.option → asked.ordered ≡ request.ordered → length asked.items ≡ length request.items
    → MayBeTaken request response places → MayBeTaken asked response places
born_taken request asked response None option ordered counted taken = tt
born_taken request asked response (Some places) option ordered counted taken =
    let o = taken.1.1 in
    let unordered = ap (λ (b : Bool). not b && nat_lt 1 (length asked.items)) ordered ∙ ap (λ (n : ℕ). not request.ordered && nat_lt 1 n) counted ∙ taken.0.0 in (
      (unordered, taken.0.1),
      (
        taken.1.0,
        record {
          answered = λ position place at. let a = o.answered position place at in (omega (arith, a.0, counted), a.1);
          all = λ place a. o.all place (omega (arith, a.0, counted), a.1);
          once = o.once;
          last = λ ends failed first. o.last (λ e. ends (option ∙ e)) failed first;
        },
      ),
    )

-- the items of a step may be taken in its order
pub step_taken : (g : GrantsOf) (c : CallOf) (t : TurnOf) (s : StepOf) → IsStep g c t s → MayBeTaken s.request s.response s.places
step_taken g c t s i =
    let P : StepOf → Type 0 = λ x. MayBeTaken x.request x.response x.places in
    subst P (sym i.is)
    (born_taken c.request i.asked (at_moment i.full i.moment) i.places i.born.option i.born.ordered i.born.counted
    (taken_at c.request i.full i.moment i.places (places_kept c.request i.response t.fills i.full i.filled i.places i.taken)))
