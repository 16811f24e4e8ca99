-- Fills are tested and put in: one place, and one fill, after the other.
use Rattle.std.proofs.Common.{◌≡◌, ◌≢◌, ◌<◌, ◌≤◌, ◌⊎◌, inl, inr, ◌==◌, ℕ, zero, suc, ◌+◌, ℤ, pos, negsuc, ◌≤ℤ◌, Bool, true, false, List, [], ◌∷◌, map, length, set, length-set, get_or, Contains, Option, Some, None, slice_get, refl, sym, ap, ◌∙◌, subst, arith, add-one}
use mir.Syntax.{w32}
use mir.Val.{SFits, to_z, of_z}
use Rattle.std.specs.Prelude.{is_some, option_map, Err, ◌↔◌}
use Rattle.std.proofs.lemmas.Bool.Decides.{nat_tests}
use Rattle.std.proofs.lemmas.Int.{ints, to_z-of_z}
use Rattle.std.proofs.lemmas.Option.{slice_get_within, slice_get-get_or}
use Rattle.kmipa_record.specs.declared.fill.Fill.{Fill}
use Rattle.kmipa_record.specs.Witnesses.{FillOf, TurnOf, fill_of}
use Rattle.kmipa_msgs.specs.Messages.{AskOf, PayloadOf, AnswerOf, RequestOf, ResponseOf}
use Rattle.kmipa_msgs.specs.Wanted.{Wanted}
use Rattle.kmipa_check.specs.declared.numbers.FirstPlaces.{FirstPlaces}
use Rattle.kmipa_check.specs.declared.fault.StepFault.{StepFault}
use Rattle.kmipa_check.specs.declared.fault.StepFault.TheVariants.{Unfit, Memory}
use Rattle.kmipa_check.specs.Fills.{IsWantedAt, IsWanted, IsFor, AreWanted, NoneMissing, SaysFill, with_payload, IsFilledAt, stays, put_in, IsFilled, IsWantedItem, HasFillFor, HaveFillsBelow}
use Rattle.kmipa_check.specs.Filling.{AreNumbered, AreWantedBelow, IsPutAt, waits, put, IsFilledUpTo, FillRead, FormFault, FillsRefused}
use Rattle.kmipa_check.specs.Calls.{CallOf}
use Rattle.kmipa_check.specs.CallReading.{AnswerRead}
use Rattle.kmipa_check.specs.Orders.{formless}
use Rattle.kmipa_check.specs.Numbers.{place_in, Indexes}
use Rattle.kmipa_check.specs.Ordering.{AnswerRefused, NoneWantedBelow}
use Rattle.kmipa_check.specs.Deciding.{Decided}
use Rattle.kmipa_check.specs.Steps.{NeedsFill}
use Rattle.kmipa_check.proofs.FillLemmas.{pair_at, pair_left, pair_right, once_at, filled_itself}
use Rattle.kmipa_check.proofs.ItemLemmas.{once_each, once_all, item_there, item_absent}
use Rattle.kmipa_check.proofs.PlaceLemmas.{below_suc, mapped_from, contains_at, at_contains, get_at, at_within}

-- ---- places that wait

pub is_wanted_here : (request : RequestOf) (response : ResponseOf) (place : ℕ) (ask : AskOf) (answer : AnswerOf) → slice_get request.items place ≡ Some ask → slice_get response.items place ≡ Some answer
    → Wanted ask answer → IsWanted request response place
is_wanted_here request response place ask answer a b wanted = (ask, answer, record { there = pair_at request.items response.items place ask answer a b; wanted = wanted })

pub not_wanted_here : (request : RequestOf) (response : ResponseOf) (place : ℕ) (ask : AskOf) (answer : AnswerOf) → slice_get request.items place ≡ Some ask → slice_get response.items place ≡ Some answer
    → (Wanted ask answer → ⊥) → IsWanted request response place → ⊥
not_wanted_here request response place ask answer a b never (x, y, w) =
    let p = pair_left request.items response.items place x y w.there in
    let q = pair_right request.items response.items place x y w.there in
    let left : x ≡ ask = cc in
    let right : y ≡ answer = cc in
    let P : AskOf → Type 0 = λ u. Wanted u y in
    let Q : AnswerOf → Type 0 = λ u. Wanted ask u in
    never (subst Q right (subst P left w.wanted))

pub wanted_within : (request : RequestOf) (response : ResponseOf) (place : ℕ) → IsWanted request response place → (place < length request.items) × (place < length response.items)
wanted_within request response place (x, y, w) = (
  at_within request.items place x (pair_left request.items response.items place x y w.there),
  at_within response.items place y (pair_right request.items response.items place x y w.there),
)

pub none_wanted_none : (request : RequestOf) (response : ResponseOf) → NoneWantedBelow request response 0
none_wanted_none request response = λ place below wanted. omega (arith, below)

pub none_wanted_more : (request : RequestOf) (response : ResponseOf) (place : ℕ) → (IsWanted request response place → ⊥) → NoneWantedBelow request response place
    → NoneWantedBelow request response (place + 1)
none_wanted_more request response place never h =
    let P : ℕ → Type 0 = λ n. NoneWantedBelow request response n in
    subst P (sym (add-one place)) (λ other below wanted. by other wanted (below_suc other place below))
  where
    by : (other : ℕ) → IsWanted request response other → (other < place) ⊎ (other ≡ place) → ⊥
    by other wanted (inl l) = h other l wanted
    by other wanted (inr e) = let P : ℕ → Type 0 = λ n. IsWanted request response n in never (subst P e wanted)

pub none_wanted_all : (request : RequestOf) (response : ResponseOf) (count : ℕ) → NoneWantedBelow request response count → length request.items ≤ count → NeedsFill request response → ⊥
none_wanted_all request response count h past (place, wanted) = h place (omega (arith, (wanted_within request response place wanted).0, past)) wanted

-- ---- fills that are wanted

numbered : (request : RequestOf) (response : ResponseOf) (fills : List FillOf) (count : ℕ) → AreWantedBelow request response fills count → length fills ≤ count
    → (fill : FillOf) → Contains fills fill → IsWantedItem request response fill.item × (fill.item ≤ℤ pos 0x7FFF_FFFF)
numbered request response fills count h past = once_each (λ (f : FillOf). f.item) (λ item. IsWantedItem request response item × (item ≤ℤ pos 0x7FFF_FFFF)) fills count h past

pub wanted_all : (request : RequestOf) (response : ResponseOf) (fills : List FillOf) (count : ℕ) → AreWantedBelow request response fills count → length fills ≤ count → AreWanted request response fills
wanted_all request response fills count h past = record {
  each = λ fill one. (numbered request response fills count h past fill one).0;
  once = once_all (λ (f : FillOf). f.item) (λ item. IsWantedItem request response item × (item ≤ℤ pos 0x7FFF_FFFF)) fills count h past;
}

pub numbered_all : (request : RequestOf) (response : ResponseOf) (fills : List FillOf) (count : ℕ) → AreWantedBelow request response fills count → length fills ≤ count → AreNumbered fills
numbered_all request response fills count h past = λ fill one. (numbered request response fills count h past fill one).1

-- ---- places that have their fills

pub have_none : (request : RequestOf) (response : ResponseOf) (fills : List FillOf) → HaveFillsBelow request response fills 0
have_none request response fills = λ place below wanted. absurd (omega (arith, below))

pub have_more : (request : RequestOf) (response : ResponseOf) (fills : List FillOf) (place : ℕ) → (IsWanted request response place → HasFillFor fills place)
    → HaveFillsBelow request response fills place → HaveFillsBelow request response fills (place + 1)
have_more request response fills place here h =
    let P : ℕ → Type 0 = λ n. HaveFillsBelow request response fills n in
    subst P (sym (add-one place)) (λ other below wanted. by other wanted (below_suc other place below))
  where
    by : (other : ℕ) → IsWanted request response other → (other < place) ⊎ (other ≡ place) → HasFillFor fills other
    by other wanted (inl l) = h other l wanted
    by other wanted (inr e) =
        let P : ℕ → Type 0 = λ n. IsWanted request response n in
        let Q : ℕ → Type 0 = λ n. HasFillFor fills n in
        subst Q (sym e) (here (subst P e wanted))

pub have_all : (request : RequestOf) (response : ResponseOf) (fills : List FillOf) (count : ℕ) → HaveFillsBelow request response fills count → length request.items ≤ count
    → NoneMissing request response fills
have_all request response fills count h past = λ place wanted. h place (omega (arith, (wanted_within request response place wanted).0, past)) wanted

-- ---- fills that are put in

pub filled_up_to_none : (request : RequestOf) (response : ResponseOf) (fills : List FillOf) (full : ResponseOf) → full ≡ response → IsFilledUpTo request response fills 0 full
filled_up_to_none request response fills full is = record {
  stamp = ap (λ (r : ResponseOf). r.stamp) is;
  counted = ap (λ (r : ResponseOf). length r.items) is;
  each = λ place answer filled there at. waits (λ i fill below stands its. omega (arith, below)) (let same : full.items ≡ response.items = ap (λ (r : ResponseOf). r.items) is in cc);
}

pub filled_up_to_all : (request : RequestOf) (response : ResponseOf) (fills : List FillOf) (count : ℕ) (full : ResponseOf) → AreWanted request response fills → NoneMissing request response fills
    → length fills ≤ count → IsFilledUpTo request response fills count full → IsFilled request response fills full
filled_up_to_all request response fills count full wanted complete past h = record {
  wanted = wanted;
  complete = complete;
  stamp = h.stamp;
  counted = h.counted;
  each = λ place answer filled there at. by place answer filled (h.each place answer filled there at);
}
  where
    by : (place : ℕ) (answer filled : AnswerOf) → IsPutAt request response fills count place answer filled → IsFilledAt request response fills place answer filled
    by place answer filled (waits none is) = stays (λ w. never (complete place w)) is
      where
        never : HasFillFor fills place → ⊥
        never (fill, one, its) =
            let p = at_contains fills fill one in
            none p.0 fill (omega (arith, at_within fills p.0 fill p.1, past)) p.1 its
    by place answer filled (put ask w fill one its p says is) = put_in ask w fill one its p says is

-- ---- what the tests tell

pub wanted_decided : (request : RequestOf) (response : ResponseOf) (place : ℕ) (ask : AskOf) (answer : AnswerOf) (b : Bool) → slice_get request.items place ≡ Some ask
    → slice_get response.items place ≡ Some answer → (b ≡ true) ↔ Wanted ask answer → Decided b (IsWanted request response place)
wanted_decided request response place ask answer true asked answered h = is_wanted_here request response place ask answer asked answered (h.0 refl)
wanted_decided request response place ask answer false asked answered h =
    not_wanted_here request response place ask answer asked answered (λ wanted. let e = h.1 wanted in absurd cc)

pub fill_decided : (fills : List Fill) (places : FirstPlaces) → Indexes (map (λ (f : Fill). Some f.item) fills) places → (number : ℤ) (place : ℕ) → number ≡ pos (place + 1)
    → (v : Option ℕ) → place_in places number ≡ v → Decided (is_some v) (HasFillFor (map fill_of fills) place)
fill_decided fills places knows number place is None e = λ h. item_absent fill_of (λ (f : FillOf). f.item) fills places knows number e h.0 h.1 (h.2 ∙ sym is)
fill_decided fills places knows number place is (Some q) e =
    let f = item_there fill_of (λ (f : FillOf). f.item) fills places knows number q e in
    (f.0, f.1, f.2 ∙ is)

-- a number that 32 bits hold
pub fits_small : (z : ℤ) → SFits w32 z → z ≤ℤ pos 0x7FFF_FFFF
fits_small (pos n) f = let s : n < 2147483648 = f.sfits in omega (arith, ints, s)
fits_small (negsuc n) f = omega (arith, ints)

pub too_large : (fills : List FillOf) (place : ℕ) → AreNumbered fills → (SFits w32 (pos (place + 1)) → ⊥) → HasFillFor fills place → ⊥
too_large fills place small never (fill, one, is) =
    let P : ℤ → Type 0 = λ z. z ≤ℤ pos 0x7FFF_FFFF in
    let within = subst P is (small fill one) in
    let below : place + 1 ≤ 0x7FFF_FFFF = omega (arith, ints, within) in
    never (record { sfits = omega (arith, below) })

-- a fill that is tested
pub wanted_not : (request : RequestOf) (response : ResponseOf) (fills : List FillOf) (at : ℕ) (fill : FillOf) → slice_get fills at ≡ Some fill → (IsWantedItem request response fill.item → ⊥)
    → AreWanted request response fills → ⊥
wanted_not request response fills at fill there never w = never (w.each fill (contains_at fills at fill there))

pub wanted_twice : (request : RequestOf) (response : ResponseOf) (fills : List FillOf) (at earlier : ℕ) (fill other : FillOf) → slice_get fills at ≡ Some fill → earlier < at
    → slice_get fills earlier ≡ Some other → other.item ≡ fill.item → AreWanted request response fills → ⊥
wanted_twice request response fills at earlier fill other there before stood same w = once_at (λ (f : FillOf). f.item) fills w.once earlier at other fill before stood there same

-- ---- one fill more

set_cases : {X : Type 0} (xs : List X) (i j : ℕ) (y z : X) → slice_get (set xs i y) j ≡ Some z → ((j ≡ i) × (z ≡ y)) ⊎ ((j ≢ i) × (slice_get xs j ≡ Some z))
set_cases [] i j y z at = absurd cc
set_cases (x ∷ xs) zero zero y z at = inl (refl, cc)
set_cases (x ∷ xs) zero (suc j) y z at = inr (λ e. omega (arith, e), at)
set_cases (x ∷ xs) (suc i) zero y z at = inr (λ e. omega (arith, e), at)
set_cases (x ∷ xs) (suc i) (suc j) y z at = up (set_cases xs i j y z at)
  where
    up : ((j ≡ i) × (z ≡ y)) ⊎ ((j ≢ i) × (slice_get xs j ≡ Some z)) → ((suc j ≡ suc i) × (z ≡ y)) ⊎ ((suc j ≢ suc i) × (slice_get xs j ≡ Some z))
    up (inl p) = inl (ap suc p.0, p.1)
    up (inr p) = inr (λ e. p.0 (omega (arith, e)), p.1)

same_place : (place other : ℕ) → pos (place + 1) ≡ pos (other + 1) → place ≡ other
same_place place other e = let same : place + 1 ≡ other + 1 = cc in omega (arith, same)

pub fill_for : (fill : Fill) (place : ℕ) → SFits w32 fill.item → to_z w32 (of_z w32 fill.item) ≡ pos (place + 1) → IsFor (fill_of fill) place
fill_for fill place fits is = sym (to_z-of_z w32 fill.item fits) ∙ is

-- the place of a fill that is wanted
pub wanted_place : (request : RequestOf) (response : ResponseOf) (fills : List FillOf) (at : ℕ) (fill : FillOf) (place : ℕ) → AreWanted request response fills → slice_get fills at ≡ Some fill → IsFor fill place
    → IsWanted request response place
wanted_place request response fills at fill place w there is =
    let p = w.each fill (contains_at fills at fill there) in
    let P : ℕ → Type 0 = λ n. IsWanted request response n in
    subst P (same_place p.0 place (sym p.1 ∙ is)) p.2

pub wanted_from_one : (request : RequestOf) (response : ResponseOf) (fills : List FillOf) (at : ℕ) (fill : FillOf) → AreWanted request response fills → slice_get fills at ≡ Some fill → pos 1 ≤ℤ fill.item
wanted_from_one request response fills at fill w there =
    let p = w.each fill (contains_at fills at fill there) in
    let e = p.1 in
    omega (arith, ints, e)

module _ (request : RequestOf) (response : ResponseOf) (fills : List FillOf) (wanted : AreWanted request response fills) (count : ℕ) (fill : FillOf) (there : slice_get fills count ≡ Some fill)
    (place : ℕ) (its : IsFor fill place) (ask : AskOf) (asked : slice_get request.items place ≡ Some ask) where
  its_place : (answer : AnswerOf) → slice_get response.items place ≡ Some answer → IsWantedAt request response place ask answer
  its_place answer answered = by (wanted_place request response fills count fill place wanted there its)
    where
      by : IsWanted request response place → IsWantedAt request response place ask answer
      by (x, y, w) =
          let p = pair_left request.items response.items place x y w.there in
          let q = pair_right request.items response.items place x y w.there in
          let left : x ≡ ask = cc in
          let right : y ≡ answer = cc in
          let P : AskOf → Type 0 = λ u. IsWantedAt request response place u y in
          let Q : AnswerOf → Type 0 = λ u. IsWantedAt request response place ask u in
          subst Q right (subst P left w)

  pub filled_up_to_more : (full new : ResponseOf) (old : AnswerOf) (p : PayloadOf) → IsFilledUpTo request response fills count full → slice_get full.items place ≡ Some old → SaysFill fill ask p
      → new.stamp ≡ full.stamp → new.items ≡ set full.items place (with_payload old p) → IsFilledUpTo request response fills (count + 1) new
  filled_up_to_more full new old p h stood says stamp items =
      let P : ℕ → Type 0 = λ n. IsFilledUpTo request response fills n new in
      subst P (sym (add-one count)) (record {
        stamp = stamp ∙ h.stamp;
        counted = ap length items ∙ length-set full.items place (with_payload old p) ∙ h.counted;
        each = λ other answer filled answered at. by other answer filled answered (set_cases full.items place other (with_payload old p) filled (ap (λ (xs : List AnswerOf). slice_get xs other) (sym items) ∙ at));
      })
    where
      here : (answer filled : AnswerOf) → slice_get response.items place ≡ Some answer → filled ≡ with_payload old p → IsPutAt request response fills count place answer old
          → IsPutAt request response fills (suc count) place answer filled
      here answer filled answered is (waits none same) =
          put ask (its_place answer answered) fill (contains_at fills count fill there) its p says (is ∙ ap (λ (x : AnswerOf). with_payload x p) same)
      here answer filled answered is (put asked' w one has any q said same) =
          put ask (its_place answer answered) fill (contains_at fills count fill there) its p says (is ∙ ap (λ (x : AnswerOf). with_payload x p) same)

      before : (other : ℕ) (answer filled : AnswerOf) → other ≢ place → IsPutAt request response fills count other answer filled → IsPutAt request response fills (suc count) other answer filled
      before other answer filled apart (put asked' w one has any q said same) = put asked' w one has any q said same
      before other answer filled apart (waits none same) = waits (λ at f below stands for_other. not_last at f stands for_other (below_suc at count below)) same
        where
          not_last : (at : ℕ) (f : FillOf) → slice_get fills at ≡ Some f → IsFor f other → (at < count) ⊎ (at ≡ count) → ⊥
          not_last at f stands for_other (inl l) = none at f l stands for_other
          not_last at f stands for_other (inr e) =
              let P : ℕ → Type 0 = λ n. slice_get fills n ≡ Some f in
              let that = subst P e stands in
              let same_fill : f ≡ fill = cc in
              apart (same_place other place (sym for_other ∙ ap (λ (g : FillOf). g.item) same_fill ∙ its))

      by : (other : ℕ) (answer filled : AnswerOf) → slice_get response.items other ≡ Some answer
          → ((other ≡ place) × (filled ≡ with_payload old p)) ⊎ ((other ≢ place) × (slice_get full.items other ≡ Some filled)) → IsPutAt request response fills (suc count) other answer filled
      by other answer filled answered (inr (apart, at)) = before other answer filled apart (h.each other answer filled answered at)
      by other answer filled answered (inl (same, is)) =
          let P : ℕ → Type 0 = λ n. slice_get response.items n ≡ Some answer in
          let Q : ℕ → Type 0 = λ n. IsPutAt request response fills (suc count) n answer filled in
          let answered_here = subst P same answered in
          subst Q (sym same) (here answer filled answered_here is (h.each place answer old answered_here stood))

  -- a fill without the form
  pub form_fault : (answer : AnswerOf) → slice_get response.items place ≡ Some answer → (fault : StepFault) → FillRead fill ask (Err fault) → FormFault request response fills fault
  form_fault answer answered (Unfit kind) (wrong, is) =
      (record { fill = fill; one = contains_at fills count fill there; place = place; names = its; ask = ask; answer = answer; at = its_place answer answered; formless = wrong }, is)
  form_fault answer answered Memory reported = tt

-- no fills, where none is wanted
pub filled_nothing : (request : RequestOf) (response : ResponseOf) (fills : List FillOf) → fills ≡ [] → NoneMissing request response fills → IsFilled request response fills response
filled_nothing request response [] none complete = filled_itself request response (λ needs. never needs.0 (complete needs.0 needs.1))
  where
    never : (place : ℕ) → HasFillFor [] place → ⊥
    never place (fill, one, its) = let p = at_contains [] fill one in let at = p.1 in cc
filled_nothing request response (x ∷ fills) none complete = absurd cc

-- an answer that is outside is refused
pub answer_refused : (c : CallOf) (t : TurnOf) (bytes : List ℕ) (fault : StepFault) → c.response ≡ None → t.answer ≡ Some bytes → AnswerRead c.request bytes (Err fault) → AnswerRefused c t fault
answer_refused c t bytes (Unfit kind) unended some (is, (item, reason, out)) = formless bytes item reason unended some out is
answer_refused c t bytes Memory unended some reported = tt

pub some_not : {X Y : Type 0} (f : X → Y) (o : Option X) (b : Bool) → b ≡ is_some o → b ≡ true → option_map f o ≡ None → ⊥
some_not f None b e is none = absurd cc
some_not f (Some x) b e is none = absurd cc
