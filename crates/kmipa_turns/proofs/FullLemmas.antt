-- Fills and births, over the two sides of a call.
use Rattle.std.proofs.Common.{◌≡◌, ◌<◌, ◌≤◌, ◌⊎◌, inl, inr, ℕ, ◌+◌, ℤ, List, [], ◌∷◌, ◌++◌, map, Contains, length, Option, Some, option_map, slice_get, refl, sym, ap, ◌∙◌, subst, arith, append_assoc, append-nil, add-one}
use Rattle.kmipa_msgs.specs.Messages.{AskOf, AnswerOf, RequestOf, ResponseOf, answer_of, ask_of}
use Rattle.kmipa_msgs.specs.declared.request.Ask.{Ask}
use Rattle.kmipa_msgs.specs.declared.response.Answer.{Answer}
use Rattle.kmipa_msgs.specs.Wanted.{Wanted}
use Rattle.kmipa_record.specs.Witnesses.{FillOf, TurnOf}
use Rattle.kmipa_places.specs.Calls.{ReadOf}
use Rattle.kmipa_places.specs.Places.{PlaceOf, judged, passed, place_of}
use Rattle.kmipa_places.specs.declared.place.Place.{Place}
use Rattle.kmipa_check.specs.Bearing.{BirthsRefused}
use Rattle.kmipa_check.specs.Births.{IsBorn}
use Rattle.kmipa_check.specs.Fills.{AreWanted, IsFilled, IsWanted, NoneMissing, missing}
use Rattle.kmipa_check.specs.Filling.{FillsRefused}
use Rattle.kmipa_check.specs.Grants.{GrantsOf}
use Rattle.kmipa_check.specs.declared.fault.StepFault.{StepFault}
use Rattle.kmipa_check.specs.declared.fault.StepFault.TheVariants.{Unfit, Memory}
use Rattle.kmipa_check.specs.declared.fault.WitnessKind.TheVariants.{FillMissing}
use Rattle.kmipa_check.proofs.BornLemmas.{born_nothing}
use Rattle.kmipa_check.proofs.FillLemmas.{pair_left, pair_right}
use Rattle.kmipa_check.proofs.FillingLemmas.{filled_nothing, is_wanted_here}
use Rattle.kmipa_check.proofs.PlaceLemmas.{at_contains, at_within, below_suc, get_at, mapped_from}
use Rattle.kmipa_turns.specs.Parting.{AreSides, GainsPlace, SidesOf, joined, joined_at, kept_at}
use Rattle.kmipa_turns.specs.Sides.{answered_at, asked_at, places_with, request_side, response_side}
use Rattle.kmipa_turns.specs.Turning.{AreBorn, FullRefused, IsFull, IsPlain, Waits, WaitsSomewhere}

-- ---- places that wait

waits_by : (p : PlaceOf) → Wanted (asked_at p) (answered_at p) → Waits p
waits_by (judged ask answer) w = w
waits_by (passed by p) w = let clash = w.undone in absurd cc

pub waits_of : (x : ReadOf) (place : ℕ) → IsWanted (request_side x) (response_side x) place → WaitsSomewhere x.places
waits_of x place (ask, answer, w) =
    let p = mapped_from asked_at x.places place ask (pair_left (map asked_at x.places) (map answered_at x.places) place ask answer w.there) in
    let q = mapped_from answered_at x.places place answer (pair_right (map asked_at x.places) (map answered_at x.places) place ask answer w.there) in
    let at = p.1 in
    let there = q.1 in
    let same : q.0 ≡ p.0 = cc in
    let P : AskOf → Type 0 = λ a. Wanted a answer in
    let Q : AnswerOf → Type 0 = λ b. Wanted (asked_at p.0) b in
    (place, p.0, p.1, waits_by p.0 (subst Q (sym q.2 ∙ ap answered_at same) (subst P (sym p.2) w.wanted)))

wanted_by : (p : PlaceOf) → Waits p → Wanted (asked_at p) (answered_at p)
wanted_by (judged ask answer) w = w
wanted_by (passed by p) w = absurd w

pub wanted_of : (x : ReadOf) → WaitsSomewhere x.places → (place : ℕ) × IsWanted (request_side x) (response_side x) place
wanted_of x (place, p, there, w) = (
  place,
  is_wanted_here (request_side x) (response_side x) place (asked_at p) (answered_at p) (get_at asked_at x.places place p there) (get_at answered_at x.places place p there) (wanted_by p w),
)

-- ---- vectors that are taken apart

pub nothing_left : {X : Type 0} (l : List X) → length l ≡ 0 → l ≡ []
nothing_left [] h = refl
nothing_left (x ∷ xs) h = absurd (omega (arith, h))

-- ---- a turn that gives none

none_in : (fill : FillOf) → Contains [] fill → ⊥
none_in fill one = let p = at_contains [] fill one in let at = p.1 in cc

places_same : (ps : List PlaceOf) → places_with ps (map asked_at ps) (map answered_at ps) ≡ ps
places_same [] = refl
places_same (judged ask answer ∷ ps) = ap (λ (l : List PlaceOf). judged ask answer ∷ l) (places_same ps)
places_same (passed by p ∷ ps) = ap (λ (l : List PlaceOf). passed by p ∷ l) (places_same ps)

pub plain_missing : (g : GrantsOf) (x : ReadOf) (t : TurnOf) → IsPlain t → WaitsSomewhere x.places → FullRefused g x t (Unfit FillMissing)
plain_missing g x t plain waits =
    let w = wanted_of x waits in
    let P : List FillOf → Type 0 = λ fs. AreWanted (request_side x) (response_side x) fs × (NoneMissing (request_side x) (response_side x) fs → ⊥) in
    let none : P [] = (
      record { each = λ fill one. absurd (none_in fill one); once = λ i j d below within. absurd (omega (arith, within)) },
      λ all. let f = all w.0 w.1 in none_in f.0 f.1,
    ) in
    let h = subst P (sym plain.0) none in
    inl (missing h.0 h.1 refl)

pub plain_full : (g : GrantsOf) (x : ReadOf) (t : TurnOf) (moment : ℤ) (full : ReadOf) → IsPlain t → (WaitsSomewhere x.places → ⊥) → full ≡ record x { stamp = moment } → IsFull g x t moment full
plain_full g x t moment full plain none is = record {
  response = response_side x;
  filled = filled_nothing (request_side x) (response_side x) t.fills plain.0 (λ place wanted. absurd (none (waits_of x place wanted)));
  request = request_side x;
  born = born_nothing g (request_side x) (response_side x) t.births plain.1;
  is = is ∙ ap (λ (ps : List PlaceOf). record x { stamp = moment; places = ps }) (sym (places_same x.places));
}

pub at_moment : (x : ReadOf) (y z : ℤ) → y ≡ z → record x { stamp = y } ≡ record x { stamp = z }
at_moment x y z e = ap (with_stamp x) e
  where
    with_stamp : ReadOf → ℤ → ReadOf
    with_stamp c n = record c { stamp = n }

-- ---- places that wait, as they are looked through

abbrev pub NoneWaitsBelow : List PlaceOf → ℕ → Type 0
NoneWaitsBelow ps count = (place : ℕ) (p : PlaceOf) → place < count → slice_get ps place ≡ Some p → Waits p → ⊥

pub waits_none : (ps : List PlaceOf) → NoneWaitsBelow ps 0
waits_none ps = λ place p below there w. omega (arith, below)

pub waits_more : (ps : List PlaceOf) (at : ℕ) (p : PlaceOf) → slice_get ps at ≡ Some p → (Waits p → ⊥) → NoneWaitsBelow ps at → NoneWaitsBelow ps (at + 1)
waits_more ps at p here never none =
    let P : ℕ → Type 0 = λ n. NoneWaitsBelow ps n in
    subst P (sym (add-one at)) (λ place q below there w. by place q there w (below_suc place at below))
  where
    by : (place : ℕ) (q : PlaceOf) → slice_get ps place ≡ Some q → Waits q → (place < at) ⊎ (place ≡ at) → ⊥
    by place q there w (inl l) = none place q l there w
    by place q there w (inr same) =
        let P : ℕ → Type 0 = λ n. slice_get ps n ≡ Some q in
        let stood = subst P same there in
        let one : q ≡ p = cc in
        never (subst Waits one w)

pub waits_nowhere : (ps : List PlaceOf) (at : ℕ) → length ps ≤ at → NoneWaitsBelow ps at → WaitsSomewhere ps → ⊥
waits_nowhere ps at past none (place, p, there, w) = none place p (omega (arith, at_within ps place p there, past)) there w

-- ---- the sides put together

pub joined_places : (ps : List PlaceOf) (asks : List AskOf) (answers : List AnswerOf) → joined (map kept_at ps) asks answers ≡ places_with ps asks answers
joined_places [] asks answers = refl
joined_places (p ∷ ps) [] answers = refl
joined_places (p ∷ ps) (ask ∷ asks) [] = refl
joined_places (judged a b ∷ ps) (ask ∷ asks) (answer ∷ answers) = ap (λ (l : List PlaceOf). judged ask answer ∷ l) (joined_places ps asks answers)
joined_places (passed by p ∷ ps) (ask ∷ asks) (answer ∷ answers) = ap (λ (l : List PlaceOf). passed by p ∷ l) (joined_places ps asks answers)

abbrev pub response_with : ℤ → List AnswerOf → ResponseOf
response_with z answers = record { stamp = z; items = answers }

module _ (g : GrantsOf) (x : ReadOf) (t : TurnOf) (s : SidesOf) (sides : AreSides x.places s) where
  abbrev pub asked_side : RequestOf
  asked_side = record { option = x.option; ordered = x.ordered; items = s.asks }

  abbrev pub answered_side : ResponseOf
  answered_side = record { stamp = x.stamp; items = s.answers }

  same_asked : asked_side ≡ request_side x
  same_asked = ap (λ (l : List AskOf). record { option = x.option; ordered = x.ordered; items = l }) sides.asks

  same_answered : answered_side ≡ response_side x
  same_answered = ap (λ (l : List AnswerOf). record { stamp = x.stamp; items = l }) sides.answers

  both : (P : RequestOf → ResponseOf → Type 0) → P asked_side answered_side → P (request_side x) (response_side x)
  both P h = subst (λ (r : ResponseOf). P (request_side x) r) same_answered (subst (λ (q : RequestOf). P q answered_side) same_asked h)

  pub fills_refuse : (fault : StepFault) → FillsRefused asked_side answered_side t.fills fault → FullRefused g x t fault
  fills_refuse (Unfit kind) told = inl (both (λ q r. FillsRefused q r t.fills (Unfit kind)) told)
  fills_refuse Memory told = tt

  module _ (response : ResponseOf) (filled : IsFilled asked_side answered_side t.fills response) where
    pub births_refuse : (fault : StepFault) → BirthsRefused g asked_side answered_side t.births fault → FullRefused g x t fault
    births_refuse (Unfit kind) told = inr (response, both (λ q r. IsFilled q r t.fills response) filled, both (λ q r. BirthsRefused g q r t.births (Unfit kind)) told)
    births_refuse Memory told = tt

    pub full_of : (asks : List AskOf) → AreBorn g asked_side answered_side t.births asks → (moment : ℤ) (ps : List PlaceOf) → ps ≡ joined s.kept asks response.items
        → IsFull g x t moment (record x { stamp = moment; places = ps })
    full_of asks (request, born, items) moment ps is = record {
      response = response;
      filled = both (λ q r. IsFilled q r t.fills response) filled;
      request = request;
      born = both (λ q r. IsBorn g q r t.births request) born;
      is = ap (λ (l : List PlaceOf). record x { stamp = moment; places = l })
          (is ∙ ap (λ (l : List (Option PlaceOf)). joined l asks response.items) sides.kept ∙ joined_places x.places asks response.items
          ∙ ap (λ (l : List AskOf). places_with x.places l response.items) (sym items));
    }

-- ---- the sides taken apart

-- these places were taken apart, and those are left
pub record PartedUpTo (all left : List PlaceOf) (s : SidesOf) : Type 0 where
  pub done : List PlaceOf
  pub split : all ≡ done ++ left
  pub sides : AreSides done s

map_push : {X Y : Type 0} (f : X → Y) (xs : List X) (x : X) → map f (xs ++ x ∷ []) ≡ map f xs ++ f x ∷ []
map_push f [] x = refl
map_push f (y ∷ xs) x = ap (λ (l : List _). f y ∷ l) (map_push f xs x)

pub parted_none : (all : List PlaceOf) (s : SidesOf) → s.asks ≡ [] → s.answers ≡ [] → s.kept ≡ [] → PartedUpTo all all s
parted_none all s a b c = record { done = []; split = refl; sides = record { asks = a; answers = b; kept = c } }

pub parted_more : (all left rest : List PlaceOf) (p : PlaceOf) (s u : SidesOf) → left ≡ p ∷ rest → GainsPlace s p u → PartedUpTo all left s → PartedUpTo all rest u
parted_more all left rest p s u is gains h = record {
  done = h.done ++ p ∷ [];
  split = h.split ∙ ap (λ (l : List PlaceOf). h.done ++ l) is ∙ sym (append_assoc h.done (p ∷ []) rest);
  sides = record {
    asks = gains.asks ∙ ap (λ (l : List AskOf). l ++ asked_at p ∷ []) h.sides.asks ∙ sym (map_push asked_at h.done p);
    answers = gains.answers ∙ ap (λ (l : List AnswerOf). l ++ answered_at p ∷ []) h.sides.answers ∙ sym (map_push answered_at h.done p);
    kept = gains.kept ∙ ap (λ (l : List (Option PlaceOf)). l ++ kept_at p ∷ []) h.sides.kept ∙ sym (map_push kept_at h.done p);
  };
}

pub parted_all : (all left : List PlaceOf) (s : SidesOf) → left ≡ [] → PartedUpTo all left s → AreSides all s
parted_all all left s none h =
    let P : List PlaceOf → Type 0 = λ ps. AreSides ps s in
    subst P (sym (h.split ∙ ap (λ (l : List PlaceOf). h.done ++ l) none ∙ append-nil h.done)) h.sides

-- ---- the sides put together, of the program's values

pub joined_more : (kept rest : List (Option Place)) (asks asks' : List Ask) (answers answers' : List Answer) (k : Option Place) (a : Ask) (b : Answer) (old new : List Place) (p : Place) (total : List PlaceOf)
    → kept ≡ k ∷ rest → asks ≡ a ∷ asks' → answers ≡ b ∷ answers' → new ≡ old ++ p ∷ [] → place_of p ≡ joined_at (option_map place_of k) (ask_of a) (answer_of b)
    → map place_of old ++ joined (map (option_map place_of) kept) (map ask_of asks) (map answer_of answers) ≡ total
    → map place_of new ++ joined (map (option_map place_of) rest) (map ask_of asks') (map answer_of answers') ≡ total
joined_more kept rest asks asks' answers answers' k a b old new p total e f g h is so_far =
    let left = joined (map (option_map place_of) rest) (map ask_of asks') (map answer_of answers') in
    let P : List (Option Place) → Type 0 = λ l. map place_of old ++ joined (map (option_map place_of) l) (map ask_of asks) (map answer_of answers) ≡ total in
    let Q : List Ask → Type 0 = λ l. map place_of old ++ joined (map (option_map place_of) (k ∷ rest)) (map ask_of l) (map answer_of answers) ≡ total in
    let R : List Answer → Type 0 = λ l. map place_of old ++ joined (map (option_map place_of) (k ∷ rest)) (map ask_of (a ∷ asks')) (map answer_of l) ≡ total in
    ap (λ (l : List Place). map place_of l ++ left) h ∙ ap (λ (l : List PlaceOf). l ++ left) (map_push place_of old p) ∙ append_assoc (map place_of old) (place_of p ∷ []) left
    ∙ ap (λ (q : PlaceOf). map place_of old ++ q ∷ left) is ∙ subst R g (subst Q f (subst P e so_far))

no_asks : (kept : List (Option PlaceOf)) (answers : List AnswerOf) → joined kept [] answers ≡ []
no_asks [] answers = refl
no_asks (k ∷ rest) answers = refl

no_answers : (kept : List (Option PlaceOf)) (asks : List AskOf) → joined kept asks [] ≡ []
no_answers [] asks = refl
no_answers (k ∷ rest) [] = refl
no_answers (k ∷ rest) (a ∷ asks) = refl

module _ (kept kept' : List (Option Place)) (asks asks' : List Ask) (answers answers' : List Answer) (old : List Place) (first : List (Option Place)) (second : List Ask) (third : List Answer)
    (d : first ≡ kept') (e : second ≡ asks') (f : third ≡ answers')
    (so_far : map place_of old ++ joined (map (option_map place_of) kept) (map ask_of asks) (map answer_of answers)
    ≡ joined (map (option_map place_of) first) (map ask_of second) (map answer_of third)) where
  total : joined (map (option_map place_of) first) (map ask_of second) (map answer_of third) ≡ joined (map (option_map place_of) kept') (map ask_of asks') (map answer_of answers')
  total =
      ap (λ (l : List (Option Place)). joined (map (option_map place_of) l) (map ask_of second) (map answer_of third)) d
      ∙ ap (λ (l : List Ask). joined (map (option_map place_of) kept') (map ask_of l) (map answer_of third)) e
      ∙ ap (λ (l : List Answer). joined (map (option_map place_of) kept') (map ask_of asks') (map answer_of l)) f

  ended : joined (map (option_map place_of) kept) (map ask_of asks) (map answer_of answers) ≡ []
      → map place_of old ≡ joined (map (option_map place_of) kept') (map ask_of asks') (map answer_of answers')
  ended none = sym (append-nil (map place_of old)) ∙ ap (λ (l : List PlaceOf). map place_of old ++ l) (sym none) ∙ so_far ∙ total

  pub joined_all : kept ≡ [] → map place_of old ≡ joined (map (option_map place_of) kept') (map ask_of asks') (map answer_of answers')
  joined_all none = ended (ap (λ (l : List (Option Place)). joined (map (option_map place_of) l) (map ask_of asks) (map answer_of answers)) none)

  pub joined_asks : asks ≡ [] → map place_of old ≡ joined (map (option_map place_of) kept') (map ask_of asks') (map answer_of answers')
  joined_asks none = ended (ap (λ (l : List Ask). joined (map (option_map place_of) kept) (map ask_of l) (map answer_of answers)) none ∙ no_asks (map (option_map place_of) kept) (map answer_of answers))

  pub joined_answers : answers ≡ [] → map place_of old ≡ joined (map (option_map place_of) kept') (map ask_of asks') (map answer_of answers')
  joined_answers none = ended (ap (λ (l : List Answer). joined (map (option_map place_of) kept) (map ask_of asks) (map answer_of l)) none ∙ no_answers (map (option_map place_of) kept) (map ask_of asks))
