-- Fills and births that aren't wanted.
use Rattle.std.proofs.Common.{◌≡◌, ◌≢◌, ◌≤◌, ℕ, ◌+◌, ℤ, pos, List, map, length, get_or, AllPairs, Contains, Option, Some, None, slice_get, refl, sym, ap, ◌∙◌, subst, arith}
use Rattle.std.specs.Prelude.{MatchOption}
use Rattle.std.proofs.lemmas.Option.{slice_get-get_or}
use Rattle.kmipa_msgs.specs.Messages.{AskOf, AnswerOf, RequestOf, ResponseOf}
use Rattle.kmipa_record.specs.Witnesses.{BirthOf, FillOf}
use Rattle.kmipa_check.specs.Births.{AreBirthsWanted, IsMisformed, SomeMisformed}
use Rattle.kmipa_check.specs.Grants.{GrantsOf}
use Rattle.kmipa_check.specs.Fills.{AreWanted}
use Rattle.kmipa_check.proofs.FillLemmas.{pair_at}
use Rattle.kmipa_check.proofs.FillingLemmas.{is_wanted_here}
use Rattle.kmipa_check.proofs.PlaceLemmas.{at_contains, at_within, get_at}
use Rattle.kmipa_unfit.specs.OrderFinding.{IsAhead, StandsAhead}
use Rattle.kmipa_unfit.specs.PartFinding.{AreWantedParts, IsWantedPart, UnwantedAt, WantsPart}
use Rattle.kmipa_unfit.specs.UnfitBirths.{IsMisformedAt, items_born}
use Rattle.kmipa_unfit.specs.UnfitFills.{items_filled}
use Rattle.kmipa_unfit.specs.UnfitOrders.{AreAnswered, IsUnanswered}
use Rattle.kmipa_unfit.specs.UnfitParts.{IsUnwantedAt, IsWantedFor, UnwantedAnswer, UnwantedItem, UnwantedPartAt}
use Rattle.kmipa_unfit.specs.declared.explanation.Part.{Part}
use Rattle.kmipa_unfit.specs.declared.explanation.Part.TheVariants.{Fill, Birth}
use Rattle.kmipa_unfit.specs.declared.explanation.Unwanted.{Unwanted}
use Rattle.kmipa_unfit.specs.declared.explanation.Unwanted.TheVariants.{Unanswered, Status, Present, Needless, Operations, Second}
use Rattle.kmipa_unfit.proofs.BelowLemmas.{Below}

-- ---- parts that are wanted, each the first for its item

pub are_wanted : (part : Part) (request : RequestOf) (response : ResponseOf) (items : List ℤ) (count : ℕ) → length items ≤ count → Below (IsWantedPart part request response items) count
    → AreWantedParts part request response items
are_wanted part request response items count past h place item there = h place (omega (arith, at_within items place item there, past)) item there

module _ {X : Type 0} (item : X → ℤ) (xs : List X) (Wants : ℤ → Type 0)
    (h : (place : ℕ) (n : ℤ) → slice_get (map item xs) place ≡ Some n → Wants n × (StandsAhead (map item xs) place n → ⊥)) where
  each_wanted : (x : X) → Contains xs x → Wants (item x)
  each_wanted x one = by (at_contains xs x one)
    where
      by : (i : ℕ) × (slice_get xs i ≡ Some x) → Wants (item x)
      by p = (h p.0 (item x) (get_at item xs p.0 x p.1)).0

  each_once : AllPairs (λ (a b : X). item a ≢ item b) xs
  each_once i j d before within same =
      let later = get_at item xs j (get_or xs j d) (slice_get-get_or xs j d within) in
      let earlier = get_at item xs i (get_or xs i d) (slice_get-get_or xs i d (omega (arith, before, within))) in
      (h j (item (get_or xs j d)) later).1 (i, before, earlier ∙ ap Some same)

pub fills_wanted : (request : RequestOf) (response : ResponseOf) (fills : List FillOf) → AreWantedParts Fill request response (items_filled fills) → AreWanted request response fills
fills_wanted request response fills h = record {
  each = each_wanted (λ (f : FillOf). f.item) fills (IsWantedFor Fill request response) h;
  once = each_once (λ (f : FillOf). f.item) fills (IsWantedFor Fill request response) h;
}

pub births_wanted : (request : RequestOf) (response : ResponseOf) (births : List BirthOf) → AreWantedParts Birth request response (items_born births) → AreBirthsWanted request response births
births_wanted request response births h = record {
  each = each_wanted (λ (b : BirthOf). b.item) births (IsWantedFor Birth request response) h;
  once = each_once (λ (b : BirthOf). b.item) births (IsWantedFor Birth request response) h;
}

-- ---- an item

module _ (request : RequestOf) (response : ResponseOf) (item : ℤ) (place : ℕ) (ask : AskOf) (answer : AnswerOf) (is : item ≡ pos (place + 1))
    (asked : slice_get request.items place ≡ Some ask) (answered : slice_get response.items place ≡ Some answer) where
  wanted_here : (part : Part) → WantsPart part ask answer → IsWantedFor part request response item
  wanted_here Fill h = (place, is, is_wanted_here request response place ask answer asked answered h)
  wanted_here Birth h = (place, is, (ask, answer, record { there = pair_at request.items response.items place ask answer asked answered; bears = h }))

  -- what is told of an item's answer
  unwanted_here : (part : Part) (why : Unwanted) → UnwantedAnswer part ask answer why → UnwantedItem part request response item why
  unwanted_here part why h = by part why h
    where
      at : (part : Part) (why : Unwanted) → UnwantedAnswer part ask answer why → IsUnwantedAt part request response item why
      at part why h = record { place = place; counted = is; ask = ask; answer = answer; there = pair_at request.items response.items place ask answer asked answered; unwanted = h }

      by : (part : Part) (why : Unwanted) → UnwantedAnswer part ask answer why → UnwantedItem part request response item why
      by Fill (Unanswered n) h = absurd h
      by Birth (Unanswered n) h = absurd h
      by part (Status s) h = at part (Status s) h
      by part Present h = at part Present h
      by part (Needless n) h = at part (Needless n) h
      by part (Operations n m) h = at part (Operations n m) h
      by part (Second n) h = at part (Second n) h

pub item_reported : (part : Part) (request : RequestOf) (response : ResponseOf) (item : ℤ) (place : ℕ) (ask : AskOf) (answer : AnswerOf) (result : Option Unwanted) → item ≡ pos (place + 1)
    → slice_get request.items place ≡ Some ask → slice_get response.items place ≡ Some answer → MatchOption result (WantsPart part ask answer) (UnwantedAnswer part ask answer)
    → MatchOption result (IsWantedFor part request response item) (UnwantedItem part request response item)
item_reported part request response item place ask answer None is a b h = wanted_here request response item place ask answer is a b part h
item_reported part request response item place ask answer (Some why) is a b h = unwanted_here request response item place ask answer is a b part why h

-- an item past the answered ones isn't answered
pub past_answered : (request : RequestOf) (response : ResponseOf) (count : ℕ) (item : ℤ) (place : ℕ) → AreAnswered request response count → item ≡ pos (place + 1) → count ≤ place
    → IsUnanswered request response item
past_answered request response count item place counted is past other same answered =
    let below = (counted other).1 answered in
    let one : pos (other + 1) ≡ pos (place + 1) = sym same ∙ is in
    let equal : other + 1 ≡ place + 1 = cc in
    omega (arith, below, equal, past)

-- ---- a part at its place

-- what is told of its item
part_told : (part : Part) (request : RequestOf) (response : ResponseOf) (items : List ℤ) (place : ℕ) (item : ℤ) (why : Unwanted) → UnwantedItem part request response item why
    → UnwantedPartAt part request response items place item why
part_told part request response items place item (Unanswered n) h = h
part_told part request response items place item (Status s) h = h
part_told part request response items place item Present h = h
part_told part request response items place item (Needless n) h = h
part_told part request response items place item (Operations n m) h = h
part_told Fill request response items place item (Second n) h = absurd h.unwanted
part_told Birth request response items place item (Second n) h = absurd h.unwanted

module _ (part : Part) (request : RequestOf) (response : ResponseOf) (items : List ℤ) (place : ℕ) (item : ℤ) (there : slice_get items place ≡ Some item) where
  pub item_first : (why : Unwanted) → UnwantedItem part request response item why → UnwantedAt part request response items place why
  item_first why h other at =
      let same : item ≡ other = cc in
      let P : ℤ → Type 0 = λ z. UnwantedPartAt part request response items place z why in
      subst P same (part_told part request response items place item why h)

  pub second_told : (earlier : ℕ) → IsAhead items place item earlier → UnwantedAt part request response items place (Second (earlier + 1))
  second_told earlier h other at =
      let same : item ≡ other = cc in
      record { earlier = earlier; counted = refl; before = h.0; there = h.1 ∙ ap Some same }

  pub wanted_told : IsWantedFor part request response item → (StandsAhead items place item → ⊥) → IsWantedPart part request response items place
  wanted_told wanted alone other at =
      let same : item ≡ other = cc in
      let P : ℤ → Type 0 = λ z. IsWantedFor part request response z × (StandsAhead items place z → ⊥) in
      subst P same (wanted, alone)

-- births that are formed

pub birth_formed : (g : GrantsOf) (births : List BirthOf) (place : ℕ) (birth : BirthOf) → slice_get births place ≡ Some birth → (IsMisformed g birth → ⊥) → IsMisformedAt g births place → ⊥
birth_formed g births place birth there formed m =
    let stands = m.there in
    let same : m.birth ≡ birth = cc in
    let P : BirthOf → Type 0 = λ b. IsMisformed g b in
    formed (subst P same m.misformed)

pub some_formed : (g : GrantsOf) (births : List BirthOf) (count : ℕ) → length births ≤ count → Below (λ place. IsMisformedAt g births place → ⊥) count → SomeMisformed g births → ⊥
some_formed g births count past below s =
    let p = at_contains births s.birth s.one in
    below p.0 (omega (arith, at_within births p.0 s.birth p.1, past)) (record { birth = s.birth; there = p.1; misformed = s.misformed })
