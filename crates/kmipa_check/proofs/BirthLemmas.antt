-- Births: where they are wanted.
use Rattle.std.proofs.Common.{◌≡◌, ◌<◌, ◌≤◌, ◌↔◌, ℕ, ◌+◌, ℤ, pos, ◌≤ℤ◌, Bool, true, false, List, map, length, Contains, Option, Some, None, slice_get, refl, sym, ◌∙◌, subst, arith}
use mir.Syntax.{w32}
use mir.Val.{SFits}
use Rattle.std.proofs.lemmas.Int.{ints}
use Rattle.kmipa_record.specs.declared.birth.Birth.{Birth}
use Rattle.kmipa_record.specs.Witnesses.{BirthOf, birth_of}
use Rattle.kmipa_msgs.specs.Messages.{AskOf, AnswerOf, RequestOf, ResponseOf}
use Rattle.kmipa_check.specs.declared.numbers.FirstPlaces.{FirstPlaces}
use Rattle.kmipa_check.specs.Bearing.{AreBirthsBelow, HaveNumbers, IsPlaceFound}
use Rattle.kmipa_check.specs.Births.{Bears, IsBirth, IsBirthFor, IsBirthWanted, AreBirthsWanted}
use Rattle.kmipa_check.specs.Numbers.{Indexes, StandsFirst, place_in}
use Rattle.kmipa_check.specs.Deciding.{Decided}
use Rattle.kmipa_check.proofs.FillLemmas.{pair_at, pair_left, pair_right, once_at}
use Rattle.kmipa_check.proofs.ItemLemmas.{item_absent, once_each, once_all}
use Rattle.kmipa_check.proofs.PlaceLemmas.{at_within, contains_at, get_at, mapped_from}

-- ---- places

module _ (request : RequestOf) (response : ResponseOf) (place : ℕ) where
  pub birth_within : IsBirth request response place → (place < length request.items) × (place < length response.items)
  birth_within (x, y, b) = (
    at_within request.items place x (pair_left request.items response.items place x y b.there),
    at_within response.items place y (pair_right request.items response.items place x y b.there),
  )

  module _ (ask : AskOf) (answer : AnswerOf) (asked : slice_get request.items place ≡ Some ask) (answered : slice_get response.items place ≡ Some answer) where
    its_birth : IsBirth request response place → Bears ask answer
    its_birth (x, y, b) =
        let p = pair_left request.items response.items place x y b.there in
        let q = pair_right request.items response.items place x y b.there in
        let left : x ≡ ask = cc in
        let right : y ≡ answer = cc in
        let P : AskOf → Type 0 = λ u. Bears u y in
        let Q : AnswerOf → Type 0 = λ u. Bears ask u in
        subst Q right (subst P left b.bears)

    pub birth_decided : (b : Bool) → (b ≡ true) ↔ Bears ask answer → Decided b (IsBirth request response place)
    birth_decided true h = (ask, answer, record { there = pair_at request.items response.items place ask answer asked answered; bears = h.0 refl })
    birth_decided false h = λ birth. let e = h.1 (its_birth birth) in absurd cc

-- ---- births

numbered : (request : RequestOf) (response : ResponseOf) (births : List BirthOf) (count : ℕ) → AreBirthsBelow request response births count → length births ≤ count
    → (birth : BirthOf) → Contains births birth → IsBirthWanted request response birth.item × (birth.item ≤ℤ pos 0x7FFF_FFFF)
numbered request response births count h past = once_each (λ (b : BirthOf). b.item) (λ item. IsBirthWanted request response item × (item ≤ℤ pos 0x7FFF_FFFF)) births count h past

module _ (request : RequestOf) (response : ResponseOf) (births : List BirthOf) where
  pub births_all : (count : ℕ) → AreBirthsBelow request response births count → length births ≤ count → AreBirthsWanted request response births
  births_all count h past = record {
    each = λ birth one. (numbered request response births count h past birth one).0;
    once = once_all (λ (b : BirthOf). b.item) (λ item. IsBirthWanted request response item × (item ≤ℤ pos 0x7FFF_FFFF)) births count h past;
  }

  pub births_numbered : (count : ℕ) → AreBirthsBelow request response births count → length births ≤ count → HaveNumbers births
  births_numbered count h past = λ birth one. (numbered request response births count h past birth one).1

  pub birth_not : (at : ℕ) (birth : BirthOf) → slice_get births at ≡ Some birth → (IsBirthWanted request response birth.item → ⊥) → AreBirthsWanted request response births → ⊥
  birth_not at birth there never w = never (w.each birth (contains_at births at birth there))

  pub birth_twice : (at earlier : ℕ) (birth other : BirthOf) → slice_get births at ≡ Some birth → earlier < at → slice_get births earlier ≡ Some other → other.item ≡ birth.item
      → AreBirthsWanted request response births → ⊥
  birth_twice at earlier birth other there before stood same w = once_at (λ (b : BirthOf). b.item) births w.once earlier at other birth before stood there same

-- ---- the birth for a place

abbrev numbers_of : List Birth → List (Option ℤ)
numbers_of births = map (λ (b : Birth). Some b.item) births

-- a number that is noted is that of the birth there
birth_at : (births : List Birth) (number : ℤ) (at place : ℕ) → slice_get (numbers_of births) at ≡ Some (Some number) → number ≡ pos (place + 1) → (birth : BirthOf) × (slice_get (map birth_of births) at ≡ Some birth) × IsBirthFor birth place
birth_at births number at place stands is =
    let m = mapped_from (λ (b : Birth). Some b.item) births at (Some number) stands in
    let same : m.0.item ≡ number = let e = m.2 in cc in
    (birth_of m.0, get_at birth_of births at m.0 m.1, same ∙ is)

pub birth_found : (births : List Birth) (places : FirstPlaces) → Indexes (numbers_of births) places → (number : ℤ) (place : ℕ) → number ≡ pos (place + 1) → (found : Option ℕ) → place_in places number ≡ found
    → IsPlaceFound (map birth_of births) place found
birth_found births places knows number place is None noted = λ birth one its. item_absent birth_of (λ (b : BirthOf). b.item) births places knows number noted birth one (its ∙ sym is)
birth_found births places knows number place is (Some at) noted =
    let P : Option ℕ → Type 0 = λ o. StandsFirst (numbers_of births) (length (numbers_of births)) number o in
    birth_at births number at place (subst P noted (knows number)).1.there is

-- the birth at that place is for it
pub birth_there : (births : List Birth) (at place : ℕ) (b : Birth) → IsPlaceFound (map birth_of births) place (Some at) → slice_get (map birth_of births) at ≡ Some (birth_of b)
    → Contains (map birth_of births) (birth_of b) × IsBirthFor (birth_of b) place
birth_there births at place b found there =
    let stands = found.1 in
    let same : found.0 ≡ birth_of b = cc in
    let P : BirthOf → Type 0 = λ x. IsBirthFor x place in
    (contains_at (map birth_of births) at (birth_of b) there, subst P same found.2)

pub birth_too_large : (births : List BirthOf) (place : ℕ) → HaveNumbers births → (SFits w32 (pos (place + 1)) → ⊥) → IsPlaceFound births place None
birth_too_large births place small never = λ birth one is.
    let P : ℤ → Type 0 = λ z. z ≤ℤ pos 0x7FFF_FFFF in
    let within = subst P is (small birth one) in
    let below : place + 1 ≤ 0x7FFF_FFFF = omega (arith, ints, within) in
    never (record { sfits = omega (arith, below) })
