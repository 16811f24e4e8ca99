-- How births are tested and put in. Not promised: `Births` says what becomes of the request.
use Rattle.std.specs.Prelude.{◌≡◌, ◌≤◌, ◌≤ℤ◌, ℕ, ℤ, pos, List, length, Contains, slice_get, Option, Some, None, Result, Ok, Err}
use Rattle.kmipa_attrs.specs.Sets.{Attributes, attributes_of}
use Rattle.kmipa_attrs.specs.declared.attr_set.AttrSet.{AttrSet}
use Rattle.kmipa_record.specs.Witnesses.{BirthOf}
use Rattle.kmipa_msgs.specs.declared.request.Ask.{Ask}
use Rattle.kmipa_msgs.specs.Messages.{AskOf, RequestOf, ResponseOf, ask_of}
use Rattle.kmipa_check.specs.Births.{BirthFault, IsBirthFor, IsBirthOf, IsBirthWanted, IsBornAt, IsMisformed, SomeMisformed, with_birth}
use Rattle.kmipa_check.specs.Grants.{GrantsOf}
use Rattle.kmipa_check.specs.Numbers.{AreWantedOnce}
use Rattle.kmipa_check.specs.declared.fault.StepFault.{StepFault}
use Rattle.kmipa_check.specs.declared.fault.StepFault.TheVariants.{Unfit, Memory}
use Rattle.kmipa_check.specs.declared.fault.WitnessKind.TheVariants.{BirthForm}

-- numbers of items are those of 32 bits
abbrev pub HaveNumbers : List BirthOf → Type 0
HaveNumbers births = (birth : BirthOf) → Contains births birth → birth.item ≤ℤ pos 0x7FFF_FFFF

-- each of the first births is for an item that brings forth an object, and none of them is for the item of an earlier one
abbrev pub AreBirthsBelow : RequestOf → ResponseOf → List BirthOf → ℕ → Type 0
AreBirthsBelow request response births count =
    AreWantedOnce (λ (b : BirthOf). b.item) (λ item. IsBirthWanted request response item × (item ≤ℤ pos 0x7FFF_FFFF)) births count

-- the births are refused
abbrev pub BirthsRefused : GrantsOf → RequestOf → ResponseOf → List BirthOf → StepFault → Type 0
BirthsRefused g request response births (Unfit kind) = BirthFault g request response births kind
BirthsRefused g request response births Memory = Unit {0}

-- one of the births is refused for its form, or memory ran out
abbrev pub FormRefused : GrantsOf → List BirthOf → StepFault → Type 0
FormRefused g births (Unfit kind) = SomeMisformed g births × (kind ≡ BirthForm)
FormRefused g births Memory = Unit {0}

-- what reading a birth comes to
abbrev pub BirthRead : GrantsOf → BirthOf → Result AttrSet StepFault → Type 0
BirthRead g birth (Ok set) = IsBirthOf g birth (attributes_of set)
BirthRead g birth (Err (Unfit kind)) = IsMisformed g birth × (kind ≡ BirthForm)
BirthRead g birth (Err Memory) = Unit {0}

-- the birth for a place that is found, if there is one
abbrev pub IsBirthFound : List BirthOf → ℕ → Option BirthOf → Type 0
IsBirthFound births place None = (birth : BirthOf) → Contains births birth → IsBirthFor birth place → ⊥
IsBirthFound births place (Some birth) = Contains births birth × IsBirthFor birth place

-- where among the births it stands
abbrev pub IsPlaceFound : List BirthOf → ℕ → Option ℕ → Type 0
IsPlaceFound births place None = (birth : BirthOf) → Contains births birth → IsBirthFor birth place → ⊥
IsPlaceFound births place (Some at) = (birth : BirthOf) × (slice_get births at ≡ Some birth) × IsBirthFor birth place

-- what becomes of an ask with a birth, or without one
abbrev pub IsAskCompleted : GrantsOf → AskOf → Option BirthOf → AskOf → Type 0
IsAskCompleted g ask None full = full ≡ ask
IsAskCompleted g ask (Some birth) full = (attributes : Attributes) × IsBirthOf g birth attributes × (full ≡ with_birth ask attributes)

-- what completing an ask comes to
abbrev pub AskCompleted : GrantsOf → AskOf → Option BirthOf → Result Ask StepFault → Type 0
AskCompleted g ask birth (Ok full) = IsAskCompleted g ask birth (ask_of full)
AskCompleted g ask None (Err (Unfit kind)) = ⊥
AskCompleted g ask (Some birth) (Err (Unfit kind)) = IsMisformed g birth × (kind ≡ BirthForm)
AskCompleted g ask birth (Err Memory) = Unit {0}

-- these are the first asks, with the births put in
pub record AreBornUpTo (g : GrantsOf) (asks : List AskOf) (births : List BirthOf) (count : ℕ) (full : List AskOf) : Type 0 where
  pub counted : length full ≡ count
  pub within : count ≤ length asks
  pub each : (place : ℕ) (ask born : AskOf) → slice_get asks place ≡ Some ask → slice_get full place ≡ Some born → IsBornAt g births place ask born

-- the full request has the items of the other one, with the births put in
pub record IsCompleted (g : GrantsOf) (births : List BirthOf) (request full : RequestOf) : Type 0 where
  pub option : full.option ≡ request.option
  pub ordered : full.ordered ≡ request.ordered
  pub items : AreBornUpTo g request.items births (length request.items) full.items
