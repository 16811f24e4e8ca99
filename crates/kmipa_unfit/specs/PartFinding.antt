-- How the parts of a turn that aren't wanted are found. Not promised: `UnfitParts` says what is told.
use Rattle.std.specs.Prelude.{◌≡◌, ℕ, ℤ, List, Some, slice_get}
use Rattle.kmipa_msgs.specs.Messages.{AskOf, AnswerOf, RequestOf, ResponseOf}
use Rattle.kmipa_msgs.specs.Wanted.{Wanted}
use Rattle.kmipa_check.specs.Births.{Bears}
use Rattle.kmipa_unfit.specs.OrderFinding.{StandsAhead}
use Rattle.kmipa_unfit.specs.UnfitParts.{IsWantedFor, UnwantedPartAt}
use Rattle.kmipa_unfit.specs.declared.explanation.Part.{Part}
use Rattle.kmipa_unfit.specs.declared.explanation.Part.TheVariants.{Fill, Birth}
use Rattle.kmipa_unfit.specs.declared.explanation.Unwanted.{Unwanted}

-- what was asked and answered wants such a part
abbrev pub WantsPart : Part → AskOf → AnswerOf → Type 0
WantsPart Fill ask answer = Wanted ask answer
WantsPart Birth ask answer = Bears ask answer

-- the part at a place is wanted, and is the first for its item
abbrev pub IsWantedPart : Part → RequestOf → ResponseOf → List ℤ → ℕ → Type 0
IsWantedPart part request response items place = (item : ℤ) → slice_get items place ≡ Some item → IsWantedFor part request response item × (StandsAhead items place item → ⊥)

-- each part is
abbrev pub AreWantedParts : Part → RequestOf → ResponseOf → List ℤ → Type 0
AreWantedParts part request response items = (place : ℕ) → IsWantedPart part request response items place

-- it isn't, for this reason
abbrev pub UnwantedAt : Part → RequestOf → ResponseOf → List ℤ → ℕ → Unwanted → Type 0
UnwantedAt part request response items place why = (item : ℤ) → slice_get items place ≡ Some item → UnwantedPartAt part request response items place item why
