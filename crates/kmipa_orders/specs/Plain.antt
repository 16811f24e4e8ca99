-- Which transcripts are plain, and which are forced.
use Rattle.std.specs.Prelude.{◌≡◌, ◌⊎◌, ◌+ℤ◌, ℤ, List, AllPairs}
use Rattle.std.specs.List.{AllZip}
use Rattle.kmipa_msgs.specs.Messages.{ResponseOf}
use Rattle.kmipa_check.specs.Calls.{CallOf}
use Rattle.kmipa_check.specs.Steps.{StepOf, step_with}
use Rattle.kmipa_check.specs.Moments.{IsNear}
use Rattle.kmipa_check.specs.Plain.{IsPlainCall}
use Rattle.kmipa_check.specs.Runs.{Before}

-- a plain call, and the one step that every turn makes of it
pub record IsPlainStep (c : CallOf) (s : StepOf) : Type 0 where
  pub response : ResponseOf
  pub plain : IsPlainCall c response
  pub is : s ≡ step_with c response

-- All these calls are plain: each has ended, its items have their order, and it waits for no payload. These are their steps. [profile]
abbrev pub ArePlain : List CallOf → List StepOf → Type 0
ArePlain = AllZip IsPlainStep

-- Two steps have stamps more than twice a tolerance apart, so that no moment is near both; or one is before the other.
abbrev pub AreApart : ℤ → StepOf → StepOf → Type 0
AreApart tolerance a b = (IsNear (tolerance +ℤ tolerance) a.response.stamp b.response.stamp → ⊥) ⊎ (Before a b ⊎ Before b a)

-- The calls are forced, where moments may be so many seconds from their stamps: they are plain, and each two of them are apart. [profile]
pub record IsForced (tolerance : ℤ) (calls : List CallOf) : Type 0 where
  pub steps : List StepOf
  pub plain : ArePlain calls steps
  pub apart : AllPairs (AreApart tolerance) steps
