-- WHAT IS FOUND IN A RECORDING: a witness that is accepted, with what it sets aside, and for each item that it sets aside the impossible answer (profile).
use Rattle.std.specs.Prelude.{◌≡◌, ℕ, ℤ, List, [], ◌∷◌, Contains, Option, slice_set}
use Rattle.kmipa_record.specs.Declarations.{DeclarationOf}
use Rattle.kmipa_record.specs.Marks.{MarkOf}
use Rattle.kmipa_record.specs.Witnesses.{TurnOf}
use Rattle.kmipa_check.specs.declared.verdict.Refused.{Refused}
use Rattle.kmipa_trail.specs.Orders.{IsOrder}
use Rattle.kmipa_trail.specs.Owners.{in_sight}
use Rattle.kmipa_trail.specs.Tallies.{TallyOf}
use Rattle.kmipa_trail.specs.Verdicts.{IsAccepted, IsRefused}
use Rattle.kmipa_turns.specs.Recorded.{RecordedOf, AreRecorded}
use Rattle.kmipa_turns.specs.Steps.{StepOf}
use Rattle.kmipa_check.specs.Grants.{grants_declared}

-- A finding: the place of its turn, counted from 0; the turn as it was tried, without what the finding sets aside; and the answer that is impossible, with the
-- Time Stamp of its call, none where the call can't be read.
pub record FindingOf : Type 0 where
  pub place : ℕ
  pub tried : TurnOf
  pub refused : Refused
  pub stamp : Option ℤ

-- the turns of a witness with these findings, and all later ones, left out: each of their turns as it was tried, the earliest where several are of one turn
abbrev pub left_out : List TurnOf → List FindingOf → List TurnOf
left_out turns [] = turns
left_out turns (f ∷ fs) = slice_set (left_out turns fs) f.place f.tried

-- the check of these turns answers this no
pub record IsNo (marks : List MarkOf) (declared : DeclarationOf) (turns : List TurnOf) (r : Refused) (stamp : Option ℤ) : Type 0 where
  pub calls : List RecordedOf
  pub are : AreRecorded marks calls
  pub order : List StepOf
  pub formed : IsOrder (grants_declared declared) calls turns order
  pub refused : IsRefused declared (in_sight declared order) r stamp

-- each finding is the no that is answered where it and all later ones are left out
abbrev pub AreFound : List MarkOf → DeclarationOf → List TurnOf → List FindingOf → Type 0
AreFound marks declared turns [] = Unit {0}
AreFound marks declared turns (f ∷ fs) = IsNo marks declared (left_out turns (f ∷ fs)) f.refused f.stamp × AreFound marks declared turns fs

-- THE DEFINITION
pub record IsJudged (marks : List MarkOf) (declared : DeclarationOf) (turns : List TurnOf) (tally : TallyOf) (findings : List FindingOf) : Type 0 where
  pub accepted : IsAccepted marks declared turns tally
  pub found : AreFound marks declared turns findings

-- ---- no order explains every answer

-- the turns set nothing aside
abbrev pub SetsNothingAside : List TurnOf → Type 0
SetsNothingAside turns = (t : TurnOf) → Contains turns t → t.asides ≡ []

-- whatever witness sets nothing aside isn't accepted: no order of the calls explains every answer
abbrev pub IsUnexplained : List MarkOf → DeclarationOf → Type 0
IsUnexplained marks declared = (turns : List TurnOf) (tally : TallyOf) → SetsNothingAside turns → IsAccepted marks declared turns tally → ⊥
