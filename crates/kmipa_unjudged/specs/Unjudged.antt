-- WHAT OF A RECORDING ISN'T JUDGED (profile): how often each operation was passed, and which identifiers are set aside, along a witness.
use Rattle.std.specs.Prelude.{◌≡◌, ℕ, List, map}
use Rattle.kmipa_record.specs.Declarations.{DeclarationOf}
use Rattle.kmipa_record.specs.Marks.{MarkOf}
use Rattle.kmipa_record.specs.Witnesses.{TurnOf}
use Rattle.kmipa_check.specs.Grants.{grants_declared}
use Rattle.kmipa_turns.specs.Recorded.{RecordedOf, AreRecorded}
use Rattle.kmipa_turns.specs.Steps.{StepOf}
use Rattle.kmipa_trail.specs.Orders.{IsOrder}
use Rattle.kmipa_trail.specs.Owners.{in_sight}
use Rattle.kmipa_unjudged.specs.Asides.{AreAside}
use Rattle.kmipa_unjudged.specs.Passing.{passed_along}
use Rattle.kmipa_unjudged.specs.Ranking.{ranks}
use Rattle.kmipa_unjudged.specs.Told.{NamedOf}
use Rattle.kmipa_unjudged.specs.declared.rank.Rank.{Rank}

-- by the steps that the turns make with the calls of these marks; what is set aside, by these with what is hidden from their clients
pub record IsUnjudged (marks : List MarkOf) (declared : DeclarationOf) (turns : List TurnOf) (passed : List Rank) (aside : List NamedOf) : Type 0 where
  pub calls : List RecordedOf
  pub are : AreRecorded marks calls
  pub steps : List StepOf
  pub order : IsOrder (grants_declared declared) calls turns steps
  pub passes : passed ≡ ranks (passed_along steps)
  pub asides : AreAside declared (in_sight declared steps) aside
