-- WHAT STATUSES 0 AND 1 OF A JUDGING MEAN (profile).
use Rattle.std.specs.Prelude.{◌≡◌, ◌≢◌, ℕ, true, List, Option}
use Rattle.kmipa_ttlv.specs.declared.input.Input.{Input}
use Rattle.kmipa_record.specs.Declarations.{DeclarationOf}
use Rattle.kmipa_record.specs.Marks.{MarkOf}
use Rattle.kmipa_record.specs.Witnesses.{TurnOf, IsWitness}
use Rattle.kmipa_trail.specs.Tallies.{TallyOf}
use Rattle.kmipa_trail.specs.Verdicts.{IsAccepted}
use Rattle.kmipa_judge.specs.Clients.{AreOfOne}
use Rattle.kmipa_judge.specs.Declaring.{is_presumed}
use Rattle.kmipa_judge.specs.Runs.{IsReadAs, IsUsed, is_assumed}
use Rattle.kmipa_judge.specs.Unexplained.{HasNoOrder}

-- The bytes that are made are a witness, that is accepted by the declaration that is used: nothing is set aside by it alone, and some item is judged.
pub record IsExplained {R : Type 0} (t : Input R) (d : Option (Input R)) (witness : List ℕ) : Type 0 where
  pub marks : List MarkOf
  pub read : IsReadAs t marks
  pub declared : DeclarationOf
  pub used : IsUsed d declared
  pub turns : List TurnOf
  pub written : IsWitness witness turns
  pub tally : TallyOf
  pub accepted : IsAccepted marks declared turns tally
  pub unexcepted : tally.excepted ≡ 0
  pub some : tally.counts.judged ≢ 0

-- By the declaration that is used no order of the calls explains every answer; and where it is only presumed that each client sees every object, clients of one
-- identity made all calls.
pub record IsConvicted {R : Type 0} (t : Input R) (d : Option (Input R)) : Type 0 where
  pub marks : List MarkOf
  pub read : IsReadAs t marks
  pub declared : DeclarationOf
  pub used : IsUsed d declared
  pub unexplained : HasNoOrder marks declared
  pub of_one : is_presumed (is_assumed d) declared.settings.visibility ≡ true → AreOfOne marks
