-- WHERE NO ORDER OF THE CALLS EXPLAINS EVERY ANSWER, and what judging comes to (profile).
use Rattle.std.specs.Prelude.{◌≡◌, ℕ, true, List, map, IfSome}
use Rattle.kmipa_msgs.specs.declared.rules.Visibility.TheVariants.{Everyone}
use Rattle.kmipa_record.specs.Declarations.{DeclarationOf, nothing_declared}
use Rattle.kmipa_record.specs.declared.settings.Settings.{Settings}
use Rattle.kmipa_record.specs.Marks.{MarkOf}
use Rattle.kmipa_record.specs.Witnesses.{witness_of}
use Rattle.kmipa_trail.specs.Told.{tally_of}
use Rattle.kmipa_findings.specs.Findings.{IsJudged, IsUnexplained}
use Rattle.kmipa_findings.specs.Outcomes.{Judges}
use Rattle.kmipa_findings.specs.Told.{finding_of}
use Rattle.kmipa_findings.specs.declared.finding.Outcome.{Outcome}
use Rattle.kmipa_findings.specs.declared.finding.Outcome.TheVariants as outcome
use Rattle.kmipa_searches.specs.Deciding.{IsRefuted}
use Rattle.kmipa_judge.specs.Clients.{AreOfOne}
use Rattle.kmipa_judge.specs.Declaring.{IsPlain}
use Rattle.kmipa_judge.specs.declared.searched.Looked.{Looked}
use Rattle.kmipa_judge.specs.declared.searched.Looked.TheVariants.{Found, Refuted, Undecided}

-- As a search of all calls has it: nothing is to be set aside, no message is outside, and no inventory that is declared has a run of all calls.
pub record IsRefutedAsEver (marks : List MarkOf) (declared : DeclarationOf) : Type 0 where
  pub plain : IsPlain declared
  pub refuted : IsRefuted marks declared

-- each client sees every object
abbrev pub seen_by_all : Settings → Settings
seen_by_all s = record s { visibility = Everyone }

-- THE DEFINITION: beside what is set aside no witness is accepted that sets nothing aside; or as a search of all calls has it. Where nothing is declared, and
-- clients of one identity made all calls, no object is hidden from any of them: it is as where each client sees every object.
pub data HasNoOrder (marks : List MarkOf) (declared : DeclarationOf) : Type 0 where
  beside : IsUnexplained marks declared → HasNoOrder marks declared
  as_ever : IsRefutedAsEver marks declared → HasNoOrder marks declared
  of_one : AreOfOne marks → declared ≡ nothing_declared declared.settings → IsUnexplained marks (nothing_declared (seen_by_all declared.settings)) → HasNoOrder marks declared

-- What judging comes to, where a search has so many seconds: what was found; and it is told as decided only where no order explains every answer. Of what is
-- undecided nothing is promised but why it ended.
abbrev pub ComesTo : ℕ → List MarkOf → DeclarationOf → Outcome → Type 0
ComesTo seconds marks declared (outcome.Judged j) =
    IsJudged marks declared (witness_of j.witness) (tally_of j.tally) (map finding_of j.findings.items) × (j.is_decided ≡ true → HasNoOrder marks declared)
ComesTo seconds marks declared (outcome.Undecided u) = IfSome u.over (λ after. after ≡ seconds)

-- ---- on the way; not promised

-- what a search of all calls comes to
abbrev pub IsLooked : List MarkOf → DeclarationOf → Looked → Type 0
IsLooked marks declared (Found outcome) = (seconds : ℕ) → Judges seconds marks declared outcome
IsLooked marks declared Refuted = IsRefutedAsEver marks declared
IsLooked marks declared Undecided = Unit {0}
