-- what judging promises of its outcome: of what is undecided nothing but why it ended
use Rattle.std.specs.Prelude.{◌≡◌, ℕ, true, List, map, IfSome}
use Rattle.kmipa_record.specs.Declarations.{DeclarationOf}
use Rattle.kmipa_record.specs.Marks.{MarkOf}
use Rattle.kmipa_record.specs.Witnesses.{witness_of}
use Rattle.kmipa_trail.specs.Told.{tally_of}
use Rattle.kmipa_findings.specs.Findings.{IsJudged, IsUnexplained}
use Rattle.kmipa_findings.specs.Told.{finding_of}
use Rattle.kmipa_findings.specs.declared.finding.Outcome.{Outcome}
use Rattle.kmipa_findings.specs.declared.finding.Outcome.TheVariants.{Judged, Undecided}

-- where a search has so many seconds
abbrev pub Judges : ℕ → List MarkOf → DeclarationOf → Outcome → Type 0
Judges seconds marks declared (Judged j) =
    IsJudged marks declared (witness_of j.witness) (tally_of j.tally) (map finding_of j.findings.items) × (j.is_decided ≡ true → IsUnexplained marks declared)
Judges seconds marks declared (Undecided u) = IfSome u.over (λ after. after ≡ seconds)
