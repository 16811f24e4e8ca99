-- WHAT IS PRINTED OF A JUDGING (profile).
use Rattle.std.specs.Prelude.{◌≡◌, ℕ, ◌+◌, Bool, true, false, List, [], ◌∷◌, ◌++◌, length, codes, Option, Some, None, IfSome, flat_map}
use Rattle.std.specs.Fmt.{decimal, signed_decimal}
use Rattle.kmipa_ops.specs.Whys.{why_number, why_name}
use Rattle.kmipa_check.specs.declared.verdict.Refused.{Refused}
use Rattle.kmipa_explain.specs.declared.explanation.Explanation.{Explanation}
use Rattle.kmipa_trail.specs.Told.{tally_of}
use Rattle.kmipa_findings.specs.Findings.{FindingOf}
use Rattle.kmipa_findings.specs.declared.finding.Outcome.{Outcome}
use Rattle.kmipa_findings.specs.declared.finding.Outcome.TheVariants as outcome
use Rattle.kmipa_runs.specs.Lines.{line}
use Rattle.kmipa_jobs.specs.declared.status.Status.{Status}
use Rattle.kmipa_telling.specs.Explaining.{PrintsMore}
use Rattle.kmipa_beside.specs.Lines.{PrintsStamp, judged_line}
use Rattle.kmipa_judge.specs.Indented.{indented}
use Rattle.kmipa_judge.specs.Opinions.{findings_of, opinion_of, opinion_status, steps_of}
use Rattle.kmipa_judge.specs.Rules.{explained_line}
use Rattle.kmipa_judge.specs.declared.rule.Rule.{Rule}
use Rattle.kmipa_judge.specs.declared.opinion.Opinion.{Opinion}
use Rattle.kmipa_judge.specs.declared.opinion.Opinion.TheVariants.{Explained, NothingJudged, Convicted, Suspected, Undecided}

-- the line of an opinion, with how many findings there are, and how many calls were tried
abbrev pub first_line : Opinion → ℕ → ℕ → List ℕ
first_line Explained findings steps = line (codes "explained" ∷ [])
first_line NothingJudged findings steps = line (codes "nothing judged" ∷ [])
first_line Convicted findings steps = line (codes "convicted: " ∷ decimal findings ∷ codes " findings" ∷ [])
first_line Suspected findings steps = line (codes "suspected: " ∷ decimal findings ∷ codes " findings" ∷ [])
first_line Undecided findings steps = line (codes "undecided: " ∷ decimal findings ∷ codes " findings, " ∷ decimal steps ∷ codes " steps" ∷ [])

-- the line that says so where no declaration is given
abbrev pub assumed_line : Bool → List ℕ
assumed_line true = line (codes "assumed: nothing is declared" ∷ [])
assumed_line false = []

-- how the line of a finding ends
abbrev pub refused_part : Refused → List ℕ
refused_part r = line (codes ": turn " ∷ decimal r.turn ∷ codes " call " ∷ signed_decimal r.call
    ∷ codes " item " ∷ decimal r.item ∷ codes " why " ∷ decimal (why_number r.why) ∷ codes " " ∷ why_name r.why ∷ [])

-- the line of a finding with this number
abbrev pub finding_line : ℕ → Refused → List ℕ
finding_line number r = codes "finding " ++ (decimal number ++ refused_part r)

-- what findings mean: these explanations are right
abbrev pub Meaning : Type 1
Meaning = FindingOf → Explanation → Type 0

-- what a finding means: nothing, or behind two blanks each the lines of an explanation
abbrev pub PrintsMeaning : Meaning → FindingOf → List ℕ → Type 0
PrintsMeaning Means f lines = (e : Option Explanation) × (text : List ℕ) × IfSome e (Means f) × PrintsMore e text × (lines ≡ indented text)

-- and behind it the date of its call's response, and what it means
abbrev pub PrintsFinding : Meaning → ℕ → FindingOf → List ℕ → Type 0
PrintsFinding Means number f lines = (dated more : List ℕ) × PrintsStamp f.stamp dated × PrintsMeaning Means f more × (lines ≡ finding_line number f.refused ++ (dated ++ more))

-- the lines of findings, of which the first has this number
abbrev pub PrintsFindings : Meaning → ℕ → List FindingOf → List ℕ → Type 0
PrintsFindings Means number [] lines = lines ≡ []
PrintsFindings Means number (f ∷ fs) lines = (one more : List ℕ) × PrintsFinding Means number f one × PrintsFindings Means (number + 1) fs more × (lines ≡ one ++ more)

-- the line that so many seconds are over, where they are
abbrev pub over_line : Option ℕ → List ℕ
over_line None = []
over_line (Some seconds) = line (codes "not decided: " ∷ decimal seconds ∷ codes " seconds are over" ∷ [])

-- what stands behind the findings: how many items are judged, and by what the others aren't; or whether the seconds are over
abbrev pub last_lines : Outcome → List ℕ
last_lines (outcome.Judged j) = judged_line (tally_of j.tally).counts
last_lines (outcome.Undecided u) = over_line u.over

-- By what findings mean, whether nothing is declared, and by which rules every answer is explained: the lines of an outcome, and the status that goes with them.
pub record PrintsOutcome (Means : Meaning) (assumed : Bool) (o : Outcome) (rules : List Rule) (said : Status) (lines : List ℕ) : Type 0 where
  pub found : List ℕ
  pub findings : PrintsFindings Means 1 (findings_of o) found
  pub ends : said ≡ opinion_status (opinion_of o)
  pub are : lines ≡ first_line (opinion_of o) (length (findings_of o)) (steps_of o) ++ (assumed_line assumed ++ (found ++ (flat_map explained_line rules ++ last_lines o)))
