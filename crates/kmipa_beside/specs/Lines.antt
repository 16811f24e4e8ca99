-- WHAT IS PRINTED of a verdict where some of what was recorded isn't judged (profile).
use Rattle.std.specs.Prelude.{◌≡◌, ◌==◌, ℕ, ◌+◌, ℤ, if◌then◌else◌, List, [], ◌∷◌, ◌++◌, codes, Option, Some, None, Result, Ok, Err}
use Rattle.std.specs.Fmt.{decimal}
use Rattle.kmipa_bundle.specs.Counts.{CountsOf, total}
use Rattle.kmipa_check.specs.declared.auditing.AuditFault.{AuditFault}
use Rattle.kmipa_runs.specs.Lines.{PrintsDate, PrintsFault, line, no_line, yes_line}
use Rattle.kmipa_jobs.specs.declared.status.Status.{Status}
use Rattle.kmipa_jobs.specs.declared.status.Status.TheVariants as status
use Rattle.kmipa_trail.specs.Tallies.{TallyOf}
use Rattle.kmipa_trail.specs.Told.{tally_of}
use Rattle.kmipa_trail.specs.declared.verdict.Verdict.{Verdict}
use Rattle.kmipa_trail.specs.declared.verdict.Verdict.TheVariants.{Yes, No}

-- the line of a yes; or of one but for items, and whole calls, that the witness alone sets aside
abbrev pub first_line : ℕ → List ℕ
first_line excepted = if excepted == 0 then line (codes "yes" ∷ []) else line (codes "yes but for " ∷ decimal excepted ∷ codes " items" ∷ [])

-- how many items were set aside by what
abbrev pub aside_part : CountsOf → List ℕ
aside_part n = line (codes " items; set aside: " ∷ decimal n.request ∷ codes " by request, " ∷ decimal n.answer ∷ codes " by answer, " ∷ decimal n.witness ∷ codes " by witness, " ∷ decimal n.object ∷ codes " by object" ∷ [])

-- how many were judged, of so many, and how many weren't
abbrev pub counts_line : CountsOf → ℕ → List ℕ
counts_line n items = codes "judged: " ++ (decimal n.judged ++ (codes " of " ++ (decimal items ++ aside_part n)))

abbrev pub judged_line : CountsOf → List ℕ
judged_line n = counts_line n (total n)

abbrev pub yes_lines : TallyOf → List ℕ
yes_lines k = first_line k.excepted ++ judged_line k.counts

abbrev pub yes_status : TallyOf → Status
yes_status k = if k.excepted == 0 then status.Done else status.No

-- the date of the response of a call that is refused; none of one that can't be read
abbrev pub PrintsStamp : Option ℤ → List ℕ → Type 0
PrintsStamp None lines = lines ≡ line (codes "at none" ∷ [])
PrintsStamp (Some second) lines = PrintsDate (Some second) lines

abbrev pub PrintsVerdict : Verdict → Status → List ℕ → Type 0
PrintsVerdict (Yes tally) said lines = (said ≡ yes_status (tally_of tally)) × (lines ≡ yes_lines (tally_of tally))
PrintsVerdict (No refused stamp) said lines = (said ≡ status.No) × ((dated : List ℕ) × PrintsStamp stamp dated × (lines ≡ no_line refused ++ dated))

abbrev pub PrintsOutcome : Result Verdict AuditFault → Status → List ℕ → Type 0
PrintsOutcome (Ok verdict) said lines = PrintsVerdict verdict said lines
PrintsOutcome (Err fault) said lines = PrintsFault fault said lines

-- Where what isn't judged ends the audit, all items of a yes are judged, and nothing is printed of how many they are.
abbrev pub PrintsInSight : Verdict → Status → List ℕ → Type 0
PrintsInSight (Yes tally) said lines = (said ≡ status.Done) × (lines ≡ yes_line)
PrintsInSight (No refused stamp) said lines = PrintsVerdict (No refused stamp) said lines

abbrev pub PrintsOutcomeInSight : Result Verdict AuditFault → Status → List ℕ → Type 0
PrintsOutcomeInSight (Ok verdict) said lines = PrintsInSight verdict said lines
PrintsOutcomeInSight (Err fault) said lines = PrintsFault fault said lines
