-- What judging comes to.
use Rattle.std.proofs.Common.{◌≡◌, ℕ, Bool, true, List, Result, Ok, Err, IfOk}
use Rattle.kmipa_record.specs.Declarations.{DeclarationOf}
use Rattle.kmipa_record.specs.Marks.{MarkOf}
use Rattle.kmipa_findings.specs.Outcomes.{Judges}
use Rattle.kmipa_findings.specs.declared.finding.Outcome.{Outcome}
use Rattle.kmipa_findings.specs.declared.finding.Outcome.TheVariants.{Judged, Undecided}
use Rattle.kmipa_judge.specs.Unexplained.{ComesTo, beside}

-- what is decided along an order is decided
pub comes_to : (seconds : ℕ) (marks : List MarkOf) (declared : DeclarationOf) (o : Outcome) → Judges seconds marks declared o → ComesTo seconds marks declared o
comes_to seconds marks declared (Judged j) h = (h.0, λ decided. beside (h.1 decided))
comes_to seconds marks declared (Undecided u) h = h

-- where a truth is told, what it says holds still where more does
pub if_told : {E P Q : Type 0} (r : Result Bool E) → (P → Q) → IfOk r (λ b. b ≡ true → P) → IfOk r (λ b. b ≡ true → Q)
if_told (Ok b) f p = λ yes. f (p yes)
if_told (Err e) f p = tt
