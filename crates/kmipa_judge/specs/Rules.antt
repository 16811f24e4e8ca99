-- BY WHICH RULE OF A SERVER EVERY ANSWER IS EXPLAINED, where nothing is declared (profile): so a server that goes by a rule of its own is told from a faulty one.
use Rattle.std.specs.Prelude.{◌≡◌, ◌==◌, ℕ, Bool, false, if◌then◌else◌, List, length, [], ◌∷◌, ◌++◌, pos, codes, All}
use Rattle.kmipa_record.specs.Declarations.{DeclarationOf, nothing_declared}
use Rattle.kmipa_record.specs.Marks.{MarkOf}
use Rattle.kmipa_record.specs.Witnesses.{TurnOf}
use Rattle.kmipa_record.specs.declared.own_attribute.OwnAttribute.{OwnAttribute}
use Rattle.kmipa_record.specs.declared.own_attribute.OwnAttribute.TheVariants.{Name, CryptographicAlgorithm, CryptographicLength, CryptographicUsageMask, ActivationDate, DeactivationDate}
use Rattle.kmipa_record.specs.declared.settings.Settings.{Settings}
use Rattle.kmipa_trail.specs.Tallies.{TallyOf}
use Rattle.kmipa_trail.specs.Verdicts.{IsAccepted}
use Rattle.kmipa_findings.specs.Findings.{SetsNothingAside}
use Rattle.kmipa_findings.specs.declared.finding.Outcome.{Outcome}
use Rattle.kmipa_findings.specs.declared.finding.Outcome.TheVariants as outcome
use Rattle.kmipa_runs.specs.Lines.{line}
use Rattle.kmipa_judge.specs.declared.rule.Rule.{Rule}
use Rattle.kmipa_judge.specs.declared.rule.Rule.TheVariants.{Tolerance, Own}

-- an attribute, and a rule, in the words of a file of rules
abbrev pub own_text : OwnAttribute → List ℕ
own_text Name = codes "Name"
own_text CryptographicAlgorithm = codes "CryptographicAlgorithm"
own_text CryptographicLength = codes "CryptographicLength"
own_text CryptographicUsageMask = codes "CryptographicUsageMask"
own_text ActivationDate = codes "ActivationDate"
own_text DeactivationDate = codes "DeactivationDate"

abbrev pub rule_text : Rule → List ℕ
rule_text Tolerance = codes "tolerance 1"
rule_text (Own a) = codes "own " ++ own_text a

-- The declaration that assumes nothing but a rule, beside these settings: moments may be a second away from Time Stamps, or the server may give an attribute at
-- birth.
abbrev pub a_second_away : Settings → Settings
a_second_away s = record s { tolerance = pos 1 }

abbrev pub assuming : Settings → Rule → DeclarationOf
assuming s Tolerance = nothing_declared (a_second_away s)
assuming s (Own a) = record (nothing_declared s) { own_attributes = a ∷ [] }

-- By a declaration some order of the calls explains every answer that is judged: a witness is accepted that sets nothing aside.
pub record IsExplainedBy (marks : List MarkOf) (declared : DeclarationOf) : Type 0 where
  pub turns : List TurnOf
  pub tally : TallyOf
  pub accepted : IsAccepted marks declared turns tally
  pub whole : SetsNothingAside turns

-- so it is where nothing but a rule is assumed beside these settings
abbrev pub IsExplainedWith : List MarkOf → Settings → Rule → Type 0
IsExplainedWith marks s r = IsExplainedBy marks (assuming s r)

-- rules are tried only where nothing is declared, and something was found
abbrev pub are_tried_for : Bool → ℕ → Bool
are_tried_for assumed findings = if findings == 0 then false else assumed

abbrev pub are_tried : Bool → Outcome → Bool
are_tried assumed (outcome.Judged j) = are_tried_for assumed (length j.findings.items)
are_tried assumed (outcome.Undecided u) = false

-- Each of these rules explains every answer, where it is all that is assumed beside the settings by which was judged; there is none where none is tried. That
-- a rule isn't among them says nothing.
pub record AreExplaining (assumed : Bool) (marks : List MarkOf) (declared : DeclarationOf) (o : Outcome) (rules : List Rule) : Type 0 where
  pub each : All (IsExplainedWith marks declared.settings) rules
  pub none : are_tried assumed o ≡ false → rules ≡ []

-- the line of a rule that explains every answer
abbrev pub explained_line : Rule → List ℕ
explained_line r = line (codes "explained with: " ∷ rule_text r ∷ [])

-- ---- for its own proofs

-- a turn sets nothing aside
abbrev pub sets_none : TurnOf → Bool
sets_none t = length t.asides == 0
