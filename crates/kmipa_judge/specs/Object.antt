-- WHAT IS TOLD IN JSON OF A JUDGING (profile): what its lines say, each under a name of its own, in an object that has some members already.
use Rattle.std.specs.Prelude.{◌≡◌, ℕ, Bool, true, false, List, codes, Option, Some, None, IfSome}
use Rattle.serde_json.specs.Data.{Items, Members, array, boolean, no_members, object, put, string}
use Rattle.kmipa_json.specs.Told.{count, integer, line_of}
use Rattle.kmipa_ops.specs.Whys.{why_number, why_name}
use Rattle.kmipa_bundle.specs.Counts.{CountsOf, total}
use Rattle.kmipa_check.specs.declared.auditing.AuditFault.{AuditFault}
use Rattle.kmipa_check.specs.declared.verdict.Refused.{Refused}
use Rattle.kmipa_record.specs.Declarations.{DeclarationOf}
use Rattle.kmipa_record.specs.Marks.{MarkOf}
use Rattle.kmipa_record.specs.Witnesses.{TurnOf, witness_of}
use Rattle.kmipa_explain.specs.declared.explanation.Explanation.{Explanation}
use Rattle.kmipa_trail.specs.Told.{tally_of}
use Rattle.kmipa_findings.specs.Findings.{FindingOf}
use Rattle.kmipa_findings.specs.declared.finding.Outcome.{Outcome}
use Rattle.kmipa_findings.specs.declared.finding.Outcome.TheVariants as outcome
use Rattle.kmipa_unjudged.specs.Told.{NamedOf}
use Rattle.kmipa_unjudged.specs.Unjudged.{IsUnjudged}
use Rattle.kmipa_unjudged.specs.declared.rank.Rank.{Rank}
use Rattle.kmipa_jobs.specs.declared.status.Status.{Status}
use Rattle.kmipa_telling.specs.Claims.{TellsMeaning}
use Rattle.kmipa_telling.specs.Lists.{AreObjects, objects}
use Rattle.kmipa_telling.specs.Telling.{TellsDate, TellsFault, named_under, verdict_named}
use Rattle.kmipa_judge.specs.Lines.{Meaning}
use Rattle.kmipa_judge.specs.Opinions.{findings_of, opinion_of, opinion_status}
use Rattle.kmipa_judge.specs.Parts.{IsMeaning}
use Rattle.kmipa_judge.specs.Rules.{rule_text}
use Rattle.kmipa_judge.specs.Unjudged.{operation_text}
use Rattle.kmipa_judge.specs.declared.opinion.Opinion.{Opinion}
use Rattle.kmipa_judge.specs.declared.rule.Rule.{Rule}
use Rattle.kmipa_judge.specs.declared.opinion.Opinion.TheVariants.{Explained, NothingJudged, Convicted, Suspected, Undecided}

-- ---- what is found

-- what stands for the first line
abbrev pub opinion_name : Opinion → List ℕ
opinion_name Explained = codes "explained"
opinion_name NothingJudged = codes "nothing judged"
opinion_name Convicted = codes "convicted"
opinion_name Suspected = codes "suspected"
opinion_name Undecided = codes "undecided"

-- that nothing is declared, where it is so
abbrev pub assumed_told : Bool → Members → Members
assumed_told true told = put (codes "assumed") (boolean true) told
assumed_told false told = told

-- the turn, the call and the item of a finding, and the reason
abbrev pub refused_members : Refused → Members
refused_members r = named_under (codes "why") (why_number r.why) (why_name r.why)
    (put (codes "item") (count r.item) (put (codes "call") (integer r.call) (put (codes "turn") (count r.turn) no_members)))

-- and the Time Stamp of its call's response, where there is one; and what it means, where it is explained
abbrev pub TellsFinding : Meaning → FindingOf → Members → Type 0
TellsFinding Means f told = (e : Option Explanation) × (before : Members) × IfSome e (Means f) × TellsDate f.stamp (refused_members f.refused) before × TellsMeaning e before told

-- the word, whether nothing is declared, and all findings; and the status that goes with it
pub record TellsFound (Means : Meaning) (assumed : Bool) (o : Outcome) (said : Status) (before after : Members) : Type 0 where
  pub found : Items
  pub findings : AreObjects (TellsFinding Means) (findings_of o) found
  pub ends : said ≡ opinion_status (opinion_of o)
  pub are : after ≡ put (codes "findings") (array found) (assumed_told assumed (verdict_named (opinion_name (opinion_of o)) before))

-- ---- what isn't judged

-- how many items are set aside by what
abbrev pub aside_members : CountsOf → Members
aside_members n = put (codes "object") (count n.object) (put (codes "witness") (count n.witness)
    (put (codes "answer") (count n.answer) (put (codes "request") (count n.request) no_members)))

-- and how many are judged, of so many
abbrev pub tally_members : CountsOf → Members
tally_members n = put (codes "set_aside") (object (aside_members n)) (put (codes "items") (count (total n)) (put (codes "judged") (count n.judged) no_members))

-- an operation that was passed, with how many items asked for it
abbrev pub passed_members : Rank → Members
passed_members r = put (codes "items") (count r.count) (put (codes "operation") (string (operation_text r.operation)) no_members)

-- the operation of an item; none of a call that can't be read
abbrev pub operation_told : Option ℕ → Members → Members
operation_told None told = told
operation_told (Some number) told = put (codes "operation") (string (operation_text number)) told

-- an identifier that is set aside, with the item since which it is
abbrev pub named_members : NamedOf → Members
named_members n = operation_told n.origin.operation
    (put (codes "item") (count n.origin.item) (put (codes "call") (integer n.origin.call) (put (codes "identifier") (string n.id) no_members)))

-- all of both sorts
abbrev pub unjudged_told : List Rank → List NamedOf → Members → Members
unjudged_told passed aside told = put (codes "aside") (array (objects named_members aside)) (put (codes "passed") (array (objects passed_members passed)) told)

-- what isn't judged along these turns
abbrev pub TellsAlong : List MarkOf → DeclarationOf → List TurnOf → Members → Members → Type 0
TellsAlong marks declared turns before after = (passed : List Rank) × (aside : List NamedOf) × IsUnjudged marks declared turns passed aside
    × (after ≡ unjudged_told passed aside before)

-- the seconds that are over, where they are
abbrev pub over_told : Option ℕ → Members → Members
over_told None told = told
over_told (Some seconds) told = put (codes "seconds") (count seconds) told

-- how many calls were tried, and those
abbrev pub steps_told : ℕ → Option ℕ → Members → Members
steps_told steps over told = over_told over (put (codes "steps") (count steps) told)

-- of what is undecided how many calls were tried; of all others how many items are judged, and what isn't along the witness
abbrev pub TellsBehind : List MarkOf → DeclarationOf → Outcome → Members → Members → Type 0
TellsBehind marks declared (outcome.Judged j) before after =
    TellsAlong marks declared (witness_of j.witness) (put (codes "tally") (object (tally_members (tally_of j.tally).counts)) before) after
TellsBehind marks declared (outcome.Undecided u) before after = after ≡ steps_told u.steps u.over before

-- ---- rules that explain

-- a rule in the words of a file of rules
abbrev pub rule_members : Rule → Members
rule_members r = put (codes "rule") (string (rule_text r)) no_members

-- all of them
abbrev pub rules_told : List Rule → Members → Members
rules_told rules told = put (codes "explained_with") (array (objects rule_members rules)) told

-- ---- whole objects

-- THE DEFINITION: the line of an object that has these members, and besides them those of an outcome and of rules; and the status that goes with them
pub record TellsWhole (before : Members) (assumed : Bool) (marks : List MarkOf) (declared : DeclarationOf) (o : Outcome) (rules : List Rule) (said : Status) (lines : List ℕ) : Type 0 where
  pub front : Members
  pub found : TellsFound (IsMeaning marks declared o) assumed o said before front
  pub told : Members
  pub behind : TellsBehind marks declared o front told
  pub are : lines ≡ line_of (object (rules_told rules told))

-- the line of one that has, besides these, those of a fault
abbrev pub TellsFaultWhole : Members → AuditFault → Status → List ℕ → Type 0
TellsFaultWhole before fault said lines = (told : Members) × TellsFault fault said before told × (lines ≡ line_of (object told))
