-- WHAT A FINDING MEANS (profile): the same no is given of a part of the recording of which all is judged, and is explained there.
use Rattle.std.specs.Prelude.{◌≡◌, ℕ, ◌+◌, ℤ, nat_lt, if◌then◌else◌, Bool, true, false, List, [], ◌∷◌, ◌++◌, filter, take, drop, slice_get, Option, Some, None}
use Rattle.kmipa_record.specs.Declarations.{DeclarationOf}
use Rattle.kmipa_record.specs.Marks.{MarkOf, call_of}
use Rattle.kmipa_record.specs.Witnesses.{TurnOf, witness_of}
use Rattle.kmipa_check.specs.Numbers.{place_in}
use Rattle.kmipa_check.specs.Orders.{NamesAt, NamesBefore}
use Rattle.kmipa_check.specs.Verdicts.{TellsVerdict}
use Rattle.kmipa_check.specs.declared.numbers.FirstPlaces.{FirstPlaces}
use Rattle.kmipa_check.specs.declared.verdict.Refused.{Refused}
use Rattle.kmipa_check.specs.declared.verdict.Verdict.TheVariants.{No}
use Rattle.kmipa_explain.specs.Explanations.{Explains}
use Rattle.kmipa_explain.specs.declared.explanation.Explanation.{Explanation}
use Rattle.kmipa_findings.specs.Findings.{FindingOf}
use Rattle.kmipa_findings.specs.declared.finding.Outcome.{Outcome}
use Rattle.kmipa_findings.specs.declared.finding.Outcome.TheVariants as outcome
use Rattle.kmipa_judge.specs.Renumbered.{IsRenumbered, Turns}

-- ---- the part

-- the marks of the calls that are kept, as they are and in their order
abbrev pub marks_kept : (ℤ → Bool) → List MarkOf → List MarkOf
marks_kept keeps marks = filter (λ (m : MarkOf). keeps (call_of m)) marks

-- the turns that take them, in their order
abbrev pub turns_kept : (ℤ → Bool) → List TurnOf → List TurnOf
turns_kept keeps turns = filter (λ (t : TurnOf). keeps t.call) turns

-- the turns of a witness, with that of a finding as it was tried
abbrev pub with_tried : List TurnOf → FindingOf → List TurnOf
with_tried turns f = take f.place turns ++ f.tried ∷ drop (f.place + 1) turns

-- ---- what is explained of it

-- the same answer is impossible for the same reason; its turn may be another one
pub record IsSameNo (a b : Refused) : Type 0 where
  pub call : a.call ≡ b.call
  pub item : a.item ≡ b.item
  pub why : a.why ≡ b.why

-- A check of these marks and turns, which sets nothing aside, gives the same no, and each claim of the explanation holds of that. It goes by the rules and
-- the objects of the declaration; what this sets aside, and who sees whose objects, it doesn't look at.
pub record ExplainsSame (marks : List MarkOf) (declared : DeclarationOf) (turns : List TurnOf) (r : Refused) (e : Explanation) : Type 0 where
  pub no : Refused
  pub same : IsSameNo no r
  pub told : TellsVerdict marks declared turns (No no)
  pub explains : Explains marks declared turns no e

-- the turn of each call is that of the whole witness
abbrev pub AreTurnsOf : List TurnOf → Turns → Type 0
AreTurnsOf turns turn = (call : ℤ) (place told : ℕ) → NamesAt turns place call → (NamesBefore turns place call → ⊥) → turn call told ≡ place + 1

-- THE DEFINITION. The explanation is one of some calls of the recording and of the turns that take them here, told with the turns that these have in a witness.
pub record ExplainsTurns (marks : List MarkOf) (declared : DeclarationOf) (witness turns : List TurnOf) (r : Refused) (e : Explanation) : Type 0 where
  pub keeps : ℤ → Bool
  pub claims : Explanation
  pub explained : ExplainsSame (marks_kept keeps marks) declared (turns_kept keeps turns) r claims
  pub turn : Turns
  pub numbers : AreTurnsOf witness turn
  pub told : IsRenumbered turn claims e

-- a finding is explained with its turn as it was tried
abbrev pub ExplainsFinding : List MarkOf → DeclarationOf → List TurnOf → FindingOf → Explanation → Type 0
ExplainsFinding marks declared turns f e = ExplainsTurns marks declared turns (with_tried turns f) f.refused e

-- and a no of a check with the witness as it is
abbrev pub ExplainsNo : List MarkOf → DeclarationOf → List TurnOf → Refused → Explanation → Type 0
ExplainsNo marks declared turns r e = ExplainsTurns marks declared turns turns r e

-- of what is undecided no finding is explained
abbrev pub IsMeaning : List MarkOf → DeclarationOf → Outcome → FindingOf → Explanation → Type 0
IsMeaning marks declared (outcome.Judged j) f e = ExplainsFinding marks declared (witness_of j.witness) f e
IsMeaning marks declared (outcome.Undecided u) f e = ⊥

-- ---- for its own proofs

abbrev pub kept_there : Option Bool → Bool
kept_there None = false
kept_there (Some kept) = kept

-- the turn at this place is kept
abbrev pub is_kept : List Bool → ℕ → Bool
is_kept turns place = kept_there (slice_get turns place)

abbrev pub kept_at : List Bool → Option ℕ → Bool
kept_at turns None = false
kept_at turns (Some place) = is_kept turns place

-- the turn of this call is kept
abbrev pub keeps : FirstPlaces → List Bool → ℤ → Bool
keeps places turns call = kept_at turns (place_in places call)

-- one, where it is kept
abbrev pub one_if : {Y : Type 0} → Y → Bool → List Y
one_if y true = y ∷ []
one_if y false = []

abbrev pub turn_at : ℕ → Option ℕ → ℕ → ℕ
turn_at count None told = told
turn_at count (Some place) told = if nat_lt place count then place + 1 else told

-- the turn of a call among so many
abbrev pub turn_by : FirstPlaces → ℕ → Turns
turn_by places count call told = turn_at count (place_in places call) told
