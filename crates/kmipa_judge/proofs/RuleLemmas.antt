-- From what was tried to what is told of rules.
use Rattle.std.proofs.Common.{◌≡◌, ◌≢◌, ◌==◌, ◌<◌, ℕ, zero, suc, Bool, true, false, ◌&&◌, List, [], ◌∷◌, All, AllPairs, Contains, get_or, length, map, refl, sym, subst, ◌∙◌, arith}
use Rattle.std.specs.List.{list_all}
use Rattle.std.proofs.lemmas.Bool.{eqb-true}
use Rattle.std.proofs.lemmas.List.Elements.{All-nil}
use Rattle.kmipa_record.specs.Declarations.{AreDeclared, DeclarationOf}
use Rattle.kmipa_record.specs.Entries.{EntryOf, IsDeclarable}
use Rattle.kmipa_record.specs.Marks.{MarkOf}
use Rattle.kmipa_record.specs.Witnesses.{TurnOf, turn_of, witness_of}
use Rattle.kmipa_record.specs.declared.settings.Settings.{Settings}
use Rattle.kmipa_record.specs.declared.turn.Turn.{Turn}
use Rattle.kmipa_trail.specs.Told.{tally_of}
use Rattle.kmipa_findings.specs.Findings.{SetsNothingAside}
use Rattle.kmipa_findings.specs.Outcomes.{Judges}
use Rattle.kmipa_findings.specs.declared.finding.Judged.{Judged}
use Rattle.kmipa_findings.specs.declared.finding.Outcome.{Outcome}
use Rattle.kmipa_findings.specs.declared.finding.Outcome.TheVariants as outcome
use Rattle.kmipa_judge.specs.Rules.{AreExplaining, IsExplainedBy, IsExplainedWith, are_tried, assuming, sets_none}
use Rattle.kmipa_judge.specs.declared.rule.Rule.{Rule}
use Rattle.kmipa_judge.specs.declared.rule.Rule.TheVariants.{Tolerance, Own}

-- none is told
pub no_rules : (assumed : Bool) (marks : List MarkOf) (declared : DeclarationOf) (o : Outcome) (rules : List Rule) → rules ≡ [] → AreExplaining assumed marks declared o rules
no_rules assumed marks declared o rules is =
    let P : List Rule → Type 0 = λ l. All (IsExplainedWith marks declared.settings) l in
    record { each = subst P (sym is) (All-nil (IsExplainedWith marks declared.settings)); none = λ untried. is }

-- some are, where rules are tried
pub some_rules : (assumed : Bool) (marks : List MarkOf) (declared : DeclarationOf) (o : Outcome) (rules : List Rule) → are_tried assumed o ≡ true
    → All (IsExplainedWith marks declared.settings) rules → AreExplaining assumed marks declared o rules
some_rules assumed marks declared o rules tried each = record {
  each = each;
  none = λ untried. let clash : true ≡ false = sym tried ∙ untried in absurd cc;
}

-- no object is declared
pub no_objects : (d : DeclarationOf) → d.entries ≡ [] → AreDeclared d
no_objects d is =
    let P : List EntryOf → Type 0 = λ l. All IsDeclarable l in
    let Q : List EntryOf → Type 0 = λ l. AllPairs (λ (a b : EntryOf). a.id ≢ b.id) l in
    record { each = subst P (sym is) (λ k d less. absurd (omega (arith, less))); distinct = subst Q (sym is) (λ i j d before less. absurd (omega (arith, less))) }

pub rule_declared : (s : Settings) (r : Rule) → AreDeclared (assuming s r)
rule_declared s Tolerance = no_objects (assuming s Tolerance) refl
rule_declared s (Own a) = no_objects (assuming s (Own a)) refl

-- ---- turns that set nothing aside

empty : {X : Type 0} (l : List X) → (length l == 0) ≡ true → l ≡ []
empty [] e = refl
empty (x ∷ xs) e = let none : suc (length xs) ≡ 0 = eqb-true (suc (length xs)) 0 e in absurd (omega (arith, none))

first_of : (f : Turn → Bool) (x : Turn) (xs : List Turn) → list_all f (x ∷ xs) ≡ true → (f x ≡ true) × (list_all f xs ≡ true)
first_of f x xs e =
    elim (f x) as (λ b. f x ≡ b → (f x ≡ true) × (list_all f xs ≡ true)) [
      | true ↦ λ is. (is, (let P : Bool → Type 0 = λ b. (b && list_all f xs) ≡ true in subst P is e))
      | false ↦ λ is. (let P : Bool → Type 0 = λ b. (b && list_all f xs) ≡ true in let bad : false ≡ true = subst P is e in let no : ⊥ = cc in absurd no)
    ] refl

behind_first : (y : TurnOf) (ys : List TurnOf) → y.asides ≡ [] → SetsNothingAside ys → SetsNothingAside (y ∷ ys)
behind_first y ys first rest t inside = by inside.0 inside.1 inside.2
  where
    by : (k : ℕ) → k < length (y ∷ ys) → get_or (y ∷ ys) k t ≡ t → t.asides ≡ []
    by zero less is = let P : TurnOf → Type 0 = λ z. z.asides ≡ [] in subst P is first
    by (suc k) less is = rest t (k, omega (arith, less), is)

pub whole_turns : (turns : List Turn) → list_all (λ (t : Turn). sets_none (turn_of t)) turns ≡ true → SetsNothingAside (map turn_of turns)
whole_turns [] e = λ t inside. let less : inside.0 < 0 = inside.1 in absurd (omega (arith, less))
whole_turns (x ∷ xs) e =
    let both = first_of (λ (t : Turn). sets_none (turn_of t)) x xs e in
    behind_first (turn_of x) (map turn_of xs) (empty (turn_of x).asides both.0) (whole_turns xs both.1)

pub explained_along : (j : Judged) (o : Outcome) (marks : List MarkOf) (declared : DeclarationOf) → o ≡ outcome.Judged j → Judges 0 marks declared o
    → list_all (λ (t : Turn). sets_none (turn_of t)) j.witness.turns.items ≡ true → IsExplainedBy marks declared
explained_along j o marks declared is judges whole =
    let P : Outcome → Type 0 = λ x. Judges 0 marks declared x in
    let judged = subst P is judges in
    record { turns = witness_of j.witness; tally = tally_of j.tally; accepted = judged.0.accepted; whole = whole_turns j.witness.turns.items whole }
