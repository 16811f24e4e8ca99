-- The lines of findings, one after the other.
use Rattle.std.proofs.Common.{◌≡◌, ◌≤◌, ℕ, ◌+◌, List, [], ◌∷◌, ◌++◌, ◌<◌, length, map, drop, get_or, refl, sym, ap, subst, ◌∙◌, append_assoc, Bool, Option, Result, String}
use Rattle.std.proofs.lemmas.List.{at_drop_more, append-nil}
use Rattle.std.proofs.Math.ListN.{drop_of_length-le}
use Rattle.std.proofs.lemmas.Result.{IfOk-weaker}
use Rattle.std.specs.Prelude.{IfOk, IfSome, string_bytes}
use Rattle.std.specs.Global.{Global}
use Rattle.std.specs.declared.alloc.AllocError.{AllocError}
use Rattle.kmipa_findings.specs.Findings.{FindingOf}
use Rattle.kmipa_findings.specs.Told.{finding_of}
use Rattle.kmipa_findings.specs.declared.finding.Finding.{Finding}
use Rattle.kmipa_explain.specs.declared.explanation.Explanation.{Explanation}
use Rattle.kmipa_telling.specs.Explaining.{PrintsMore}
use Rattle.kmipa_judge.specs.Indented.{indented}
use Rattle.std.specs.List.{flat_map}
use Rattle.std.proofs.lemmas.List.{length-map}
use Rattle.kmipa_findings.specs.declared.finding.Outcome.{Outcome}
use Rattle.kmipa_jobs.specs.declared.status.Status.{Status}
use Rattle.kmipa_judge.specs.Lines.{Meaning, PrintsFinding, PrintsFindings, PrintsMeaning, PrintsOutcome, assumed_line, first_line, last_lines}
use Rattle.kmipa_judge.specs.Opinions.{findings_of, opinion_of, opinion_status, steps_of}
use Rattle.kmipa_judge.specs.Rules.{explained_line}
use Rattle.kmipa_judge.specs.declared.opinion.Opinion.{Opinion}
use Rattle.kmipa_judge.specs.declared.rule.Rule.{Rule}

module _ (Means : Meaning) where
  -- one finding more
  pub one_more : (number : ℕ) (f : FindingOf) (fs : List FindingOf) (one rest : List ℕ) → PrintsFinding Means number f one → PrintsFindings Means (number + 1) fs rest
      → PrintsFindings Means number (f ∷ fs) (one ++ rest)
  one_more number f fs one rest first more = (one, rest, first, more, refl)

  -- what is written of all, where this was written of the ones ahead and this is written of the next
  pub goes_on : (all fs : List FindingOf) (f : FindingOf) (number : ℕ) (before one after : List ℕ)
      → ((rest : List ℕ) → PrintsFindings Means number (f ∷ fs) rest → PrintsFindings Means 1 all (before ++ rest)) → PrintsFinding Means number f one → after ≡ before ++ one
      → (rest : List ℕ) → PrintsFindings Means (number + 1) fs rest → PrintsFindings Means 1 all (after ++ rest)
  goes_on all fs f number before one after so first is rest more =
      let P : List ℕ → Type 0 = λ l. PrintsFindings Means 1 all l in
      subst P (sym (ap (λ (l : List ℕ). l ++ rest) is ∙ append_assoc before one rest)) (so (one ++ rest) (one_more number f fs one rest first more))

  -- the next finding, and those behind it
  drop_here : (fs : List Finding) (i : ℕ) (f : Finding) → i < length fs → f ≡ get_or fs i f → map finding_of (drop i fs) ≡ finding_of f ∷ map finding_of (drop (i + 1) fs)
  drop_here fs i f less is =
      at_drop_more (map finding_of) fs i f less ∙ ap (λ (x : Finding). finding_of x ∷ map finding_of (drop (i + 1) fs)) (sym is)

  -- what is written ahead of the rest
  abbrev pub IsWritten : List Finding → ℕ → List ℕ → Type 0
  IsWritten fs i before = (rest : List ℕ) → PrintsFindings Means (i + 1) (map finding_of (drop i fs)) rest → PrintsFindings Means 1 (map finding_of fs) (before ++ rest)

  pub written_on : (fs : List Finding) (i : ℕ) (f : Finding) (before one after : List ℕ) → i < length fs → f ≡ get_or fs i f → IsWritten fs i before
      → PrintsFinding Means (i + 1) (finding_of f) one → after ≡ before ++ one → IsWritten fs (i + 1) after
  written_on fs i f before one after less is so first e =
      let So : List FindingOf → Type 0 = λ l. (rest : List ℕ) → PrintsFindings Means (i + 1) l rest → PrintsFindings Means 1 (map finding_of fs) (before ++ rest) in
      goes_on (map finding_of fs) (map finding_of (drop (i + 1) fs)) (finding_of f) (i + 1) before one after (subst So (drop_here fs i f less is) so) first e

  pub written_all : (fs : List Finding) (i : ℕ) (text : List ℕ) → length fs ≤ i → IsWritten fs i text → PrintsFindings Means 1 (map finding_of fs) text
  written_all fs i text all so =
      let P : List ℕ → Type 0 = λ l. PrintsFindings Means 1 (map finding_of fs) l in
      let none : map finding_of (drop i fs) ≡ [] = ap (map finding_of) (drop_of_length-le fs all) in
      let Q : List FindingOf → Type 0 = λ l. PrintsFindings Means (i + 1) l [] in
      subst P (append-nil text) (so [] (subst Q (sym none) refl))

  -- what a finding means, behind two blanks each
  pub meaning_indented : (f : FindingOf) (e : Option Explanation) (text told : List ℕ) (r : Result (String Global) AllocError) → IfSome e (Means f) → PrintsMore e text → told ≡ text
      → IfOk r (λ more. string_bytes more ≡ indented told) → IfOk r (λ more. PrintsMeaning Means f (string_bytes more))
  meaning_indented f e text told r means prints same is = IfOk-weaker r _ _ (λ more i. (e, text, means, prints, i ∙ ap indented same)) is

-- the lines of an outcome
pub outcome_printed : (Means : Meaning) (assumed : Bool) (o : Outcome) (rules : List Rule) (said : Status) (lines first second found explained last : List ℕ) (fs : List Finding)
    (opinion : Opinion) (steps : ℕ) → map finding_of fs ≡ findings_of o → opinion ≡ opinion_of o → steps ≡ steps_of o → first ≡ first_line opinion (length fs) steps
    → second ≡ assumed_line assumed → PrintsFindings Means 1 (map finding_of fs) found → explained ≡ flat_map explained_line rules → last ≡ last_lines o → said ≡ opinion_status opinion
    → lines ≡ first ++ (second ++ (found ++ (explained ++ last))) → PrintsOutcome Means assumed o rules said lines
outcome_printed Means assumed o rules said lines first second found explained last fs opinion steps same is so e1 e2 printed e3 e4 ends are =
    let P : List FindingOf → Type 0 = λ l. PrintsFindings Means 1 l found in
    let count : length fs ≡ length (findings_of o) = sym (length-map fs finding_of) ∙ ap length same in
    let front : List ℕ = first_line (opinion_of o) (length (findings_of o)) (steps_of o) in
    let begins : first ≡ front =
    e1 ∙ ap (λ (x : Opinion). first_line x (length fs) steps) is ∙ ap (λ (n : ℕ). first_line (opinion_of o) n steps) count
    ∙ ap (λ (n : ℕ). first_line (opinion_of o) (length (findings_of o)) n) so in
    record {
      found = found;
      findings = subst P same printed;
      ends = ends ∙ ap opinion_status is;
      are = are ∙ ap (λ (t : List ℕ). t ++ (second ++ (found ++ (explained ++ last)))) begins ∙ ap (λ (t : List ℕ). front ++ (t ++ (found ++ (explained ++ last)))) e2
          ∙ ap (λ (t : List ℕ). front ++ (assumed_line assumed ++ (found ++ (t ++ last)))) e3
          ∙ ap (λ (t : List ℕ). front ++ (assumed_line assumed ++ (found ++ (flat_map explained_line rules ++ t)))) e4;
    }
