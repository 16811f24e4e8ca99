-- Lines behind two blanks each, byte by byte.
use Rattle.std.proofs.Common.{◌≡◌, ◌<◌, ◌≤◌, ℕ, ◌+◌, ◌==◌, Bool, true, List, [], ◌∷◌, ◌++◌, length, drop, get_or, refl, sym, ap, ◌∙◌}
use Rattle.std.proofs.lemmas.List.{append_assoc, append-nil, at_drop_more}
use Rattle.std.proofs.Math.ListN.{drop_of_length-le}
use Rattle.kmipa_judge.specs.Indented.{blanks, indented, indented_from}

-- what is written, and what is still to be written
abbrev pub IsIndented : List ℕ → ℕ → Bool → List ℕ → Type 0
IsIndented text i begins more = more ++ indented_from begins (drop i text) ≡ indented text

pub indented_none : (text more : List ℕ) → more ≡ [] → IsIndented text 0 true more
indented_none text more none = ap (λ (l : List ℕ). l ++ indented text) none

pub indented_on : (text : List ℕ) (i b : ℕ) (begins next : Bool) (before after : List ℕ) → i < length text → b ≡ get_or text i b → next ≡ (b == 10)
    → after ≡ before ++ (blanks begins ++ (b ∷ [])) → IsIndented text i begins before → IsIndented text (i + 1) next after
indented_on text i b begins next before after less is newline grown held =
    let rest : List ℕ = indented_from next (drop (i + 1) text) in
    let step : indented_from begins (drop i text) ≡ (blanks begins ++ (b ∷ [])) ++ rest =
    at_drop_more (indented_from begins) text i b less ∙ ap (λ (x : ℕ). indented_from begins (x ∷ drop (i + 1) text)) (sym is)
    ∙ ap (λ (n : Bool). blanks begins ++ (b ∷ indented_from n (drop (i + 1) text))) (sym newline) ∙ sym (append_assoc (blanks begins) (b ∷ []) rest) in
    ap (λ (l : List ℕ). l ++ rest) grown ∙ append_assoc before (blanks begins ++ (b ∷ [])) rest ∙ ap (λ (l : List ℕ). before ++ l) (sym step) ∙ held

pub indented_all : (text : List ℕ) (i : ℕ) (begins : Bool) (more : List ℕ) → length text ≤ i → IsIndented text i begins more → more ≡ indented text
indented_all text i begins more end held =
    sym (append-nil more) ∙ ap (λ (l : List ℕ). more ++ indented_from begins l) (sym (drop_of_length-le text end)) ∙ held
