use Rattle.std.proofs.Common.{◌≡◌, ◌⊎◌, inr, sym, ap, subst, ◌∙◌, ℕ, Bool, if◌then◌else◌, List, ◌++◌, take, Contains}
use Rattle.std.proofs.lemmas.List.Elements.{Contains-append_right}
use Rattle.kmipa_runs.specs.Inputs.{HasOther}
use Rattle.kmipa_runs.proofs.text.read_text.Goals as goal

pub returns-then-has_other-clause-end : goal.returns-then-has_other-clause-end
returns-then-has_other-clause-end g c =
    let old = c.pieces.out.items in
    let piece = take c.in-Some.n c.read_some.new.buf in
    let other = c.has_other.ensures c.if-has_other.true in
    let kept = c.extend_from_slice.ensures.items ∙ ap (λ (b : Bool). if b then (old ++ piece) else old) c.if-is_err.ensures.negation in
    inr (other.0, subst (λ (l : List ℕ). Contains l other.0) (sym kept) (Contains-append_right old piece other.0 other.1), other.2, other.3)
