use Rattle.std.proofs.Common.{◌≡◌, Bool, ◌∙◌, sym, ap}
use Rattle.std.specs.Prelude.{◌||◌}
use Rattle.kmipa_ttlv.specs.ViewTree.{view_trees}
use Rattle.kmipa_passed.specs.Identifiers.{names_unclearly}
use Rattle.kmipa_passed.proofs.identifiers.names_unclearly.Goals as goal

pub returns-then-is_unclear : goal.returns-then-is_unclear
returns-then-is_unclear c =
    let rest = names_unclearly (view_trees c.next.new.self) in
    sym (ap (λ (b : Bool). b || rest) (sym c.is_unclear.ensures ∙ c.if-is_unclear.true)) ∙ sym (ap names_unclearly c.in-Some.ensures) ∙ c.children.invariant

pub children-preserved : goal.children-preserved
children-preserved c =
    let rest = names_unclearly (view_trees c.next.new.self) in
    sym (ap (λ (b : Bool). b || rest) (sym c.is_unclear.ensures ∙ c.if-is_unclear.false)) ∙ sym (ap names_unclearly c.in-Some.ensures) ∙ c.children.invariant

pub returns : goal.returns
returns c = sym (ap names_unclearly c.in_default.ensures.0) ∙ c.children.invariant
