use Rattle.std.proofs.Common.{sym, ◌∙◌}
use Rattle.kmipa_attrs.proofs.DistinctLemmas.{again_repeats, once_passed}
use Rattle.kmipa_attrs.proofs.NameLemmas.{has_of}
use Rattle.kmipa_attrs.proofs.names.few_differ.Goals as goal

pub returns-then-contains : goal.returns-then-contains
returns-then-contains c =
    let again = sym (has_of c.in-Some.rest.now c.in-Some.name.now) ∙ sym c.contains.ensures.value ∙ c.if-contains.true in
    (λ t. absurd cc, λ h. absurd (again_repeats c.args.names.now c.names.left.now c.in-Some.rest.now c.in-Some.name.now c.in-Some.ensures.cases.0 again c.names.invariant h))

pub names-preserved : goal.names-preserved
names-preserved c =
    let fresh = sym (has_of c.in-Some.rest.now c.in-Some.name.now) ∙ sym c.contains.ensures.value ∙ c.if-contains.false in
    once_passed _ c.names.left.now c.in-Some.rest.now c.in-Some.name.now c.in-Some.ensures.cases.0 fresh c.names.invariant
