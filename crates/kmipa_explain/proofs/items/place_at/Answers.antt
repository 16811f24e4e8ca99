use Rattle.std.proofs.Common.{◌≡◌, ◌∙◌, None, length, sym, ap}
use Rattle.kmipa_msgs.specs.Messages.{maybe_lent}
use Rattle.kmipa_check.specs.Steps.{step_of}
use Rattle.kmipa_explain.proofs.ItemLemmas.{place_by_place}
use Rattle.kmipa_explain.proofs.items.place_at.Goals as goal

pub returns-in-None : goal.returns-in-None
returns-in-None c =
    let none : (step_of c.args.step.now).places ≡ None = sym c.places.ensures ∙ ap maybe_lent c.in-None.is in
    place_by_place (step_of c.args.step.now).places (length (step_of c.args.step.now).request.items) c.args.position none c.requires
