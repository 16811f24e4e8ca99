use Rattle.std.proofs.Common.{◌∙◌, ap}
use Rattle.kmipa_store.specs.AsideIds.{said}
use Rattle.kmipa_store.specs.Histories.{while_marked}
use Rattle.kmipa_store.specs.declared.changes.AsideChange.TheVariants.{Said}
use Rattle.kmipa_store.proofs.AsideLemmas.{said_back}
use Rattle.kmipa_store.proofs.changes.say_aside.Goals as goal

pub returns : goal.returns
returns c = (
  c.say.ensures,
  record {
    change = Said c.args.place c.is_at-before.result;
    written = c.forget_unmarked.ensures ∙ ap (while_marked c.args.places.now.items) c.in_ok-push.ensures.items;
    back = ap (λ es. said es c.args.place c.is_at-before.result) c.say.ensures ∙ said_back c.args.asides.now c.args.place c.args.aside c.is_at-before.result c.is_at-before.ensures;
  },
)
