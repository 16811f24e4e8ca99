use Rattle.std.proofs.Common.{◌∙◌, ap}
use Rattle.kmipa_store.specs.AsideIds.{entry_place}
use Rattle.kmipa_store.proofs.AsideLemmas.{place_entries}
use Rattle.kmipa_store.proofs.aside_ids.AsideIds.find.Goals as goal

pub returns-clause-place : goal.returns-clause-place
returns-clause-place c = c.find.ensures.place ∙ place_entries c.args.id.now c.self.inside.objects ∙ ap (entry_place c.args.id.now) c.self.view_is
