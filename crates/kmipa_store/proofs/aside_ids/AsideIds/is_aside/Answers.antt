use Rattle.std.proofs.Common.{◌∙◌, sym}
use Rattle.kmipa_store.proofs.AsideLemmas.{misses, stands}
use Rattle.kmipa_store.proofs.aside_ids.AsideIds.is_aside.Goals as goal

pub returns-in-Some : goal.returns-in-Some
returns-in-Some c = sym ((stands c.args.id.now c.args.self.now c.in-Some.place (sym c.in-Some.is ∙ c.find.ensures.place)).tells c.is_at.result c.is_at.ensures)

pub returns-in-None : goal.returns-in-None
returns-in-None c = sym (misses c.args.id.now c.args.self.now (sym c.in-None.is ∙ c.find.ensures.place)).tells
