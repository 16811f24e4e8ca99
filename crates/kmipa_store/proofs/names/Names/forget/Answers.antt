use Rattle.kmipa_store.proofs.NameLemmas.{others_on}
use Rattle.kmipa_store.proofs.names.Names.forget.Goals as goal

pub loop-slot-preserved : goal.loop-slot-preserved
loop-slot-preserved c = others_on c.args.self.now c.loop-slot.self _ c.args.place c.name_hash-hash.result c.loop-slot.slot c.loop-slot.invariant c.remove.ensures.keys
