use Rattle.std.proofs.Common.{◌<◌, arith, length}
use Rattle.kmipa_store.proofs.HistoryLemmas.{roll_on}
use Rattle.kmipa_store.proofs.changes.roll_back.Goals as goal

pub loop-changes-preserved : goal.loop-changes-preserved
loop-changes-preserved g c =
    let below : c.args.count < length c.loop-changes.changes.items = omega (arith, c.len.ensures, c.loop-changes-test.true) in
    let i = c.loop-changes.invariant in
    let s = roll_on g.T.Undo.unmade c.loop-changes.subject c.take_back.new.self c.args.subject.now c.loop-changes.changes.items c.pop.new.self.items c.args.changes.now.items
    c.in-Some.change c.args.count c.in-Some.ensures.items below c.take_back.ensures i.value i.left in
    record { value = s.0; left = s.1; within = s.2 }
