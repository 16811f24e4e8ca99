use Rattle.std.proofs.lemmas.List.{take_more}
use Rattle.kmipa_msgs.proofs.LocateLemmas.{located_more}
use Rattle.kmipa_msgs.proofs.writing.locate.write_located.Goals as goal

pub loop-id-preserved : goal.loop-id-preserved
loop-id-preserved c =
    let ids = c.deref-id-items.result.now in
    let i = c.loop-id.id-index in
    located_more ids i _ _ _ (take_more ids i _ c.loop-id-test.true) c.loop-id.invariant c.in_ok-text.ensures
