use Rattle.kmipa_session.proofs.SealingLemmas.{expected_said, other_said}
use Rattle.kmipa_session.proofs.sealing.say_expected.Goals as goal

pub returns-then-has_seal : goal.returns-then-has_seal
returns-then-has_seal c = expected_said c.args.voice c.args.seal.now c.args.torn c.args.head.now c.args.said.status c.args.said.lines.items c.say_head.result.status c.say_head.result.lines.items
    c.requires c.has_seal.result c.has_seal.ensures c.if-has_seal.true c.say_head.ensures

pub returns-else-has_seal : goal.returns-else-has_seal
returns-else-has_seal c = other_said c.args.voice c.args.seal.now c.args.torn c.args.head.now c.args.said.status c.args.said.lines.items c.say_other_head.result.status
    c.say_other_head.result.lines.items c.requires c.has_seal.result c.has_seal.ensures c.if-has_seal.false c.say_other_head.ensures
