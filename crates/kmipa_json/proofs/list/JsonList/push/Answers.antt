use Rattle.kmipa_json.proofs.WholeLemmas.{left_by_push, pushed}
use Rattle.kmipa_json.proofs.list.JsonList.push.Goals as goal

pub invariant_of-self : goal.invariant_of-self
invariant_of-self c = record {
  whole = left_by_push c.push.result c.args.value c.args.self.now.items.items c.push.new.list.items c.requires c.args.self.now.whole c.push.ensures.ok c.push.ensures.err;
}

pub returns-clause-ok : goal.returns-clause-ok
returns-clause-ok c = pushed c.push.result c.args.value c.args.self.now.items.items c.push.new.list.items c.push.ensures.ok
