use Rattle.serde_json.specs.View.{view}
use Rattle.kmipa_json.proofs.WholeLemmas.{left_by_put}
use Rattle.kmipa_json.proofs.object.JsonObject.put.Goals as goal

pub invariant_of-self : goal.invariant_of-self
invariant_of-self c = record {
  whole = left_by_put c.put.result c.args.name.now (view c.args.value) c.args.self.now.members.entries c.put.new.map.entries c.requires c.args.self.now.whole c.put.ensures.ok c.put.ensures.err;
}
