use Rattle.std.proofs.Common.{◌∙◌, rules}
use Rattle.std.specs.Int.{w64}
use Rattle.std.proofs.lemmas.Int.{to_z-of_z}
use Rattle.kmipa_store.specs.Ledger.{held}
use Rattle.kmipa_ops.proofs.ChangeLemmas.{changed_is, life_is}
use Rattle.kmipa_ops.proofs.change.change_object.Goals as goal

pub returns-in-Ok : goal.returns-in-Ok
returns-in-Ok g c =
    changed_is (g.L.Ledger.state c.args.ledger.now) (g.L.Ledger.state c.replace.new.self) c.args.place c.in-Some.place (held c.at.result.now) c.args.change (g.L.Ledger.moment c.args.ledger.now) c.life_left-life.result
    c.in-Some.is c.at.ensures
    (life_is (held c.at.result.now) c.args.change (g.L.Ledger.moment c.args.ledger.now) _ c.life_left-life.result (to_z-of_z w64 c.moment.result (search (rules, c.moment.type_inv)) ∙ c.moment.ensures) c.life_left-life.ensures.dates c.life_left-life.ensures.material) c.in-Ok.ensures.meaning
