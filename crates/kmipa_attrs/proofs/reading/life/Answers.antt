use Rattle.std.proofs.Common.{◌≡◌, ◌∙◌, sym, false}
use Rattle.kmipa_ttlv.specs.ViewTree.{view_trees}
use Rattle.kmipa_attrs.specs.Attributes.{tells_of_life}
use Rattle.kmipa_attrs.proofs.LifeLemmas.{nothing_told}
use Rattle.kmipa_attrs.proofs.reading.life.Goals as goal

pub returns-then-not-tells_of_life : goal.returns-then-not-tells_of_life
returns-then-not-tells_of_life c =
    let ts = view_trees c.args.children in
    let silent : tells_of_life ts ≡ false = sym c.tells_of_life.ensures ∙ c.if-not-tells_of_life.true in
    sym (nothing_told c.args.side ts silent)
