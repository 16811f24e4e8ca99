use Rattle.std.proofs.Common.{◌≡◌, ◌≢◌, Bool, refl, sym, subst, Option, MatchOption}
use Rattle.kmipa_ttlv.specs.Tree.{scalar, boolean}
use Rattle.kmipa_ttlv.specs.ViewTree.{view_tree}
use Rattle.kmipa_record.proofs.ShapeLemmas.{other_tag, tag_is, boolean_shape}
use Rattle.kmipa_record.proofs.shape.boolean_of.Goals as goal

pub returns-then-item-tag : goal.returns-then-item-tag
returns-then-item-tag c = λ x e. other_tag c.args.item.now c.args.tag (scalar c.args.tag (boolean x)) c.if-item-tag.true refl e

pub returns : goal.returns
returns c =
    let t = view_tree c.args.item.now in
    let shape = boolean_shape c.args.tag t (tag_is c.args.item.now c.args.tag c.if-item-tag.false) in
    subst (λ (o : Option Bool). MatchOption o ((b : Bool) → t ≢ scalar c.args.tag (boolean b)) (λ b. t ≡ scalar c.args.tag (boolean b))) (sym c.as_boolean.ensures) shape
