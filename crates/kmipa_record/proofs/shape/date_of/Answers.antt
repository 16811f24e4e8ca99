use Rattle.std.proofs.Common.{◌≡◌, ◌≢◌, ℤ, refl, sym, subst, Option, MatchOption}
use Rattle.kmipa_ttlv.specs.Tree.{scalar, date_time}
use Rattle.kmipa_ttlv.specs.ViewTree.{view_tree}
use Rattle.kmipa_record.proofs.ShapeLemmas.{other_tag, tag_is, date_shape}
use Rattle.kmipa_record.proofs.shape.date_of.Goals as goal

pub returns-then-item-tag : goal.returns-then-item-tag
returns-then-item-tag c = λ x e. other_tag c.args.item.now c.args.tag (scalar c.args.tag (date_time x)) c.if-item-tag.true refl e

pub returns : goal.returns
returns c =
    let t = view_tree c.args.item.now in
    let shape = date_shape c.args.tag t (tag_is c.args.item.now c.args.tag c.if-item-tag.false) in
    subst (λ (o : Option ℤ). MatchOption o ((z : ℤ) → t ≢ scalar c.args.tag (date_time z)) (λ z. t ≡ scalar c.args.tag (date_time z))) (sym c.as_date.ensures) shape
