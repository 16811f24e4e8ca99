use Rattle.std.proofs.Common.{◌≡◌, ◌≢◌, refl, sym, subst, Option, MatchOption}
use Rattle.kmipa_ttlv.specs.Tree.{Trees, structure}
use Rattle.kmipa_ttlv.specs.ViewTree.{view_tree, view_trees}
use Rattle.kmipa_record.proofs.ShapeLemmas.{other_tag, tag_is, match_map, structure_shape}
use Rattle.kmipa_record.proofs.shape.children_of.Goals as goal

pub returns-then-item-tag : goal.returns-then-item-tag
returns-then-item-tag c = λ x e. other_tag c.args.item.now c.args.tag (structure c.args.tag x) c.if-item-tag.true refl e

pub returns : goal.returns
returns c =
    let t = view_tree c.args.item.now in
    let shape = structure_shape c.args.tag t (tag_is c.args.item.now c.args.tag c.if-item-tag.false) in
    match_map view_trees c.as_structure.result ((ts : Trees) → t ≢ structure c.args.tag ts) (λ ts. t ≡ structure c.args.tag ts) (subst (λ (o : Option Trees). MatchOption o ((ts : Trees) → t ≢ structure c.args.tag ts) (λ ts. t ≡ structure c.args.tag ts)) (sym c.as_structure.ensures) shape)
