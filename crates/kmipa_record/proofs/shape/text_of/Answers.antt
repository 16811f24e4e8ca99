use Rattle.std.proofs.Common.{◌≡◌, ◌≢◌, ℕ, List, refl, sym, subst, Option, MatchOption}
use Rattle.kmipa_ttlv.specs.Tree.{scalar, text}
use Rattle.kmipa_ttlv.specs.ViewTree.{view_tree}
use Rattle.kmipa_record.proofs.ShapeLemmas.{other_tag, tag_is, match_map, text_shape}
use Rattle.kmipa_record.proofs.shape.text_of.Goals as goal

pub returns-then-item-tag : goal.returns-then-item-tag
returns-then-item-tag c = λ x e. other_tag c.args.item.now c.args.tag (scalar c.args.tag (text x)) c.if-item-tag.true refl e

pub returns : goal.returns
returns c =
    let t = view_tree c.args.item.now in
    let shape = text_shape c.args.tag t (tag_is c.args.item.now c.args.tag c.if-item-tag.false) in
    match_map (λ s. s.now) c.as_text.result ((bs : List ℕ) → t ≢ scalar c.args.tag (text bs)) (λ bs. t ≡ scalar c.args.tag (text bs)) (subst (λ (o : Option (List ℕ)). MatchOption o ((bs : List ℕ) → t ≢ scalar c.args.tag (text bs)) (λ bs. t ≡ scalar c.args.tag (text bs))) (sym c.as_text.ensures) shape)
