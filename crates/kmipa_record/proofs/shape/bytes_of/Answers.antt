use Rattle.std.proofs.Common.{◌≡◌, ◌≢◌, ℕ, List, refl, sym, subst, Option, MatchOption}
use Rattle.kmipa_ttlv.specs.Tree.{scalar, byte_string}
use Rattle.kmipa_ttlv.specs.ViewTree.{view_tree}
use Rattle.kmipa_record.proofs.ShapeLemmas.{other_tag, tag_is, match_map, bytes_shape}
use Rattle.kmipa_record.proofs.shape.bytes_of.Goals as goal

pub returns-then-item-tag : goal.returns-then-item-tag
returns-then-item-tag c = λ x e. other_tag c.args.item.now c.args.tag (scalar c.args.tag (byte_string x)) c.if-item-tag.true refl e

pub returns : goal.returns
returns c =
    let t = view_tree c.args.item.now in
    let shape = bytes_shape c.args.tag t (tag_is c.args.item.now c.args.tag c.if-item-tag.false) in
    match_map (λ s. s.now) c.as_bytes.result ((bs : List ℕ) → t ≢ scalar c.args.tag (byte_string bs)) (λ bs. t ≡ scalar c.args.tag (byte_string bs)) (subst (λ (o : Option (List ℕ)). MatchOption o ((bs : List ℕ) → t ≢ scalar c.args.tag (byte_string bs)) (λ bs. t ≡ scalar c.args.tag (byte_string bs))) (sym c.as_bytes.ensures) shape)
