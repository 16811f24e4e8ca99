use Rattle.std.proofs.Common.{rules, ◌≡◌, ℕ, List, sym, ap, ◌∙◌}
use Rattle.std.specs.Prelude.{drop}
use Rattle.kmipa_ttlv.specs.Tree.{Tree, more}
use Rattle.kmipa_ttlv.specs.Spelling.{tag_at, kind_at, value_at, extent}
use Rattle.kmipa_ttlv.specs.Spelled.{item_at, items_at}
use Rattle.kmipa_ttlv.specs.ViewTree.{from_tag, view_value_tree}
use Rattle.kmipa_ttlv.proofs.SpelledLemmas.{items_more, items_none, item_tag}
use Rattle.kmipa_ttlv.proofs.ViewTreeLemmas.{from_there, from_after, from_none}
use Rattle.kmipa_ttlv.proofs.spelled.front_of.Goals as goal

pub returns-then-front-tag : goal.returns-then-front-tag
returns-then-front-tag c =
    let bytes = c.items.rest.now in
    let is = items_more bytes c.in-Some.ensures.0 in
    let item = item_at items_at (tag_at bytes) (kind_at bytes) (value_at bytes) in
    let tag = item_tag items_at (tag_at bytes) (kind_at bytes) (value_at bytes) ∙ sym c.in-Some.ensures.1 ∙ c.if-front-tag.true in
    let rest : c.split_at.result.1.now ≡ drop (extent bytes) bytes = c.split_at.ensures.back ∙ ap (λ (n : ℕ). drop n bytes) c.in-Some.ensures.2 in
    sym c.items.invariant ∙ ap (from_tag c.args.tag) is ∙ from_there c.args.tag item (items_at (drop (extent bytes) bytes)) tag
    ∙ ap (λ (t : Tree). more t (items_at (drop (extent bytes) bytes)))
    (ap (λ (n : ℕ). item_at items_at n (kind_at bytes) (value_at bytes)) (sym c.in-Some.ensures.1) ∙ sym (c.front_value-value.ensures c.in-Some.front.number))
    ∙ ap (λ (b : List ℕ). more (view_value_tree c.in-Some.front.number c.front_value-value.result) (items_at b)) (sym rest)

pub items-preserved : goal.items-preserved
items-preserved c =
    let bytes = c.items.rest.now in
    let is = items_more bytes c.in-Some.ensures.0 in
    let item = item_at items_at (tag_at bytes) (kind_at bytes) (value_at bytes) in
    let tag = item_tag items_at (tag_at bytes) (kind_at bytes) (value_at bytes) ∙ sym c.in-Some.ensures.1 in
    let rest : c.split_at.result.1.now ≡ drop (extent bytes) bytes = c.split_at.ensures.back ∙ ap (λ (n : ℕ). drop n bytes) c.in-Some.ensures.2 in
    ap (λ (b : List ℕ). from_tag c.args.tag (items_at b)) rest
    ∙ sym (from_after c.args.tag item (items_at (drop (extent bytes) bytes)) (λ e. c.if-front-tag.false (sym tag ∙ e))) ∙ ap (from_tag c.args.tag) (sym is) ∙ c.items.invariant

pub returns : goal.returns
returns c =
    let is = items_none c.items.rest.now (search rules) in
    sym c.items.invariant ∙ ap (from_tag c.args.tag) is ∙ from_none c.args.tag
