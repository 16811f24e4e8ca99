use Rattle.std.proofs.Common.{rules, ◌≡◌, ℕ, List, sym, ap, ◌∙◌}
use Rattle.std.specs.Prelude.{drop}
use Rattle.kmipa_ttlv.specs.Tree.{Tree, more}
use Rattle.kmipa_ttlv.specs.Spelling.{tag_at, kind_at, value_at, extent}
use Rattle.kmipa_ttlv.specs.Spelled.{item_at, items_at}
use Rattle.kmipa_ttlv.specs.ViewTree.{view_value_tree}
use Rattle.kmipa_ttlv.proofs.SpelledLemmas.{items_more, items_none}
use Rattle.kmipa_ttlv.proofs.spelled.front_view.Goals as goal

pub returns-in_default : goal.returns-in_default
returns-in_default c = items_none c.args.bytes.now (search rules)

pub returns : goal.returns
returns c =
    let bytes = c.args.bytes.now in
    let rest : c.split_at.result.1.now ≡ drop (extent bytes) bytes = c.split_at.ensures.back ∙ ap (λ (n : ℕ). drop n bytes) c.in-Some.ensures.2 in
    items_more bytes c.in-Some.ensures.0
    ∙ ap (λ (t : Tree). more t (items_at (drop (extent bytes) bytes)))
    (ap (λ (n : ℕ). item_at items_at n (kind_at bytes) (value_at bytes)) (sym c.in-Some.ensures.1) ∙ sym (c.front_value-value.ensures c.in-Some.tag.number))
    ∙ ap (λ (b : List ℕ). more (view_value_tree c.in-Some.tag.number c.front_value-value.result) (items_at b)) (sym rest)
