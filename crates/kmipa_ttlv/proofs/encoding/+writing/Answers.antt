use Rattle.std.proofs.Common.{◌≡◌, ◌+◌, ◌++◌, ℕ, List, drop, length, sym, ap, subst, ◌∙◌, arith, append_assoc}
use Rattle.std.proofs.lemmas.List.{drop_all, append-nil}
use Rattle.kmipa_ttlv.specs.Tree.{Tree, Trees, structure, more}
use Rattle.kmipa_ttlv.specs.ItemTree.{value_tree, tree, trees}
use Rattle.kmipa_ttlv.specs.declared.item.Item.{Item}
use Rattle.kmipa_ttlv.specs.Written.{Legal, AllLegal, header, framed, spelling, spellings, size, sizes}
use Rattle.kmipa_ttlv.proofs.ItemTreeLemmas.{tree_of_structure}
use Rattle.kmipa_ttlv.proofs.MeasureLemmas.{sizes_eights}
use Rattle.kmipa_ttlv.proofs.WriteLemmas.{length-spellings, framed_eights, drop_next}
use Rattle.kmipa_ttlv.proofs.encoding.+writing.Goals as goal

pub put_item-put_structure-requires : goal.put_item-put_structure-requires
put_item-put_structure-requires t c =
    let tag = c.args.item.now.tag.number in
    let e : tree c.args.item.now ≡ structure tag (trees c.deref.result.now)
    = ap (value_tree tag) c.in-Structure.is ∙ tree_of_structure tag c.in-Structure.children ∙ ap (λ (is : List Item). structure tag (trees is)) (sym c.deref.ensures.value) in
    let legal = subst (Legal c.args.left) e c.requires.legal in
    (omega (arith, legal.levels, c.decreases), (omega (arith, c.requires.room, ap size e), record { levels = omega (arith, legal.levels); sound = legal.sound; small = omega (arith, legal.small) }))

pub put_item-returns-in-Structure-clause-items : goal.put_item-returns-in-Structure-clause-items
put_item-returns-in-Structure-clause-items t c =
    let tag = c.args.item.now.tag.number in
    let e : tree c.args.item.now ≡ structure tag (trees c.deref.result.now)
    = ap (value_tree tag) c.in-Structure.is ∙ tree_of_structure tag c.in-Structure.children ∙ ap (λ (is : List Item). structure tag (trees is)) (sym c.deref.ensures.value) in
    c.put_structure.ensures.items ∙ ap (λ (tr : Tree). c.args.out.now.items ++ spelling tr) (sym e)

pub put_structure-loop-child-preserved : goal.put_structure-loop-child-preserved
put_structure-loop-child-preserved t c =
    let i = c.loop-child.child-index in
    let is = c.args.children.now in
    let x = c.child-item.result in
    let rest = trees (drop (i + 1) is) in
    let e : trees (drop i is) ≡ more (tree x) rest = ap trees (drop_next is i x c.loop-child-test.true c.child-item.is) in
    let inv = c.loop-child.invariant in
    let legal = subst (AllLegal c.args.left) e inv.legal in
    record {
      written = ap (λ (xs : List ℕ). xs ++ spellings rest) c.put_item.ensures.items ∙ append_assoc c.loop-child.out.items (spelling (tree x)) (spellings rest) ∙ ap (λ (ts : Trees). c.loop-child.out.items ++ spellings ts) (sym e) ∙ inv.written;
      len = omega (arith, c.put_item.ensures.len, inv.len, ap sizes e);
      capacity = omega (arith, c.put_item.ensures.capacity, inv.capacity);
      legal = record { levels = omega (arith, legal.levels); sound = legal.sound.1; small = omega (arith, legal.small) };
    }

pub put_item-returns-in-Structure-clause-len : goal.put_item-returns-in-Structure-clause-len
put_item-returns-in-Structure-clause-len t c =
    let tag = c.args.item.now.tag.number in
    let e : tree c.args.item.now ≡ structure tag (trees c.deref.result.now)
    = ap (value_tree tag) c.in-Structure.is ∙ tree_of_structure tag c.in-Structure.children ∙ ap (λ (is : List Item). structure tag (trees is)) (sym c.deref.ensures.value) in
    omega (arith, c.put_structure.ensures.len, ap size e)

pub put_structure-returns-clause-items : goal.put_structure-returns-clause-items
put_structure-returns-clause-items t c =
    let is = c.args.children.now in
    let value = spellings (trees is) in
    let tag = c.args.tag.number in
    let old = c.args.out.now.items in
    let done = ap (λ (xs : List Item). c.loop-child.out.items ++ spellings (trees xs)) (drop_all c.loop-child.child-index is c.loop-child-test.false) in
    let n = rw c.unwrap.ensures at c.spelled_all.ensures in
    let len : c.unwrap.result ≡ length value = omega (arith, n.1, length-spellings (trees is)) in
    let whole : framed tag 1 value ≡ header tag 1 (length value) ++ value = framed_eights tag 1 value (omega (arith, length-spellings (trees is), sizes_eights (trees is))) in
    sym (append-nil c.loop-child.out.items) ∙ sym done ∙ c.loop-child.invariant.written
    ∙ ap (λ (xs : List ℕ). xs ++ value) (c.put_header.ensures.items ∙ ap (λ (k : ℕ). old ++ header tag 1 k) len)
    ∙ append_assoc old (header tag 1 (length value)) value
    ∙ ap (λ (xs : List ℕ). old ++ xs) (sym whole)
