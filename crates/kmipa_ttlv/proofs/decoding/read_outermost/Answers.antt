use Rattle.std.proofs.Common.{◌≡◌, ◌+◌, ℕ, sym, ap, subst, ◌∙◌, arith}
use Rattle.kmipa_ttlv.specs.Tree.{Tree}
use Rattle.kmipa_ttlv.specs.Spelling.{Stands, padded, extent}
use Rattle.kmipa_ttlv.specs.Head.{number_of_kind}
use Rattle.kmipa_ttlv.specs.ViewTree.{view_tree}
use Rattle.kmipa_ttlv.proofs.StandsLemmas.{stands_of}
use Rattle.kmipa_ttlv.proofs.SpelledLemmas.{holds_item}
use Rattle.kmipa_ttlv.proofs.decoding.read_outermost.Goals as goal

pub returns : goal.returns
returns c =
    let h = c.in_ok-head.head in
    let is = c.in_ok-head.ensures.1 in
    let held = c.in_ok-test_outermost.ensures in
    let bytes = c.args.bytes.now in
    let kind = number_of_kind h.kind in
    let value = c.value_of-value.result.now in
    let same : held.0 ≡ view_tree c.view_of.result = sym (holds_item 15 h.tag.number kind held.0 value held.1) ∙ sym c.view_of.ensures in
    let taken : c.extent.result ≡ extent bytes = c.extent.ensures ∙ ap (λ (n : ℕ). 8 + padded n) (sym is.len) in
    record {
      stands = subst (λ (t : Tree). Stands 16 t bytes) same (stands_of 16 h.tag.number kind held.0 bytes value (omega arith)
          (record { header = is.header; tag_is = is.tag; kind_is = is.kind; whole = is.whole }) c.value_of-value.ensures.value held.1);
      taken = taken;
      whole = omega (arith, taken, is.whole);
      small = omega (arith, taken, c.in_ok-head.ensures.2);
    }
