use Rattle.std.proofs.Common.{rules, ◌≡◌, ◌≤◌, length, ◌+◌, ℕ, refl, sym, ap, subst, ◌∙◌, arith, ◌-◌, Some}
use Rattle.std.proofs.lemmas.Result.{err_from_is_err_and, MatchResult-weaker}
use Rattle.kmipa_ttlv.specs.Head.{number_of_kind}
use Rattle.kmipa_ttlv.specs.Tree.{Tree, Trees, structure, scalar, none, push}
use Rattle.kmipa_ttlv.specs.Spelled.{scalar_at}
use Rattle.kmipa_ttlv.specs.Spelling.{Holds, padded, extent, value_at, Framed, Run}
use Rattle.kmipa_ttlv.specs.Flaw.{child_flaw, ValueFlaw, FirstFlawed, Flaw, ScalarFlaw, in_scalar, in_child}
use Rattle.kmipa_ttlv.proofs.StandsLemmas.{flaw_of_head, flaw_of_value, stands_of, Run-push}
use Rattle.kmipa_ttlv.proofs.SpelledLemmas.{untested_stands}
use Rattle.kmipa_ttlv.proofs.decoding.+testing.Goals as goal
use Rattle.kmipa_ttlv.proofs.decoding.+testing.Goals.{test_child-then-is_tested+in_ok-test_value, test_child-else-is_tested}

pub test_child-returns-in_err-head : goal.test_child-returns-in_err-head
test_child-returns-in_err-head t c =
    let p = err_from_is_err_and c.from_residual.result c.from_residual.ensures.1 in
    let f = c.in_err-head.field-0.0 in
    rw (p.1, p.2) (flaw_of_head c.args.left c.args.place c.args.bytes.now f.offset f.kind c.if-left-eq0.false c.in_err-head.ensures)

pub test_child-returns-in_err-test_value : goal.test_child-returns-in_err-test_value
test_child-returns-in_err-test_value t c =
    let p = err_from_is_err_and c.from_residual-in_err-test_value.result c.from_residual-in_err-test_value.ensures.1 in
    let f = c.in_err-test_value.field-0.0 in
    let left = c.args.left in
    let place = c.args.place in
    let bytes = c.args.bytes.now in
    let value = c.value_of.result.now in
    let kind = number_of_kind c.in_ok-head.head.kind in
    rw (p.1, p.2) (flaw_of_value left place bytes kind value f.offset f.kind c.if-left-eq0.false c.in_ok-head.ensures.0 c.in_ok-head.ensures.1.kind c.value_of.ensures.value c.in_err-test_value.ensures)

pub test_child-returns : goal.test_child-returns
test_child-returns t c =
    let h = c.in_ok-head.head in
    let is = c.in_ok-head.ensures.1 in
    let bytes = c.args.bytes.now in
    let kind = number_of_kind h.kind in
    let framed : Framed h.tag.number kind bytes = record { header = is.header; tag_is = is.tag; kind_is = is.kind; whole = is.whole } in
    let taken : c.extent.result ≡ extent bytes = c.extent.ensures ∙ ap (λ (n : ℕ). 8 + padded n) (sym is.len) in
    let whole : c.extent.result ≤ length bytes = omega (arith, taken, is.whole) in
    elim c.if-is_tested.branch [
      | test_child-then-is_tested+in_ok-test_value w ↦
          let held = w.in_ok-test_value.ensures in
          (held.0, stands_of c.args.left h.tag.number kind held.0 bytes w.value_of.result.now c.if-left-eq0.false framed w.value_of.ensures.value held.1, taken, whole)
      | test_child-else-is_tested w ↦
          let not = c.is_tested.ensures w.if-is_tested.false in
          (scalar h.tag.number (scalar_at kind (value_at bytes)), untested_stands c.args.left h.kind h.tag.number h.len bytes c.if-left-eq0.false framed is.len is.allowed not.0 not.1 not.2, taken, whole)
    ]

pub test_children-loop-rest-init : goal.test_children-loop-rest-init
test_children-loop-rest-init t c = record { run = (none, refl); after = refl }

pub test_children-loop-rest-preserved : goal.test_children-loop-rest-preserved
test_children-loop-rest-preserved t c =
    let s = c.in_ok-taken.ensures in
    let run = c.loop-rest.invariant.run in
    record {
      run = (push run.0 s.0, rw (c.split_at.ensures.back, s.2) (Run-push c.args.left run.0 s.0 c.args.bytes.now c.loop-rest.rest.now run.1 s.1));
      after = omega (arith, c.split_at.ensures.back_len, c.loop-rest.invariant.after);
    }

pub test_children-returns-in_err-taken : goal.test_children-returns-in_err-taken
test_children-returns-in_err-taken t c =
    let p = err_from_is_err_and c.from_residual.result c.from_residual.ensures.1 in
    let f = c.in_err-taken.field-0.0 in
    let left = c.args.left in
    let flawed : FirstFlawed (Flaw left) left c.args.place c.args.bytes.now f.offset f.kind
    = record { before = c.loop-rest.invariant.run.0; rest = c.loop-rest.rest.now; at = c.loop-rest.at; run = c.loop-rest.invariant.run.1; some = search rules; after = c.loop-rest.invariant.after; flaw = c.in_err-taken.ensures } in
    rw (p.1, p.2) flawed

pub test_value-returns-in-Structure : goal.test_value-returns-in-Structure
test_value-returns-in-Structure t c =
    let tag = c.args.head.tag.number in
    let kind = number_of_kind c.args.head.kind in
    let one : kind ≡ 1 = ap number_of_kind c.in-Structure.is in
    MatchResult-weaker c.test_children.result c.test_children.ensures (λ x r. (structure tag r.0, (refl, one, r.1)))
    (λ f g. in_child one g)

pub test_value-returns-in_default : goal.test_value-returns-in_default
test_value-returns-in_default t c =
    let tag = c.args.head.tag.number in
    let kind = number_of_kind c.args.head.kind in
    MatchResult-weaker c.test_scalar.result c.test_scalar.ensures (λ x r. (scalar tag (scalar_at kind c.args.value.now), (refl, r.kind_is, r.means)))
    (λ f g. in_scalar g)
