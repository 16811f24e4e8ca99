use Rattle.std.proofs.Common.{List, map, take, drop, suc, sym, subst}
use Rattle.std.proofs.lemmas.Result.{err_from_is_err_and}
use Rattle.kmipa_ttlv.specs.Tree.{Tree}
use Rattle.kmipa_ttlv.specs.Written.{Legal}
use Rattle.kmipa_record.specs.Writing.{Adds, AddsAll}
use Rattle.kmipa_record.proofs.TurnLemmas.{cut_here}
use Rattle.kmipa_record.proofs.WritingLemmas.{mapped_more, one_of, adds_more, refused_map}
use Rattle.kmipa_record.proofs.append.append_all.Goals as goal

pub returns-in_err-append-clause-refused : goal.returns-in_err-append-clause-refused
returns-in_err-append-clause-refused g c =
    let values = c.args.values.now in let i = c.loop-value.value-index in let value = c.value-item.result in
    let p = err_from_is_err_and c.from_residual-in_err-append.result c.from_residual-in_err-append.ensures.1 in
    rw (p.1, p.2) (refused_map c.in_err-append.field-0.0
    (λ all. subst (Legal 16) (sym c.in_ok-item.ensures) (one_of (λ v. Legal 16 (g.W.Written.item_of v)) values (take i values) (drop (suc i) values) value (cut_here values i value c.loop-value-test.true c.value-item.is) all))
    c.in_err-append.ensures.err)

pub loop-value-preserved : goal.loop-value-preserved
loop-value-preserved g c =
    let values = c.args.values.now in let i = c.loop-value.value-index in let value = c.value-item.result in
    let old = c.args.out.now.items in let mid = c.loop-value.out.items in let new = c.append.new.out.items in
    let one : Adds (g.W.Written.item_of value) mid new = subst (λ (t : Tree). Adds t mid new) c.in_ok-item.ensures c.in_ok-append.ensures.ok in
    subst (λ (l : List Tree). AddsAll l old new) (sym (mapped_more g.W.Written.item_of values i value c.loop-value-test.true c.value-item.is))
    (adds_more (map g.W.Written.item_of (take i values)) (g.W.Written.item_of value) old mid new c.loop-value.invariant one)
