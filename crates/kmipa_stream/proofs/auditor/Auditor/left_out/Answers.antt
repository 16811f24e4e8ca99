use Rattle.std.proofs.Common.{◌≡◌, List, Some, slice_get, length, refl, sym, ap, subst, arith, rules}
use mir.Val.{SFits}
use mir.Syntax.{w32}
use Rattle.std.proofs.lemmas.Int.{to_z-of_z}
use Rattle.std.proofs.lemmas.Option.{slice_get_read}
use Rattle.kmipa_stream.specs.declared.seen.SeenCall.{SeenCall}
use Rattle.kmipa_stream.proofs.ConcludingLemmas.{first_left_out, none_left}
use Rattle.kmipa_stream.proofs.auditor.Auditor.left_out.Goals as goal

pub returns-then-is_left_out : goal.returns-then-is_left_out
returns-then-is_left_out c = λ turns names.
    let s = c.index-calls-place.result in
    let lent = c.calls-calls.result.now in
    let at : slice_get lent c.calls.place ≡ Some s = slice_get_read lent (length lent) c.calls.place s refl c.calls-test.true c.index-calls-place.is in
    let fits : SFits w32 c.index-calls-place.result.number = search rules in
    first_left_out turns lent c.calls.place s at (c.calls.invariant turns names) c.is_left_out.result (c.is_left_out.ensures turns names) c.args.self.now.seen.calls.items _ c.calls-calls.ensures
    (sym (to_z-of_z w32 c.index-calls-place.result.number fits)) c.if-is_left_out.true

pub calls-preserved : goal.calls-preserved
calls-preserved c = λ turns names.
    let s = c.index-calls-place.result in
    let lent = c.calls-calls.result.now in
    let at : slice_get lent c.calls.place ≡ Some s = slice_get_read lent (length lent) c.calls.place s refl c.calls-test.true c.index-calls-place.is in
    none_left turns lent c.calls.place s at (c.calls.invariant turns names) c.is_left_out.result (c.is_left_out.ensures turns names) c.if-is_left_out.false

pub returns : goal.returns
returns c = λ turns names place s below at.
    let P : List SeenCall → Type 0 = λ l. slice_get l place ≡ Some s in
    c.calls.invariant turns names place s (omega (arith, below, c.calls-test.false, ap (λ (l : List SeenCall). length l) c.calls-calls.ensures)) (subst P (sym c.calls-calls.ensures) at)
