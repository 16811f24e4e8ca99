use Rattle.std.proofs.Common.{◌≡◌, Some, arith}
use Rattle.std.proofs.lemmas.Result.{err_from_is_err_and}
use Rattle.kmipa_ttlv.specs.Flaw.{child_flaw}
use Rattle.kmipa_ttlv.proofs.HeadLemmas.{child_fails}
use Rattle.kmipa_ttlv.proofs.head.child_head.Goals as goal

pub returns-in_err-head : goal.returns-in_err-head
returns-in_err-head c =
    let p = err_from_is_err_and c.from_residual.result c.from_residual.ensures.1 in
    let f = c.in_err-head.field-0.0 in
    let place = c.args.place in
    let bytes = c.args.bytes.now in
    rw (p.1, p.2) (child_fails place bytes f.offset f.kind (omega arith) c.in_err-head.ensures.0)
