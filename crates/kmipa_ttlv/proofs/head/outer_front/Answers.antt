use Rattle.std.proofs.Common.{arith}
use Rattle.std.proofs.lemmas.Result.{err_from_is_err_and}
use Rattle.kmipa_ttlv.proofs.HeadLemmas.{head_fails_shared, head_too_long, head_passes_all}
use Rattle.kmipa_ttlv.proofs.head.outer_front.Goals as goal

pub returns-in_err-head : goal.returns-in_err-head
returns-in_err-head c =
    let p = err_from_is_err_and c.from_residual.result c.from_residual.ensures.1 in
    let f = c.in_err-head.field-0.0 in
    rw (p.1, p.2) (head_fails_shared c.args.bytes.now f.offset f.kind c.in_err-head.ensures.0, c.in_err-head.ensures.1)

pub returns-then-extent-gt-LIMIT : goal.returns-then-extent-gt-LIMIT
returns-then-extent-gt-LIMIT c =
    let is = c.in_ok-head.ensures.1 in
    rw c.fault.ensures (head_too_long c.args.bytes.now c.in_ok-head.ensures.0 (omega (arith, is.len)), ((λ e. absurd cc), (λ e. absurd cc)))

pub returns : goal.returns
returns c =
    let is = c.in_ok-head.ensures.1 in
    (head_passes_all c.args.bytes.now c.in_ok-head.ensures.0 (omega (arith, is.len)), is, omega (arith, is.len))
