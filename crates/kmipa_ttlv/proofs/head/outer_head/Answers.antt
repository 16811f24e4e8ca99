use Rattle.std.proofs.Common.{◌≡◌, Some, arith}
use Rattle.std.proofs.lemmas.Result.{err_from_is_err_and}
use Rattle.kmipa_ttlv.specs.Flaw.{outer_flaw}
use Rattle.kmipa_ttlv.proofs.HeadLemmas.{outer_no_header, outer_fails, outer_short, outer_passes_whole}
use Rattle.kmipa_ttlv.proofs.head.outer_head.Goals as goal

pub returns-then-bytes-lt-HEADER : goal.returns-then-bytes-lt-HEADER
returns-then-bytes-lt-HEADER c = rw c.fault.ensures (outer_no_header c.args.bytes.now c.if-bytes-lt-HEADER.true)

pub returns-in_err-head : goal.returns-in_err-head
returns-in_err-head c =
    let p = err_from_is_err_and c.from_residual.result c.from_residual.ensures.1 in
    let f = c.in_err-head.field-0.0 in
    let bytes = c.args.bytes.now in
    rw (p.1, p.2) (outer_fails bytes f.offset f.kind (omega arith) c.in_err-head.ensures.0)

pub returns-then-bytes-extent : goal.returns-then-bytes-extent
returns-then-bytes-extent c =
    let is = c.in_ok-head.ensures.1 in
    rw c.fault-then-bytes-extent.ensures (outer_short c.args.bytes.now (omega arith) c.in_ok-head.ensures.0 (omega (arith, is.len)))

pub returns : goal.returns
returns c =
    let is = c.in_ok-head.ensures.1 in
    let bytes = c.args.bytes.now in (
      outer_passes_whole bytes (omega arith) c.in_ok-head.ensures.0 (omega (arith, is.len)),
      record { header = omega arith; tag = is.tag; kind = is.kind; len = is.len; allowed = is.allowed; whole = omega (arith, is.len) },
      c.in_ok-head.ensures.2,
    )
