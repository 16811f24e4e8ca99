use Rattle.std.proofs.lemmas.Result.{err_from_is_err_and}
use Rattle.kmipa_ttlv.proofs.ReadLemmas.{reported_flaw}
use Rattle.kmipa_ttlv.proofs.decoding.read_copy.Goals as goal

pub returns-in_err-view : goal.returns-in_err-view
returns-in_err-view c =
    let p = err_from_is_err_and c.from_residual.result c.from_residual.ensures.1 in
    rw (p.1, p.2) (reported_flaw c.in_err-view.field-0.0 c.args.bytes.now c.in_err-view.ensures)
