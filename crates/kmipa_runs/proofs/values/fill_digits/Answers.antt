use Rattle.std.proofs.Common.{ℕ, arith, slice_index, refl, ap}
use Rattle.std.proofs.lemmas.Nat.{and_mask}
use Rattle.hex.proofs.Pairs.{encode_step, encode_done}
use Rattle.kmipa_runs.proofs.values.fill_digits.Goals as goal

pub bytes-preserved : goal.bytes-preserved
bytes-preserved c =
    let byte : ℕ = slice_index c.args.bytes.now c.bytes.i in
    encode_step c.args.table.now c.args.bytes.now c.bytes.digits c.bytes.i _ _ (omega arith) (omega arith) refl (ap (λ (k : ℕ). slice_index c.args.table.now k) (and_mask byte 4)) c.bytes.invariant

pub returns : goal.returns
returns c = encode_done _ _ _ c.bytes.i (omega arith) (omega arith) c.bytes.invariant
