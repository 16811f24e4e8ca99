use Rattle.std.proofs.Common.{◌≡◌, ◌*◌, ◌++◌, take, drop}
use Rattle.hex.specs.Hex.{encode_with}
use Rattle.kmipa_runs.proofs.values.fill_digits.Given as goal

abbrev pub invariant-bytes : goal.invariant-bytes
invariant-bytes l = take (2 * l.i) l.digits ++ encode_with l.table (drop l.i l.bytes) ≡ encode_with l.table l.bytes
