use Rattle.std.proofs.Common.{◌≡◌, flat_map, string_bytes}
use Rattle.kmipa_json.specs.Escapes.{told_char}
use Rattle.kmipa_json.proofs.escapes.with_escapes.Given as goal

abbrev pub invariant-loop-c : goal.invariant-loop-c
invariant-loop-c l = string_bytes l.told ≡ flat_map told_char l.yielded
