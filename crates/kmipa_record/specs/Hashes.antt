-- Not promised. Hashes of identifiers.
use Rattle.std.specs.Prelude.{ℕ, List}
use Rattle.std.specs.Hash.DefaultHasher as sip

abbrev pub identifier_hash : List ℕ → ℕ
identifier_hash id = sip.finish (sip.write sip.initial id)
