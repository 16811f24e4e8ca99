use Rattle.std.proofs.Common.{◌≡◌, ◌+◌, ◌-◌, length, drop}
use Rattle.std.specs.List.{prefix_len}
use Rattle.kmipa_trail.specs.Owners.{is_of_identity}
use Rattle.kmipa_trail.proofs.owners.identity.Given as goal

-- all up to here is of the identity
abbrev pub invariant-bytes : goal.invariant-bytes
invariant-bytes l = prefix_len is_of_identity l.bytes ≡ l.length + prefix_len is_of_identity (drop l.length l.bytes)

abbrev pub decreases-bytes : goal.decreases-bytes
decreases-bytes l = length l.bytes - l.length
