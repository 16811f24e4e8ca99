use Rattle.std.proofs.Common.{◌≡◌, take}
use Rattle.kmipa_store.specs.Secrets.{secrets_of}
use Rattle.kmipa_store.proofs.secrets.Secrets.copy.Given as goal

abbrev pub invariant-loop-secret : goal.invariant-loop-secret
invariant-loop-secret l = secrets_of l.by_number.items ≡ secrets_of (take l.secret-index l.secret-items)
