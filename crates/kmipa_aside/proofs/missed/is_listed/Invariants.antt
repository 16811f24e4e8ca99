use Rattle.std.proofs.Common.{◌≡◌, drop, map, bytes_eq}
use Rattle.std.specs.List.{list_any}
use Rattle.kmipa_msgs.specs.Messages.{lent}
use Rattle.std.proofs.Common.{ℕ, List}
use Rattle.kmipa_aside.proofs.missed.is_listed.Given as goal

abbrev pub invariant-loop-other : goal.invariant-loop-other
invariant-loop-other l = list_any (λ (x : List ℕ). bytes_eq x l.id) (map lent l.ids) ≡ list_any (λ (x : List ℕ). bytes_eq x l.id) (drop l.other-index (map lent l.ids))
