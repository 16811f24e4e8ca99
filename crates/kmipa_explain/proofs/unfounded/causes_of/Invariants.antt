use Rattle.std.proofs.Common.{◌-◌, ◌==◌, length, map}
use Rattle.kmipa_msgs.specs.Messages.{RowOf, row_of}
use Rattle.kmipa_explain.proofs.KeptLemmas.{KeptUpTo}
use Rattle.kmipa_explain.proofs.unfounded.causes_of.Given as goal

abbrev pub invariant-rows : goal.invariant-rows
invariant-rows l = KeptUpTo (λ (row : RowOf). row.reason == l.reason) (λ (row : RowOf). row.cause) (map row_of l.rows) 0 l.place l.causes.items

abbrev pub decreases-rows : goal.decreases-rows
decreases-rows l = length l.rows - l.place
