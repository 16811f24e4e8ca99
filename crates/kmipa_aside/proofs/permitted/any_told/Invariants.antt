use Rattle.std.proofs.Common.{◌≡◌, ◌&&◌, drop, map, ℕ, List}
use Rattle.std.specs.List.{list_any}
use Rattle.kmipa_msgs.specs.Messages.{lent}
use Rattle.kmipa_ops.specs.Locate.{is_listed}
use Rattle.kmipa_aside.specs.Becoming.{stand_in}
use Rattle.kmipa_aside.specs.Sights.{sight_of}
use Rattle.kmipa_aside.specs.Standing.{is_judged}
use Rattle.kmipa_aside.proofs.permitted.any_told.Given as goal

abbrev pub invariant-loop-id : goal.invariant-loop-id
invariant-loop-id g l =
    list_any (λ (id : List ℕ). is_listed (sight_of l.sight).hidden id && is_judged (stand_in (g.L.Ledger.state l.ledger).now) id) (map lent l.ids)
    ≡ list_any (λ (id : List ℕ). is_listed (sight_of l.sight).hidden id && is_judged (stand_in (g.L.Ledger.state l.ledger).now) id) (drop l.id-index (map lent l.ids))
