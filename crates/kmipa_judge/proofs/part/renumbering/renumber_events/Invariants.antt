use Rattle.std.proofs.Common.{◌≡◌, ◌-◌, ◌++◌, drop, length, map, take}
use Rattle.kmipa_judge.specs.Parts.{turn_by}
use Rattle.kmipa_judge.specs.Renumbered.{event_by}
use Rattle.kmipa_judge.proofs.part.renumbering.renumber_events.Given as goal

abbrev pub invariant-events : goal.invariant-events
invariant-events l = l.events.items
    ≡ map (event_by (turn_by l.numbering.places.now l.numbering.count)) (take l.place l.fn.events.items) ++ drop l.place l.fn.events.items

abbrev pub decreases-events : goal.decreases-events
decreases-events l = length l.events.items - l.place
