use Rattle.std.proofs.Common.{◌-◌, map, take}
use Rattle.kmipa_explain.specs.Reading.{seen_item}
use Rattle.kmipa_explain.specs.Stories.{event_of, happens_to}
use Rattle.kmipa_explain.proofs.KeptLemmas.{KeptUpTo}
use Rattle.kmipa_explain.proofs.story.events_ahead.Given as goal

abbrev pub invariant-items : goal.invariant-items
invariant-items l = KeptUpTo (happens_to l.id) event_of (take l.at (map seen_item l.items)) 0 l.place l.events.items

abbrev pub decreases-items : goal.decreases-items
decreases-items l = l.at - l.place
