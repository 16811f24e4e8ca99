use Rattle.std.proofs.Common.{codes, take, string_bytes}
use Rattle.kmipa_telling.specs.Lists.{AreLines}
use Rattle.kmipa_telling.specs.Stories.{PrintsEvent}
use Rattle.kmipa_telling.proofs.stories.events_text.Given as goal

-- what is written tells the items up to here
abbrev pub invariant-events : goal.invariant-events
invariant-events l = AreLines (PrintsEvent (codes "before")) (take l.event-index l.events) (string_bytes l.text)
