use Rattle.std.proofs.Common.{◌-◌, length, map}
use Rattle.kmipa_record.specs.Witnesses.{TurnOf, turn_of}
use Rattle.kmipa_judge.specs.Parts.{keeps}
use Rattle.kmipa_judge.proofs.PartLemmas.{AreKept}
use Rattle.kmipa_judge.proofs.part.recording.keep_turns.Given as goal

abbrev pub invariant-turns : goal.invariant-turns
invariant-turns l = AreKept turn_of (λ (t : TurnOf). keeps l.kept.places.now l.kept.turns.now t.call) (map turn_of l.fn.taken.items) l.turns l.place (map turn_of l.taken.items)

abbrev pub decreases-turns : goal.decreases-turns
decreases-turns l = length l.turns - l.place
