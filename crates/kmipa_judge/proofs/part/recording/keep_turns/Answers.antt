use Rattle.std.proofs.Common.{map, arith}
use Rattle.kmipa_record.specs.Witnesses.{TurnOf, turn_of}
use Rattle.kmipa_judge.specs.Parts.{keeps}
use Rattle.kmipa_judge.proofs.PartLemmas.{kept_all, kept_on}
use Rattle.kmipa_judge.proofs.part.recording.keep_turns.Goals as goal

pub turns-preserved : goal.turns-preserved
turns-preserved c =
    kept_on turn_of (λ (t : TurnOf). keeps c.args.kept.places.now c.args.kept.turns.now t.call) (map turn_of c.args.taken.now.items) c.args.turns.now c.turns.place c.index-turns-place.result
    (map turn_of c.turns.taken.items) (map turn_of c.keep_turn.new.taken.items) c.turns-test.true c.index-turns-place.is c.in_ok-keep_turn.ensures c.turns.invariant

pub returns : goal.returns
returns c =
    kept_all turn_of (λ (t : TurnOf). keeps c.args.kept.places.now c.args.kept.turns.now t.call) (map turn_of c.args.taken.now.items) c.args.turns.now c.turns.place (map turn_of c.turns.taken.items)
    (omega (arith, c.turns-test.false)) c.turns.invariant
