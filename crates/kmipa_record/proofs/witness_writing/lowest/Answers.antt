use Rattle.std.proofs.Common.{sym, subst, take, map}
use Rattle.kmipa_record.specs.Witnesses.{turn_of}
use Rattle.kmipa_record.specs.Writing.{IsLowest}
use Rattle.kmipa_record.proofs.WritingLemmas.{mapped_more}
use Rattle.kmipa_record.proofs.WrittenWitnessLemmas.{lowest_more}
use Rattle.kmipa_record.proofs.witness_writing.lowest.Goals as goal

pub loop-turn-preserved : goal.loop-turn-preserved
loop-turn-preserved c =
    let turns = c.args.turns.now in let i = c.loop-turn.turn-index in let turn = c.turn-item.result in
    subst (IsLowest c.newer-version.result) (sym (mapped_more turn_of turns i turn c.loop-turn-test.true c.turn-item.is))
    (lowest_more (map turn_of (take i turns)) (turn_of turn) c.loop-turn.version c.needed.result c.newer-version.result c.loop-turn.invariant c.needed.ensures.serves c.needed.ensures.least c.newer-version.ensures)
