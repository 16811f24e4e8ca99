use Rattle.std.proofs.Common.{refl, arith}
use Rattle.kmipa_findings.proofs.MissedLemmas.{covered_all, covered_first, covered_next, covered_past}
use Rattle.kmipa_findings.proofs.missed.missed.Goals as goal

pub places-init : goal.places-init
places-init c = λ count taken board. covered_first c.args.at.trials.now taken c.args.at.refuted.now count c.args.at.board.now board

pub places-preserved : goal.places-preserved
places-preserved c = λ count taken board.
    covered_next c.args.at.trials.now taken c.args.at.refuted.now c.places.place (c.places.invariant count taken board) (c.if-not-is_covered.ensures refl count taken board)

pub returns-clause-covered : goal.returns-clause-covered
returns-clause-covered c = λ count taken board none. covered_all c.args.at.trials.now taken c.args.at.refuted.now c.places.place (omega (arith, c.places-test.false)) (c.places.invariant count taken board)

pub returns-then-is_past-clause-covered : goal.returns-then-is_past-clause-covered
returns-then-is_past-clause-covered c = λ count taken board none.
    covered_past c.args.at.trials.now taken c.args.at.refuted.now c.places.place (c.requires.rising (c.is_past.ensures.rising c.if-is_past.true)) (c.is_past.ensures.behind c.if-is_past.true count taken board)
    (c.places.invariant count taken board)
