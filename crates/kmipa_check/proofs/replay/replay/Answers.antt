use Rattle.std.proofs.Common.{Option, Ok, map, subst, arith}
use Rattle.std.proofs.lemmas.List.{length-map}
use Rattle.kmipa_check.specs.Steps.{step_of}
use Rattle.kmipa_check.specs.Replays.{TurnTold}
use Rattle.kmipa_check.specs.declared.verdict.Refused.{Refused}
use Rattle.kmipa_check.proofs.ReplayLemmas.{replayed_all, told_fault}
use Rattle.kmipa_check.proofs.replay.replay.Goals as goal

pub returns-in-Err-clause-told : goal.returns-in-Err-clause-told
returns-in-Err-clause-told g c = λ declared is r.
    told_fault declared (map step_of c.args.steps.now) c.turns.turn (g.L.Ledger.state c.take_turn.new.ledger).now c.in-Err.fault
    (c.in-Err.ensures.taken declared is (c.turns.invariant.replayed declared is r))

pub returns-in-Ok-Some-clause-told : goal.returns-in-Ok-Some-clause-told
returns-in-Ok-Some-clause-told g c = λ declared is r.
    let P : Option Refused → Type 0 = λ o. TurnTold declared (map step_of c.args.steps.now) c.turns.turn (Ok o) (g.L.Ledger.state c.take_turn.new.ledger).now in
    subst P c.in-Ok-Some.field-0-is (c.in-Ok-Some.ensures.taken declared is (c.turns.invariant.replayed declared is r))

pub turns-preserved : goal.turns-preserved
turns-preserved g c = record {
  replayed = λ declared is r.
      let P : Option Refused → Type 0 = λ o. TurnTold declared (map step_of c.args.steps.now) c.turns.turn (Ok o) (g.L.Ledger.state c.take_turn.new.ledger).now in
      subst P c.in-Ok-None.field-0-is (c.in-Ok-None.ensures.taken declared is (c.turns.invariant.replayed declared is r));
  sound = c.in-Ok-None.ensures.sound;
}

pub returns-clause-told : goal.returns-clause-told
returns-clause-told g c = λ declared is r.
    let order = map step_of c.args.steps.now in (
      (g.L.Ledger.state c.turns.ledger).now,
      replayed_all declared order c.turns.turn (g.L.Ledger.state c.turns.ledger).now
          (omega (arith, c.turns-test.false, length-map c.args.steps.now step_of))
          (c.turns.invariant.replayed declared is r),
    )

pub returns-clause-leaves : goal.returns-clause-leaves
returns-clause-leaves g c = λ declared is r yes.
    replayed_all declared (map step_of c.args.steps.now) c.turns.turn (g.L.Ledger.state c.turns.ledger).now
    (omega (arith, c.turns-test.false, length-map c.args.steps.now step_of)) (c.turns.invariant.replayed declared is r)
