use Rattle.std.proofs.Common.{◌≡◌, ℕ, ◌+◌, suc, List, map, take, subst, sym, arith}
use Rattle.kmipa_check.specs.Steps.{StepOf, step_of}
use Rattle.kmipa_check.specs.Verdicts.{AreKnown}
use Rattle.kmipa_msgs.specs.Messages.{RulesOf}
use Rattle.kmipa_batch.specs.Refusals.{CallExplainsAlong}
use Rattle.kmipa_check.specs.Steps.{order_of}
use Rattle.kmipa_check.proofs.RunLemmas.{take_next, taken_is_known_lem}
use Rattle.kmipa_check.proofs.TurnLemmas.{turn_at, turn_takable}
use Rattle.kmipa_explain.proofs.standing.take_turns.Goals as goal

pub take_step-requires-clause-readable : goal.take_step-requires-clause-readable
take_step-requires-clause-readable g c =
    (turn_takable c.args.steps.now c.turns.turn c.index-steps-turn.result (omega (arith, c.turns-test.true, c.requires.within)) c.index-steps-turn.is c.requires.takable).0

pub take_step-requires-clause-order : goal.take_step-requires-clause-order
take_step-requires-clause-order g c =
    (turn_takable c.args.steps.now c.turns.turn c.index-steps-turn.result (omega (arith, c.turns-test.true, c.requires.within)) c.index-steps-turn.is c.requires.takable).1

pub turns-preserved : goal.turns-preserved
turns-preserved g c =
    let order = map step_of c.args.steps.now in
    let s = step_of c.index-steps-turn.result in
    let at = turn_at c.args.steps.now c.turns.turn c.index-steps-turn.result (omega (arith, c.turns-test.true, c.requires.within)) c.index-steps-turn.is in
    let n = (g.L.Ledger.state c.take_step.new.ledger).now in
    let m = (g.L.Ledger.state c.turns.ledger).now in
    record {
      known = λ declared is opened.
          let R : RulesOf → Type 0 = λ r. CallExplainsAlong r m s.request s.response (order_of s) n in
          let P : List StepOf → Type 0 = λ steps. AreKnown declared steps n in
          let Q : ℕ → Type 0 = λ k. AreKnown declared (take k order) n in
          let next : suc c.turns.turn ≡ c.turns.turn + 1 = omega arith in
          subst Q next (subst P (sym (take_next order c.turns.turn s at))
          (taken_is_known_lem declared (take c.turns.turn order) s m n (c.turns.invariant.known declared is opened) (subst R is c.in_ok-take_step.ensures.explains)));
      sound = c.in_ok-take_step.ensures.sound;
      within = omega (arith, c.turns-test.true);
    }
