use Rattle.std.proofs.Common.{ℕ, ap, subst, sym, ◌∙◌, arith}
use Rattle.kmipa_record.specs.Witnesses.{turn_of}
use Rattle.kmipa_check.specs.Calls.{call_of}
use Rattle.kmipa_check.specs.Grants.{GrantsOf, grants_of}
use Rattle.kmipa_check.specs.Orders.{GivenFault, Refuses}
use Rattle.kmipa_check.specs.declared.fault.StepFault.{StepFault}
use Rattle.kmipa_check.specs.Steps.{IsStep, StepOf, step_of}
use Rattle.kmipa_check.proofs.PlaceLemmas.{at_within}
use Rattle.kmipa_check.proofs.PlacesLemmas.{step_taken}
use Rattle.kmipa_check.proofs.ReadableLemmas.{step_readable}
use Rattle.kmipa_stream.specs.Waiting.{Wait}
use Rattle.kmipa_stream.proofs.ReplayingLemmas.{turn_there, forms_ahead, answers_ahead, unfit_ahead}
use Rattle.kmipa_stream.proofs.replaying.Replay.take.Goals as goal

pub take_formed-requires-clause-below : goal.take_formed-requires-clause-below
take_formed-requires-clause-below c = at_within c.args.self.now.turns.now c.args.self.now.formed c.args.turn.now c.requires.next

pub take_formed-requires-clause-readable : goal.take_formed-requires-clause-readable
take_formed-requires-clause-readable c =
    step_readable (grants_of c.grants.result) c.requires.recorded.0 (call_of c.args.call.now) (turn_of c.args.turn.now) (step_of c.in-Ok.step) c.requires.recorded.1 (c.in-Ok.ensures c.requires.named)

pub take_formed-requires-clause-takable : goal.take_formed-requires-clause-takable
take_formed-requires-clause-takable c = step_taken (grants_of c.grants.result) (call_of c.args.call.now) (turn_of c.args.turn.now) (step_of c.in-Ok.step) (c.in-Ok.ensures c.requires.named)

pub refuse-requires : goal.refuse-requires
refuse-requires c = at_within c.args.self.now.turns.now c.args.self.now.formed c.args.turn.now c.requires.next

pub returns-in_ok-take_formed-in-Ok-clause-replays : goal.returns-in_ok-take_formed-in-Ok-clause-replays
returns-in_ok-take_formed-in-Ok-clause-replays c = λ closed marks turns declared r w x within first.
    let k = c.args.self.now.formed in
    let there = turn_there c.args.self.now turns c.args.turn.now r.same c.requires.next in
    let G : GrantsOf → Type 0 = λ g. IsStep g (call_of c.args.call.now) (turn_of c.args.turn.now) (step_of c.in-Ok.step) in
    let i = subst G (c.grants.ensures ∙ r.grants) (c.in-Ok.ensures c.requires.named) in
    c.in_ok-take_formed-in-Ok.ensures.replays closed marks turns declared r w (forms_ahead closed marks turns declared k (turn_of c.args.turn.now) (call_of c.args.call.now) (step_of c.in-Ok.step) there first x i)
    (omega (arith, within, ap (λ (s : StepOf). s.begin) i.is)) (answers_ahead closed marks turns declared k (turn_of c.args.turn.now) (call_of c.args.call.now) (step_of c.in-Ok.step) there x i)

pub returns-in-Err-Unfit-clause-replays : goal.returns-in-Err-Unfit-clause-replays
returns-in-Err-Unfit-clause-replays c = λ closed marks turns declared r w x within first.
    let k = c.args.self.now.formed in
    let there = turn_there c.args.self.now turns c.args.turn.now r.same c.requires.next in
    let R : StepFault → Type 0 = λ f. Refuses (grants_of c.grants.result) (call_of c.args.call.now) (turn_of c.args.turn.now) f in
    let G : GrantsOf → Type 0 = λ g. GivenFault g (call_of c.args.call.now) (turn_of c.args.turn.now) c.in-Err-Unfit.kind in
    let P : ℕ → Type 0 = λ n. Wait marks turns n c.args.ends.now in (
      c.refuse.ensures.replays closed marks turns declared r
          (unfit_ahead closed marks turns declared k (turn_of c.args.turn.now) (call_of c.args.call.now) c.in-Err-Unfit.kind there c.requires.named first x (subst G (c.grants.ensures ∙ r.grants) (subst R c.in-Err-Unfit.field-0-is (c.in-Err-Unfit.ensures c.requires.named)))),
      subst P (sym c.refuse.ensures.same) w,
    )
