use Rattle.std.proofs.Common.{◌≡◌, ℕ, map, subst}
use Rattle.kmipa_msgs.specs.Messages.{RulesOf, rules_of}
use Rattle.kmipa_record.specs.Declarations.{declaration_of}
use Rattle.kmipa_ops.specs.Placeholders.{placeholder_of}
use Rattle.kmipa_check.specs.Places.{MayBeTaken}
use Rattle.kmipa_check.specs.Steps.{StepOf, step_of}
use Rattle.kmipa_check.proofs.PlacesLemmas.{may_take}
use Rattle.kmipa_check.proofs.TurnLemmas.{turn_at, turn_takable}
use Rattle.kmipa_explain.specs.Replaying.{IsItemRefused, IsLedAhead, IsTakenAt}
use Rattle.kmipa_explain.proofs.StandingLemmas.{standing, stands_taken}
use Rattle.kmipa_explain.proofs.standing.standing_over.Goals as goal

pub take_ahead-requires-clause-readable : goal.take_ahead-requires-clause-readable
take_ahead-requires-clause-readable g c =
    let at = turn_at c.args.steps.now c.args.refused.turn c.index-steps-turn.result c.requires.within c.index-steps-turn.is in
    let r = c.requires.refused.1 in
    let there = r.there in
    let its : c.requires.refused.0 ≡ step_of c.index-steps-turn.result = cc in
    let P : StepOf → Type 0 = λ s. IsItemRefused (declaration_of c.args.declaration.now) (map step_of c.args.steps.now) c.args.refused.turn s c.args.refused.place c.args.refused.why in
    (turn_takable c.args.steps.now c.args.refused.turn c.index-steps-turn.result c.requires.within c.index-steps-turn.is c.requires.takable).0 (subst P its r).unrefused

pub take_ahead-requires-clause-order : goal.take_ahead-requires-clause-order
take_ahead-requires-clause-order g c =
    (turn_takable c.args.steps.now c.args.refused.turn c.index-steps-turn.result c.requires.within c.index-steps-turn.is c.requires.takable).1

pub take_ahead-requires-clause-there : goal.take_ahead-requires-clause-there
take_ahead-requires-clause-there g c =
    let at = turn_at c.args.steps.now c.args.refused.turn c.index-steps-turn.result c.requires.within c.index-steps-turn.is in
    let r = c.requires.refused.1 in
    let there = r.there in
    let its : c.requires.refused.0 ≡ step_of c.index-steps-turn.result = cc in
    let P : StepOf → Type 0 = λ s. (position : ℕ) × IsTakenAt s c.args.refused.place position in
    subst P its
    (r.led.count, stands_taken (declaration_of c.args.declaration.now) (map step_of c.args.steps.now) c.args.refused.turn c.requires.refused.0 c.args.refused.place c.args.refused.why r)

pub returns-clause-stands : goal.returns-clause-stands
returns-clause-stands g c = λ s there.
    let declared = declaration_of c.args.declaration.now in
    let order = map step_of c.args.steps.now in
    let at = turn_at c.args.steps.now c.args.refused.turn c.index-steps-turn.result c.requires.within c.index-steps-turn.is in
    let same : step_of c.index-steps-turn.result ≡ s = cc in
    let r = c.requires.refused.1 in
    let stood = r.there in
    let its : c.requires.refused.0 ≡ s = cc in
    let R : StepOf → Type 0 = λ x. IsItemRefused declared order c.args.refused.turn x c.args.refused.place c.args.refused.why in
    let m = (g.L.Ledger.state c.take_turns.new.ledger).now in
    let n = (g.L.Ledger.state c.take_ahead.new.ledger).now in
    let p = placeholder_of c.take_ahead.new.placeholder in
    let L : StepOf → Type 0 = λ x. IsLedAhead (rules_of c.args.rules.now) x c.args.refused.place m n p in
    let D : RulesOf → Type 0 = λ x. IsLedAhead x s c.args.refused.place m n p in
    let take = (turn_takable c.args.steps.now c.args.refused.turn c.index-steps-turn.result c.requires.within c.index-steps-turn.is c.requires.takable).1 in
    let M : StepOf → Type 0 = λ x. MayBeTaken x.request x.response x.places in
    standing declared order c.args.refused.turn s c.args.refused.place there (may_take s.request s.response s.places (subst M same take)) m n p
    (c.in_ok-take_turns.ensures.known declared c.requires.rules c.requires.opened) (subst D c.requires.rules (subst L same c.in_ok-take_ahead.ensures.led))
    c.args.refused.why (subst R its r) (declaration_of c.in_ok-held.held) c.in_ok-held.ensures
