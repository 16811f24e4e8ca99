use Rattle.std.proofs.Common.{rules, ◌≡◌, ◌<◌, ◌+◌, ◌-◌, ℕ, length, map, option_map, subst, arith}
use Rattle.std.proofs.lemmas.List.{length-map}
use Rattle.std.proofs.lemmas.Option.{slice_get_within}
use Rattle.kmipa_record.specs.Declarations.{declaration_of}
use Rattle.kmipa_ops.specs.Placeholders.{placeholder_of}
use Rattle.kmipa_check.specs.Steps.{StepOf, step_of}
use Rattle.kmipa_check.proofs.PlaceLemmas.{mapped_at}
use Rattle.kmipa_explain.specs.Holding.{TellsItem}
use Rattle.kmipa_explain.specs.Reading.{seen_subject}
use Rattle.kmipa_explain.specs.Standing.{TellsOfHeld}
use Rattle.kmipa_explain.specs.Whence.{IsSubject}
use Rattle.kmipa_explain.specs.Replaying.{IsItemRefused, IsStanding}
use Rattle.kmipa_explain.proofs.HoldingLemmas.{reasoned}
use Rattle.kmipa_explain.proofs.holding.held_cause.Goals as goal

pub standing_at-requires-clause-refused : goal.standing_at-requires-clause-refused
standing_at-requires-clause-refused c =
    let r = c.requires.refused.1 in
    let P : ℕ → Type 0 = λ n. IsItemRefused (declaration_of c.args.declaration.now) (map step_of c.args.steps.now) c.args.turn c.requires.refused.0 n c.args.why in
    let e : r.0 ≡ c.args.item - 1 = omega (arith, r.1) in
    (c.requires.refused.0, subst P e r.2)

pub bounds-steps-turn : goal.bounds-steps-turn
bounds-steps-turn c =
    let r = c.requires.refused.1.2 in
    omega (arith, slice_get_within (map step_of c.args.steps.now) c.args.turn c.requires.refused.0 r.there, length-map c.args.steps.now step_of)

pub offset_bounds-steps-turn : goal.offset_bounds-steps-turn
offset_bounds-steps-turn c =
    let r = c.requires.refused.1.2 in
    let within : c.args.turn < length c.args.steps.now = omega (arith, slice_get_within (map step_of c.args.steps.now) c.args.turn c.requires.refused.0 r.there, length-map c.args.steps.now step_of) in
    search rules

pub cause_in-requires : goal.cause_in-requires
cause_in-requires c =
    let order = map step_of c.args.steps.now in
    let declared = declaration_of c.args.declaration.now in
    let r = c.requires.refused.1 in
    let within : c.args.turn < length c.args.steps.now = omega (arith, slice_get_within order c.args.turn c.requires.refused.0 r.2.there, length-map c.args.steps.now step_of) in
    let at = mapped_at step_of c.args.steps.now c.args.turn c.index-steps-turn.result within c.index-steps-turn.is in
    let s = step_of c.index-steps-turn.result in
    let held = declaration_of c.in_ok-standing.standing.held in
    let placeholder = placeholder_of c.in_ok-standing.standing.placeholder in
    let P : ℕ → Type 0 = λ n. IsStanding declared order c.args.turn s n c.args.why held placeholder in
    let e : c.args.item - 1 + 1 ≡ c.args.item = omega (arith, r.1) in
    reasoned declared order c.args.turn s c.args.item c.args.why held placeholder c.reasons_are_decided.ensures (subst P e (c.in_ok-standing.ensures.stands s at))

pub subject_in-requires : goal.subject_in-requires
subject_in-requires c =
    let order = map step_of c.args.steps.now in
    let declared = declaration_of c.args.declaration.now in
    let r = c.requires.refused.1 in
    let within : c.args.turn < length c.args.steps.now = omega (arith, slice_get_within order c.args.turn c.requires.refused.0 r.2.there, length-map c.args.steps.now step_of) in
    let at = mapped_at step_of c.args.steps.now c.args.turn c.index-steps-turn.result within c.index-steps-turn.is in
    let s = step_of c.index-steps-turn.result in
    let held = declaration_of c.in_ok-standing.standing.held in
    let placeholder = placeholder_of c.in_ok-standing.standing.placeholder in
    let P : ℕ → Type 0 = λ n. IsStanding declared order c.args.turn s n c.args.why held placeholder in
    let e : c.args.item - 1 + 1 ≡ c.args.item = omega (arith, r.1) in
    let its = reasoned declared order c.args.turn s c.args.item c.args.why held placeholder c.reasons_are_decided.ensures (subst P e (c.in_ok-standing.ensures.stands s at)) in
    (its.ask, its.answer, its.there)

pub returns-clause-tells : goal.returns-clause-tells
returns-clause-tells c = λ s there.
    let order = map step_of c.args.steps.now in
    let declared = declaration_of c.args.declaration.now in
    let r = c.requires.refused.1 in
    let within : c.args.turn < length c.args.steps.now = omega (arith, slice_get_within order c.args.turn c.requires.refused.0 r.2.there, length-map c.args.steps.now step_of) in
    let at = mapped_at step_of c.args.steps.now c.args.turn c.index-steps-turn.result within c.index-steps-turn.is in
    let x = step_of c.index-steps-turn.result in
    let same : x ≡ s = cc in
    let held = declaration_of c.in_ok-standing.standing.held in
    let placeholder = placeholder_of c.in_ok-standing.standing.placeholder in
    let P : ℕ → Type 0 = λ n. IsStanding declared order c.args.turn x n c.args.why held placeholder in
    let e : c.args.item - 1 + 1 ≡ c.args.item = omega (arith, r.1) in
    let stands = subst P e (c.in_ok-standing.ensures.stands x at) in
    let T : StepOf → Type 0 = λ y. TellsOfHeld declared order c.args.turn y c.args.item (TellsItem c.args.why y.response.stamp c.in_ok-cause.cause) in
    subst T same (record {
      held = held;
      placeholder = placeholder;
      is = stands.held_at;
      ask = stands.over.ask;
      answer = stands.over.answer;
      there = stands.over.there;
      tells = c.in_ok-cause.ensures stands.over.ask stands.over.answer stands.over.there;
    })

pub returns-clause-subject : goal.returns-clause-subject
returns-clause-subject c = λ s there.
    let order = map step_of c.args.steps.now in
    let declared = declaration_of c.args.declaration.now in
    let r = c.requires.refused.1 in
    let within : c.args.turn < length c.args.steps.now = omega (arith, slice_get_within order c.args.turn c.requires.refused.0 r.2.there, length-map c.args.steps.now step_of) in
    let at = mapped_at step_of c.args.steps.now c.args.turn c.index-steps-turn.result within c.index-steps-turn.is in
    let x = step_of c.index-steps-turn.result in
    let same : x ≡ s = cc in
    let held = declaration_of c.in_ok-standing.standing.held in
    let placeholder = placeholder_of c.in_ok-standing.standing.placeholder in
    let P : ℕ → Type 0 = λ n. IsStanding declared order c.args.turn x n c.args.why held placeholder in
    let e : c.args.item - 1 + 1 ≡ c.args.item = omega (arith, r.1) in
    let stands = subst P e (c.in_ok-standing.ensures.stands x at) in
    let T : StepOf → Type 0 = λ y. TellsOfHeld declared order c.args.turn y c.args.item (IsSubject y.response.stamp c.in_ok-cause.cause (option_map seen_subject c.in_ok-subject.subject)) in
    subst T same (record {
      held = held;
      placeholder = placeholder;
      is = stands.held_at;
      ask = stands.over.ask;
      answer = stands.over.answer;
      there = stands.over.there;
      tells = c.in_ok-subject.ensures stands.over.ask stands.over.answer stands.over.there;
    })
