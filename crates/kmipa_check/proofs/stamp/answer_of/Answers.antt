use Rattle.std.proofs.Common.{◌≡◌, Some, map, option_map, arith, rules, below_more, ap, sym, ◌∙◌}
use Rattle.std.proofs.lemmas.Int.{to_z-of_z}
use Rattle.std.proofs.lemmas.List.{length-map}
use mir.Val.{SFits, to_z, of_z}
use mir.Syntax.{w32}
use Rattle.kmipa_record.specs.Entries.{items_of}
use Rattle.kmipa_record.specs.Witnesses.{turn_of}
use Rattle.kmipa_check.proofs.PlaceLemmas.{at_within}
use Rattle.kmipa_check.proofs.StampLemmas.{answers_here, answers_at, none_given}
use Rattle.kmipa_check.proofs.stamp.answer_of.Goals as goal
use Rattle.kmipa_check.proofs.stamp.answer_of.Goals.{in-Some+else-turn-call, in_default}

pub returns-then-turn-call : goal.returns-then-turn-call
returns-then-turn-call c =
    let fits : SFits w32 c.args.call = search rules in
    let its : SFits w32 c.turn-item.result.call = search rules in
    let named : c.turn-item.result.call ≡ c.args.call =
    sym (to_z-of_z w32 c.turn-item.result.call its) ∙ ap (to_z w32) c.if-turn-call.true ∙ to_z-of_z w32 c.args.call fits in (
      c.turns.turn-index,
      answers_at c.args.turns.now c.turns.turn-index c.turn-item.result c.args.call c.deref.result.now c.turns-test.true c.turn-item.is named
          (ap (option_map items_of) c.in-Some.is ∙ ap Some (sym c.deref.ensures.value)),
    )

pub turns-preserved : goal.turns-preserved
turns-preserved c =
    let fits : SFits w32 c.args.call = search rules in
    let same = to_z-of_z w32 c.args.call fits in
    below_more _ _ c.turns.invariant (λ bytes at.
    let a = answers_here c.args.turns.now c.turns.turn-index c.turn-item.result _ bytes c.turns-test.true c.turn-item.is at in
    elim c.match-turn.branch [
      | in-Some+else-turn-call w ↦ w.if-turn-call.false (ap (of_z w32) (a.0 ∙ same))
      | in_default w ↦ none_given items_of c.turn-item.result.answer bytes w.in_default.is a.1
    ])

pub returns : goal.returns
returns c = λ place bytes at.
    let within = at_within (map turn_of c.args.turns.now) place at.turn at.there in
    let fits : SFits w32 c.args.call = search rules in
    let same = to_z-of_z w32 c.args.call fits in
    c.turns.invariant place (omega (arith, within, length-map c.args.turns.now turn_of, c.turns-test.false)) bytes (rw same at)
