use Rattle.std.proofs.Common.{◌≡◌, ◌∙◌, ◌+◌, ℤ, List, Option, Some, None, Result, Ok, Err, map, refl, sym, ap, subst, arith}
use Rattle.std.proofs.lemmas.List.{length-map}
use Rattle.kmipa_msgs.specs.Messages.{rules_of}
use Rattle.kmipa_aside.specs.Sights.{hidden_from, owned_of}
use Rattle.kmipa_aside.specs.declared.owned.Owned.{Owned}
use Rattle.kmipa_bundle.specs.Counts.{counts_of}
use Rattle.kmipa_check.specs.Late.{is_at}
use Rattle.kmipa_check.proofs.PlaceLemmas.{contains_at, mapped_at}
use Rattle.kmipa_turns.specs.Steps.{moment_of, step_of}
use Rattle.kmipa_trail.specs.Back.{later}
use Rattle.kmipa_trail.specs.Owners.{identity, owners_behind, step_seen, steps_seen}
use Rattle.kmipa_trail.specs.Replays.{Replayed, StepTaken, TellsRun}
use Rattle.kmipa_trail.specs.Tallies.{TallyOf, tally_plus}
use Rattle.kmipa_trail.specs.Told.{tally_of}
use Rattle.kmipa_trail.specs.declared.fault.Fault.{Fault}
use Rattle.kmipa_trail.specs.declared.verdict.Verdict.{Verdict}
use Rattle.kmipa_trail.proofs.OwnersLemmas.{late_seen, length_seen, moment_seen, seen_here, seen_past}
use Rattle.kmipa_trail.proofs.ReplayLemmas.{told_by, replayed_misplaced, replayed_refused, replayed_more, replayed_all}
use Rattle.kmipa_trail.proofs.replaying.replay.Goals as goal

pub returns-in-Some : goal.returns-in-Some
returns-in-Some g c = λ declared is known.
    let v = c.args.rules.now.visibility in
    let steps = map step_of c.args.steps.now in
    let start = map owned_of c.args.owners.items in
    let owners = map owned_of c.turns.owners.items in
    let order = steps_seen v start steps in
    let own = step_of c.index-steps-turn.result in
    let behind = owners_behind v owners own in
    let step = step_seen behind own in
    let there = mapped_at step_of c.args.steps.now c.turns.turn c.index-steps-turn.result c.turns-test.true c.index-steps-turn.is in
    let at = seen_here v start steps c.turns.turn own there owners behind c.turns.invariant.left refl in
    let moment : c.moment_of-moment.result ≡ moment_of step = c.moment_of-moment.ensures ∙ sym (moment_seen (hidden_from (identity own.client) behind) own.taken) in
    let found = told_by c.is_at.result (is_at c.first_late-late.result c.turns.turn) c.turns.last c.moment_of-moment.result (moment_of step) c.misplaced.result (Some c.in-Some.why)
    c.is_at.ensures moment c.misplaced.ensures c.in-Some.is in
    let P : Verdict → Type 0 = λ w. TellsRun declared order (Ok w) in
    subst P (sym c.refused_turn.ensures)
    (replayed_misplaced declared order c.turns.turn (g.L.Ledger.state c.turns.ledger).now c.turns.last (tally_of c.turns.tally) (c.turns.invariant.replayed declared is known) step at
    c.first_late-late.result (late_seen v start steps c.first_late-late.result c.first_late-late.ensures) c.in-Some.why found)

pub take_step-requires-clause-takable : goal.take_step-requires-clause-takable
take_step-requires-clause-takable g c =
    let steps = map step_of c.args.steps.now in
    let own = step_of c.index-steps-turn.result in
    let there = mapped_at step_of c.args.steps.now c.turns.turn c.index-steps-turn.result c.turns-test.true c.index-steps-turn.is in
    c.requires.takable own (contains_at steps c.turns.turn own there)

pub returns-in-Err : goal.returns-in-Err
returns-in-Err g c = λ declared is known.
    let v = c.args.rules.now.visibility in
    let steps = map step_of c.args.steps.now in
    let start = map owned_of c.args.owners.items in
    let owners = map owned_of c.turns.owners.items in
    let order = steps_seen v start steps in
    let own = step_of c.index-steps-turn.result in
    let behind = map owned_of c.own_births.new.owners.items in
    let step = step_seen behind own in
    let there = mapped_at step_of c.args.steps.now c.turns.turn c.index-steps-turn.result c.turns-test.true c.index-steps-turn.is in
    let at = seen_here v start steps c.turns.turn own there owners behind c.turns.invariant.left c.in_ok-own_births.ensures in
    let moment : c.moment_of-moment.result ≡ moment_of step = c.moment_of-moment.ensures ∙ sym (moment_seen (hidden_from (identity own.client) behind) own.taken) in
    let none = told_by c.is_at.result (is_at c.first_late-late.result c.turns.turn) c.turns.last c.moment_of-moment.result (moment_of step) c.misplaced.result None
    c.is_at.ensures moment c.misplaced.ensures c.in-None.is in
    let u = g.L.Ledger.state c.take_step.new.ledger in
    let T : List Owned → Type 0 = λ os. StepTaken (rules_of c.args.rules.now) (g.L.Ledger.state c.turns.ledger) (step_seen (map owned_of os) own).taken (Err c.in-Err.refusal) u in
    let P : Result Verdict Fault → Type 0 = λ w. TellsRun declared order w in
    subst P (sym c.refused_step.ensures)
    (replayed_refused declared order c.turns.turn c.turns.last (tally_of c.turns.tally) (g.L.Ledger.state c.turns.ledger) u (c.turns.invariant.replayed declared is known) step at
    c.first_late-late.result (late_seen v start steps c.first_late-late.result c.first_late-late.ensures) none (rules_of c.args.rules.now) c.in-Err.refusal is
    (subst T c.as_slice.ensures.value c.in-Err.ensures.taken))

pub turns-preserved : goal.turns-preserved
turns-preserved g c = record {
  replayed = λ declared is known.
      let v = c.args.rules.now.visibility in
      let steps = map step_of c.args.steps.now in
      let start = map owned_of c.args.owners.items in
      let owners = map owned_of c.turns.owners.items in
      let order = steps_seen v start steps in
      let own = step_of c.index-steps-turn.result in
      let behind = map owned_of c.own_births.new.owners.items in
      let step = step_seen behind own in
      let there = mapped_at step_of c.args.steps.now c.turns.turn c.index-steps-turn.result c.turns-test.true c.index-steps-turn.is in
      let at = seen_here v start steps c.turns.turn own there owners behind c.turns.invariant.left c.in_ok-own_births.ensures in
      let moment : c.moment_of-moment.result ≡ moment_of step = c.moment_of-moment.ensures ∙ sym (moment_seen (hidden_from (identity own.client) behind) own.taken) in
      let none = told_by c.is_at.result (is_at c.first_late-late.result c.turns.turn) c.turns.last c.moment_of-moment.result (moment_of step) c.misplaced.result None
      c.is_at.ensures moment c.misplaced.ensures c.in-None.is in
      let u = g.L.Ledger.state c.take_step.new.ledger in
      let T : List Owned → Type 0 = λ os. StepTaken (rules_of c.args.rules.now) (g.L.Ledger.state c.turns.ledger) (step_seen (map owned_of os) own).taken (Ok c.in-Ok.counts) u in
      let last : c.later-last.result ≡ later c.turns.last (moment_of step) = c.later-last.ensures ∙ ap (later c.turns.last) moment in
      let K : TallyOf → Type 0 = λ k. Replayed declared order (c.turns.turn + 1) u.now c.later-last.result k in
      let L : Option ℤ → Type 0 = λ l. Replayed declared order (c.turns.turn + 1) u.now l (tally_plus (tally_of c.turns.tally) (counts_of c.in-Ok.counts) step.excepted) in
      subst K (sym c.with-tally.ensures.sum)
      (subst L (sym last)
      (replayed_more declared order c.turns.turn c.turns.last (tally_of c.turns.tally) (g.L.Ledger.state c.turns.ledger) u (c.turns.invariant.replayed declared is known) step at
      c.first_late-late.result (late_seen v start steps c.first_late-late.result c.first_late-late.ensures) none (rules_of c.args.rules.now) c.in-Ok.counts is
      (subst T c.as_slice.ensures.value c.in-Ok.ensures.taken)));
  left =
      let there = mapped_at step_of c.args.steps.now c.turns.turn c.index-steps-turn.result c.turns-test.true c.index-steps-turn.is in
      seen_past c.args.rules.now.visibility (map owned_of c.args.owners.items) (map step_of c.args.steps.now) c.turns.turn (step_of c.index-steps-turn.result) there
      (map owned_of c.turns.owners.items) (map owned_of c.own_births.new.owners.items) c.turns.invariant.left c.in_ok-own_births.ensures;
  sound = c.in-Ok.ensures.taken.0.sound;
  within = c.with-tally.ensures.within c.turns.turn c.turns.invariant.within;
}

pub returns : goal.returns
returns g c = λ declared is known.
    let v = c.args.rules.now.visibility in
    let steps = map step_of c.args.steps.now in
    let start = map owned_of c.args.owners.items in
    replayed_all declared (steps_seen v start steps) c.turns.turn (g.L.Ledger.state c.turns.ledger).now c.turns.last (tally_of c.turns.tally)
    (omega (arith, c.turns-test.false, length-map c.args.steps.now step_of, length_seen v start steps)) (c.turns.invariant.replayed declared is known)
