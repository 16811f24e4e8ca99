use Rattle.std.proofs.Common.{◌≡◌, ◌∙◌, ap, sym, length, map, arith}
use Rattle.std.proofs.lemmas.List.{length-map}
use Rattle.kmipa_msgs.specs.Messages.{rules_of}
use Rattle.kmipa_aside.specs.Becoming.{stand_in}
use Rattle.kmipa_aside.specs.Sights.{owned_of}
use Rattle.kmipa_check.proofs.PlaceLemmas.{contains_at, mapped_at}
use Rattle.kmipa_turns.specs.Steps.{step_of}
use Rattle.kmipa_trail.specs.Owners.{owners_behind, step_seen, steps_seen}
use Rattle.kmipa_trail.proofs.OwnersLemmas.{length_seen, seen_here, seen_past}
use Rattle.kmipa_unjudged.specs.Asides.{told_each}
use Rattle.kmipa_unjudged.specs.Naming.{named_in}
use Rattle.kmipa_unjudged.specs.Told.{named_of}
use Rattle.kmipa_unjudged.proofs.FollowLemmas.{named_seen, told_all, told_more}
use Rattle.kmipa_unjudged.proofs.following.follow.Goals as goal

pub take_step-requires-clause-takable : goal.take_step-requires-clause-takable
take_step-requires-clause-takable g c =
    let order = map step_of c.args.steps.now in
    let step = step_of c.index-steps-turn.result in
    let at = mapped_at step_of c.args.steps.now c.turns.turn c.index-steps-turn.result c.turns-test.true c.index-steps-turn.is in
    c.requires.takable step (contains_at order c.turns.turn step at)

pub turns-preserved : goal.turns-preserved
turns-preserved g c =
    let v = c.args.rules.now.visibility in
    let start = map owned_of c.args.owners.items in
    let order = map step_of c.args.steps.now in
    let step = step_of c.index-steps-turn.result in
    let at = mapped_at step_of c.args.steps.now c.turns.turn c.index-steps-turn.result c.turns-test.true c.index-steps-turn.is in
    let before = map owned_of c.turns.owners.items in
    record {
      told = λ declared is known.
          let s = g.L.Ledger.state c.turns.ledger in
          let u = g.L.Ledger.state c.take_step.new.ledger in
          let owners = map owned_of c.as_slice.result.now in
          let behind : owners ≡ owners_behind v before step = ap (map owned_of) c.as_slice.ensures.value ∙ c.in_ok-own_births.ensures in
          let here = seen_here v start order c.turns.turn step at before owners c.turns.invariant.left behind in
          let told = map named_of c.turns.told.list.items in
          let named : map named_of c.deref.result.now ≡ named_in (step_seen owners step) = ap (map named_of) c.deref.ensures.value ∙ c.in_ok-named.ensures ∙ sym (named_seen owners step) in
          told_more declared (steps_seen v start order) c.turns.turn (step_seen owners step) s u told (map named_of c.tell_each.new.told.list.items) (rules_of c.args.rules.now) is here
          (c.turns.invariant.told declared is known) c.in_ok-take_step.ensures (c.in_ok-tell_each.ensures.told ∙ ap (told_each (stand_in u.now) told) named);
      left = seen_past v start order c.turns.turn step at before (map owned_of c.own_births.new.owners.items) c.turns.invariant.left c.in_ok-own_births.ensures;
      sound = c.in_ok-take_step.ensures.sound;
      ids = c.in_ok-tell_each.ensures.ids;
    }

pub returns : goal.returns
returns g c = λ declared is known.
    let v = c.args.rules.now.visibility in
    let start = map owned_of c.args.owners.items in
    let order = map step_of c.args.steps.now in
    told_all declared (steps_seen v start order) c.turns.turn (g.L.Ledger.state c.turns.ledger).now (map named_of c.turns.told.list.items)
    (omega (arith, c.turns-test.false, length-map c.args.steps.now step_of, length_seen v start order)) c.turns.invariant.sound (c.turns.invariant.told declared is known)
