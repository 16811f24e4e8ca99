use Rattle.std.proofs.Common.{◌≡◌, ◌<◌, ◌∙◌, ℕ, length, rules, subst, vec_len}
use Rattle.kmipa_judge.specs.Parts.{turn_by}
use Rattle.kmipa_judge.specs.Renumbered.{event_by}
use Rattle.kmipa_judge.proofs.NumberingLemmas.{renumbered_more}
use Rattle.kmipa_judge.proofs.part.renumbering.renumber_events.Goals as goal

pub events-preserved : goal.events-preserved
events-preserved c =
    let long : vec_len c.events.events ≡ length c.events.events.items = search rules in
    let less : c.events.place < length c.events.events.items = subst (λ (n : ℕ). c.events.place < n) (c.len.ensures ∙ long) c.events-test.true in
    renumbered_more (event_by (turn_by c.args.numbering.places.now c.args.numbering.count)) c.args.events.now.items c.events.events.items c.events.place c.index.result.now c.event_by.result
    less c.events.invariant c.index.ensures c.event_by.ensures
