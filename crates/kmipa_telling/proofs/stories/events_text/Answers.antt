use Rattle.std.proofs.Common.{get_or, refl, ◌∙◌, ◌++◌, ap, codes, string_bytes, rules, false, pos}
use Rattle.kmipa_explain.specs.declared.explanation.Event.{Event}
use Rattle.kmipa_telling.specs.Stories.{PrintsEvent}
use Rattle.kmipa_telling.proofs.ListLemmas.{one_line_more}
use Rattle.kmipa_telling.proofs.stories.events_text.Goals as goal

pub events-preserved : goal.events-preserved
events-preserved c =
    let d : Event = record { turn = 0; call = pos 0; item = 0; stamp = pos 0; operation = 0; undone = false } in
    one_line_more (PrintsEvent (codes "before")) c.args.events.now c.events.event-index d (get_or c.args.events.now c.events.event-index d) (string_bytes c.events.text)
    (string_bytes c.in_ok-one.one) (string_bytes c.push_str.new.self) (search rules) refl
    c.events.invariant c.in_ok-one.ensures (c.in_ok-push_str.ensures.bytes ∙ ap (λ t. string_bytes c.events.text ++ t) c.as_str.ensures.value)
