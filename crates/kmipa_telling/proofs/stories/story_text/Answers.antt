use Rattle.std.proofs.Common.{string_bytes, ◌∙◌, ap, subst, List}
use Rattle.std.proofs.lemmas.Result.{IfOk-weaker}
use Rattle.kmipa_runs.specs.Shown.{quoted}
use Rattle.kmipa_telling.specs.Stories.{PrintsNewest}
use Rattle.kmipa_explain.specs.declared.explanation.Event.{Event}
use Rattle.kmipa_telling.proofs.StoryLemmas.{story_told}
use Rattle.kmipa_telling.proofs.stories.story_text.Goals as goal

pub returns : goal.returns
returns c =
    let events = string_bytes c.in_ok-events.events in
    let E : List Event → Type 0 = λ es. PrintsNewest es events in
    IfOk-weaker c.format.result _ _ (λ text e. story_told c.args.story.now (string_bytes c.in_ok-identifier.identifier) c.declared_text-declared.result.now
    events (string_bytes c.in_ok-later.later) (string_bytes text) (c.in_ok-identifier.ensures ∙ ap quoted c.as_str.ensures.value) c.declared_text-declared.ensures
    (subst E c.deref.ensures.value c.in_ok-events.ensures) c.in_ok-later.ensures e) c.format.ensures.ok
