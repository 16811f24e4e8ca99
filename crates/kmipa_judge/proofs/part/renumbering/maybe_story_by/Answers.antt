use Rattle.std.proofs.Common.{Option, Some, refl, subst, sym}
use Rattle.kmipa_explain.specs.declared.explanation.Story.{Story}
use Rattle.kmipa_judge.specs.Parts.{turn_by}
use Rattle.kmipa_judge.specs.Renumbered.{MayBeStoryBy}
use Rattle.kmipa_judge.proofs.part.renumbering.maybe_story_by.Goals as goal

pub returns-in-Some : goal.returns-in-Some
returns-in-Some c =
    let P : Option Story → Type 0 = λ s. MayBeStoryBy (turn_by c.args.numbering.places.now c.args.numbering.count) s (Some c.story_by.result) in
    subst P (sym c.in-Some.is) (c.story_by.result, refl, c.story_by.ensures)
