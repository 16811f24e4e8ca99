use Rattle.std.proofs.Common.{string_bytes, rules}
use Rattle.std.proofs.lemmas.Int.{to_z-of_z}
use Rattle.std.proofs.lemmas.Result.{IfOk-weaker}
use mir.Val.{SFits}
use mir.Syntax.{w64}
use Rattle.kmipa_telling.proofs.StoryLemmas.{event_told}
use Rattle.kmipa_telling.proofs.stories.event_line.Goals as goal

pub returns : goal.returns
returns c =
    let fits : SFits w64 c.args.event.now.stamp = search rules in
    IfOk-weaker c.format.result _ _ (λ text e. event_told c.args.word.now c.args.event.now _ (string_bytes c.in_ok-place.place) (string_bytes c.in_ok-date.date)
    (string_bytes c.in_ok-name.name) c.undone_text-end.result.now (string_bytes text) (to_z-of_z w64 c.args.event.now.stamp fits) c.in_ok-place.ensures c.in_ok-date.ensures
    c.in_ok-name.ensures c.undone_text-end.ensures e) c.format.ensures.ok
