use Rattle.std.proofs.Common.{string_bytes}
use Rattle.std.proofs.lemmas.Result.{IfOk-weaker}
use Rattle.kmipa_telling.proofs.StoryLemmas.{newest_told}
use Rattle.kmipa_telling.proofs.stories.newest_text.Goals as goal

pub returns : goal.returns
returns c =
    IfOk-weaker c.format.result _ _ (λ text e. newest_told c.args.events.now c.saturating_sub.result (string_bytes c.in_ok-untold.untold) (string_bytes c.in_ok-told.told)
    (string_bytes text) c.saturating_sub.ensures c.in_ok-untold.ensures c.in_ok-told.ensures e) c.format.ensures.ok
