use Rattle.std.proofs.Common.{◌∙◌}
use Rattle.kmipa_msgs.specs.Messages.{asked_of}
use Rattle.kmipa_parts.proofs.SubjectLemmas.{may_touch_by}
use Rattle.kmipa_parts.proofs.touching.item_may_touch.Goals as goal

pub returns : goal.returns
returns c = c.row_may_touch.ensures ∙ may_touch_by _ _ _ (asked_of c.args.asked.now) c.row_of.ensures.subject c.row_of.ensures.effect
