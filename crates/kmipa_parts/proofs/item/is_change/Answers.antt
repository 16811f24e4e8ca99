use Rattle.std.proofs.Common.{◌∙◌}
use Rattle.kmipa_msgs.specs.Messages.{asked_of}
use Rattle.kmipa_parts.proofs.SubjectLemmas.{is_change_by}
use Rattle.kmipa_parts.proofs.item.is_change.Goals as goal

pub returns : goal.returns
returns c = c.adds_or_changes.ensures ∙ is_change_by _ (asked_of c.args.asked.now) c.row_of.ensures.effect
