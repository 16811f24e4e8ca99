use Rattle.std.proofs.Common.{◌∙◌, ap}
use Rattle.kmipa_attrs.specs.Fields.{every}
use Rattle.kmipa_attrs.specs.Tags.{batch_item}
use Rattle.kmipa_places.proofs.UnreadLemmas.{no_items}
use Rattle.kmipa_places.proofs.unread.or_none.Goals as goal

pub returns-in-None : goal.returns-in-None
returns-in-None c = rw c.in-None.is (ap (every batch_item) c.none.ensures ∙ no_items batch_item)
