use Rattle.kmipa_ttlv.specs.ViewTree.{view_trees}
use Rattle.kmipa_attrs.specs.Fields.{at, as_text}
use Rattle.kmipa_attrs.specs.Tags.{unique_identifier}
use Rattle.kmipa_msgs.specs.declared.kind.OutsideKind.TheVariants.{IdentifierForm}
use Rattle.kmipa_msgs.specs.Messages.{lent}
use Rattle.kmipa_msgs.proofs.ViewLemmas.{optional_seen}
use Rattle.kmipa_msgs.proofs.reading.identifier.read_identifier.Goals as goal

pub returns : goal.returns
returns c = optional_seen lent c.text_at.result (at as_text unique_identifier (view_trees c.args.payload)) IdentifierForm c.optional.result c.optional.ensures c.text_at.ensures
