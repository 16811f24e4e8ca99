use Rattle.kmipa_ttlv.specs.ViewTree.{view_tree, view_trees}
use Rattle.kmipa_msgs.proofs.HeaderLemmas.{other_tag, no_children, opens}
use Rattle.kmipa_msgs.proofs.reading.header.message_parts.Goals as goal

pub returns-then-message-tag : goal.returns-then-message-tag
returns-then-message-tag c = other_tag c.args.tag c.args.header c.args.message.now c.if-message-tag.true

pub returns-in_default : goal.returns-in_default
returns-in_default c = no_children c.args.tag c.args.header (view_tree c.args.message.now) c.in_default.ensures

pub returns-in-There : goal.returns-in-There
returns-in-There c = opens c.args.tag c.args.header c.args.message.now (view_trees c.in-Some.children) (view_trees c.in-There.inner) c.if-message-tag.false c.in-Some.ensures c.in-There.ensures
