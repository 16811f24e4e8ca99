use Rattle.kmipa_ttlv.specs.ViewTree.{view_tree}
use Rattle.std.proofs.Common.{sym}
use Rattle.kmipa_msgs.proofs.ReplyLemmas.{empty_is_bare, not_bare}
use Rattle.kmipa_outside.proofs.shown.is_bare.Goals as goal

pub returns-in-Some : goal.returns-in-Some
returns-in-Some c = empty_is_bare (view_tree c.args.view.now) c.in-Some.children c.next.new.self c.next.result c.is_none.result c.in-Some.ensures c.next.ensures c.is_none.ensures

pub returns-in-None : goal.returns-in-None
returns-in-None c = sym (not_bare (view_tree c.args.view.now) c.in-None.ensures)
