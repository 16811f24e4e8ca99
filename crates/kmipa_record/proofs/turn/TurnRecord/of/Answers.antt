use Rattle.kmipa_ttlv.specs.ViewTree.{view_tree, view_trees}
use Rattle.kmipa_record.specs.Witnesses.{turn_of}
use Rattle.kmipa_record.proofs.TurnLemmas.{no_call, something_behind, turn_read}
use Rattle.kmipa_record.proofs.turn.TurnRecord.of.Goals as goal

pub returns-in_default-2 : goal.returns-in_default-2
returns-in_default-2 c = λ t. no_call (view_tree c.args.item.now) (view_trees c.in-Some.children) c.in-Some.ensures (rw c.in_default-2.is at c.in_ok-turn.ensures) t.0 t.1

pub returns-in-Some-next : goal.returns-in-Some-next
returns-in-Some-next c = λ t. something_behind (view_tree c.args.item.now) (view_trees c.in-Some.children) (turn_of c.in-Some-2.turn) t.0 (view_trees c.in-Some-2.behind) (view_trees c.next.new.self)
    (view_tree c.in-Some-next.field-0) c.in-Some.ensures (rw c.in-Some-2.is at c.in_ok-turn.ensures) c.in-Some-next.ensures t.1 t.2 t.3

pub returns-in-None : goal.returns-in-None
returns-in-None c = turn_read (view_tree c.args.item.now) (view_trees c.in-Some.children) (turn_of c.in-Some-2.turn) (view_trees c.in-Some-2.behind) c.in-Some.ensures (rw c.in-Some-2.is at c.in_ok-turn.ensures) c.in-None.ensures.0
