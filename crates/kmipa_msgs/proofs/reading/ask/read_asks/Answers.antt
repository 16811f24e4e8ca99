use Rattle.std.proofs.Common.{arith, ◌∙◌, ◌+◌, ap, ℕ, Bool, Result}
use Rattle.std.proofs.lemmas.List.{length-map}
use Rattle.kmipa_ttlv.specs.Tree.{Tree}
use Rattle.kmipa_ttlv.specs.ViewTree.{view_tree, view_trees}
use Rattle.kmipa_attrs.specs.Fields.{every}
use Rattle.kmipa_attrs.specs.Tags.{batch_item}
use Rattle.kmipa_msgs.specs.declared.kind.OutsideKind.{OutsideKind}
use Rattle.kmipa_msgs.specs.Messages.{AskOf, ask_of, asks_of}
use Rattle.kmipa_msgs.specs.Asks.{item_in}
use Rattle.kmipa_msgs.specs.Outside.{each_in, from_one}
use Rattle.kmipa_msgs.proofs.ItemLemmas.{items_found, items_faulty, items_done, meaning_more}
use Rattle.kmipa_msgs.proofs.YieldsLemmas.{gives_unread}
use Rattle.kmipa_msgs.proofs.reading.ask.read_asks.Goals as goal

abbrev read : Bool → ℕ → Tree → Result AskOf OutsideKind
read unordered place = item_in unordered

pub returns-in-Err : goal.returns-in-Err
returns-in-Err c =
    let t = view_tree c.in-Some.child in
    let ts = every batch_item (view_trees c.children.left) in
    let us = every batch_item (view_trees c.next_of.new.self) in
    let whole = from_one (each_in (read c.args.unordered) (every batch_item (view_trees c.args.children))) in
    rw c.at.ensures (gives_unread asks_of ask_of (c.len.result + 1) c.in-Err.unread (item_in c.args.unordered t) whole c.in-Err.ensures
    (λ k e. ap from_one c.children.invariant
    ∙ items_faulty (read c.args.unordered) (asks_of c.children.asks) c.len.result k ts us t c.in-Some.ensures.next e (omega (arith, c.len.ensures, c.children.asks.ok, length-map c.children.asks.items ask_of))))

pub children-preserved : goal.children-preserved
children-preserved c =
    let ts = every batch_item (view_trees c.children.left) in
    let us = every batch_item (view_trees c.next_of.new.self) in
    let more = meaning_more ask_of c.children.asks.items c.push.new.self.items c.in-Ok.ask c.in_ok-push-in-Ok.ensures.items in
    c.children.invariant
    ∙ items_found (read c.args.unordered) (asks_of c.children.asks) (asks_of c.push.new.self) (ask_of c.in-Ok.ask) ts us (view_tree c.in-Some.child) c.in-Some.ensures.next c.in-Ok.ensures more

pub returns : goal.returns
returns c = ap from_one c.children.invariant ∙ items_done (read c.args.unordered) (asks_of c.children.asks) (every batch_item (view_trees c.children.left)) c.in_default.ensures.next
