use Rattle.std.proofs.Common.{subst}
use Rattle.kmipa_ttlv.specs.Input.{came_of}
use Rattle.kmipa_ttlv.specs.Spelling.{Spells}
use Rattle.kmipa_ttlv.specs.ViewTree.{view_tree}
use Rattle.kmipa_ttlv.proofs.StreamLemmas.{item_read}
use Rattle.kmipa_ttlv.proofs.reading.read_view.Goals as goal

pub returns-clause-next : goal.returns-clause-next
returns-clause-next g c =
    let t = view_tree c.in_ok-tested.field-0 in
    let bytes = c.read_bytes.new.bytes.items in
    let spelled : Spells t bytes = subst (Spells t) c.deref.ensures.value c.in_ok-tested.ensures.item in
    λ given is. item_read given t (came_of c.args.input.now) bytes (came_of c.read_bytes.new.input) spelled c.in_ok-read_bytes.ensures.came is
