use Rattle.std.proofs.Common.{◌≡◌, ◌++◌, ◌∷◌, [], ℕ, List, sym, subst}
use Rattle.kmipa_ttlv.specs.Input.{came_of}
use Rattle.kmipa_ttlv.specs.Items.{AreItems}
use Rattle.kmipa_ttlv.specs.ItemTree.{tree}
use Rattle.kmipa_ttlv.specs.Spelling.{Spells}
use Rattle.kmipa_ttlv.specs.Tree.{Tree}
use Rattle.kmipa_ttlv.specs.ViewTree.{view_tree}
use Rattle.kmipa_ttlv.proofs.reading.read_item.Goals as goal

pub returns-in-Ok-clause-item : goal.returns-in-Ok-clause-item
returns-in-Ok-clause-item g c =
    let read = rw c.in-Some.is at c.in_ok-view.ensures.item in
    let P : Tree → Type 0 = λ t. (front : List ℕ) × Spells t front × (came_of c.read_view.new.input ≡ came_of c.args.input.now ++ front) in
    subst P (sym c.in-Ok.ensures) read

pub returns-in-Ok-clause-next : goal.returns-in-Ok-clause-next
returns-in-Ok-clause-next g c =
    let next = rw c.in-Some.is at c.in_ok-view.ensures.next in
    let P : Tree → Type 0 = λ t. (given : List Tree) → AreItems given (came_of c.args.input.now) → AreItems (given ++ t ∷ []) (came_of c.read_view.new.input) in
    subst P (sym c.in-Ok.ensures) next
