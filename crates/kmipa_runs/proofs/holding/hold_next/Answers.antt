use Rattle.std.proofs.Common.{IsTrue}
use Rattle.kmipa_ttlv.specs.Input.{came_of, is_ended}
use Rattle.kmipa_runs.proofs.PrintLemmas.{held_next}
use Rattle.kmipa_runs.proofs.holding.hold_next.Goals as goal

pub returns-clause-items : goal.returns-clause-items
returns-clause-items g c = λ is.
    let read = c.in_ok-some.ensures in
    let input = c.read_spelled.new.input in
    held_next c.in_ok-some.some (came_of c.args.input.now) c.read_spelled.new.bytes.items (came_of input) (IsTrue (is_ended input)) read.came read.item read.end is
