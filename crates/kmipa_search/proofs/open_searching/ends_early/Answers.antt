use Rattle.std.proofs.Common.{List, Bor, sym, subst}
use Rattle.kmipa_record.specs.declared.call.Call.{Call}
use Rattle.kmipa_orders.specs.Guessing.{AreAllRecorded}
use Rattle.kmipa_search.proofs.open_searching.ends_early.Goals as goal

pub find_turns-requires-clause-recorded : goal.find_turns-requires-clause-recorded
find_turns-requires-clause-recorded c =
    let P : Bor (List Call) → Type 0 = λ b. AreAllRecorded b.now in
    subst P (sym c.in_ok-tables.ensures) c.requires.recorded
