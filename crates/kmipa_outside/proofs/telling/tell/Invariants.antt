use Rattle.std.proofs.Common.{◌≡◌, ◌++◌, drop}
use Rattle.kmipa_ttlv.specs.ViewTree.{view_trees}
use Rattle.kmipa_outside.specs.Told.{fields_told}
use Rattle.kmipa_outside.proofs.telling.tell.Given as goal

abbrev pub invariant-loop-demand : goal.invariant-loop-demand
invariant-loop-demand l =
    let ts = view_trees l.children in
    l.fields.items ++ fields_told l.kind l.within ts (drop l.demand-index l.demands) ≡ fields_told l.kind l.within ts l.demands
