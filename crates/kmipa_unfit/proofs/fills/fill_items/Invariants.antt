use Rattle.std.proofs.Common.{◌≡◌, map, take}
use Rattle.kmipa_record.specs.Witnesses.{fill_of}
use Rattle.kmipa_unfit.specs.UnfitFills.{items_filled}
use Rattle.kmipa_unfit.proofs.fills.fill_items.Given as goal

abbrev pub invariant-loop-fill : goal.invariant-loop-fill
invariant-loop-fill l = l.items.items ≡ items_filled (map fill_of (take l.fill-index l.fills))
