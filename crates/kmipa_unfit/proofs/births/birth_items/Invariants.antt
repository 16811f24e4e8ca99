use Rattle.std.proofs.Common.{◌≡◌, map, take}
use Rattle.kmipa_record.specs.Witnesses.{birth_of}
use Rattle.kmipa_unfit.specs.UnfitBirths.{items_born}
use Rattle.kmipa_unfit.proofs.births.birth_items.Given as goal

abbrev pub invariant-loop-birth : goal.invariant-loop-birth
invariant-loop-birth l = l.items.items ≡ items_born (map birth_of (take l.birth-index l.births))
