use Rattle.std.proofs.Common.{take}
use Rattle.kmipa_json.specs.Told.{items_of}
use Rattle.kmipa_telling.specs.Lists.{AreObjects}
use Rattle.kmipa_telling.specs.AttributeClaims.{TellsValueHeld}
use Rattle.kmipa_telling.proofs.attribute_claims.values_list.Given as goal

-- the attributes up to here stand in the list
abbrev pub invariant-values : goal.invariant-values
invariant-values l = AreObjects TellsValueHeld (take l.held-index l.values) (items_of l.list)
