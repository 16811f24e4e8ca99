use Rattle.std.proofs.Common.{◌≡◌, take}
use Rattle.kmipa_json.specs.Told.{items_of}
use Rattle.kmipa_telling.specs.Lists.{objects}
use Rattle.kmipa_telling.specs.NamingClaims.{name_members}
use Rattle.kmipa_telling.proofs.attribute_claims.names_list.Given as goal

-- the names up to here stand in the list
abbrev pub invariant-names : goal.invariant-names
invariant-names l = items_of l.list ≡ objects name_members (take l.name-index l.names)
