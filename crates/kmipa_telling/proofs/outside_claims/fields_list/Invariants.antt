use Rattle.std.proofs.Common.{◌≡◌, take}
use Rattle.kmipa_json.specs.Told.{items_of}
use Rattle.kmipa_telling.specs.Lists.{objects}
use Rattle.kmipa_telling.specs.OutsideClaims.{field_members}
use Rattle.kmipa_telling.proofs.outside_claims.fields_list.Given as goal

-- the fields up to here stand in the list
abbrev pub invariant-fields : goal.invariant-fields
invariant-fields l = items_of l.list ≡ objects field_members (take l.field-index l.fields)
