use Rattle.std.proofs.Common.{◌≡◌, take}
use Rattle.kmipa_json.specs.Told.{items_of}
use Rattle.kmipa_searches.specs.JsonSearches.{object_items}
use Rattle.kmipa_searches.proofs.telling_found.texts_list.Given as goal

-- the texts up to here stand in the list
abbrev pub invariant-texts : goal.invariant-texts
invariant-texts l = items_of l.list ≡ object_items (take l.text-index l.texts)
