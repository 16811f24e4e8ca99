use Rattle.std.proofs.Common.{◌≡◌, ◌-◌, length, take}
use Rattle.kmipa_json.specs.Told.{items_of}
use Rattle.kmipa_unjudged.specs.Told.{named_of}
use Rattle.kmipa_judge.specs.Object.{named_members}
use Rattle.kmipa_telling.specs.Lists.{objects}
use Rattle.kmipa_judge.proofs.unjudged_object.aside_list.Given as goal

-- the identifiers up to here stand in the list
abbrev pub invariant-aside : goal.invariant-aside
invariant-aside l = items_of l.list ≡ objects (λ n. named_members (named_of n)) (take l.count l.aside)

abbrev pub decreases-aside : goal.decreases-aside
decreases-aside l = length l.aside - l.count
