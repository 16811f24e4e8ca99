use Rattle.std.proofs.Common.{◌≡◌, ◌-◌, length, take}
use Rattle.kmipa_json.specs.Told.{items_of}
use Rattle.kmipa_judge.specs.Object.{passed_members}
use Rattle.kmipa_telling.specs.Lists.{objects}
use Rattle.kmipa_judge.proofs.unjudged_object.passed_list.Given as goal

-- the operations up to here stand in the list
abbrev pub invariant-ranks : goal.invariant-ranks
invariant-ranks l = items_of l.list ≡ objects passed_members (take l.count l.ranks)

abbrev pub decreases-ranks : goal.decreases-ranks
decreases-ranks l = length l.ranks - l.count
