use Rattle.std.proofs.Common.{◌≡◌, ◌-◌, length, take}
use Rattle.kmipa_json.specs.Told.{items_of}
use Rattle.kmipa_judge.specs.Object.{rule_members}
use Rattle.kmipa_telling.specs.Lists.{objects}
use Rattle.kmipa_judge.proofs.rule_object.rule_list.Given as goal

-- the rules up to here stand in the list
abbrev pub invariant-rules : goal.invariant-rules
invariant-rules l = items_of l.list ≡ objects rule_members (take l.count l.rules)

abbrev pub decreases-rules : goal.decreases-rules
decreases-rules l = length l.rules - l.count
