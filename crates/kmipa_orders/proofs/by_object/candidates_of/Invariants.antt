use Rattle.std.proofs.Common.{◌≡◌, map, take}
use Rattle.kmipa_orders.specs.ByObject.{part_step}
use Rattle.kmipa_orders.specs.Candidates.{candidate_step}
use Rattle.kmipa_orders.proofs.by_object.candidates_of.Given as goal

abbrev pub invariant-parts : goal.invariant-parts
invariant-parts l = map candidate_step l.own.items ≡ map part_step (take l.part-index l.parts)
