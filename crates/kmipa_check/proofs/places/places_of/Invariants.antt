use Rattle.std.proofs.Common.{◌≡◌, ◌-◌, length, take}
use Rattle.kmipa_check.specs.Places.{place_numbers}
use Rattle.kmipa_check.proofs.places.places_of.Given as goal

abbrev pub invariant-numbers : goal.invariant-numbers
invariant-numbers l = take l.at l.numbers ≡ place_numbers l.places.items

abbrev pub decreases-numbers : goal.decreases-numbers
decreases-numbers l = length l.numbers - l.at
