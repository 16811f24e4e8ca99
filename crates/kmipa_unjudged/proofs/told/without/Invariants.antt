use Rattle.std.proofs.Common.{◌≡◌, ◌++◌, map, drop, filter}
use Rattle.kmipa_unjudged.specs.Asides.{is_of_another}
use Rattle.kmipa_unjudged.specs.Told.{named_of}
use Rattle.kmipa_unjudged.proofs.told.without.Given as goal

-- those so far, and those among the ones that are left, are all
abbrev pub invariant-told : goal.invariant-told
invariant-told l =
    map named_of l.left.items ++ filter (is_of_another l.id) (map named_of (drop l.one-index l.told)) ≡ filter (is_of_another l.id) (map named_of l.told)
