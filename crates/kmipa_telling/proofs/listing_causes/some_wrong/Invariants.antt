use Rattle.std.proofs.Common.{◌≡◌, ◌++◌, drop, string_bytes}
use Rattle.std.specs.List.{flat_map}
use Rattle.kmipa_telling.specs.ListingCauses.{wrong_line}
use Rattle.kmipa_telling.proofs.listing_causes.some_wrong.Given as goal

-- what is written, and what is still to be written
abbrev pub invariant-wrong : goal.invariant-wrong
invariant-wrong l = string_bytes l.text ++ flat_map wrong_line (drop l.held-index l.wrong) ≡ flat_map wrong_line l.wrong
