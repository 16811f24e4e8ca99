use Rattle.std.proofs.Common.{◌≡◌, ◌++◌, drop, string_bytes}
use Rattle.std.specs.List.{flat_map}
use Rattle.kmipa_telling.specs.Phrases.{numbered}
use Rattle.kmipa_telling.proofs.phrases.numbers_text.Given as goal

-- what is written, and what is still to be written
abbrev pub invariant-numbers : goal.invariant-numbers
invariant-numbers l = string_bytes l.text ++ flat_map numbered (drop l.number-index l.numbers) ≡ flat_map numbered l.numbers
