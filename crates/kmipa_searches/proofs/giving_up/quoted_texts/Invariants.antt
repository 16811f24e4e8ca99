use Rattle.std.proofs.Common.{◌≡◌, ◌++◌, drop, string_bytes}
use Rattle.std.specs.List.{flat_map}
use Rattle.kmipa_searches.specs.GivingUp.{quoted_behind}
use Rattle.kmipa_searches.proofs.giving_up.quoted_texts.Given as goal

-- what is written, and what is still to be written
abbrev pub invariant-texts : goal.invariant-texts
invariant-texts l = string_bytes l.line ++ flat_map quoted_behind (drop l.text-index l.texts) ≡ flat_map quoted_behind l.texts
