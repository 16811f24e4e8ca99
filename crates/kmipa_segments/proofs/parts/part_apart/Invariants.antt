use Rattle.std.proofs.Common.{◌≡◌, ◌-◌, false}
use Rattle.kmipa_record.specs.Entries.{entry_of}
use Rattle.kmipa_segments.specs.Comparing.{is_apart}
use Rattle.kmipa_segments.specs.declared.parts.Part.{Part}
use Rattle.kmipa_segments.proofs.CompareLemmas.{EachBefore, parts}
use Rattle.kmipa_segments.proofs.parts.part_apart.Given as goal

abbrev pub invariant-parts : goal.invariant-parts
invariant-parts l = EachBefore (λ (p : Part). is_apart p (entry_of l.left) (entry_of l.told) ≡ false) parts l.place

abbrev pub decreases-parts : goal.decreases-parts
decreases-parts l = 11 - l.place
