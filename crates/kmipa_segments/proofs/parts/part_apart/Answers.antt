use Rattle.std.proofs.Common.{◌≡◌, ◌∙◌, false, sym}
use Rattle.kmipa_record.specs.Entries.{entry_of}
use Rattle.kmipa_segments.specs.Comparing.{is_apart}
use Rattle.kmipa_segments.specs.declared.parts.Part.{Part}
use Rattle.kmipa_segments.proofs.CompareLemmas.{each_more, each_part, parts, read_there}
use Rattle.kmipa_segments.proofs.parts.part_apart.Goals as goal

pub parts-preserved : goal.parts-preserved
parts-preserved c =
    each_more (λ (p : Part). is_apart p (entry_of c.args.left.now) (entry_of c.args.told.now) ≡ false) parts c.parts.place _
    (read_there parts c.parts.place _ c.parts-test.true) (sym c.is_apart.ensures ∙ c.if-is_apart.false) c.parts.invariant

pub returns-clause-alike : goal.returns-clause-alike
returns-clause-alike c =
    λ none. each_part (λ (p : Part). is_apart p (entry_of c.args.left.now) (entry_of c.args.told.now) ≡ false) c.parts.place c.parts-test.false c.parts.invariant
