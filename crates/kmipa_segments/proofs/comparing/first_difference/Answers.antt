use Rattle.std.specs.Prelude.{MatchOption, Option}
use Rattle.std.proofs.Common.{map, subst}
use Rattle.kmipa_record.specs.Entries.{entry_of}
use Rattle.kmipa_segments.specs.Comparing.{AreKnown, DiffersAmong}
use Rattle.kmipa_segments.specs.declared.comparing.Difference.{Difference}
use Rattle.kmipa_segments.proofs.CompareLemmas.{compared_all}
use Rattle.kmipa_segments.proofs.comparing.first_difference.Goals as goal

pub returns-in-None : goal.returns-in-None
returns-in-None c =
    let left = map entry_of c.args.left.now in
    let told = map entry_of c.args.told.now in
    let M : Option Difference → Type 0 = λ d. MatchOption d (AreKnown left told) (DiffersAmong left told) in
    compared_all left told c.first_untold.result (subst M c.in-None.is c.in_ok-difference.ensures) c.first_untold.ensures
