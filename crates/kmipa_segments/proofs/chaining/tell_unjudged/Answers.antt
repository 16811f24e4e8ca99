use Rattle.std.proofs.Common.{◌⊎◌, subst, sym}
use Rattle.std.specs.Io.{appended_bytes}
use Rattle.kmipa_jobs.specs.Statuses.{IsSilent}
use Rattle.kmipa_segments.specs.Chains.{PrintsUnjudged}
use Rattle.kmipa_segments.specs.declared.next.Unjudged.{Unjudged}
use Rattle.kmipa_segments.proofs.GapLemmas.{gap_printed}
use Rattle.kmipa_segments.proofs.chaining.tell_unjudged.Goals as goal

pub returns-in-Gap-clause-tells : goal.returns-in-Gap-clause-tells
returns-in-Gap-clause-tells c =
    let lines = appended_bytes c.args.out.now.items c.append.new.out.items in
    let P : Unjudged → Type 0 = λ u. PrintsUnjudged c.args.name.now u c.append.result lines ⊎ IsSilent c.append.result lines in
    subst P (sym c.in-Gap.is) (gap_printed c.gap_lines.result c.args.name.now c.in-Gap.gap c.append.result lines c.gap_lines.ensures c.append.ensures.prints)
