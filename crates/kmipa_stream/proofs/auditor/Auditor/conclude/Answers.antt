use Rattle.std.proofs.Common.{ℤ, Some, None, Ok, map, sym, subst, rules}
use mir.Val.{SFits}
use mir.Syntax.{w64}
use Rattle.std.proofs.lemmas.Int.{to_z-of_z}
use Rattle.kmipa_record.specs.Witnesses.{turn_of}
use Rattle.kmipa_check.specs.declared.verdict.Verdict.TheVariants as verdict
use Rattle.kmipa_stream.specs.Standing.{Judges}
use Rattle.kmipa_stream.specs.declared.counts.Counts.{Counts}
use Rattle.kmipa_stream.proofs.ConcludingLemmas.{faulty_told, no_told, yes_told, unless_told}
use Rattle.kmipa_stream.proofs.auditor.Auditor.conclude.Goals as goal

pub returns-in-Faulty : goal.returns-in-Faulty
returns-in-Faulty c = λ marks turns declared r s all none done. faulty_told marks turns declared c.args.self.now r s all none c.in-Faulty.fault (sym c.in-Faulty.ensures)

pub returns-in-No : goal.returns-in-No
returns-in-No c = λ marks turns declared r s all none done.
    let is = sym c.in-No.ensures in
    let fits : SFits w64 c.in-No.stamp = search rules in
    let P : ℤ → Type 0 = λ z. Judges marks declared (map turn_of turns) (Ok (record { verdict = verdict.No c.in-No.refused; stamp = Some z; counts = c.counts.result })) in
    unless_told marks turns declared c.args.self.now r s all none done (λ f e. absurd cc) _ c.unless_left_out.result (c.unless_left_out.ensures turns s.replay.named)
    (λ whole. subst P (sym (to_z-of_z w64 c.in-No.stamp fits)) (no_told marks turns declared c.args.self.now r s all none done (λ f e. absurd cc) whole c.in-No.refused c.in-No.stamp c.counts.result is))

pub returns-in-Possible : goal.returns-in-Possible
returns-in-Possible c = λ marks turns declared r s all none done.
    let is = sym c.in-Possible.ensures in
    let P : Counts → Type 0 = λ counts. Judges marks declared (map turn_of turns) (Ok (record { verdict = verdict.Yes; stamp = None; counts = counts })) in
    unless_told marks turns declared c.args.self.now r s all none done (λ f e. absurd cc) _ c.unless_left_out-in-Possible.result (c.unless_left_out-in-Possible.ensures turns s.replay.named)
    (λ whole. subst P (sym c.counts-in-Possible.ensures) (yes_told marks turns declared c.args.self.now r s all none done (λ f e. absurd cc) whole is))
