-- proofs/objects/Objects/next_with/Answers.antt
use Rattle.std.proofs.Common.{◌∙◌, ℤ, ap, sym, to_z, of_z}
use mir.Syntax.{w64}
use Rattle.std.proofs.lemmas.Int.{to_z-of_z}
use Rattle.kmipa_store.specs.Ledger.{held}
use Rattle.kmipa_store.specs.Queries.{has_feature, next_with}
use Rattle.kmipa_store.proofs.QueryLemmas.{position_here, position_on}
use Rattle.kmipa_store.proofs.objects.Objects.next_with.Goals as goal

pub returns-then-has_feature-clause-place : goal.returns-then-has_feature-clause-place
returns-then-has_feature-clause-place c =
    let t : ℤ = to_z w64 (of_z w64 c.args.t) in
    sym (c.loop-next.invariant
    ∙ position_here (has_feature c.args.feature t) c.args.self.now c.loop-next.next (held c.at.result.now) c.at.ensures (sym c.has_feature.ensures ∙ c.if-has_feature.true))
    ∙ ap (λ (x : ℤ). next_with c.args.feature x c.args.from c.args.self.now) (to_z-of_z w64 c.args.t c.ranges.t)

pub loop-next-preserved : goal.loop-next-preserved
loop-next-preserved c =
    let t : ℤ = to_z w64 (of_z w64 c.args.t) in
    c.loop-next.invariant
    ∙ position_on (has_feature c.args.feature t) c.args.self.now c.loop-next.next (held c.at.result.now) c.at.ensures (sym c.has_feature.ensures ∙ c.if-has_feature.false)
