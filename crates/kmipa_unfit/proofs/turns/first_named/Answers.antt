use Rattle.std.proofs.Common.{rules, ◌≡◌, ◌∙◌, ◌<◌, ℤ, length, map, sym, arith}
use mir.Val.{SFits, to_z, of_z}
use mir.Syntax.{w32}
use Rattle.std.proofs.lemmas.Int.{to_z-of_z}
use Rattle.kmipa_record.specs.Witnesses.{TurnOf, turn_of}
use Rattle.kmipa_check.proofs.PlaceLemmas.{mapped_at}
use Rattle.kmipa_unfit.proofs.BelowLemmas.{each_more}
use Rattle.kmipa_unfit.proofs.turns.first_named.Goals as goal

pub returns-then-turns-earlier : goal.returns-then-turns-earlier
returns-then-turns-earlier c =
    let number : ℤ = c.args.number in
    let fits : SFits w32 number = search rules in
    let same : c.index-turns-earlier.result.call ≡ number = search rules in
    let within : c.turns.earlier < length c.args.turns.now = omega (arith, c.turns-test.true, c.requires) in (
      c.turns-test.true,
      (turn_of c.index-turns-earlier.result, mapped_at turn_of c.args.turns.now c.turns.earlier c.index-turns-earlier.result within c.index-turns-earlier.is, same),
      λ before. c.turns.invariant before.0 before.1 before.2.0 before.2.1 (before.2.2 ∙ sym (to_z-of_z w32 number fits)),
    )

pub turns-preserved : goal.turns-preserved
turns-preserved c =
    let number : ℤ = c.args.number in
    let fits : SFits w32 number = search rules in
    let apart : c.index-turns-earlier.result.call ≡ number → ⊥ = search rules in
    let within : c.turns.earlier < length c.args.turns.now = omega (arith, c.turns-test.true, c.requires) in
    each_more (λ (t : TurnOf). t.call ≡ to_z w32 (of_z w32 number) → ⊥) (map turn_of c.args.turns.now) c.turns.earlier (turn_of c.index-turns-earlier.result)
    (mapped_at turn_of c.args.turns.now c.turns.earlier c.index-turns-earlier.result within c.index-turns-earlier.is) (λ e. apart (e ∙ to_z-of_z w32 number fits)) c.turns.invariant
