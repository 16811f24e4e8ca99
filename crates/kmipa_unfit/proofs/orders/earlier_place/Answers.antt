use Rattle.std.proofs.Common.{rules, ◌≡◌, ◌∙◌, ◌<◌, ℤ, pos, length, get_or, arith}
use mir.Val.{SFits, to_z, of_z}
use mir.Syntax.{w32}
use Rattle.std.proofs.lemmas.Int.{to_z-of_z}
use Rattle.std.proofs.lemmas.Option.{slice_get-get_or}
use Rattle.kmipa_unfit.proofs.BelowLemmas.{each_more}
use Rattle.kmipa_unfit.proofs.orders.earlier_place.Goals as goal

pub numbers-preserved : goal.numbers-preserved
numbers-preserved c =
    let number : ℤ = c.args.number in
    let fits : SFits w32 number = search rules in
    let here : ℤ = get_or c.args.numbers.now c.numbers.at (pos 0) in
    let within : c.numbers.at < length c.args.numbers.now = omega (arith, c.numbers-test.true, c.requires) in
    let apart : here ≡ number → ⊥ = search rules in
    each_more (λ (n : ℤ). n ≡ to_z w32 (of_z w32 number) → ⊥) c.args.numbers.now c.numbers.at here (slice_get-get_or c.args.numbers.now c.numbers.at (pos 0) within)
    (λ e. apart (e ∙ to_z-of_z w32 number fits)) c.numbers.invariant
