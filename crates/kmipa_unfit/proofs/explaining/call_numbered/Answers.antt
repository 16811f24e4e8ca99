use Rattle.std.proofs.Common.{rules, ◌≡◌, ◌∙◌, ℤ, map, sym, arith}
use mir.Val.{SFits, to_z, of_z}
use mir.Syntax.{w32}
use Rattle.std.proofs.lemmas.Int.{to_z-of_z}
use Rattle.std.proofs.lemmas.List.{length-map}
use Rattle.kmipa_check.specs.Calls.{CallOf, call_of}
use Rattle.kmipa_check.proofs.PlaceLemmas.{at_contains, mapped_at}
use Rattle.kmipa_unfit.proofs.BelowLemmas.{each_all, each_more}
use Rattle.kmipa_unfit.proofs.explaining.call_numbered.Goals as goal

pub calls-preserved : goal.calls-preserved
calls-preserved c =
    let number : ℤ = c.args.number in
    let fits : SFits w32 number = search rules in
    let apart : c.index-calls-place.result.number ≡ number → ⊥ = search rules in
    each_more (λ (x : CallOf). x.number ≡ to_z w32 (of_z w32 number) → ⊥) (map call_of c.args.calls.now) c.calls.place (call_of c.index-calls-place.result)
    (mapped_at call_of c.args.calls.now c.calls.place c.index-calls-place.result c.calls-test.true c.index-calls-place.is) (λ e. apart (e ∙ to_z-of_z w32 number fits)) c.calls.invariant

pub returns : goal.returns
returns c = λ has.
    let number : ℤ = c.args.number in
    let fits : SFits w32 number = search rules in
    let at = at_contains (map call_of c.args.calls.now) has.0 has.1 in
    each_all (λ (x : CallOf). x.number ≡ to_z w32 (of_z w32 number) → ⊥) (map call_of c.args.calls.now) c.calls.place (omega (arith, c.calls-test.false, length-map c.args.calls.now call_of)) c.calls.invariant
    at.0 has.0 at.1 (has.2 ∙ sym (to_z-of_z w32 number fits))
