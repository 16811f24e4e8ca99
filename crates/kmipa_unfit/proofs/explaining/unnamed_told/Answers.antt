use Rattle.std.proofs.Common.{rules, ℤ, map, refl, subst}
use mir.Val.{SFits}
use mir.Syntax.{w32}
use Rattle.std.proofs.lemmas.Int.{to_z-of_z}
use Rattle.std.specs.String.{string_bytes}
use Rattle.kmipa_record.specs.Marks.{mark_of}
use Rattle.kmipa_check.specs.Calls.{CallOf, call_of}
use Rattle.kmipa_check.specs.Orders.{IsLeftOut}
use Rattle.kmipa_unfit.specs.Explanations.{IsClientOf}
use Rattle.kmipa_unfit.specs.Finding.{IsFound}
use Rattle.kmipa_unfit.proofs.FaultLemmas.{its_numbers, one_call}
use Rattle.kmipa_unfit.proofs.explaining.unnamed_told.Goals as goal

pub returns-clause-explains : goal.returns-clause-explains
returns-clause-explains c = λ turns left.
    let marks = map mark_of c.args.marks.now in
    let calls = map call_of c.args.calls.now in
    let call : CallOf = call_of c.in-Some.call.now in
    let number : ℤ = c.args.number in
    let fits : SFits w32 number = search rules in
    let F : ℤ → Type 0 = λ z. IsFound calls z call in
    let found : IsFound calls number call = subst F (to_z-of_z w32 number fits) c.in-Some.ensures in
    let same = one_call calls (its_numbers marks calls c.requires.recorded c.requires.calls) number left.0 call left.1 found in
    let L : CallOf → Type 0 = λ d. IsLeftOut turns d in
    let N : ℤ → Type 0 = λ z. IsClientOf marks z (string_bytes c.in_ok-client_of.field-0) in
    record {
      turn = refl;
      call = to_z-of_z w32 number fits;
      client = subst N found.1 c.in_ok-client_of.ensures;
      unfit = record { call = call; known = found.0; numbered = found.1; left = subst L same left.2; asked = c.in_ok-operations_of.ensures };
    }
