use Rattle.std.proofs.Common.{rules, ◌≡◌, ◌∙◌, ◌<◌, ◌+◌, ◌-◌, ℤ, Some, length, map, sym, ap, subst, arith}
use mir.Val.{SFits}
use mir.Syntax.{w32}
use Rattle.std.proofs.lemmas.Int.{to_z-of_z}
use Rattle.std.proofs.lemmas.List.{length-map}
use Rattle.std.specs.String.{string_bytes}
use Rattle.kmipa_record.specs.Marks.{mark_of}
use Rattle.kmipa_record.specs.Witnesses.{TurnOf, turn_of}
use Rattle.kmipa_check.specs.Calls.{CallOf, call_of}
use Rattle.kmipa_check.specs.Grants.{grants_of}
use Rattle.kmipa_check.specs.Orders.{HasCall}
use Rattle.kmipa_check.proofs.PlaceLemmas.{at_within, mapped_at}
use Rattle.kmipa_unfit.specs.Explanations.{IsClientOf, of_turn}
use Rattle.kmipa_unfit.specs.Finding.{IsFound, TellsNamedBy}
use Rattle.kmipa_unfit.proofs.FaultLemmas.{begun, fault_there, fault_within, named_fault, recorded, unknown_of}
use Rattle.kmipa_unfit.proofs.LiftLemmas.{of_named}
use Rattle.kmipa_unfit.proofs.explaining.turn_told.Goals as goal

pub returns-in_default-clause-explains : goal.returns-in_default-clause-explains
returns-in_default-clause-explains c =
    let calls = map call_of c.args.calls.now in
    let turns = map turn_of c.args.turns.now in
    let turn = turn_of c.index-turns-place.result in
    let number : ℤ = c.index-turns-place.result.call in
    let fits : SFits w32 number = search rules in
    let g = grants_of c.args.grants.now in
    let place = c.args.fault.at - 1 in
    let kind = c.args.fault.kind in
    let fault = fault_there g calls turns c.args.fault.at kind c.requires.fault in
    let t = fault_within g calls turns place kind fault in
    let within : place < length c.args.turns.now = omega (arith, at_within turns place t.0 t.1, length-map c.args.turns.now turn_of) in
    let there = mapped_at turn_of c.args.turns.now place c.index-turns-place.result within c.index-turns-place.is in
    let N : ℤ → Type 0 = λ z. HasCall calls z → ⊥ in
    let none : HasCall calls number → ⊥ = subst N (to_z-of_z w32 number fits) c.in_default.ensures in
    let counted : c.args.fault.at ≡ place + 1 = omega (arith, c.requires.fault.1) in
    of_turn place counted (record {
      turn = ap Some counted;
      its = turn;
      there = there;
      named = sym (to_z-of_z w32 number fits);
      client = subst N (sym (to_z-of_z w32 number fits)) none;
      unfit = (unknown_of g calls turns place kind turn there fault none, none, sym (length-map c.args.calls.now call_of));
    })

pub named_unfit-requires : goal.named_unfit-requires
named_unfit-requires c =
    let marks = map mark_of c.args.marks.now in
    let calls = map call_of c.args.calls.now in
    let turns = map turn_of c.args.turns.now in
    let turn = turn_of c.index-turns-place.result in
    let call : CallOf = call_of c.in-Some.call.now in
    let number : ℤ = c.index-turns-place.result.call in
    let fits : SFits w32 number = search rules in
    let F : ℤ → Type 0 = λ z. IsFound calls z call in
    let found : IsFound calls number call = subst F (to_z-of_z w32 number fits) c.in-Some.ensures in
    let g = grants_of c.args.grants.now in
    let place = c.args.fault.at - 1 in
    let kind = c.args.fault.kind in
    let fault = fault_there g calls turns c.args.fault.at kind c.requires.fault in
    let t = fault_within g calls turns place kind fault in
    let within : place < length c.args.turns.now = omega (arith, at_within turns place t.0 t.1, length-map c.args.turns.now turn_of) in
    let there = mapped_at turn_of c.args.turns.now place c.index-turns-place.result within c.index-turns-place.is in
    record {
      recorded = (marks, recorded marks calls number call c.requires.calls found);
      named = named_fault g marks calls turns place kind c.requires.recorded c.requires.calls fault turn there call found;
    }

pub client_of-requires : goal.client_of-requires
client_of-requires c =
    let marks = map mark_of c.args.marks.now in
    let calls = map call_of c.args.calls.now in
    let call : CallOf = call_of c.in-Some.call.now in
    let number : ℤ = c.index-turns-place.result.call in
    let fits : SFits w32 number = search rules in
    let F : ℤ → Type 0 = λ z. IsFound calls z call in
    begun marks calls number call c.requires.calls (subst F (to_z-of_z w32 number fits) c.in-Some.ensures)

pub returns-clause-explains : goal.returns-clause-explains
returns-clause-explains c =
    let marks = map mark_of c.args.marks.now in
    let calls = map call_of c.args.calls.now in
    let turns = map turn_of c.args.turns.now in
    let turn = turn_of c.index-turns-place.result in
    let call : CallOf = call_of c.in-Some.call.now in
    let number : ℤ = c.index-turns-place.result.call in
    let fits : SFits w32 number = search rules in
    let F : ℤ → Type 0 = λ z. IsFound calls z call in
    let found : IsFound calls number call = subst F (to_z-of_z w32 number fits) c.in-Some.ensures in
    let g = grants_of c.args.grants.now in
    let place = c.args.fault.at - 1 in
    let kind = c.args.fault.kind in
    let fault = fault_there g calls turns c.args.fault.at kind c.requires.fault in
    let t = fault_within g calls turns place kind fault in
    let within : place < length c.args.turns.now = omega (arith, at_within turns place t.0 t.1, length-map c.args.turns.now turn_of) in
    let there = mapped_at turn_of c.args.turns.now place c.index-turns-place.result within c.index-turns-place.is in
    let told = c.in_ok-unfit.ensures.tells in
    let at = told.1 in
    let same : told.0 ≡ turn = cc in
    let T : TurnOf → Type 0 = λ u. TellsNamedBy g call turns place u kind c.in_ok-unfit.unfit in
    let N : ℤ → Type 0 = λ z. IsClientOf marks z (string_bytes c.in_ok-client_of.field-0) in
    let counted : c.args.fault.at ≡ place + 1 = omega (arith, c.requires.fault.1) in
    of_turn place counted (record {
      turn = ap Some counted;
      its = turn;
      there = there;
      named = sym (to_z-of_z w32 number fits);
      client = subst N (found.1 ∙ sym (to_z-of_z w32 number fits)) c.in_ok-client_of.ensures;
      unfit = of_named g calls turns place turn kind call found.0 (sym found.1) c.in_ok-unfit.unfit (subst T same told.2);
    })
