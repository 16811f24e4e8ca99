use Rattle.std.proofs.Common.{rules, ◌≡◌, ◌<◌, ℤ, length, map, refl, sym, subst, arith}
use mir.Val.{SFits}
use mir.Syntax.{w32}
use Rattle.std.proofs.lemmas.Int.{to_z-of_z}
use Rattle.std.proofs.lemmas.List.{length-map}
use Rattle.std.proofs.lemmas.Result.{IfOk-weaker}
use Rattle.kmipa_record.specs.Witnesses.{TurnOf, turn_of}
use Rattle.kmipa_check.specs.Calls.{call_of}
use Rattle.kmipa_check.specs.Grants.{grants_of}
use Rattle.kmipa_check.specs.Orders.{GivenFault, NamesBefore}
use Rattle.kmipa_check.proofs.PlaceLemmas.{at_within, mapped_at}
use Rattle.kmipa_unfit.specs.Finding.{IsEarliest}
use Rattle.kmipa_unfit.proofs.LiftLemmas.{of_first}
use Rattle.kmipa_unfit.proofs.turns.named_unfit.Goals as goal

pub given_unfit-requires-clause-given : goal.given_unfit-requires-clause-given
given_unfit-requires-clause-given c =
    let turns = map turn_of c.args.turns.now in
    let turn : TurnOf = turn_of c.index-turns-place.result in
    let number : ℤ = c.index-turns-place.result.call in
    let fits : SFits w32 number = search rules in
    let n = c.requires.named in
    let stood = n.1 in
    let within : c.args.place < length c.args.turns.now = omega (arith, at_within turns c.args.place n.0 n.1, length-map c.args.turns.now turn_of) in
    let there = mapped_at turn_of c.args.turns.now c.args.place c.index-turns-place.result within c.index-turns-place.is in
    let same : turn ≡ n.0 = cc in
    let N : ℤ → Type 0 = λ z. NamesBefore turns c.args.place z → ⊥ in
    let first : NamesBefore turns c.args.place number → ⊥ = subst N (to_z-of_z w32 number fits) c.in-None.ensures in
    let M : TurnOf → Type 0 = λ t. NamesBefore turns c.args.place t.call → ⊥ in
    let G : TurnOf → Type 0 = λ t. GivenFault (grants_of c.args.grants.now) (call_of c.args.call.now) t c.args.kind in
    subst G (sym same) (n.4 (subst M same first))

pub returns-in-Some-clause-tells : goal.returns-in-Some-clause-tells
returns-in-Some-clause-tells c =
    let turns = map turn_of c.args.turns.now in
    let turn : TurnOf = turn_of c.index-turns-place.result in
    let number : ℤ = c.index-turns-place.result.call in
    let fits : SFits w32 number = search rules in
    let n = c.requires.named in
    let stood = n.1 in
    let within : c.args.place < length c.args.turns.now = omega (arith, at_within turns c.args.place n.0 n.1, length-map c.args.turns.now turn_of) in
    let there = mapped_at turn_of c.args.turns.now c.args.place c.index-turns-place.result within c.index-turns-place.is in
    let same : turn ≡ n.0 = cc in
    let E : ℤ → Type 0 = λ z. IsEarliest turns c.args.place z c.in-Some.earlier in
    let e : IsEarliest turns c.args.place number c.in-Some.earlier = subst E (to_z-of_z w32 number fits) c.in-Some.ensures in
    let B : TurnOf → Type 0 = λ t. NamesBefore turns c.args.place t.call in
    let before : NamesBefore turns c.args.place number = (c.in-Some.earlier, e.0, e.1) in (
      turn,
      there,
      (n.3 (subst B same before), record { earlier = c.in-Some.earlier; counted = refl; before = e.0; names = e.1; first = e.2 }),
    )

pub returns-in-None-clause-tells : goal.returns-in-None-clause-tells
returns-in-None-clause-tells c =
    let turns = map turn_of c.args.turns.now in
    let turn : TurnOf = turn_of c.index-turns-place.result in
    let number : ℤ = c.index-turns-place.result.call in
    let fits : SFits w32 number = search rules in
    let n = c.requires.named in
    let within : c.args.place < length c.args.turns.now = omega (arith, at_within turns c.args.place n.0 n.1, length-map c.args.turns.now turn_of) in
    let there = mapped_at turn_of c.args.turns.now c.args.place c.index-turns-place.result within c.index-turns-place.is in
    let N : ℤ → Type 0 = λ z. NamesBefore turns c.args.place z → ⊥ in
    let first : NamesBefore turns c.args.place number → ⊥ = subst N (to_z-of_z w32 number fits) c.in-None.ensures in
    IfOk-weaker c.given_unfit.result _ _ (λ unfit told. (turn, there, of_first (grants_of c.args.grants.now) (call_of c.args.call.now) turns c.args.place turn c.args.kind first unfit told)) c.given_unfit.ensures.tells
