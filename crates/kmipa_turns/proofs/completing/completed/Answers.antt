use Rattle.std.proofs.Common.{ℤ, refl, subst, rules}
use Rattle.std.specs.Prelude.{MatchResult}
use mir.Val.{SFits}
use mir.Syntax.{w64}
use Rattle.std.proofs.lemmas.Int.{to_z-of_z}
use Rattle.kmipa_record.specs.Witnesses.{turn_of}
use Rattle.kmipa_check.specs.Grants.{grants_of}
use Rattle.kmipa_places.specs.Calls.{read_of}
use Rattle.kmipa_turns.specs.Turning.{FullRefused, IsFull}
use Rattle.kmipa_turns.proofs.completing.completed.Goals as goal

pub returns-then-is_plain : goal.returns-then-is_plain
returns-then-is_plain c =
    let g = grants_of c.args.grants.now in
    let t = turn_of c.args.turn.now in
    let x = read_of c.args.said in
    let fits : SFits w64 c.args.moment = search rules in
    let P : ℤ → Type 0 = λ z. MatchResult c.plain.result (λ full. IsFull g x t z (read_of full)) (FullRefused g x t) in
    subst P (to_z-of_z w64 c.args.moment fits) (c.plain.ensures g t (c.if-is_plain.ensures.0 refl))

pub returns : goal.returns
returns c =
    let g = grants_of c.args.grants.now in
    let t = turn_of c.args.turn.now in
    let x = read_of c.args.said in
    let fits : SFits w64 c.args.moment = search rules in
    let P : ℤ → Type 0 = λ z. MatchResult c.with_given.result (λ full. IsFull g x t z (read_of full)) (FullRefused g x t) in
    subst P (to_z-of_z w64 c.args.moment fits) c.with_given.ensures
