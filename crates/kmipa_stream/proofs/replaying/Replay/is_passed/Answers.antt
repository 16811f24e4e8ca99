use Rattle.std.proofs.Common.{ℤ, subst, rules}
use Rattle.kmipa_stream.specs.Waiting.{IsPassed}
use mir.Val.{SFits}
use mir.Syntax.{w32}
use Rattle.std.proofs.lemmas.Int.{to_z-of_z}
use Rattle.kmipa_check.specs.Deciding.{Decided}
use Rattle.kmipa_stream.proofs.replaying.Replay.is_passed.Goals as goal

pub returns : goal.returns
returns c = λ turns names.
    let fits : SFits w32 c.args.number = search rules in
    let P : ℤ → Type 0 = λ z. Decided c.is_passed.result (IsPassed turns c.args.self.now.formed z) in
    subst P (to_z-of_z w32 c.args.number fits) (c.is_passed.ensures turns names)
