use Rattle.std.proofs.Common.{ℤ, subst, rules}
use Rattle.std.proofs.Common.{map}
use Rattle.kmipa_record.specs.Witnesses.{turn_of}
use Rattle.kmipa_check.specs.Orders.{IsNamed}
use mir.Val.{SFits}
use mir.Syntax.{w32}
use Rattle.std.proofs.lemmas.Int.{to_z-of_z}
use Rattle.kmipa_check.specs.Deciding.{Decided}
use Rattle.kmipa_stream.proofs.replaying.Replay.is_named.Goals as goal

pub returns : goal.returns
returns c = λ turns names.
    let fits : SFits w32 c.args.number = search rules in
    let P : ℤ → Type 0 = λ z. Decided c.is_named.result (IsNamed (map turn_of turns) z) in
    subst P (to_z-of_z w32 c.args.number fits) (c.is_named.ensures turns names)
