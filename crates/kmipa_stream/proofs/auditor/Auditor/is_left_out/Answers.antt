use Rattle.std.proofs.Common.{ℤ, map, subst, rules}
use mir.Val.{SFits}
use mir.Syntax.{w32}
use Rattle.std.proofs.lemmas.Int.{to_z-of_z}
use Rattle.kmipa_record.specs.Witnesses.{turn_of}
use Rattle.kmipa_check.specs.Orders.{IsNamed}
use Rattle.kmipa_check.specs.Deciding.{Decided}
use Rattle.kmipa_stream.proofs.ConcludingLemmas.{unnamed_decided, not_left_out}
use Rattle.kmipa_stream.proofs.auditor.Auditor.is_left_out.Goals as goal

pub returns-in-Some : goal.returns-in-Some
returns-in-Some c = λ turns names.
    let fits : SFits w32 c.args.call.now.number = search rules in
    let P : ℤ → Type 0 = λ z. Decided c.is_named.result (IsNamed (map turn_of turns) z) in
    unnamed_decided turns c.args.call.now c.in-Some.field-0 c.is_named.result c.in-Some.is (subst P (to_z-of_z w32 c.args.call.now.number fits) (c.is_named.ensures turns names))

pub returns-in-None : goal.returns-in-None
returns-in-None c = λ turns names. not_left_out turns c.args.call.now c.in-None.is
