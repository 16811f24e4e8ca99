use Rattle.std.proofs.Common.{map, rules}
use Rattle.std.proofs.lemmas.Int.{to_z-of_z}
use mir.Val.{SFits}
use mir.Syntax.{w32}
use Rattle.kmipa_record.specs.Marks.{mark_of}
use Rattle.kmipa_record.specs.Witnesses.{turn_of}
use Rattle.kmipa_check.proofs.StampLemmas.{message_ended, message_else}
use Rattle.kmipa_check.proofs.stamp.message_of.Goals as goal

pub returns-in-Some : goal.returns-in-Some
returns-in-Some c =
    let fits : SFits w32 c.args.call = search rules in
    message_ended (map mark_of c.args.marks.now) (map turn_of c.args.turns.now) _ c.args.call c.in-Some.end.now.message.items c.deref.result.now (to_z-of_z w32 c.args.call fits) c.deref.ensures.value c.in-Some.ensures

pub returns-in-None : goal.returns-in-None
returns-in-None c =
    let fits : SFits w32 c.args.call = search rules in
    message_else (map mark_of c.args.marks.now) (map turn_of c.args.turns.now) _ c.args.call c.answer_of.result (to_z-of_z w32 c.args.call fits) c.in-None.ensures c.answer_of.ensures
