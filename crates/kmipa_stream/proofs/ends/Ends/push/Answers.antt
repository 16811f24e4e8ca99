use Rattle.std.proofs.Common.{refl, rules}
use mir.Val.{SFits, to_z, of_z}
use mir.Syntax.{w32}
use Rattle.std.proofs.lemmas.Int.{to_z-of_z}
use Rattle.kmipa_stream.proofs.WaitingLemmas.{wait_push}
use Rattle.kmipa_stream.proofs.ends.Ends.push.Goals as goal

pub returns : goal.returns
returns c = λ marks turns count answered w at.
    let fits : SFits w32 c.args.number = search rules in
    wait_push marks turns count c.args.number answered c.args.self.now (record { seen = c.push.new.self; passed = c.args.self.now.passed })
    (record { number = to_z w32 (of_z w32 c.args.number); place = c.args.place }) w c.in_ok-push.ensures.items refl (to_z-of_z w32 c.args.number fits) at
