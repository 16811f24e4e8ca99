use Rattle.std.proofs.Common.{◌∙◌, map, sym}
use Rattle.std.specs.Int.{w64}
use Rattle.std.proofs.lemmas.Int.{to_z-of_z}
use Rattle.kmipa_msgs.specs.Messages.{answer_of, ask_of, lent}
use Rattle.kmipa_aside.specs.Becoming.{stand_in}
use Rattle.kmipa_aside.specs.Sights.{sight_of}
use Rattle.kmipa_aside.proofs.MissedLemmas.{missed_done}
use Rattle.kmipa_aside.proofs.missed.missed.Goals as goal

pub returns : goal.returns
returns g c =
    missed_done (sight_of c.args.sight) (stand_in (g.L.Ledger.state c.args.ledger.now).now) (ask_of c.args.ask.now) (answer_of c.args.answer.now) _ c.args.t (to_z-of_z w64 c.args.t c.ranges.t)
    (sym c.is_over.ensures ∙ c.if-is_over.false) (sym c.is_failed.ensures ∙ c.if-is_failed.false) (map lent c.in_ok-ids.ids.items) c.in_ok-ids.ensures
