use Rattle.std.specs.Int.{w64}
use Rattle.std.proofs.lemmas.Int.{to_z-of_z}
use Rattle.kmipa_msgs.specs.Messages.{answer_of, ask_of}
use Rattle.kmipa_aside.specs.Becoming.{stand_in}
use Rattle.kmipa_aside.specs.Sights.{sight_of}
use Rattle.kmipa_aside.proofs.MissedLemmas.{all_missing, any_missed}
use Rattle.kmipa_aside.proofs.missing.missing.Goals as goal

pub returns-then-not-is_any : goal.returns-then-not-is_any
returns-then-not-is_any g c =
    any_missed (sight_of c.args.sight) (stand_in (g.L.Ledger.state c.args.ledger.now).now) (ask_of c.args.ask.now) (answer_of c.args.answer.now) _ c.args.t (to_z-of_z w64 c.args.t c.ranges.t)
    c.in_ok-missed.missed.items c.as_slice.result.now c.in_ok-missed.ensures c.as_slice.ensures.value c.is_any.result c.is_any.ensures c.if-not-is_any.true

pub returns : goal.returns
returns g c =
    all_missing (sight_of c.args.sight) (stand_in (g.L.Ledger.state c.args.ledger.now).now) (ask_of c.args.ask.now) (answer_of c.args.answer.now) _ c.args.t (to_z-of_z w64 c.args.t c.ranges.t)
    c.in_ok-missed.missed.items c.as_slice.result.now c.in_ok-missed.ensures c.as_slice.ensures.value c.is_any.result c.is_any.ensures c.if-not-is_any.false c.as_slice-2.result.now c.as_slice-2.ensures.value
    c.with_missed.result c.with_missed.ensures
