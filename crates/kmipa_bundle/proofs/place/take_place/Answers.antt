use Rattle.std.proofs.Common.{ap, w64}
use Rattle.std.proofs.lemmas.Int.{to_z-of_z}
use Rattle.kmipa_msgs.specs.Messages.{answer_of, ask_of}
use Rattle.kmipa_passed.specs.Leaving.{held_of}
use Rattle.kmipa_aside.specs.Passed.{passed_of}
use Rattle.kmipa_aside.specs.Sights.{sight_of}
use Rattle.kmipa_places.specs.Places.{place_of}
use Rattle.kmipa_bundle.proofs.PlaceLemmas.{judged_taken, passed_taken}
use Rattle.kmipa_bundle.proofs.place.take_place.Goals as goal

pub returns-in-Judged : goal.returns-in-Judged
returns-in-Judged g c =
    judged_taken (sight_of c.args.sight) (g.L.Ledger.state c.args.ledger.now) (held_of c.args.before) _ c.args.t (to_z-of_z w64 c.args.t c.ranges.t) (place_of c.args.place.now)
    (ask_of c.in-Judged.ask) (answer_of c.in-Judged.answer) (ap place_of c.in-Judged.is) c.take_in_sight.result (g.L.Ledger.state c.take_in_sight.new.ledger) c.take_in_sight.ensures

pub returns-in-Passed : goal.returns-in-Passed
returns-in-Passed g c =
    passed_taken (sight_of c.args.sight) (g.L.Ledger.state c.args.ledger.now) (held_of c.args.before) _ c.args.t (to_z-of_z w64 c.args.t c.ranges.t) (place_of c.args.place.now)
    c.in-Passed.field-0 (passed_of c.in-Passed.passed) (ap place_of c.in-Passed.is) c.take_passed.result (g.L.Ledger.state c.take_passed.new.ledger) c.take_passed.ensures
