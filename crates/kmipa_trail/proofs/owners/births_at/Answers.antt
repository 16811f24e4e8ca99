use Rattle.std.proofs.Common.{map}
use Rattle.kmipa_check.proofs.PlaceLemmas.{mapped_at}
use Rattle.kmipa_msgs.specs.Messages.{lent}
use Rattle.kmipa_places.specs.Places.{place_of}
use Rattle.kmipa_trail.specs.Owners.{births_at, born_at}
use Rattle.kmipa_trail.proofs.GatherLemmas.{collected_more}
use Rattle.kmipa_trail.proofs.OwnersLemmas.{split_births}
use Rattle.kmipa_trail.proofs.owners.births_at.Goals as goal

pub loop-place-preserved : goal.loop-place-preserved
loop-place-preserved c =
    let p = c.place-item.result in
    collected_more births_at born_at split_births (map place_of c.args.places.now) c.loop-place.place-index (place_of p)
    (mapped_at place_of c.args.places.now c.loop-place.place-index p c.loop-place-test.true c.place-item.is) (map lent c.loop-place.ids.items) (map lent c.push_born.new.ids.items)
    c.in_ok-push_born.ensures c.loop-place.invariant
