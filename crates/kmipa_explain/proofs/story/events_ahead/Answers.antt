use Rattle.std.proofs.Common.{map, take, refl, arith}
use Rattle.std.proofs.lemmas.List.{length-map, length-take-le}
use Rattle.kmipa_check.proofs.PlaceLemmas.{mapped_at}
use Rattle.kmipa_check.proofs.RecordedLemmas.{taken_at}
use Rattle.kmipa_explain.specs.Reading.{seen_item}
use Rattle.kmipa_explain.specs.Stories.{event_of, happens_to}
use Rattle.kmipa_explain.proofs.KeptLemmas.{kept_all, kept_more, kept_none}
use Rattle.kmipa_explain.proofs.story.events_ahead.Goals as goal

pub items-init : goal.items-init
items-init c = kept_none (happens_to c.args.id.now) event_of (take c.args.at (map seen_item c.args.items.now)) 0 c.new-events.result.items c.new-events.ensures.items

pub items-preserved : goal.items-preserved
items-preserved c =
    let item = seen_item c.index-items-place.result in
    let at = mapped_at seen_item c.args.items.now c.items.place c.index-items-place.result (omega (arith, c.items-test.true, c.requires)) c.index-items-place.is in
    kept_more (happens_to c.args.id.now) event_of (take c.args.at (map seen_item c.args.items.now)) 0 c.items.place item c.items.events.items c.note.new.events.items
    (happens_to c.args.id.now item) (taken_at (map seen_item c.args.items.now) c.items.place c.args.at item c.items-test.true at) refl c.in_ok-note.ensures c.items.invariant

pub returns : goal.returns
returns c =
    kept_all (happens_to c.args.id.now) event_of (take c.args.at (map seen_item c.args.items.now)) 0 c.items.place c.items.events.items
    (omega (arith, c.items-test.false, length-take-le c.args.at (map seen_item c.args.items.now) (omega (arith, c.requires, length-map c.args.items.now seen_item)))) c.items.invariant
