use Rattle.std.proofs.Common.{◌∙◌, map, Some, option_map, refl, sym, ap, arith}
use Rattle.std.proofs.lemmas.List.{length-map}
use Rattle.kmipa_check.proofs.PlaceLemmas.{mapped_at}
use Rattle.kmipa_explain.specs.Reading.{seen_item, test_of}
use Rattle.kmipa_explain.specs.Stories.{event_of}
use Rattle.kmipa_explain.proofs.KeptLemmas.{sought_found, sought_more, sought_none}
use Rattle.kmipa_explain.proofs.sought.first_event.Goals as goal

pub items-init : goal.items-init
items-init c = refl

pub items-preserved : goal.items-preserved
items-preserved c =
    sought_more (test_of c.args.now c.args.id.now c.args.sought) (map seen_item c.args.ahead.now) 0 c.items.place (seen_item c.index-ahead-place.result)
    (mapped_at seen_item c.args.ahead.now c.items.place c.index-ahead-place.result c.items-test.true c.index-ahead-place.is)
    (sym c.if-passes.false ∙ c.passes.ensures) c.items.invariant

pub returns-then-passes : goal.returns-then-passes
returns-then-passes c =
    ap Some c.event_of.ensures
    ∙ ap (option_map event_of) (sym (sought_found (test_of c.args.now c.args.id.now c.args.sought) (map seen_item c.args.ahead.now) 0 c.items.place (seen_item c.index-ahead-place.result)
    (mapped_at seen_item c.args.ahead.now c.items.place c.index-ahead-place.result c.items-test.true c.index-ahead-place.is)
    (sym c.if-passes.true ∙ c.passes.ensures) c.items.invariant))

pub returns : goal.returns
returns c =
    ap (option_map event_of) (sym (sought_none (test_of c.args.now c.args.id.now c.args.sought) (map seen_item c.args.ahead.now) 0 c.items.place
    (omega (arith, c.items-test.false, length-map c.args.ahead.now seen_item)) c.items.invariant))
