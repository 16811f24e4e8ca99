use Rattle.std.proofs.Common.{◌∙◌, map, Some, option_map, refl, sym, ap, arith}
use Rattle.std.proofs.lemmas.List.{length-map}
use Rattle.kmipa_check.proofs.PlaceLemmas.{mapped_at}
use Rattle.kmipa_explain.specs.Reading.{seen_item}
use Rattle.kmipa_explain.specs.Stories.{event_of, makes_it}
use Rattle.kmipa_explain.proofs.KeptLemmas.{sought_found, sought_more, sought_none}
use Rattle.kmipa_explain.proofs.story.birth_behind.Goals as goal

pub items-init : goal.items-init
items-init c = refl

pub items-preserved : goal.items-preserved
items-preserved c =
    sought_more (makes_it c.args.id.now) (map seen_item c.args.items.now) c.args.first c.items.place (seen_item c.index-items-place.result)
    (mapped_at seen_item c.args.items.now c.items.place c.index-items-place.result c.items-test.true c.index-items-place.is)
    (sym c.if-makes_it.false ∙ c.makes_it.ensures) c.items.invariant

pub returns-then-makes_it : goal.returns-then-makes_it
returns-then-makes_it c =
    ap Some c.event_of.ensures
    ∙ ap (option_map event_of) (sym (sought_found (makes_it c.args.id.now) (map seen_item c.args.items.now) c.args.first c.items.place (seen_item c.index-items-place.result)
    (mapped_at seen_item c.args.items.now c.items.place c.index-items-place.result c.items-test.true c.index-items-place.is)
    (sym c.if-makes_it.true ∙ c.makes_it.ensures) c.items.invariant))

pub returns : goal.returns
returns c = ap (option_map event_of) (sym (sought_none (makes_it c.args.id.now) (map seen_item c.args.items.now) c.args.first c.items.place (omega (arith, c.items-test.false, length-map c.args.items.now seen_item)) c.items.invariant))
