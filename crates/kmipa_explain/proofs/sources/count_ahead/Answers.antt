use Rattle.std.proofs.Common.{◌∙◌, map, sym, arith}
use Rattle.std.proofs.lemmas.List.{length-map}
use Rattle.kmipa_check.proofs.PlaceLemmas.{mapped_at}
use Rattle.kmipa_explain.specs.Reading.{seen_item}
use Rattle.kmipa_explain.specs.Sources.{is_at}
use Rattle.kmipa_explain.proofs.AheadLemmas.{counted_all, counted_found, counted_more, counted_none}
use Rattle.kmipa_explain.proofs.sources.count_ahead.Goals as goal

pub items-init : goal.items-init
items-init c = counted_none (is_at c.args.refused) (map seen_item c.args.items.now)

pub items-preserved : goal.items-preserved
items-preserved c =
    counted_more (is_at c.args.refused) (map seen_item c.args.items.now) c.items.place (seen_item c.index-items-place.result)
    (omega (arith, c.items-test.true, length-map c.args.items.now seen_item))
    (mapped_at seen_item c.args.items.now c.items.place c.index-items-place.result c.items-test.true c.index-items-place.is)
    (sym c.if-is_at.false ∙ c.is_at.ensures) c.items.invariant

pub returns-then-is_at : goal.returns-then-is_at
returns-then-is_at c = record {
  ahead =
      counted_found (is_at c.args.refused) (map seen_item c.args.items.now) c.items.place (seen_item c.index-items-place.result)
      (mapped_at seen_item c.args.items.now c.items.place c.index-items-place.result c.items-test.true c.index-items-place.is)
      (sym c.if-is_at.true ∙ c.is_at.ensures) c.items.invariant;
  within = omega (arith, c.items-test.true);
}

pub returns : goal.returns
returns c = record {
  ahead = counted_all (is_at c.args.refused) (map seen_item c.args.items.now) c.items.place (omega (arith, c.items-test.false, length-map c.args.items.now seen_item)) c.items.invariant;
  within = omega (arith, c.items.invariant.within, length-map c.args.items.now seen_item);
}
