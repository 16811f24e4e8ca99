use Rattle.std.proofs.Common.{◌∙◌, map, sym, arith}
use Rattle.std.proofs.lemmas.List.{length-map}
use Rattle.kmipa_check.proofs.PlaceLemmas.{mapped_at}
use Rattle.kmipa_explain.specs.Reading.{is_that, seen_item}
use Rattle.kmipa_explain.proofs.KeptLemmas.{none_all, none_first, none_more}
use Rattle.kmipa_explain.proofs.story.refused_place.Goals as goal

pub items-init : goal.items-init
items-init c = none_first (is_that c.args.refused) (map seen_item c.args.items.now)

pub items-preserved : goal.items-preserved
items-preserved c =
    none_more (is_that c.args.refused) (map seen_item c.args.items.now) c.items.place (seen_item c.index-items-place.result)
    (mapped_at seen_item c.args.items.now c.items.place c.index-items-place.result c.items-test.true c.index-items-place.is)
    (sym c.if-is_that.false ∙ c.is_that.ensures) c.items.invariant

pub returns-then-is_that : goal.returns-then-is_that
returns-then-is_that c = record {
  found = (
    seen_item c.index-items-place.result,
    mapped_at seen_item c.args.items.now c.items.place c.index-items-place.result c.items-test.true c.index-items-place.is,
    sym c.is_that.ensures ∙ c.if-is_that.true,
  );
  within = c.items-test.true;
}

pub returns : goal.returns
returns c = record {
  found = none_all (is_that c.args.refused) (map seen_item c.args.items.now) c.items.place (omega (arith, c.items-test.false, length-map c.args.items.now seen_item)) c.items.invariant;
  within = tt;
}
