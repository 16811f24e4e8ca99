use Rattle.std.proofs.Common.{map, arith}
use Rattle.std.proofs.lemmas.List.{length-map}
use Rattle.kmipa_record.specs.Witnesses.{FillOf, fill_of}
use Rattle.kmipa_check.specs.Fills.{IsFor}
use Rattle.kmipa_check.proofs.PlaceLemmas.{at_contains, contains_at, mapped_at}
use Rattle.kmipa_unfit.proofs.BelowLemmas.{each_all, each_more}
use Rattle.kmipa_unfit.proofs.fills.has_fill.Goals as goal

pub returns-then-is_for : goal.returns-then-is_for
returns-then-is_for c = (
  fill_of c.index-fills-at.result,
  contains_at (map fill_of c.args.fills.now) c.fills.at (fill_of c.index-fills-at.result)
      (mapped_at fill_of c.args.fills.now c.fills.at c.index-fills-at.result c.fills-test.true c.index-fills-at.is),
  c.if-is_for.ensures,
)

pub fills-preserved : goal.fills-preserved
fills-preserved c =
    each_more (λ (f : FillOf). IsFor f c.args.place → ⊥) (map fill_of c.args.fills.now) c.fills.at (fill_of c.index-fills-at.result)
    (mapped_at fill_of c.args.fills.now c.fills.at c.index-fills-at.result c.fills-test.true c.index-fills-at.is) c.if-is_for.ensures c.fills.invariant

pub returns : goal.returns
returns c = λ has.
    let at = at_contains (map fill_of c.args.fills.now) has.0 has.1 in
    each_all (λ (f : FillOf). IsFor f c.args.place → ⊥) (map fill_of c.args.fills.now) c.fills.at (omega (arith, c.fills-test.false, length-map c.args.fills.now fill_of)) c.fills.invariant
    at.0 has.0 at.1 has.2
