use Rattle.kmipa_segments.proofs.LeavingLemmas.{long_at, none_more, none_of_all, refuted}
use Rattle.kmipa_segments.proofs.leaving.first_too_long.Goals as goal

pub returns-then-branch-clause-first : goal.returns-then-branch-clause-first
returns-then-branch-clause-first c = (
  c.entries.invariant,
  long_at c.args.entries.now c.entries.place c.index-entries-place.result c.entries-test.true c.index-entries-place.is (c.in_ok-is_too_long.ensures.0 c.if-branch.true),
)

pub entries-preserved : goal.entries-preserved
entries-preserved c =
    none_more c.args.entries.now c.entries.place c.index-entries-place.result c.entries-test.true c.index-entries-place.is
    (refuted c.in_ok-is_too_long.field-0 c.if-branch.false c.in_ok-is_too_long.ensures.1) c.entries.invariant

pub returns-clause-first : goal.returns-clause-first
returns-clause-first c = none_of_all c.args.entries.now c.entries.place c.entries-test.false c.entries.invariant
