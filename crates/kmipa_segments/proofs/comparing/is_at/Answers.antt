use Rattle.kmipa_record.specs.Entries.{entry_of}
use Rattle.kmipa_check.proofs.PlaceLemmas.{mapped_at}
use Rattle.kmipa_segments.proofs.comparing.is_at.Goals as goal

pub returns-then-place-entries : goal.returns-then-place-entries
returns-then-place-entries c = λ yes. (
  c.if-place-entries.true,
  (
    entry_of c.index-entries-place.result,
    mapped_at entry_of c.args.entries.now c.args.place c.index-entries-place.result c.if-place-entries.true c.index-entries-place.is,
    c.is_of.ensures.0 yes,
  ),
)
