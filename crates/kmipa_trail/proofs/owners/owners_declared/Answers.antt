use Rattle.std.proofs.Common.{map}
use Rattle.kmipa_record.specs.Entries.{EntryOf, entry_of}
use Rattle.kmipa_check.proofs.PlaceLemmas.{mapped_at}
use Rattle.kmipa_aside.specs.Sights.{owned_of}
use Rattle.kmipa_trail.specs.Owners.{owned_by, owners_declared}
use Rattle.kmipa_trail.proofs.GatherLemmas.{collected_more}
use Rattle.kmipa_trail.proofs.OwnersLemmas.{split_owners}
use Rattle.kmipa_trail.proofs.owners.owners_declared.Goals as goal

pub loop-entry-preserved : goal.loop-entry-preserved
loop-entry-preserved c =
    let e = c.entry-item.result in
    collected_more owners_declared (λ (x : EntryOf). owned_by x.id x.owner) split_owners (map entry_of c.args.entries.now) c.loop-entry.entry-index (entry_of e)
    (mapped_at entry_of c.args.entries.now c.loop-entry.entry-index e c.loop-entry-test.true c.entry-item.is) (map owned_of c.loop-entry.owners.items) (map owned_of c.push_owner.new.owners.items)
    c.in_ok-push_owner.ensures c.loop-entry.invariant
