use Rattle.std.proofs.Common.{List}
use Rattle.kmipa_store.specs.Ledger.{Held, relived}
use Rattle.kmipa_store.specs.States.{asides_of}
use Rattle.kmipa_store.proofs.AwaitLemmas.{awaited_after, each_after, fits_after, forgotten_after}
use Rattle.kmipa_store.proofs.JournalLemmas.{journal_replaces}
use Rattle.kmipa_store.proofs.journal.JournalLedger.replace.Goals as goal

pub invariant_of-self : goal.invariant_of-self
invariant_of-self c =
    let j = c.args.self.now in
    let p = c.set_life in
    let wanted : List Held = relived j.present.dated.objects c.args.place c.args.life in
    record {
      objects_fit = fits_after j.places.items j.present p.new.present j.object_changes.items p.new.changes.items wanted p.result p.ensures j.objects_fit;
      secrets_fit = j.secrets_fit;
      asides_fit = j.asides_fit;
      awaited_now = awaited_after j.places.items j.present p.new.present j.object_changes.items p.new.changes.items wanted p.result p.ensures j.awaited_now;
      awaited_then = each_after j.places.items j.present p.new.present j.object_changes.items p.new.changes.items wanted p.result p.ensures j.objects_fit j.awaited_then;
      objects_forgotten = forgotten_after j.places.items j.present p.new.present j.object_changes.items p.new.changes.items wanted p.result p.ensures j.objects_forgotten;
      secrets_forgotten = j.secrets_forgotten;
      asides_forgotten = j.asides_forgotten;
    }

pub returns-clause-meaning : goal.returns-clause-meaning
returns-clause-meaning c =
    let j = c.args.self.now in
    let p = c.set_life in
    journal_replaces j.present p.new.present j.object_changes.items p.new.changes.items j.secrets j.secret_changes.items (asides_of j) j.places.items c.args.place c.args.life p.result p.ensures j.objects_fit
