use Rattle.std.proofs.Common.{List}
use Rattle.kmipa_object.specs.Lists.{updated}
use Rattle.kmipa_store.specs.Ledger.{Held, held}
use Rattle.kmipa_store.specs.States.{asides_of}
use Rattle.kmipa_store.proofs.AwaitLemmas.{awaited_after, each_after, fits_after, forgotten_after}
use Rattle.kmipa_store.proofs.JournalLemmas.{journal_renews}
use Rattle.kmipa_store.proofs.journal.JournalLedger.renew.Goals as goal

pub invariant_of-self : goal.invariant_of-self
invariant_of-self c =
    let j = c.args.self.now in
    let p = c.renew_object in
    let wanted : List Held = updated j.present.dated.objects c.args.place (λ _. held c.args.object) in
    record {
      objects_fit = fits_after j.places.items j.present p.new.present j.object_changes.items p.new.changes.items wanted p.result p.ensures j.objects_fit;
      secrets_fit = j.secrets_fit;
      asides_fit = j.asides_fit;
      awaited_now = awaited_after j.places.items j.present p.new.present j.object_changes.items p.new.changes.items wanted p.result p.ensures j.awaited_now;
      awaited_then = each_after j.places.items j.present p.new.present j.object_changes.items p.new.changes.items wanted p.result p.ensures j.objects_fit j.awaited_then;
      objects_forgotten = forgotten_after j.places.items j.present p.new.present j.object_changes.items p.new.changes.items wanted p.result p.ensures j.objects_forgotten;
      secrets_forgotten = j.secrets_forgotten;
      asides_forgotten = j.asides_forgotten;
    }

pub returns-clause-meaning : goal.returns-clause-meaning
returns-clause-meaning c =
    let j = c.args.self.now in
    let p = c.renew_object in
    journal_renews j.present p.new.present j.object_changes.items p.new.changes.items j.secrets j.secret_changes.items (asides_of j) j.places.items c.args.place (held c.args.object) p.result p.ensures j.objects_fit
