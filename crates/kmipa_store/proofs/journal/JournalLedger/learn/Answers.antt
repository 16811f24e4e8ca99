use Rattle.std.proofs.Common.{Ok, slice_get, subst}
use Rattle.kmipa_store.specs.Ledger.{told}
use Rattle.kmipa_store.specs.Secrets.{Judges}
use Rattle.kmipa_store.specs.Journal.{secret_unmade}
use Rattle.kmipa_store.specs.declared.changes.Place.{Place}
use Rattle.kmipa_store.specs.States.{asides_of, state_of_journal}
use Rattle.kmipa_store.specs.declared.secrets.Lesson.{Lesson}
use Rattle.kmipa_store.proofs.HistoryLemmas.{fits_logs, forgotten_logs}
use Rattle.kmipa_store.proofs.LearnLemmas.{learns_known}
use Rattle.kmipa_store.proofs.JournalLemmas.{journal_tells}
use Rattle.kmipa_store.proofs.journal.JournalLedger.learn.Goals as goal

pub invariant_of-self : goal.invariant_of-self
invariant_of-self c =
    let j = c.args.self.now in
    let p = c.tell_secret in
    record {
      objects_fit = j.objects_fit;
      secrets_fit = fits_logs secret_unmade (λ (q : Place). q.secrets) j.places.items (told j.secrets c.args.secret.number c.in_ok-bytes-in-Ok-New.bytes.items) j.secrets p.new.secrets j.secret_changes.items p.new.changes.items p.result p.ensures j.secrets_fit;
      asides_fit = j.asides_fit;
      awaited_now = j.awaited_now;
      awaited_then = j.awaited_then;
      objects_forgotten = j.objects_forgotten;
      secrets_forgotten = forgotten_logs secret_unmade j.places.items (told j.secrets c.args.secret.number c.in_ok-bytes-in-Ok-New.bytes.items) j.secrets p.new.secrets j.secret_changes.items p.new.changes.items p.result p.ensures j.secrets_forgotten;
      asides_forgotten = j.asides_forgotten;
    }

pub returns-in-Ok-Old-clause-meaning : goal.returns-in-Ok-Old-clause-meaning
returns-in-Ok-Old-clause-meaning c =
    let P : Lesson → Type 0 = λ x. Judges (slice_get c.args.self.now.secrets c.args.secret.number) c.args.bytes.now (Ok x) in
    learns_known (state_of_journal c.args.self.now) c.args.secret.number c.args.bytes.now (subst P c.in-Ok-Old.field-0-is c.in-Ok-Old.ensures)

pub returns-in_ok-bytes-in-Ok-New-clause-meaning : goal.returns-in_ok-bytes-in-Ok-New-clause-meaning
returns-in_ok-bytes-in-Ok-New-clause-meaning c =
    let j = c.args.self.now in
    let p = c.tell_secret in
    let P : Lesson → Type 0 = λ x. Judges (slice_get j.secrets c.args.secret.number) c.args.bytes.now (Ok x) in
    journal_tells j.present.dated j.object_changes.items j.secrets p.new.secrets j.secret_changes.items p.new.changes.items (asides_of j) j.places.items c.args.secret.number
    c.in_ok-bytes-in-Ok-New.bytes.items c.args.bytes.now p.result p.ensures c.in_ok-bytes-in-Ok-New.ensures.items (subst P c.in-Ok-New.field-0-is c.in-Ok-New.ensures) j.secrets_fit
