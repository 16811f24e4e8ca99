use Rattle.std.proofs.Common.{◌∙◌, length}
use Rattle.kmipa_store.specs.declared.changes.Place.{Place}
use Rattle.kmipa_store.specs.States.{asides_of}
use Rattle.kmipa_store.proofs.AwaitLemmas.{each_forgotten, each_kept}
use Rattle.kmipa_store.proofs.HistoryLemmas.{fits_forgotten, forgotten_again}
use Rattle.kmipa_store.proofs.JournalLemmas.{fits_popped, journal_kept, state_forgotten}
use Rattle.kmipa_store.proofs.journal.JournalLedger.keep.Goals as goal

pub invariant_of-self : goal.invariant_of-self
invariant_of-self c =
    let j = c.args.self.now in
    let ps = c.pop.new.self.items in
    let o = c.forget_unmarked in
    let s = c.forget_unmarked-2 in
    let a = c.forget_unmarked-3 in
    record {
      objects_fit = fits_forgotten (λ (p : Place). p.objects) ps j.object_changes.items o.new.changes.items o.ensures
          (fits_popped (λ (p : Place). p.objects) (length j.object_changes.items) j.places.items ps c.pop.result c.pop.ensures.items j.objects_fit);
      secrets_fit = fits_forgotten (λ (p : Place). p.secrets) ps j.secret_changes.items s.new.changes.items s.ensures
          (fits_popped (λ (p : Place). p.secrets) (length j.secret_changes.items) j.places.items ps c.pop.result c.pop.ensures.items j.secrets_fit);
      asides_fit = fits_forgotten (λ (p : Place). p.asides) ps j.aside_changes.items a.new.changes.items a.ensures
          (fits_popped (λ (p : Place). p.asides) (length j.aside_changes.items) j.places.items ps c.pop.result c.pop.ensures.items j.asides_fit);
      awaited_now = j.awaited_now;
      awaited_then = each_forgotten j.present.dated j.object_changes.items o.new.changes.items ps o.ensures (each_kept j.present.dated j.object_changes.items j.places.items ps c.pop.result c.pop.ensures.items j.objects_fit j.awaited_then);
      objects_forgotten = forgotten_again ps j.object_changes.items o.new.changes.items o.ensures;
      secrets_forgotten = forgotten_again ps j.secret_changes.items s.new.changes.items s.ensures;
      asides_forgotten = forgotten_again ps j.aside_changes.items a.new.changes.items a.ensures;
    }

pub returns-clause-meaning : goal.returns-clause-meaning
returns-clause-meaning c =
    let j = c.args.self.now in
    let ps = c.pop.new.self.items in
    let o = c.forget_unmarked in
    let s = c.forget_unmarked-2 in
    let a = c.forget_unmarked-3 in
    state_forgotten j.present.dated j.object_changes.items o.new.changes.items j.secrets j.secret_changes.items s.new.changes.items j.asides j.aside_changes.items a.new.changes.items j.rest j.over ps o.ensures s.ensures a.ensures
    ∙ journal_kept j.present.dated j.object_changes.items j.secrets j.secret_changes.items (asides_of j) j.places.items ps j.places.len c.pop.new.self.len
    c.pop.result j.places.ok.0 c.pop.new.self.ok.0 c.pop.ensures.items c.pop.ensures.cases j.objects_fit j.secrets_fit j.asides_fit
