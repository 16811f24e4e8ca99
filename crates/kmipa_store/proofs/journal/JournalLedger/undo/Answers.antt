use Rattle.std.proofs.Common.{◌∙◌, length, Some, None}
use Rattle.kmipa_store.specs.AsideIds.{aside_unmade}
use Rattle.kmipa_store.specs.declared.changes.Place.{Place}
use Rattle.kmipa_store.specs.Present.{dated_unmade}
use Rattle.kmipa_store.specs.States.{asides_of}
use Rattle.kmipa_store.proofs.AwaitLemmas.{each_back, each_forgotten, each_kept, rolled_dated, rolled_moment}
use Rattle.kmipa_store.proofs.HistoryLemmas.{fits_forgotten, forgotten_again}
use Rattle.kmipa_store.proofs.JournalLemmas.{fits_back, fits_popped, forgotten_empty, journal_undone, state_forgotten}
use Rattle.kmipa_store.proofs.journal.JournalLedger.undo.Goals as goal

pub invariant_of-self : goal.invariant_of-self
invariant_of-self c =
    let j = c.args.self.now in
    let ps = c.pop.new.self.items in
    record {
      objects_fit = fits_popped (λ (p : Place). p.objects) (length j.object_changes.items) j.places.items ps None c.in_default.ensures.items j.objects_fit;
      secrets_fit = fits_popped (λ (p : Place). p.secrets) (length j.secret_changes.items) j.places.items ps None c.in_default.ensures.items j.secrets_fit;
      asides_fit = fits_popped (λ (p : Place). p.asides) (length j.aside_changes.items) j.places.items ps None c.in_default.ensures.items j.asides_fit;
      awaited_now = j.awaited_now;
      awaited_then = each_kept j.present.dated j.object_changes.items j.places.items ps None c.in_default.ensures.items j.objects_fit j.awaited_then;
      objects_forgotten = forgotten_empty j.places.items ps j.object_changes.items c.in_default.ensures.items j.objects_forgotten;
      secrets_forgotten = forgotten_empty j.places.items ps j.secret_changes.items c.in_default.ensures.items j.secrets_forgotten;
      asides_forgotten = forgotten_empty j.places.items ps j.aside_changes.items c.in_default.ensures.items j.asides_forgotten;
    }

pub invariant_of-self-2 : goal.invariant_of-self-2
invariant_of-self-2 c =
    let j = c.args.self.now in
    let ps = c.pop.new.self.items in
    let r = c.roll_back in
    let o = c.forget_unmarked in
    let y = r.new.subject in
    let d = rolled_dated j.present y j.object_changes.items r.new.changes.items c.in-Some.newest.objects r.ensures in
    let e = each_back j.present.dated y.dated j.object_changes.items r.new.changes.items j.places.items ps c.in-Some.newest c.in-Some.ensures.items d j.awaited_then in
    let s = c.forget_unmarked-2 in
    let b = c.roll_back-2 in
    let a = c.forget_unmarked-3 in
    record {
      objects_fit = fits_forgotten (λ (p : Place). p.objects) ps r.new.changes.items o.new.changes.items o.ensures
          (fits_back dated_unmade j.present.dated y.dated j.object_changes.items r.new.changes.items (λ (p : Place). p.objects) j.places.items ps c.in-Some.newest c.in-Some.ensures.items d j.objects_fit);
      secrets_fit = fits_forgotten (λ (p : Place). p.secrets) ps j.secret_changes.items s.new.changes.items s.ensures
          (fits_popped (λ (p : Place). p.secrets) (length j.secret_changes.items) j.places.items ps (Some c.in-Some.newest) c.in-Some.ensures.items j.secrets_fit);
      asides_fit = fits_forgotten (λ (p : Place). p.asides) ps b.new.changes.items a.new.changes.items a.ensures
          (fits_back aside_unmade j.asides b.new.subject j.aside_changes.items b.new.changes.items (λ (p : Place). p.asides) j.places.items ps c.in-Some.newest c.in-Some.ensures.items b.ensures j.asides_fit);
      awaited_now = e.0;
      awaited_then = each_forgotten y.dated r.new.changes.items o.new.changes.items ps o.ensures e.1;
      objects_forgotten = forgotten_again ps r.new.changes.items o.new.changes.items o.ensures;
      secrets_forgotten = forgotten_again ps j.secret_changes.items s.new.changes.items s.ensures;
      asides_forgotten = forgotten_again ps b.new.changes.items a.new.changes.items a.ensures;
    }

pub returns-clause-meaning : goal.returns-clause-meaning
returns-clause-meaning c =
    let j = c.args.self.now in
    let ps = c.pop.new.self.items in
    let r = c.roll_back in
    let y = r.new.subject in
    let d = rolled_dated j.present y j.object_changes.items r.new.changes.items c.in-Some.newest.objects r.ensures in
    let b = c.roll_back-2 in
    let o = c.forget_unmarked in
    let s = c.forget_unmarked-2 in
    let a = c.forget_unmarked-3 in
    state_forgotten y.dated r.new.changes.items o.new.changes.items j.secrets j.secret_changes.items s.new.changes.items b.new.subject b.new.changes.items a.new.changes.items c.in-Some.newest.rest j.over ps o.ensures s.ensures a.ensures
    ∙ journal_undone j.present.dated y.dated j.object_changes.items r.new.changes.items j.secrets j.secret_changes.items (asides_of j) b.new.subject b.new.changes.items j.places.items ps c.in-Some.newest c.in-Some.ensures.items d j.secrets_fit b.ensures

pub returns-clause-moment : goal.returns-clause-moment
returns-clause-moment c = rolled_moment c.args.self.now.present c.roll_back.new.subject c.args.self.now.object_changes.items c.roll_back.new.changes.items c.in-Some.newest.objects c.roll_back.ensures
