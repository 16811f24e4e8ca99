use Rattle.std.proofs.Common.{◌++◌, ◌∷◌, [], true, List, sym, ◌∙◌}
use Rattle.kmipa_store.specs.Aside.{Entry}
use Rattle.kmipa_store.specs.AsideIds.{aside_unmade, said}
use Rattle.kmipa_store.specs.declared.changes.Place.{Place}
use Rattle.kmipa_store.proofs.AsideLemmas.{misses, stands}
use Rattle.kmipa_store.proofs.HistoryLemmas.{fits_logs, forgotten_logs}
use Rattle.kmipa_store.proofs.JournalLemmas.{journal_sets_aside}
use Rattle.kmipa_store.proofs.journal.JournalLedger.set_aside.Goals as goal

pub invariant_of-self : goal.invariant_of-self
invariant_of-self c =
    let j = c.args.self.now in
    let p = c.say_aside in
    let wanted : List Entry = said j.asides c.in-Some.place true in
    record {
      objects_fit = j.objects_fit;
      secrets_fit = j.secrets_fit;
      asides_fit = fits_logs aside_unmade (λ (q : Place). q.asides) j.places.items wanted j.asides p.new.asides j.aside_changes.items p.new.changes.items p.result p.ensures j.asides_fit;
      awaited_now = j.awaited_now;
      awaited_then = j.awaited_then;
      objects_forgotten = j.objects_forgotten;
      secrets_forgotten = j.secrets_forgotten;
      asides_forgotten = forgotten_logs aside_unmade j.places.items wanted j.asides p.new.asides j.aside_changes.items p.new.changes.items p.result p.ensures j.asides_forgotten;
    }

pub invariant_of-self-in-None : goal.invariant_of-self-in-None
invariant_of-self-in-None c =
    let j = c.args.self.now in
    let p = c.push_aside in
    let wanted : List Entry = j.asides ++ (c.args.id.now, true) ∷ [] in
    record {
      objects_fit = j.objects_fit;
      secrets_fit = j.secrets_fit;
      asides_fit = fits_logs aside_unmade (λ (q : Place). q.asides) j.places.items wanted j.asides p.new.asides j.aside_changes.items p.new.changes.items p.result p.ensures j.asides_fit;
      awaited_now = j.awaited_now;
      awaited_then = j.awaited_then;
      objects_forgotten = j.objects_forgotten;
      secrets_forgotten = j.secrets_forgotten;
      asides_forgotten = forgotten_logs aside_unmade j.places.items wanted j.asides p.new.asides j.aside_changes.items p.new.changes.items p.result p.ensures j.asides_forgotten;
    }

pub returns-in-Some-clause-meaning : goal.returns-in-Some-clause-meaning
returns-in-Some-clause-meaning c =
    let j = c.args.self.now in
    let p = c.say_aside in
    let wanted : List Entry = said j.asides c.in-Some.place true in
    journal_sets_aside j.present.dated j.object_changes.items j.secrets j.secret_changes.items j.asides p.new.asides wanted j.aside_changes.items p.new.changes.items j.rest j.over j.places.items c.args.id.now p.result p.ensures
    (stands c.args.id.now j.asides c.in-Some.place (sym c.in-Some.is ∙ c.find.ensures.place)).aside j.asides_fit

pub returns-in-None-clause-meaning : goal.returns-in-None-clause-meaning
returns-in-None-clause-meaning c =
    let j = c.args.self.now in
    let p = c.push_aside in
    let wanted : List Entry = j.asides ++ (c.args.id.now, true) ∷ [] in
    journal_sets_aside j.present.dated j.object_changes.items j.secrets j.secret_changes.items j.asides p.new.asides wanted j.aside_changes.items p.new.changes.items j.rest j.over j.places.items c.args.id.now p.result p.ensures
    (misses c.args.id.now j.asides (sym c.in-None.is ∙ c.find.ensures.place)).aside j.asides_fit
