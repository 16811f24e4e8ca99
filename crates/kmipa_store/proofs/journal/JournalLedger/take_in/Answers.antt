use Rattle.std.proofs.Common.{false, List, sym, ◌∙◌}
use Rattle.kmipa_store.specs.Aside.{Entry}
use Rattle.kmipa_store.specs.AsideIds.{aside_unmade, said}
use Rattle.kmipa_store.specs.States.{state_of_journal}
use Rattle.kmipa_store.specs.declared.changes.Place.{Place}
use Rattle.kmipa_store.proofs.AsideLemmas.{stands, taken_in_none}
use Rattle.kmipa_store.proofs.HistoryLemmas.{fits_logs, forgotten_logs}
use Rattle.kmipa_store.proofs.JournalLemmas.{journal_takes_in}
use Rattle.kmipa_store.proofs.journal.JournalLedger.take_in.Goals as goal

pub invariant_of-self : goal.invariant_of-self
invariant_of-self c =
    let j = c.args.self.now in
    let p = c.say_aside in
    let wanted : List Entry = said j.asides c.in-Some.place false in
    record {
      objects_fit = j.objects_fit;
      secrets_fit = j.secrets_fit;
      asides_fit = fits_logs aside_unmade (λ (q : Place). q.asides) j.places.items wanted j.asides p.new.asides j.aside_changes.items p.new.changes.items p.result p.ensures j.asides_fit;
      awaited_now = j.awaited_now;
      awaited_then = j.awaited_then;
      objects_forgotten = j.objects_forgotten;
      secrets_forgotten = j.secrets_forgotten;
      asides_forgotten = forgotten_logs aside_unmade j.places.items wanted j.asides p.new.asides j.aside_changes.items p.new.changes.items p.result p.ensures j.asides_forgotten;
    }

pub returns-in-Some-clause-meaning : goal.returns-in-Some-clause-meaning
returns-in-Some-clause-meaning c =
    let j = c.args.self.now in
    let p = c.say_aside in
    let wanted : List Entry = said j.asides c.in-Some.place false in
    journal_takes_in j.present.dated j.object_changes.items j.secrets j.secret_changes.items j.asides p.new.asides wanted j.aside_changes.items p.new.changes.items j.rest j.over j.places.items c.args.id.now p.result p.ensures
    (stands c.args.id.now j.asides c.in-Some.place (sym c.in-Some.is ∙ c.find.ensures.place)).taken j.asides_fit

pub returns-in-None-clause-meaning : goal.returns-in-None-clause-meaning
returns-in-None-clause-meaning c = taken_in_none (state_of_journal c.args.self.now) c.args.id.now (sym c.in-None.is ∙ c.find.ensures.place)
