use Rattle.std.proofs.Common.{◌≡◌, ◌++◌, ◌∷◌, [], true, List, length, is_ok, refl, sym, ◌∙◌}
use Rattle.kmipa_store.specs.Histories.{fits, while_marked}
use Rattle.kmipa_store.specs.Journal.{aside_places, dated_at_marks, object_places, secret_places}
use Rattle.kmipa_store.specs.Present.{EachAwaited}
use Rattle.kmipa_store.specs.declared.changes.Place.{Place}
use Rattle.kmipa_store.specs.States.{asides_of}
use Rattle.kmipa_store.proofs.AwaitLemmas.{each_marked}
use Rattle.kmipa_store.proofs.HistoryLemmas.{marked_stays}
use Rattle.kmipa_store.proofs.JournalLemmas.{fits_marked, length-marks, journal_marked, pushed_or_not}
use Rattle.kmipa_store.proofs.journal.JournalLedger.mark.Goals as goal

pub returns-clause-meaning : goal.returns-clause-meaning
returns-clause-meaning c =
    let j = c.args.self.now in (
      c.len-4.ensures ∙ c.push.new.self.ok.0 ∙ sym (length-marks j.present.dated j.object_changes.items j.secrets j.secret_changes.items (asides_of j) c.push.new.self.items),
      journal_marked j.present.dated j.object_changes.items j.secrets j.secret_changes.items (asides_of j) j.places.items c.push.new.self.items (record { objects = c.len.result; secrets = c.len-2.result; asides = c.len-3.result; rest = j.rest; over = j.over })
          c.in_ok-push.ensures.items (c.len.ensures ∙ j.object_changes.ok.0) (c.len-2.ensures ∙ j.secret_changes.ok.0) (c.len-3.ensures ∙ j.aside_changes.ok.0) refl refl,
    )

pub invariant_of-self : goal.invariant_of-self
invariant_of-self c =
    let j = c.args.self.now in
    let cs = j.object_changes.items in
    let ds = j.secret_changes.items in
    let bs = j.aside_changes.items in
    let ps = j.places.items in
    let p : Place = record { objects = c.len.result; secrets = c.len-2.result; asides = c.len-3.result; rest = j.rest; over = j.over } in
    let more : List Place = ps ++ p ∷ [] in
    let both = pushed_or_not (is_ok c.push.result) ps c.push.new.self.items p c.push.ensures.items in
    let o : c.len.result ≡ length cs = c.len.ensures ∙ j.object_changes.ok.0 in
    let s : c.len-2.result ≡ length ds = c.len-2.ensures ∙ j.secret_changes.ok.0 in
    let a : c.len-3.result ≡ length bs = c.len-3.ensures ∙ j.aside_changes.ok.0 in
    record {
      objects_fit = both (λ qs. fits (length cs) (object_places qs) ≡ true) (fits_marked (λ (q : Place). q.objects) (length cs) ps p o j.objects_fit) j.objects_fit;
      secrets_fit = both (λ qs. fits (length ds) (secret_places qs) ≡ true) (fits_marked (λ (q : Place). q.secrets) (length ds) ps p s j.secrets_fit) j.secrets_fit;
      asides_fit = both (λ qs. fits (length bs) (aside_places qs) ≡ true) (fits_marked (λ (q : Place). q.asides) (length bs) ps p a j.asides_fit) j.asides_fit;
      awaited_now = j.awaited_now;
      awaited_then = both (λ qs. EachAwaited (dated_at_marks j.present.dated cs qs)) (each_marked j.present.dated cs ps more p refl o j.awaited_now j.awaited_then) j.awaited_then;
      objects_forgotten = both (λ qs. while_marked qs cs ≡ cs) (marked_stays ps more p cs refl) j.objects_forgotten;
      secrets_forgotten = both (λ qs. while_marked qs ds ≡ ds) (marked_stays ps more p ds refl) j.secrets_forgotten;
      asides_forgotten = both (λ qs. while_marked qs bs ≡ bs) (marked_stays ps more p bs refl) j.asides_forgotten;
    }
