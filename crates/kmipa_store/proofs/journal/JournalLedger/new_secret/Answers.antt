use Rattle.std.proofs.Common.{◌++◌, ◌∷◌, [], None, List, sym, ◌∙◌}
use Rattle.kmipa_store.specs.Ledger.{Known}
use Rattle.kmipa_store.specs.Journal.{secret_unmade}
use Rattle.kmipa_store.specs.declared.changes.Place.{Place}
use Rattle.kmipa_store.specs.States.{asides_of}
use Rattle.kmipa_store.proofs.HistoryLemmas.{fits_logs, forgotten_logs}
use Rattle.kmipa_store.proofs.JournalLemmas.{secrets_logged}
use Rattle.kmipa_store.proofs.journal.JournalLedger.new_secret.Goals as goal

pub invariant_of-self : goal.invariant_of-self
invariant_of-self c =
    let j = c.args.self.now in
    let p = c.push_secret in
    let wanted : List Known = j.secrets ++ record { rule = c.args.rule; bytes = None } ∷ [] in
    record {
      objects_fit = j.objects_fit;
      secrets_fit = fits_logs secret_unmade (λ (q : Place). q.secrets) j.places.items wanted j.secrets p.new.secrets j.secret_changes.items p.new.changes.items p.result p.ensures j.secrets_fit;
      asides_fit = j.asides_fit;
      awaited_now = j.awaited_now;
      awaited_then = j.awaited_then;
      objects_forgotten = j.objects_forgotten;
      secrets_forgotten = forgotten_logs secret_unmade j.places.items wanted j.secrets p.new.secrets j.secret_changes.items p.new.changes.items p.result p.ensures j.secrets_forgotten;
      asides_forgotten = j.asides_forgotten;
    }

pub returns-clause-meaning : goal.returns-clause-meaning
returns-clause-meaning c =
    let j = c.args.self.now in
    let p = c.push_secret in
    let wanted : List Known = j.secrets ++ record { rule = c.args.rule; bytes = None } ∷ [] in
    let l = c.in_ok-push_secret.ensures in (
      sym c.is_possible.ensures ∙ c.if-not-is_possible.false,
      c.len-number.ensures,
      secrets_logged j.present.dated j.object_changes.items j.secrets p.new.secrets wanted j.secret_changes.items p.new.changes.items (asides_of j) j.places.items l.0 l.1 j.secrets_fit,
    )
