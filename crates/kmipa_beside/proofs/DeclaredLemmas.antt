-- The ledger of what was read of a declaration, and the rest that is set aside.
use Rattle.std.proofs.Common.{◌≡◌, Bool, true, false, List, [], refl, sym, ap, ◌∙◌, subst}
use Rattle.kmipa_store.specs.Aside.{AsideOf, Entry}
use Rattle.kmipa_store.specs.Choices.{IsSound}
use Rattle.kmipa_store.specs.Ledger.{LedgerState, with_aside}
use Rattle.kmipa_store.specs.States.{state_of_journal}
use Rattle.kmipa_store.proofs.SoundLemmas.{sound_aside}
use Rattle.kmipa_record.specs.Declarations.{DeclarationOf}
use Rattle.kmipa_record.specs.declared.settings.Settings.{Settings}
use Rattle.kmipa_check.specs.Described.{aside_declared, each_aside, is_rest_unknown}
use Rattle.kmipa_stream.specs.Opening.{Opens}
use Rattle.kmipa_stream.specs.declared.opening.Opening.{Opening}
use Rattle.kmipa_stream.proofs.OpeningLemmas.{all_known}
use Rattle.kmipa_trail.specs.Leading.{AreKnown}
use Rattle.kmipa_trail.specs.Setting.{with_rest}
use Rattle.kmipa_trail.proofs.OpeningLemmas.{world_known}

with_rest_aside : (s : LedgerState) (ids : List Entry) (rest : Bool) → s.now.aside ≡ record { ids = ids; rest = false; over = false }
    → with_rest rest s ≡ with_aside s (record { ids = ids; rest = rest; over = false })
with_rest_aside s ids true is = ap (λ (a : AsideOf). with_aside s (record { ids = a.ids; rest = true; over = a.over })) is
with_rest_aside s ids false is = ap (λ (a : AsideOf). with_aside s a) is

module _ (o : Opening) (d : DeclarationOf) (opens : Opens o d) (settings : Settings) (named : d.settings ≡ settings) (u : LedgerState)
    (set : u ≡ with_rest (is_rest_unknown settings.unjudged) (state_of_journal o.ledger)) where
  -- what is set aside is what the declaration says
  stands : u ≡ with_aside (state_of_journal o.ledger) (aside_declared d)
  stands =
      let s = state_of_journal o.ledger in
      set ∙ ap (λ (x : Settings). with_rest (is_rest_unknown x.unjudged) s) (sym named) ∙ with_rest_aside s (each_aside d.asides []) (is_rest_unknown d.settings.unjudged) opens.aside

  pub declared_sound : IsSound u.now
  declared_sound =
      let P : LedgerState → Type 0 = λ x. IsSound x.now in
      subst P (sym stands) (sound_aside (state_of_journal o.ledger).now (aside_declared d) opens.opened.sound)

  pub declared_known : AreKnown d [] u.now
  declared_known =
      let P : LedgerState → Type 0 = λ x. AreKnown d [] x.now in
      subst P (sym stands) (world_known d (state_of_journal o.ledger).now (all_known d.entries (state_of_journal o.ledger).now opens.opened d refl))
