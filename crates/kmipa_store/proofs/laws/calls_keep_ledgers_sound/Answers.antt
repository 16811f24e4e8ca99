use Rattle.std.proofs.Common.{sym, subst}
use Rattle.kmipa_store.specs.Ledger.{LedgerState, told}
use Rattle.kmipa_store.specs.Soundness.{IsSoundLedger}
use Rattle.kmipa_store.proofs.ChoiceLemmas.{extends_same, extends_push, extends_told}
use Rattle.kmipa_store.proofs.SoundLemmas.{sound_none, sound_added, sound_relived, sound_renewed, sound_aside, sound_with_secret}
use Rattle.kmipa_store.proofs.SoundLedgerLemmas.{fresh, marks_extend, sound_learned, sound_kept, sound_undone, sound_back}
use Rattle.kmipa_store.proofs.laws.calls_keep_ledgers_sound.Goals as goal

pub returns : goal.returns
returns c =
    let P : LedgerState → Type 0 = λ x. IsSoundLedger x in
    record {
      empty = record { now = sound_none; marks = tt };
      add = λ s t h place i fit a. subst P (sym a.2) (record { now = sound_added s.now h i.now (fresh s h a.0) fit; marks = i.marks });
      replace = λ s t place h life i at goes e. subst P (sym e) (record { now = sound_relived s.now place h life i.now at goes.gone goes.own; marks = i.marks });
      renew = λ s t place g h i at same fit e. subst P (sym e) (record { now = sound_renewed s.now place g h i.now at same fit; marks = i.marks });
      new_secret = λ s t rule secret i made. subst P (sym made.2)
          (record { now = sound_with_secret s.now rule i.now made.0; marks = marks_extend s.now.secrets _ s.marks (extends_push s.now.secrets _) i.marks });
      learn = λ s t number bytes i small l. subst P (sym l.2)
          (record { now = sound_learned s.now number bytes i.now small l.0 l.1; marks = marks_extend s.now.secrets (told s.now.secrets number bytes) s.marks (extends_told s.now.secrets number bytes) i.marks });
      set_aside = λ s t id i e. subst P (sym e) (record { now = sound_aside s.now _ i.now; marks = i.marks });
      take_in = λ s t id i e. subst P (sym e) (record { now = sound_aside s.now _ i.now; marks = i.marks });
      set_rest_aside = λ s i. record { now = sound_aside s.now _ i.now; marks = i.marks };
      end_judging = λ s i. record { now = sound_aside s.now _ i.now; marks = i.marks };
      mark = λ s t m i e. subst P (sym e.1) (record { now = i.now; marks = (i.now, extends_same s.now.secrets, i.marks) });
      keep = λ s i. sound_kept s.now s.marks i.now i.marks;
      undo = λ s i. sound_undone s.now s.marks i.now i.marks;
      back = λ s i. sound_back s.now s.marks i.now i.marks;
      choice = λ s i. i.now.choice;
    }
