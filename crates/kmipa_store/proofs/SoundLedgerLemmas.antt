-- What keeps a ledger sound, now and at each mark.
use Rattle.std.proofs.Common.{◌≡◌, ◌<◌, ◌&&◌, ◌∷◌, [], ℕ, true, false, not, List, All, slice_get, Option, Some, None, option_map, is_none, is_some, bytes_eq, refl, ap, sym, ◌∙◌, subst}
use Rattle.std.proofs.lemmas.Bool.{not-false}
use Rattle.std.proofs.lemmas.Slice.Eq.{bytes_eq-Decides}
use Rattle.kmipa_object.specs.Inventory.{admits}
use Rattle.kmipa_object.proofs.ListLemmas.{updated-none, updated-same}
use Rattle.kmipa_store.specs.Ledger.{Held, Known, Meaning, LedgerState, place_of, cards_of, told, kept_from, undone_from, back_from}
use Rattle.kmipa_store.specs.Calls.{is_taken, differs, differs_from, breaks}
use Rattle.kmipa_store.specs.Choices.{Extends, IsSound}
use Rattle.kmipa_store.specs.Soundness.{MarksAreSound, IsSoundLedger}
use Rattle.kmipa_store.proofs.InventoryLemmas.{get-cards_of, place_none}
use Rattle.kmipa_store.proofs.ChoiceLemmas.{extends_more}
use Rattle.kmipa_store.proofs.SoundLemmas.{InRange-extends, sound_told}

none_there : (o : Option ℕ) → is_some o ≡ false → o ≡ None
none_there None e = refl
none_there (Some x) e = cc

-- no object has an identifier that is not taken
pub fresh : (s : LedgerState) (h : Held) → is_taken s h.card.id ≡ false → (p : ℕ) (g : Held) → slice_get s.now.objects p ≡ Some g → g.card.id ≡ h.card.id → ⊥
fresh s h free p g at same =
    let none : place_of h.card.id (cards_of s.now.objects) ≡ None = none_there (place_of h.card.id (cards_of s.now.objects)) free in
    let differs : bytes_eq h.card.id g.card.id ≡ false = place_none (cards_of s.now.objects) h.card.id none p g.card (get-cards_of s.now.objects p ∙ ap (option_map (λ (x : Held). x.card)) at) in
    let equal : bytes_eq h.card.id g.card.id ≡ true = (bytes_eq-Decides h.card.id g.card.id).1 (sym same) in
    let clash : true ≡ false = sym equal ∙ differs in
    cc

-- more secrets, or more known of them
pub marks_extend : (ss ts : List Known) (marks : List Meaning) → Extends ss ts → MarksAreSound ss marks → MarksAreSound ts marks
marks_extend ss ts [] e h = tt
marks_extend ss ts (m ∷ marks) e h = (h.0, extends_more m.secrets ss ts h.1 e, h.2)

-- bytes that are learned
learned_of : (m : Meaning) (number : ℕ) (bytes : List ℕ) (k : Known) (known : Option (List ℕ)) → IsSound m → All (λ b. b < 256) bytes → slice_get m.secrets number ≡ Some k → k.bytes ≡ known
    → differs_from known bytes ≡ false → (is_none known && not (admits k.rule bytes)) ≡ false → IsSound (record { objects = m.objects; secrets = told m.secrets number bytes; aside = m.aside })
learned_of m number bytes k None sound small at is d b = sound_told m number k bytes sound at is (record { admitted = not-false (admits k.rule bytes) b; small = small })
learned_of m number bytes k (Some x) sound small at is d b =
    let equal : x ≡ bytes = (bytes_eq-Decides x bytes).0 (not-false (bytes_eq x bytes) d) in
    let same : told m.secrets number bytes ≡ m.secrets = updated-same m.secrets number (λ (y : Known). record { rule = y.rule; bytes = Some bytes })
    (λ y e. let q : Some k ≡ Some y = sym at ∙ e in let r : k ≡ y = cc in ap (λ (o : Option (List ℕ)). record { rule = y.rule; bytes = o }) (ap Some (sym equal) ∙ sym is ∙ ap (λ (z : Known). z.bytes) r)) in
    let P : List Known → Type 0 = λ x. IsSound (record { objects = m.objects; secrets = x; aside = m.aside }) in
    subst P (sym same) sound

learned_at : (m : Meaning) (number : ℕ) (bytes : List ℕ) (o : Option Known) → IsSound m → All (λ b. b < 256) bytes → slice_get m.secrets number ≡ o
    → differs o bytes ≡ false → breaks o bytes ≡ false → IsSound (record { objects = m.objects; secrets = told m.secrets number bytes; aside = m.aside })
learned_at m number bytes None sound small at d b =
    let same : told m.secrets number bytes ≡ m.secrets = updated-none m.secrets number (λ (y : Known). record { rule = y.rule; bytes = Some bytes }) at in
    let P : List Known → Type 0 = λ x. IsSound (record { objects = m.objects; secrets = x; aside = m.aside }) in
    subst P (sym same) sound
learned_at m number bytes (Some k) sound small at d b = learned_of m number bytes k k.bytes sound small at refl d b

pub sound_learned : (m : Meaning) (number : ℕ) (bytes : List ℕ) → IsSound m → All (λ b. b < 256) bytes → differs (slice_get m.secrets number) bytes ≡ false → breaks (slice_get m.secrets number) bytes ≡ false
    → IsSound (record { objects = m.objects; secrets = told m.secrets number bytes; aside = m.aside })
sound_learned m number bytes sound small d b = learned_at m number bytes (slice_get m.secrets number) sound small refl d b

pub sound_kept : (now : Meaning) (marks : List Meaning) → IsSound now → MarksAreSound now.secrets marks → IsSoundLedger (kept_from now marks)
sound_kept now [] sound h = record { now = sound; marks = tt }
sound_kept now (m ∷ marks) sound h = record { now = sound; marks = marks_extend m.secrets now.secrets marks h.1 h.2 }

pub sound_undone : (now : Meaning) (marks : List Meaning) → IsSound now → MarksAreSound now.secrets marks → IsSoundLedger (undone_from now marks)
sound_undone now [] sound h = record { now = sound; marks = tt }
sound_undone now (m ∷ marks) sound h = record {
  now = record { in_range = InRange-extends m.objects m.secrets now.secrets h.0.in_range h.1; gone = h.0.gone; distinct = h.0.distinct; choice = sound.choice };
  marks = marks_extend m.secrets now.secrets marks h.1 h.2;
}

pub sound_back : (now : Meaning) (marks : List Meaning) → IsSound now → MarksAreSound now.secrets marks → IsSoundLedger (back_from now marks)
sound_back now [] sound h = record { now = sound; marks = tt }
sound_back now (m ∷ marks) sound h = record { now = h.0; marks = h.2 }
