-- A call over any ledger: its places, and what the option leaves of them.
use Rattle.std.proofs.Common.{◌≡◌, ◌⊎◌, inl, inr, ℕ, zero, suc, Bool, true, false, if◌then◌else◌, List, [], ◌∷◌, ◌++◌, length, Option, Some, None, slice_get, Ok, Err, refl, sym, ap, ◌∙◌, subst, arith}
use Rattle.kmipa_object.specs.Inventory.{Thing}
use Rattle.kmipa_store.specs.Ledger.{Known, Meaning, LedgerState, aside_again, bytes_at, marked, kept, undone, gone_back}
use Rattle.kmipa_store.specs.Choices.{Choice, Chooses, Agrees, IsSound}
use Rattle.kmipa_store.proofs.ChoiceLemmas.{agrees_same, extends_same}
use Rattle.kmipa_store.proofs.InventoryLemmas.{inv-same, kept-at, undone-at, gone_back-at}
use Rattle.kmipa_store.proofs.SoundLemmas.{InRange-extends}
use Rattle.kmipa_msgs.specs.Messages.{RulesOf}
use Rattle.kmipa_msgs.specs.declared.request.BatchOption.TheVariants.{Undo}
use Rattle.kmipa_passed.specs.Leaving.{HeldOf, empty}
use Rattle.kmipa_batch.specs.declared.refusal.CallRefusal.{CallRefusal}
use Rattle.kmipa_batch.specs.declared.refusal.CallRefusal.TheVariants.{Impossible, Memory}
use Rattle.kmipa_batch.specs.Shapes.{IsFirstFailed, NoneFailed}
use Rattle.kmipa_batch.specs.Fits.{FailedAt, undoes}
use Rattle.kmipa_batch.specs.Orders.{one_of, along}
use Rattle.kmipa_batch.proofs.ShapeLemmas.{none_first, goes_on_is, goes_back_is}
use Rattle.kmipa_aside.specs.Becoming.{stand_in}
use Rattle.kmipa_aside.specs.Standing.{StandOf}
use Rattle.kmipa_aside.specs.Explains.{Explains, world}
use Rattle.kmipa_aside.specs.Worlds.{WorldOf}
use Rattle.kmipa_places.specs.Calls.{ReadOf}
use Rattle.kmipa_places.specs.Places.{PlaceOf}
use Rattle.kmipa_bundle.specs.Deeds.{TellsSome}
use Rattle.kmipa_bundle.specs.Shapes.{answers_as}
use Rattle.kmipa_bundle.specs.Bundles.LeavesOver.{goes_back, goes_on}
use Rattle.kmipa_bundle.specs.Bundles.{Bundle, DoesRead, DoesReadBy, LeavesOver, back_to, places_taken}
use Rattle.kmipa_bundle.specs.Counts.{CallCounted, CountsBy, CountsOf, counted_there, counts_first, counts_of, no_counts}
use Rattle.kmipa_bundle.specs.declared.counts.Counts.{Counts}
use Rattle.kmipa_bundle.specs.Refusals.{CallTaken, TellsPlace}
use Rattle.kmipa_bundle.specs.Running.{AllTaken, Ran}

-- what a bundle leaves
leaves_on : (c : ReadOf) (w last v : WorldOf) → (c.option ≡ Undo → NoneFailed (answers_as c.outcomes)) → LeavesOver c w last v → v ≡ last
leaves_on c w last v on l = elim l [ goes_back o f first is ↦ absurd (none_first (answers_as c.outcomes) f (on o) first) | goes_on o is ↦ is ]

leaves_back : (c : ReadOf) (w last v : WorldOf) (f : ℕ) → c.option ≡ Undo → IsFirstFailed (answers_as c.outcomes) f → LeavesOver c w last v → v ≡ back_to w last
leaves_back c w last v f o first l = elim l [ goes_back p g other is ↦ is | goes_on p is ↦ absurd (none_first (answers_as c.outcomes) f (p o) first) ]

-- what is told along an order is told
module _ {A : Type 0} (tells : A → List ℕ → Type 0) where
  tells_one : (o : Option A) (xs : List A) (bytes : List ℕ) → TellsSome tells (one_of o ++ xs) bytes → ((x : A) × (o ≡ Some x) × tells x bytes) ⊎ TellsSome tells xs bytes
  tells_one None xs bytes h = inr h
  tells_one (Some x) xs bytes h = elim h [ inl a ↦ inl (x, refl, a) | inr b ↦ inr b ]

  tells_there : (xs : List A) (place : ℕ) (x : A) (bytes : List ℕ) → slice_get xs place ≡ Some x → tells x bytes → TellsSome tells xs bytes
  tells_there [] place x bytes e h = let bad : ⊥ = cc in absurd bad
  tells_there (y ∷ xs) zero x bytes e h =
      let is : x ≡ y = cc in
      let P : A → Type 0 = λ z. tells z bytes in
      inl (subst P is h)
  tells_there (y ∷ xs) (suc place) x bytes e h = inr (tells_there xs place x bytes e h)

  tells_along : (xs : List A) (order : List ℕ) (bytes : List ℕ) → TellsSome tells (along xs order) bytes → TellsSome tells xs bytes
  tells_along xs [] bytes h = absurd h
  tells_along xs (place ∷ order) bytes h = elim (tells_one (slice_get xs place) (along xs order) bytes h) [
    | inl a ↦ tells_there xs place a.0 bytes a.1 a.2
    | inr b ↦ tells_along xs order bytes b
  ]

tells_taken : (c : ReadOf) (order : Option (List ℕ)) (bytes : List ℕ) → TellsSome TellsPlace (places_taken c order) bytes → TellsSome TellsPlace c.places bytes
tells_taken c None bytes h = h
tells_taken c (Some order) bytes h = tells_along TellsPlace c.places order bytes h

module _ (rules : RulesOf) (c : ReadOf) (order : Option (List ℕ)) where
  refused_does : (w : WorldOf) (before : HeldOf) → c.refused ≡ true → DoesRead rules c order w before w before
  refused_does w before e =
      let P : Bool → Type 0 = λ b. DoesReadBy b rules c order w w in
      record { world = subst P (sym e) refl; placeholder = refl }

  refused_leaves : (w v : WorldOf) → c.refused ≡ true → DoesReadBy c.refused rules c order w v → v ≡ w
  refused_leaves w v e d = let P : Bool → Type 0 = λ b. DoesReadBy b rules c order w v in subst P e d

  bundle_does : (w v : WorldOf) (before : HeldOf) → c.refused ≡ false → Bundle rules c order w v → DoesRead rules c order w before v before
  bundle_does w v before e b =
      let P : Bool → Type 0 = λ x. DoesReadBy x rules c order w v in
      record { world = subst P (sym e) b; placeholder = refl }

  bundle_of : (w v : WorldOf) → c.refused ≡ false → DoesReadBy c.refused rules c order w v → Bundle rules c order w v
  bundle_of w v e d = let P : Bool → Type 0 = λ b. DoesReadBy b rules c order w v in subst P e d

  -- a message that is refused as a whole changes nothing
  pub refused_took : (k : Counts) (s : LedgerState) → c.refused ≡ true → IsSound s.now → CallTaken rules s c order (Ok k) s
  refused_took k s e sound before = record {
    explains = record {
      sound = λ d h. (h, refused_does (world d s.now) before e);
      complete = λ d h w x does. (d, h, agrees_same (length s.now.secrets) d, refused_leaves (world d s.now) w e does.world, does.placeholder);
      learns = λ number bytes g. inl g;
      grows = omega arith;
      extends = extends_same s.now.secrets;
      apart = λ a. a;
    };
    sound = sound;
    marks = refl;
  }

  module _ (k : CountsOf) (m n : Meaning) (unrefused : c.refused ≡ false) (ran : AllTaken rules m c order k n) where
    learned : (number : ℕ) (bytes : List ℕ) → (bytes_at m.secrets number ≡ Some (Some bytes)) ⊎ TellsSome TellsPlace (places_taken c order) bytes
        → (bytes_at m.secrets number ≡ Some (Some bytes)) ⊎ TellsSome TellsPlace c.places bytes
    learned number bytes h = elim h [ inl a ↦ inl a | inr b ↦ inr (tells_taken c order bytes b) ]

    -- nothing goes back
    kept_explains : (c.option ≡ Undo → NoneFailed (answers_as c.outcomes)) → (before : HeldOf) → Explains (DoesRead rules c order) (TellsSome TellsPlace c.places) m before n before
    kept_explains on before = record {
      sound = λ d h.
          let r = ran.led.sound d h in (
            r.0,
            bundle_does (world d m) (world d n) before unrefused (record {
              shaped = ran.shaped;
              last = world d n;
              held = ran.held;
              chain = r.1;
              leaves = goes_on on refl;
            }),
          );
      complete = λ d h w x does.
          let b = bundle_of (world d m) w unrefused does.world in
          let r = ran.led.complete d h b.last b.held b.chain in
          (r.0, r.1, r.2, leaves_on c (world d m) b.last w on b.leaves ∙ r.3, does.placeholder);
      learns = λ number bytes e. learned number bytes (ran.led.learns number bytes e);
      grows = ran.led.grows;
      extends = ran.led.extends;
      apart = ran.led.apart;
    }

    abbrev again : Meaning
    again = record { objects = m.objects; secrets = n.secrets; aside = aside_again m.aside n.aside }

    -- a world that goes back, seen by a choice that agrees on the secrets before
    went_back : IsSound m → (d e : Choice) → Agrees (length m.secrets) d e → back_to (world d m) (world e n) ≡ world e again
    went_back sound d e agree =
        let W : List Thing → WorldOf = λ V. record { things = V; aside = aside_again m.aside n.aside } in
        ap W (sym (inv-same m.objects m.secrets d e sound.in_range agree))

    -- the objects and what is set aside go back, and what was learned stays
    undone_explains : IsSound m → (f : ℕ) → c.option ≡ Undo → IsFirstFailed (answers_as c.outcomes) f → (before : HeldOf)
        → Explains (DoesRead rules c order) (TellsSome TellsPlace c.places) m before again before
    undone_explains sound f o first before = record {
      sound = λ d h.
          let r = ran.led.sound d h in (
            r.0,
            bundle_does (world d m) (world d again) before unrefused (record {
              shaped = ran.shaped;
              last = world d n;
              held = ran.held;
              chain = r.1;
              leaves = goes_back o f first refl;
            }),
          );
      complete = λ d h w x does.
          let b = bundle_of (world d m) w unrefused does.world in
          let r = ran.led.complete d h b.last b.held b.chain in
          (r.0, r.1, r.2, leaves_back c (world d m) b.last w f o first b.leaves ∙ ap (back_to (world d m)) r.3 ∙ went_back sound d r.0 r.2, does.placeholder);
      learns = λ number bytes e. learned number bytes (ran.led.learns number bytes e);
      grows = ran.led.grows;
      extends = ran.led.extends;
      apart = λ a. a;
    }

    undone_sound : IsSound m → IsSound again
    undone_sound sound = record {
      in_range = InRange-extends m.objects m.secrets n.secrets sound.in_range ran.led.extends;
      gone = sound.gone;
      distinct = sound.distinct;
      choice = ran.sound.choice;
    }

-- what is left at the end: under Undo with a failure what was there before, and else all
pub taken_at_end : (rules : RulesOf) (k : Counts) (s s1 u v : LedgerState) (c : ReadOf) (order : Option (List ℕ)) (failed : Option ℕ) (back : Bool)
    → IsSound s.now → c.refused ≡ false → FailedAt (answers_as c.outcomes) failed → undoes c.option failed ≡ back → s1 ≡ marked s → Ran rules s1 c order (Ok k) u
    → v ≡ (if back then undone u else kept u) → CallTaken rules s c order (Ok k) v
taken_at_end rules k s s1 u v c order failed true sound unrefused at undo is ran to =
    let P : LedgerState → Type 0 = λ x. Ran rules x c order (Ok k) u in
    let r : Ran rules (marked s) c order (Ok k) u = subst P is ran in
    let back = goes_back_is c.option (answers_as c.outcomes) failed at undo in
    let Q : LedgerState → Type 0 = λ x. CallTaken rules s c order (Ok k) x in
    subst Q (sym (to ∙ undone-at u s.now s.marks r.1)) (λ before. record {
      explains = undone_explains rules c order (counts_of k) s.now u.now unrefused r.0 sound back.1.0 back.0 back.1.1 before;
      sound = undone_sound rules c order (counts_of k) s.now u.now unrefused r.0 sound;
      marks = refl;
    })
taken_at_end rules k s s1 u v c order failed false sound unrefused at undo is ran to =
    let P : LedgerState → Type 0 = λ x. Ran rules x c order (Ok k) u in
    let r : Ran rules (marked s) c order (Ok k) u = subst P is ran in
    let Q : LedgerState → Type 0 = λ x. CallTaken rules s c order (Ok k) x in
    subst Q (sym (to ∙ kept-at u s.now s.marks r.1)) (λ before. record {
      explains = kept_explains rules c order (counts_of k) s.now u.now unrefused r.0 (goes_on_is c.option (answers_as c.outcomes) failed at undo) before;
      sound = r.0.sound;
      marks = refl;
    })

-- and how it was counted
same_secrets : (u v : LedgerState) (m : Meaning) (marks : List Meaning) (back : Bool) → u.marks ≡ m ∷ marks → v ≡ (if back then undone u else kept u) → v.now.secrets ≡ u.now.secrets
same_secrets u v m marks true is to = ap (λ (x : LedgerState). x.now.secrets) (to ∙ undone-at u m marks is)
same_secrets u v m marks false is to = ap (λ (x : LedgerState). x.now.secrets) (to ∙ kept-at u m marks is)

pub counted_at_end : (rules : RulesOf) (k : Counts) (s s1 u v : LedgerState) (c : ReadOf) (order : Option (List ℕ)) (back : Bool) → c.refused ≡ false → s1 ≡ marked s → Ran rules s1 c order (Ok k) u
    → v ≡ (if back then undone u else kept u) → CallCounted {E = CallRefusal} rules s c order (Ok k) v
counted_at_end rules k s s1 u v c order back unrefused is ran to =
    let P : LedgerState → Type 0 = λ x. Ran rules x c order (Ok k) u in
    let r : Ran rules (marked s) c order (Ok k) u = subst P is ran in
    let B : Bool → Type 0 = λ b. CountsBy b rules s c order (counts_of k) v in
    let S : List Known → Choice → Type 0 = λ xs d. Chooses xs d in
    subst B (sym unrefused) (λ d h.
    let C : List Known → Type 0 = λ xs. S xs d in
    (world d u.now, r.0.held, r.0.counted d (subst C (same_secrets u v s.now s.marks back r.1 to) h)))

pub refused_counted : (rules : RulesOf) (k : Counts) (s : LedgerState) (c : ReadOf) (order : Option (List ℕ)) → c.refused ≡ true → counts_of k ≡ counts_first rules (stand_in s.now) c.places
    → CallCounted {E = CallRefusal} rules s c order (Ok k) s
refused_counted rules k s c order e is = let B : Bool → Type 0 = λ b. CountsBy b rules s c order (counts_of k) s in subst B (sym e) is

-- the first place is the one at 0
pub first_there : (rules : RulesOf) (s : StandOf) (places : List PlaceOf) → counted_there rules s empty (slice_get places 0) no_counts ≡ counts_first rules s places
first_there rules s [] = refl
first_there rules s (place ∷ places) = refl

-- what is left where the places were refused: all goes back
pub refused_at_end : (rules : RulesOf) (s s1 u v : LedgerState) (c : ReadOf) (order : Option (List ℕ)) (refusal : CallRefusal)
    → s1 ≡ marked s → Ran rules s1 c order (Err refusal) u → v ≡ gone_back u → CallTaken {A = Counts} rules s c order (Err refusal) v
refused_at_end rules s s1 u v c order (Impossible item why) is ran to =
    let P : LedgerState → Type 0 = λ x. Ran rules x c order (Err (Impossible item why)) u in
    let r : Ran rules (marked s) c order (Err (Impossible item why)) u = subst P is ran in
    (r.0, to ∙ gone_back-at u s.now s.marks r.1)
refused_at_end rules s s1 u v c order Memory is ran to =
    to ∙ gone_back-at u s.now s.marks (ran.1 ∙ ap (λ (x : LedgerState). x.marks) is)
