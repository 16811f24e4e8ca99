-- A call over any ledger: its items, and what the option leaves of them.
use Rattle.std.proofs.Common.{◌≡◌, ◌⊎◌, inl, inr, ℕ, zero, suc, Bool, true, false, if◌then◌else◌, List, [], ◌∷◌, ◌++◌, length, Option, Some, None, slice_get, Ok, Err, refl, sym, ap, ◌∙◌, subst, arith}
use Rattle.kmipa_object.specs.Inventory.{Thing}
use Rattle.kmipa_store.specs.Ledger.{Meaning, LedgerState, aside_again, bytes_at, marked, kept, undone, gone_back}
use Rattle.kmipa_store.specs.Choices.{inv, IsSound}
use Rattle.kmipa_store.proofs.ChoiceLemmas.{agrees_same, extends_same}
use Rattle.kmipa_store.proofs.InventoryLemmas.{inv-same, kept-at, undone-at, gone_back-at}
use Rattle.kmipa_store.proofs.SoundLemmas.{InRange-extends}
use Rattle.kmipa_msgs.specs.declared.request.BatchOption.{BatchOption}
use Rattle.kmipa_msgs.specs.declared.request.BatchOption.TheVariants.{Undo}
use Rattle.kmipa_msgs.specs.Messages.{RulesOf, AskOf, RequestOf, AnswerOf, ResponseOf}
use Rattle.kmipa_ops.specs.Explains.{BringsOrShows}
use Rattle.kmipa_ops.proofs.ExplainLemmas.{tells_front}
use Rattle.kmipa_batch.specs.declared.refusal.CallRefusal.{CallRefusal}
use Rattle.kmipa_batch.specs.declared.refusal.CallRefusal.TheVariants.{Impossible, Memory}
use Rattle.kmipa_batch.specs.Shapes.{IsFirstFailed, NoneFailed}
use Rattle.kmipa_batch.specs.Fits.{FailedAt, undoes}
use Rattle.kmipa_batch.specs.Calls.Leaves.{goes_back, goes_on}
use Rattle.kmipa_batch.specs.Orders.{one_of, along}
use Rattle.kmipa_batch.specs.Calls.{pairs_of, pairs_taken, Leaves, RefusesMessage, MayTake}
use Rattle.kmipa_batch.specs.Refusals.{CallExplainsAlong, CallTakenAlong}
use Rattle.kmipa_batch.specs.Running.{AllTaken, Ran}
use Rattle.kmipa_batch.proofs.ShapeLemmas.{none_first, goes_on_is, goes_back_is}
use Rattle.kmipa_batch.proofs.CompletionLemmas.{call_of_batch, call_of_refused, refused_leaves, batch_of_call}

-- what a batch leaves
leaves_on : (option : BatchOption) (answers : List AnswerOf) (V M W : List Thing) → (option ≡ Undo → NoneFailed answers) → Leaves option answers V M W → W ≡ M
leaves_on option answers V M W on l = elim l [ goes_back o f w is ↦ absurd (none_first answers f (on o) w) | goes_on o is ↦ is ]

leaves_back : (option : BatchOption) (answers : List AnswerOf) (V M W : List Thing) (f : ℕ) → option ≡ Undo → IsFirstFailed answers f → Leaves option answers V M W → W ≡ V
leaves_back option answers V M W f o w l = elim l [ goes_back p g x is ↦ is | goes_on p is ↦ absurd (none_first answers f (p o) w) ]

-- what is reported along an order is reported
tells_one : (o : Option (AskOf × AnswerOf)) (xs : List (AskOf × AnswerOf)) (bytes : List ℕ) → BringsOrShows (one_of o ++ xs) bytes → ((x : AskOf × AnswerOf) × (o ≡ Some x) × BringsOrShows (x ∷ []) bytes) ⊎ BringsOrShows xs bytes
tells_one None xs bytes h = inr h
tells_one (Some x) xs bytes h = elim h [
  | inl a ↦ inl (x, refl, inl a)
  | inr b ↦ (elim b [ inl c ↦ inl (x, refl, inr (inl c)) | inr d ↦ inr d ])
]

tells_there : (xs : List (AskOf × AnswerOf)) (place : ℕ) (x : AskOf × AnswerOf) (bytes : List ℕ) → slice_get xs place ≡ Some x → BringsOrShows (x ∷ []) bytes → BringsOrShows xs bytes
tells_there [] place x bytes e h = let bad : ⊥ = cc in absurd bad
tells_there (y ∷ xs) zero x bytes e h =
    let is : x ≡ y = cc in
    let P : AskOf × AnswerOf → Type 0 = λ z. BringsOrShows (z ∷ []) bytes in
    tells_front (y ∷ []) xs bytes (subst P is h)
tells_there (y ∷ xs) (suc place) x bytes e h = inr (inr (tells_there xs place x bytes e h))

tells_along : (xs : List (AskOf × AnswerOf)) (order : List ℕ) (bytes : List ℕ) → BringsOrShows (along xs order) bytes → BringsOrShows xs bytes
tells_along xs [] bytes h = absurd h
tells_along xs (place ∷ order) bytes h = elim (tells_one (slice_get xs place) (along xs order) bytes h) [
  | inl a ↦ tells_there xs place a.0 bytes a.1 a.2
  | inr b ↦ tells_along xs order bytes b
]

tells_taken : (request : RequestOf) (response : ResponseOf) (order : Option (List ℕ)) (bytes : List ℕ) → BringsOrShows (pairs_taken request response order) bytes → BringsOrShows (pairs_of request response) bytes
tells_taken request response None bytes h = h
tells_taken request response (Some order) bytes h = tells_along (pairs_of request response) order bytes h

-- a message that is refused as a whole changes nothing
pub refused_explains : (rules : RulesOf) (m : Meaning) (request : RequestOf) (response : ResponseOf) (order : Option (List ℕ)) → MayTake request response order → RefusesMessage response
    → CallExplainsAlong rules m request response order m
refused_explains rules m request response (Some order) may r = absurd (may.1 r)
refused_explains rules m request response None may r = record {
  sound = λ c h. (h, call_of_refused rules (inv c m.objects) request response r);
  complete = λ c h V call. (c, h, agrees_same (length m.secrets) c, refused_leaves rules (inv c m.objects) request response V r call);
  learns = λ number bytes e. inl e;
  grows = omega arith;
  extends = extends_same m.secrets;
  ascends = λ a. a;
}

module _ (rules : RulesOf) (m : Meaning) (request : RequestOf) (response : ResponseOf) (order : Option (List ℕ)) (may : MayTake request response order) where
  learned : (number : ℕ) (bytes : List ℕ) → (bytes_at m.secrets number ≡ Some (Some bytes)) ⊎ BringsOrShows (pairs_taken request response order) bytes
      → (bytes_at m.secrets number ≡ Some (Some bytes)) ⊎ BringsOrShows (pairs_of request response) bytes
  learned number bytes h = elim h [ inl a ↦ inl a | inr b ↦ inr (tells_taken request response order bytes b) ]

  module _ (n : Meaning) (unrefused : RefusesMessage response → ⊥) (ran : AllTaken rules m request response order n) where
    -- nothing goes back
    pub kept_explains : (request.option ≡ Undo → NoneFailed response.items) → CallExplainsAlong rules m request response order n
    kept_explains on = record {
      sound = λ c h.
          let r = ran.explains.sound c h in (
            r.0,
            call_of_batch rules (inv c m.objects) request response order (inv c n.objects) may (record {
              shaped = ran.shaped;
              last = inv c n.objects;
              placeholder = ran.placeholder;
              chain = r.1;
              leaves = goes_on on refl;
            }),
          );
      complete = λ c h V call.
          let b = batch_of_call rules (inv c m.objects) request response order V unrefused call in
          let r = ran.explains.complete c h b.last b.placeholder b.chain in
          (r.0, r.1, r.2, leaves_on request.option response.items (inv c m.objects) b.last V on b.leaves ∙ r.3);
      learns = λ number bytes e. learned number bytes (ran.explains.learns number bytes e);
      grows = ran.explains.grows;
      extends = ran.explains.extends;
      ascends = ran.explains.ascends;
    }

    -- the objects go back, and what was learned stays
    pub undone_explains : IsSound m → (f : ℕ) → request.option ≡ Undo → IsFirstFailed response.items f → CallExplainsAlong rules m request response order (record { objects = m.objects; secrets = n.secrets; aside = aside_again m.aside n.aside })
    undone_explains sound f o w = record {
      sound = λ c h.
          let r = ran.explains.sound c h in (
            r.0,
            call_of_batch rules (inv c m.objects) request response order (inv c m.objects) may (record {
              shaped = ran.shaped;
              last = inv c n.objects;
              placeholder = ran.placeholder;
              chain = r.1;
              leaves = goes_back o f w refl;
            }),
          );
      complete = λ c h V call.
          let b = batch_of_call rules (inv c m.objects) request response order V unrefused call in
          let r = ran.explains.complete c h b.last b.placeholder b.chain in (
            r.0,
            r.1,
            r.2,
            leaves_back request.option response.items (inv c m.objects) b.last V f o w b.leaves ∙ sym (inv-same m.objects m.secrets c r.0 sound.in_range r.2),
          );
      learns = λ number bytes e. learned number bytes (ran.explains.learns number bytes e);
      grows = ran.explains.grows;
      extends = ran.explains.extends;
      ascends = λ a. a;
    }

    pub undone_sound : IsSound m → IsSound (record { objects = m.objects; secrets = n.secrets; aside = aside_again m.aside n.aside })
    undone_sound sound = record {
      in_range = InRange-extends m.objects m.secrets n.secrets sound.in_range ran.explains.extends;
      gone = sound.gone;
      distinct = sound.distinct;
      choice = ran.sound.choice;
    }

-- what is left at the end: under Undo with a failure the objects before, and else all
pub taken_at_end : (rules : RulesOf) (s s1 u v : LedgerState) (request : RequestOf) (response : ResponseOf) (order : Option (List ℕ)) (failed : Option ℕ) (back : Bool) → MayTake request response order
    → IsSound s.now → (RefusesMessage response → ⊥) → FailedAt response.items failed → undoes request.option failed ≡ back → s1 ≡ marked s → Ran rules s1 request response order (Ok tt) u
    → v ≡ (if back then undone u else kept u) → CallTakenAlong rules s request response order (Ok tt) v
taken_at_end rules s s1 u v request response order failed true may sound unrefused at undo is ran to =
    let P : LedgerState → Type 0 = λ x. Ran rules x request response order (Ok tt) u in
    let r : Ran rules (marked s) request response order (Ok tt) u = subst P is ran in
    let back = goes_back_is request.option response.items failed at undo in
    let Q : LedgerState → Type 0 = λ x. CallTakenAlong rules s request response order (Ok tt) x in
    subst Q (sym (to ∙ undone-at u s.now s.marks r.1)) (
      undone_explains rules s.now request response order may u.now unrefused r.0 sound back.1.0 back.0 back.1.1,
      undone_sound rules s.now request response order may u.now unrefused r.0 sound,
      refl,
    )
taken_at_end rules s s1 u v request response order failed false may sound unrefused at undo is ran to =
    let P : LedgerState → Type 0 = λ x. Ran rules x request response order (Ok tt) u in
    let r : Ran rules (marked s) request response order (Ok tt) u = subst P is ran in
    let Q : LedgerState → Type 0 = λ x. CallTakenAlong rules s request response order (Ok tt) x in
    subst Q (sym (to ∙ kept-at u s.now s.marks r.1)) (
      kept_explains rules s.now request response order may u.now unrefused r.0 (goes_on_is request.option response.items failed at undo),
      r.0.sound,
      refl,
    )

-- what is left where the items were refused: all goes back
pub refused_at_end : (rules : RulesOf) (s s1 u v : LedgerState) (request : RequestOf) (response : ResponseOf) (order : Option (List ℕ)) (refusal : CallRefusal)
    → s1 ≡ marked s → Ran rules s1 request response order (Err refusal) u → v ≡ gone_back u → CallTakenAlong rules s request response order (Err refusal) v
refused_at_end rules s s1 u v request response order (Impossible item why) is ran to =
    let P : LedgerState → Type 0 = λ x. Ran rules x request response order (Err (Impossible item why)) u in
    let r : Ran rules (marked s) request response order (Err (Impossible item why)) u = subst P is ran in
    (r.0, to ∙ gone_back-at u s.now s.marks r.1)
refused_at_end rules s s1 u v request response order Memory is ran to =
    to ∙ gone_back-at u s.now s.marks (ran.1 ∙ ap (λ (x : LedgerState). x.marks) is)
