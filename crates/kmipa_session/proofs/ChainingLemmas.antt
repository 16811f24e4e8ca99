-- What was printed and made of the segments of a chain.
use Rattle.std.proofs.Common.{◌≡◌, ◌⊎◌, inl, inr, refl, sym, ap, ◌∙◌, subst, ℕ, suc, ◌+◌, List, [], ◌∷◌, ◌++◌, Option, Some, None, length, take, slice_get, append_assoc, append-nil, add-one}
use Rattle.std.specs.Prelude.{IfOk, Result, Ok, Err}
use Rattle.std.specs.Prelude.{String}
use Rattle.std.specs.declared.alloc.Global.{Global}
use Rattle.kmipa_record.specs.Declarations.{DeclarationOf}
use Rattle.kmipa_check.proofs.RunLemmas.{take_next}
use Rattle.kmipa_segments.specs.Chaining.{AreNextOf, IsChain, IsKept, IsKeptNext, IsNextOf, SegmentFiles}
use Rattle.kmipa_segments.specs.Chains.{GoesOnBy}
use Rattle.kmipa_segments.specs.declared.chain.Chain.{Chain}
use Rattle.kmipa_session.specs.Keeping.{AreKept, AreNextKept, IsKeptAs, IsNextKept}
use Rattle.kmipa_session.specs.declared.folder.FolderSegment.{FolderSegment}
use Rattle.kmipa_jobs.specs.declared.status.Status.{Status}
use Rattle.kmipa_jobs.specs.declared.status.Status.TheVariants.{Done, Failed}

-- the status that is left of a run is Done only where that of the run was
pub told_done : {A B : Type 0} (left status : Status) → ((left ≡ status) × A) ⊎ ((left ≡ Failed) × B) → left ≡ Done → status ≡ Done
told_done left status (inl told) done = sym told.0 ∙ done
told_done left status (inr failed) done = let clash : Failed ≡ Done = sym failed.0 ∙ done in absurd cc

-- lines of a failure leave it
pub told_failed : {A B : Type 0} (left : Status) → ((left ≡ Failed) × A) ⊎ ((left ≡ Failed) × B) → left ≡ Failed
told_failed left (inl told) = told.0
told_failed left (inr failed) = failed.0

-- what holds of every answer holds of this one, if there is one
pub of_any : {T E : Type 0} (r : Result T E) (P : T → Type 0) → ((x : T) → P x) → IfOk r P
of_any (Ok x) P all = all x
of_any (Err e) P all = tt

-- as many go on, however they are counted
pub as_counted : {E : Type 0} (r : Result Status E) (chain next : Chain) (count all : ℕ) → count ≡ all → AreNextOf chain next count → IfOk r (λ status. status ≡ Done → AreNextOf chain next all)
as_counted (Ok status) chain next count all same on = let P : ℕ → Type 0 = λ n. AreNextOf chain next n in λ done. subst P same on
as_counted (Err refusal) chain next count all same on = tt

-- ---- the witnesses that were made

module _ {M : Type 0} (made : M → List ℕ × List ℕ) where
  -- what is said of the bytes may be weaker
  kept_weaker : (P Q : List ℕ → Type 0) (kept : Option (String Global)) (file : Option M) → ((w : List ℕ) → P w → Q w) → IsKeptAs made P kept file → IsKeptAs made Q kept file
  kept_weaker P Q None file weaker is = is
  kept_weaker P Q (Some name) None weaker is = absurd is
  kept_weaker P Q (Some name) (Some file) weaker is = (is.0, weaker (made file).1 is.1)

  -- a segment that goes on, and the file of the witness that is held behind it
  pub next_kept : (chain next : Chain) (own : SegmentFiles) (kept : Option (String Global)) (file : Option M) → IsNextOf chain next own → IsKeptNext chain next own.name own.transcript
      → IsKeptAs made (IsKept next) kept file → IsNextKept made chain next kept file
  next_kept chain next own None file on by is = record { files = own; on = on; is = is }
  next_kept chain next own (Some name) None on by is = absurd is
  next_kept chain next own (Some name) (Some file) on by is =
      let goes = by.goes_on (made file).1 is.1 in
      record {
        files = record { name = own.name; transcript = own.transcript; witness = Some (made file).1 };
        on = goes.1;
        is = (is.0, (refl, goes.0));
      }

  -- ---- many

  kept_push : (segments : List FolderSegment) (more : List SegmentFiles) (others : List (Option M)) (segment : FolderSegment) (files : SegmentFiles) (file : Option M)
      → AreKept made segments more others → IsKeptAs made (λ w. files.witness ≡ Some w) segment.kept file
      → AreKept made (segments ++ segment ∷ []) (more ++ files ∷ []) (others ++ file ∷ [])
  kept_push [] [] [] segment files file are is = (is, tt)
  kept_push [] [] (m ∷ others) segment files file are is = absurd are
  kept_push [] (f ∷ more) others segment files file are is = absurd are
  kept_push (s ∷ segments) [] others segment files file are is = absurd are
  kept_push (s ∷ segments) (f ∷ more) [] segment files file are is = absurd are
  kept_push (s ∷ segments) (f ∷ more) (m ∷ others) segment files file are is = (are.0, kept_push segments more others segment files file are.1 is)

  pub none_kept : (chain : Chain) → AreNextKept made chain chain [] []
  none_kept chain first files c =
      let P : List SegmentFiles → Type 0 = λ l. IsChain first l chain in
      ([], tt, subst P (sym (append-nil files)) c)

  pub more_kept : (chain middle next : Chain) (segments : List FolderSegment) (segment : FolderSegment) (others : List (Option M)) (file : Option M) → AreNextKept made chain middle segments others
      → IsNextKept made middle next segment.kept file → AreNextKept made chain next (segments ++ segment ∷ []) (others ++ file ∷ [])
  more_kept chain middle next segments segment others file front one first files c =
      let many = front first files c in
      let P : List SegmentFiles → Type 0 = λ l. IsChain first l next in (
        many.0 ++ one.files ∷ [],
        kept_push segments many.0 others segment one.files file many.1
            (kept_weaker (λ (w : List ℕ). (one.files.witness ≡ Some w) × GoesOnBy middle next one.files.name one.files.transcript w) (λ (w : List ℕ). one.files.witness ≡ Some w) segment.kept file (λ w h. h.0) one.is),
        subst P (append_assoc files many.0 (one.files ∷ [])) (one.on first (files ++ many.0) many.2),
      )

  -- one segment more of those that come in turn
  pub kept_turn : (chain middle next : Chain) (segments : List FolderSegment) (place : ℕ) (segment : FolderSegment) (others new : List (Option M)) (file : Option M) → slice_get segments place ≡ Some segment
      → new ≡ others ++ file ∷ [] → AreNextKept made chain middle (take place segments) others → IsNextKept made middle next segment.kept file
      → AreNextKept made chain next (take (place + 1) segments) new
  kept_turn chain middle next segments place segment others new file at is front one =
      let P : List FolderSegment → Type 0 = λ s. AreNextKept made chain next s new in
      let Q : List (Option M) → Type 0 = λ m. AreNextKept made chain next (take place segments ++ segment ∷ []) m in
      let longer : take (place + 1) segments ≡ take place segments ++ segment ∷ [] = ap (λ (n : ℕ). take n segments) (add-one place) ∙ take_next segments place segment at in
      subst P (sym longer) (subst Q (sym is) (more_kept chain middle next (take place segments) segment others file front one))

  -- as many go on as are kept
  as_many : (segments : List FolderSegment) (more : List SegmentFiles) (others : List (Option M)) → AreKept made segments more others → length more ≡ length segments
  as_many [] [] [] are = refl
  as_many [] [] (m ∷ others) are = absurd are
  as_many [] (f ∷ more) others are = absurd are
  as_many (s ∷ segments) [] others are = absurd are
  as_many (s ∷ segments) (f ∷ more) [] are = absurd are
  as_many (s ∷ segments) (f ∷ more) (m ∷ others) are = ap suc (as_many segments more others are.1)

  pub kept_next : (chain next : Chain) (segments : List FolderSegment) (others : List (Option M)) → AreNextKept made chain next segments others → AreNextOf chain next (length segments)
  kept_next chain next segments others are first files c = let many = are first files c in (many.0, as_many segments many.0 others many.1, many.2)
