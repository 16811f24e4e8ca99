-- Marks that are given one at a time.
use Rattle.std.proofs.Common.{◌≡◌, ℕ, List, [], ◌∷◌, ◌++◌, Bool, length, inl, inr, refl, sym, subst, ◌∙◌}
use Rattle.std.specs.Io.{StartsWith, appended_bytes}
use Rattle.std.proofs.lemmas.List.{append-nil, map-append}
use Rattle.kmipa_ttlv.specs.Stream.{Begins}
use Rattle.kmipa_ttlv.specs.Tree.{Tree}
use Rattle.kmipa_record.specs.Files.{Tells}
use Rattle.kmipa_record.specs.Marks.{MarkOf, mark_item}
use Rattle.kmipa_record.specs.MarkReading.{AreThese, FaultBehind, IsRightBehind, StandsAt}
use Rattle.kmipa_record.specs.Reading.{IsReading, Takes, ReadFails, HeaderFails}
use Rattle.kmipa_record.specs.Transcripts.{transcript_header, plain_items, IsHeader, AreMarks, plain, plain_mark, IsNoRecord, no_header, no_mark, TranscriptEndFault, without_header}
use Rattle.kmipa_record.specs.declared.fault.RecordFault.{RecordFault}
use Rattle.kmipa_record.specs.declared.fault.RecordKind.TheVariants.{Entry}
use Rattle.kmipa_record.proofs.FileLemmas.{goes_on, ends_here, starts, Stands, tells_read, item_reported, tells_header}
use Rattle.kmipa_record.proofs.NextLemmas.{regrouped}

-- of each file that begins with these bytes these items were read
abbrev pub AreReadOf : List Tree → List ℕ → ℕ → Type 0
AreReadOf items came place = (after : List ℕ) → IsReading (came ++ after) items after place

-- items that say these marks were read
pub stands : (file : List ℕ) (marks : List MarkOf) (items : List Tree) (left : List ℕ) (place : ℕ) → AreMarks file marks items → IsReading file items left place
    → Stands (AreThese file marks) file items left place
stands file marks items left place are r = record { right = inr are; reading = r }

-- what was read of each file that begins with what came then, of one that begins with what came since
pub at : (old new : List ℕ) (items : List Tree) (place : ℕ) → StartsWith new old → AreReadOf items old place → (file after : List ℕ) → file ≡ new ++ after
    → IsReading file items (appended_bytes old new ++ after) place
at old new items place s r file after e =
    subst (λ (l : List ℕ). IsReading l items (appended_bytes old new ++ after) place) (sym (e ∙ regrouped old new after s)) (r (appended_bytes old new ++ after))

-- ---- the header

pub start_read : (file after : List ℕ) (header : Tree) (place place' : ℕ) → place ≡ 0 → Takes header file after place place' → IsReading file (header ∷ []) after place'
start_read file after header place place' zero t = goes_on file [] header file after place place' t (starts file place zero)

pub start_fails : (file : List ℕ) (marks : List MarkOf) (place : ℕ) (failed : Bool) (f : RecordFault) → place ≡ 0 → HeaderFails IsHeader place file failed f
    → Tells (FaultBehind marks) (IsRightBehind marks) file failed f
start_fails file marks place failed f zero h =
    tells_header (AreThese file marks) (IsNoRecord file) TranscriptEndFault IsHeader (inl refl) (λ item kind differs k. no_header refl differs k) (λ bytes offset kind o k. without_header refl o k) file place failed f zero h

-- ---- a mark

pub mark_fails : (file : List ℕ) (marks : List MarkOf) (items : List Tree) (left : List ℕ) (place : ℕ) (failed : Bool) (f : RecordFault) → AreMarks file marks items → IsReading file items left place
    → ReadFails place left failed f → Tells (FaultBehind marks) (IsRightBehind marks) file failed f
mark_fails file marks items left place failed f are r h =
    tells_read (AreThese file marks) (IsNoRecord file) TranscriptEndFault file items left place failed f (stands file marks items left place are r) h

pub other_fails : (file : List ℕ) (marks : List MarkOf) (item : Tree) (left after : List ℕ) (place place' : ℕ) (failed : Bool) → IsReading file (plain_items marks) left place
    → Takes item left after place place' → ¬ ((mark : MarkOf) × (item ≡ mark_item mark)) → Tells (FaultBehind marks) (IsRightBehind marks) file failed (record { offset = place; kind = Entry })
other_fails file marks item left after place place' failed r t none =
    item_reported (AreThese file marks) (IsNoRecord file) TranscriptEndFault file (plain_items marks) item left after place place' Entry
    (stands file marks (plain_items marks) left place (plain refl) r) t (no_mark marks refl (λ mark e. none (mark, e)) refl)

pub mark_read : (file : List ℕ) (marks : List MarkOf) (mark : MarkOf) (left after : List ℕ) (place place' : ℕ) → IsReading file (plain_items marks) left place → Takes (mark_item mark) left after place place'
    → IsReading file (plain_items (marks ++ mark ∷ [])) after place'
mark_read file marks mark left after place place' r t =
    subst (λ (l : List Tree). IsReading file (transcript_header ∷ l) after place') (sym (map-append mark_item marks (mark ∷ []))) (goes_on file (plain_items marks) (mark_item mark) left after place place' t r)

pub mark_stands : (came after left : List ℕ) (marks : List MarkOf) (mark : MarkOf) (place : ℕ) → IsReading (came ++ after) (plain_items marks) left place → Takes (mark_item mark) left after place (length came)
    → StandsAt marks mark place came after
mark_stands came after left marks mark place r t = record { items = plain_items marks; item = mark_item mark; left = left; reading = r; are = plain refl; is_mark = plain_mark refl refl; taken = t }

-- ---- the end

pub all_read : (came : List ℕ) (items : List Tree) (place : ℕ) → AreReadOf items came place → Begins items came []
all_read came items place r = subst (λ (l : List ℕ). Begins items l []) (append-nil came) (ends_here (came ++ []) items [] place refl (r []))
