-- What a chain makes of the witnesses of its segments.
use Rattle.std.specs.Prelude.{◌≡◌, ℕ, List, [], ◌∷◌, ◌++◌, Option, Some, None, String}
use Rattle.std.specs.String.{string_bytes}
use Rattle.std.specs.declared.alloc.Global.{Global}
use Rattle.kmipa_record.specs.Declarations.{DeclarationOf}
use Rattle.kmipa_segments.specs.Chaining.{IsChain, IsNextOf, SegmentFiles}
use Rattle.kmipa_segments.specs.Chains.{GoesOnBy}
use Rattle.kmipa_segments.specs.declared.chain.Chain.{Chain}
use Rattle.kmipa_session.specs.declared.folder.FolderSegment.{FolderSegment}

-- `made` tells the name and the bytes of a file that was made.
module _ {M : Type 0} (made : M → List ℕ × List ℕ) where
  -- a file of which this is said was made under the name that is asked for; where none is asked for none was
  abbrev pub IsKeptAs : (List ℕ → Type 0) → Option (String Global) → Option M → Type 0
  IsKeptAs Has None file = file ≡ None
  IsKeptAs Has (Some name) None = ⊥
  IsKeptAs Has (Some name) (Some file) = ((made file).0 ≡ string_bytes name) × Has (made file).1

  -- The chain goes on with a segment of these files; and the file that was made, where one is asked for, is the witness by which it does: it is
  -- accepted by that from what was held.
  pub record IsNextKept (chain next : Chain) (kept : Option (String Global)) (file : Option M) : Type 0 where
    pub files : SegmentFiles
    pub on : IsNextOf chain next files
    pub is : IsKeptAs (λ w. (files.witness ≡ Some w) × GoesOnBy chain next files.name files.transcript w) kept file

  -- so it is with each of these segments, in the order in which they come, and with the file that was made for it
  abbrev pub AreKept : List FolderSegment → List SegmentFiles → List (Option M) → Type 0
  AreKept [] [] [] = Unit {0}
  AreKept (segment ∷ segments) (files ∷ more) (file ∷ others) = IsKeptAs (λ w. files.witness ≡ Some w) segment.kept file × AreKept segments more others
  AreKept segments more others = ⊥

  -- The chain goes on with these segments, and the files that were made are their witnesses.
  abbrev pub AreNextKept : Chain → Chain → List FolderSegment → List (Option M) → Type 0
  AreNextKept chain next segments kept = (first : DeclarationOf) (files : List SegmentFiles) → IsChain first files chain
      → (more : List SegmentFiles) × AreKept segments more kept × IsChain first (files ++ more) next
