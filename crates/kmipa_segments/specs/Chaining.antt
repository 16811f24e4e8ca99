-- What a run over a chain of segments promises: that they are linked, and that the marks of all, one after the other, are accepted.
use Rattle.std.specs.Prelude.{◌≡◌, ◌<◌, ℕ, List, [], ◌∷◌, ◌++◌, map, Bool, true, false, Option, Some, None, IfSome, codes, length}
use Rattle.std.specs.Fmt.{decimal}
use Rattle.kmipa_record.specs.Marks.{MarkOf}
use Rattle.kmipa_record.specs.Declarations.{DeclarationOf}
use Rattle.kmipa_record.specs.Witnesses.{TurnOf, witness_of, IsWitness}
use Rattle.kmipa_record.specs.declared.witness.Witness.{Witness}
use Rattle.kmipa_check.specs.Since.{IsAcceptedSince}
use Rattle.kmipa_check.specs.declared.segment.Left.{Left}
use Rattle.kmipa_links.specs.Links.{Linked, SegmentOf}
use Rattle.kmipa_links.specs.Linking.{HaveLinked, IsOf}
use Rattle.kmipa_jobs.specs.declared.status.Status.{Status}
use Rattle.kmipa_jobs.specs.declared.status.Status.TheVariants as status
use Rattle.kmipa_segments.specs.Chains.{AreChained, GoesOnBy}
use Rattle.kmipa_segments.specs.Leaving.{PrintsLeft, TellsLeft}
use Rattle.kmipa_segments.specs.declared.chain.Chain.{Chain}

-- ---- the segments of a chain

-- the files of a segment: its name, and the bytes of its transcript, and of its witness, where it came with one
pub record SegmentFiles : Type 0 where
  pub name : List ℕ
  pub transcript : List ℕ
  pub witness : Option (List ℕ)

-- what its transcript says, with the seals that it bears, and turns that take its calls
pub record PartOf : Type 0 where
  pub segment : SegmentOf
  pub turns : List TurnOf

-- the segment is of these bytes, and the witness, where there is one, has these turns
pub record IsPart (files : SegmentFiles) (part : PartOf) : Type 0 where
  pub of : IsOf part.segment files.name files.transcript part.segment.marks
  pub witness : IfSome files.witness (λ w. IsWitness w part.turns)

-- each segment, in the order in which they come
abbrev pub AreParts : List SegmentFiles → List PartOf → Type 0
AreParts [] [] = Unit {0}
AreParts [] (part ∷ parts) = ⊥
AreParts (files ∷ more) [] = ⊥
AreParts (files ∷ more) (part ∷ parts) = IsPart files part × AreParts more parts

abbrev pub segments_of : List PartOf → List SegmentOf
segments_of parts = map (λ (part : PartOf). part.segment) parts

-- the marks of all, one after the other, and the turns of all
abbrev pub marks_of : List PartOf → List MarkOf
marks_of [] = []
marks_of (part ∷ parts) = part.segment.marks ++ marks_of parts

abbrev pub turns_of : List PartOf → List TurnOf
turns_of [] = []
turns_of (part ∷ parts) = part.turns ++ turns_of parts

-- The segments make a chain from the first declaration on. They are linked: none is missing, doubled or moved, and no call stands in two. The marks
-- of all, one after the other, are accepted from there by the turns of all, which are those of the witnesses that they came with, and lead to what
-- is held.
pub record IsChain (first : DeclarationOf) (files : List SegmentFiles) (chain : Chain) : Type 0 where
  pub parts : List PartOf
  pub are : AreParts files parts
  pub linked : Linked (segments_of parts)
  pub accepted : 0 < length files → IsAcceptedSince (marks_of parts) first None (turns_of parts)
  pub leads : AreChained first None (marks_of parts) (turns_of parts) chain.held
  -- what is kept of how they are linked
  pub kept : HaveLinked (segments_of parts) chain.links

-- So it is with this segment more, wherever those so far are one.
abbrev pub IsNextOf : Chain → Chain → SegmentFiles → Type 0
IsNextOf chain next more = (first : DeclarationOf) (files : List SegmentFiles) → IsChain first files chain → IsChain first (files ++ (more ∷ [])) next

-- And with so many segments more.
abbrev pub AreNextOf : Chain → Chain → ℕ → Type 0
AreNextOf chain next count = (first : DeclarationOf) (files : List SegmentFiles) → IsChain first files chain
    → (more : List SegmentFiles) × (length more ≡ count) × IsChain first (files ++ more) next

-- ---- what is kept of a segment

-- the bytes are the witness that the chain holds
pub record IsKept (chain : Chain) (w : List ℕ) : Type 0 where
  pub witness : Witness
  pub held : chain.witness ≡ Some witness
  pub is : IsWitness w (witness_of witness)

-- A witness is held next, and by it the segment goes on: whatever bytes it is written as, it is accepted from what was held, and so is the chain with it.
pub record IsKeptNext (chain next : Chain) (name t : List ℕ) : Type 0 where
  pub witness : Witness
  pub held : next.witness ≡ Some witness
  pub goes_on : (w : List ℕ) → IsKept next w → GoesOnBy chain next name t w × IsNextOf chain next (record { name = name; transcript = t; witness = Some w })

-- ---- what is printed

-- the front of the line of a whole chain
abbrev pub chain_text : ℕ → ℕ → List ℕ
chain_text segments calls = codes "chain: " ++ (decimal segments ++ (codes " segments, " ++ (decimal calls ++ codes " calls; ")))

-- behind it stands what is left, which is made where it is asked for
abbrev pub EndsChain : Bool → List ℕ → Left → Status → List ℕ → List ℕ → Type 0
EndsChain true front left said lines made = TellsLeft front left said lines made
EndsChain false front left said lines made = (said ≡ status.Done) × ((told : List ℕ) × PrintsLeft left told × (lines ≡ front ++ told)) × (made ≡ [])
