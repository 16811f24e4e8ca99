-- What the search of a segment tells, makes and prints: a witness that goes on from the moment, and the declaration that its run leaves.
use Rattle.std.specs.Prelude.{◌≡◌, ◌≢◌, ◌≤◌, ◌<ℤ◌, ℕ, ℤ, List, [], ◌++◌, Bool, Contains, Option, Some, None, Result, Ok, Err}
use Rattle.kmipa_record.specs.Marks.{MarkOf}
use Rattle.kmipa_record.specs.Transcripts.{IsTranscript}
use Rattle.kmipa_record.specs.Declarations.{DeclarationOf, declaration_of, IsDeclaration}
use Rattle.kmipa_record.specs.Witnesses.{witness_of}
use Rattle.kmipa_msgs.specs.Messages.{ResponseOf}
use Rattle.kmipa_check.specs.Grants.{GrantsNothing, grants_declared}
use Rattle.kmipa_check.specs.Calls.{CallOf, AreCalls}
use Rattle.kmipa_check.specs.Runs.{IsExplained}
use Rattle.kmipa_check.specs.Segments.{Leads}
use Rattle.kmipa_check.specs.Since.{AreSince, IsAcceptedSince}
use Rattle.kmipa_check.specs.declared.auditing.AuditFault.{AuditFault}
use Rattle.kmipa_check.specs.declared.fault.CheckFault.{CheckFault}
use Rattle.kmipa_check.specs.declared.segment.Left.{Left}
use Rattle.kmipa_orders.specs.Found.{Finds, FindsIn, HasDecided}
use Rattle.kmipa_orders.specs.declared.found.Found.{Found}
use Rattle.kmipa_orders.specs.declared.found.Found.TheVariants.{Yes, GaveUp, Refuted, Impossible, OutOfTime}
use Rattle.kmipa_runs.specs.Lines.{PrintsFault}
use Rattle.kmipa_searches.specs.Searches.{IsForcedTold, Makes, PrintsSearch, SearchFails, SearchStops, TalliesFound, searched_text}
use Rattle.kmipa_searches.specs.declared.searched.Searched.{Searched}
use Rattle.kmipa_jobs.specs.declared.status.Status.{Status}
use Rattle.kmipa_jobs.specs.declared.status.Status.TheVariants as status
use Rattle.kmipa_segments.specs.Leaving.{if_asked, TellsLeft}
use Rattle.kmipa_segments.specs.declared.segment_search.FoundSegment.{FoundSegment}
use Rattle.kmipa_segments.specs.declared.segment_search.KnownSegment.{KnownSegment}

-- ---- what is searched

-- some inventory that the declaration describes has a run of all calls, in some order, none of them at a Time Stamp below the moment
pub record IsExplainedSince (marks : List MarkOf) (declared : DeclarationOf) (since : Option ℤ) : Type 0 where
  pub explained : IsExplained marks declared
  pub since_then : AreSince since explained.steps

-- a call that has ended, with a Time Stamp below the moment: every order takes it
pub record HasEndedBelow (calls : List CallOf) (since : Option ℤ) : Type 0 where
  pub call : CallOf
  pub known : Contains calls call
  pub end : ℕ
  pub ended : call.end ≡ Some end
  pub response : ResponseOf
  pub given : call.response ≡ Some response
  pub moment : ℤ
  pub is : since ≡ Some moment
  pub below : response.stamp <ℤ moment

-- Where a search of a segment that gives up has decided: where a search has, or some call has ended below the moment.
pub data HasDecidedSince (calls : List CallOf) (since : Option ℤ) (budget count : ℕ) : Type 0 where
  by_search : HasDecided calls budget count → HasDecidedSince calls since budget count
  ended_below : HasEndedBelow calls since → HasDecidedSince calls since budget count

-- A yes is that of a search, with a witness that is accepted from the moment on, and leads to what is left. Giving up comes only where all
-- messages are inside, also where the search found a witness that takes a call below the moment; where it has decided, and moments are stamps, it
-- tells that nothing explains these calls from the moment on; and so it tells where some objects refute them. Where the seconds of the search are
-- over, nothing is told of them.
abbrev pub FindsSince : List MarkOf → DeclarationOf → Option ℤ → ℕ → ℕ → Found → Option Left → Type 0
FindsSince marks declared since seconds budget (Yes witness count) (Some left) = Finds marks declared budget (Yes witness count)
    × IsAcceptedSince marks declared since (witness_of witness) × Leads declared since marks (witness_of witness) (declaration_of left.declaration) left.until
FindsSince marks declared since seconds budget (Yes witness count) None = ⊥
FindsSince marks declared since seconds budget (GaveUp count) (Some left) = ⊥
FindsSince marks declared since seconds budget (GaveUp count) None = (count ≤ budget)
    × ((calls : List CallOf) × AreCalls marks calls
    × (GrantsNothing (grants_declared declared) → HasDecidedSince calls since budget count → IsExplainedSince marks declared since → ⊥))
FindsSince marks declared since seconds budget (Refuted count object) (Some left) = ⊥
FindsSince marks declared since seconds budget (Impossible count number) (Some left) = ⊥
FindsSince marks declared since seconds budget (Refuted count object) None = (count ≤ budget) × (IsExplainedSince marks declared since → ⊥)
FindsSince marks declared since seconds budget (Impossible count number) None = (count ≤ budget) × (IsExplainedSince marks declared since → ⊥)
FindsSince marks declared since seconds budget (OutOfTime count after) (Some left) = ⊥
FindsSince marks declared since seconds budget (OutOfTime count after) None = FindsIn seconds marks declared budget (OutOfTime count after)

-- what a search of the records of a segment answers
abbrev pub SearchesSegment : List MarkOf → DeclarationOf → Option ℤ → ℕ → ℕ → Bool → Result FoundSegment CheckFault → Type 0
SearchesSegment marks declared since seconds budget asked (Ok segment) =
    IsForcedTold marks declared asked segment.searched.forced × FindsSince marks declared since seconds budget segment.searched.found segment.left
    × TalliesFound marks declared segment.searched.found segment.searched.tally
SearchesSegment marks declared since seconds budget asked (Err fault) = SearchStops marks fault

-- the bytes are records of which a search found this
pub record AreSearchedSince (segment : FoundSegment) (t d : List ℕ) (since : Option ℤ) (seconds budget : ℕ) (asked : Bool) : Type 0 where
  pub marks : List MarkOf
  pub transcript : IsTranscript t marks
  pub declared : DeclarationOf
  pub declaration : IsDeclaration d declared
  pub found : SearchesSegment marks declared since seconds budget asked (Ok segment)

-- what a search of two files answers; its faults are those of a search without a moment
abbrev pub SearchesSince : List ℕ → List ℕ → Bool → Bool → Option ℤ → ℕ → ℕ → Bool → Result FoundSegment AuditFault → Type 0
SearchesSince t d failed_t failed_d since seconds budget asked (Ok segment) = AreSearchedSince segment t d since seconds budget asked
SearchesSince t d failed_t failed_d since seconds budget asked (Err fault) = SearchFails t d failed_t failed_d fault

-- what was found without what the transcript is known by
abbrev pub found_alone : Result KnownSegment AuditFault → Result FoundSegment AuditFault
found_alone (Ok known) = Ok known.segment
found_alone (Err fault) = Err fault

-- ---- what is made and printed

-- at status 0 what was found is made, and at every other status nothing
pub record MakesWhenDone (found : Found) (said : Status) (made : List ℕ) : Type 0 where
  pub found_made : said ≡ status.Done → Makes found made
  pub nothing : said ≢ status.Done → made ≡ []

-- what is made and printed of what was found and of what is left: the declaration of this and its line behind the lines of that
abbrev pub TellsBoth : Searched → Left → Status → List ℕ → List ℕ → List ℕ → Type 0
TellsBoth searched left said lines made left_made =
    TellsLeft (searched_text searched) left said lines left_made × MakesWhenDone searched.found said made

-- where nothing is left, or nothing is asked for, what is made and printed of the search alone
abbrev pub TellsFound : FoundSegment → Option Left → Status → List ℕ → List ℕ → List ℕ → Type 0
TellsFound segment None said lines made left_made = PrintsSearch (Ok segment.searched) said lines made × (left_made ≡ [])
TellsFound segment (Some left) said lines made left_made = TellsBoth segment.searched left said lines made left_made

-- and of a fault its own line alone, and nothing is made
abbrev pub PrintsSegmentSearch : Bool → Result FoundSegment AuditFault → Status → List ℕ → List ℕ → List ℕ → Type 0
PrintsSegmentSearch leaves (Ok segment) said lines made left_made = TellsFound segment (if_asked leaves segment.left) said lines made left_made
PrintsSegmentSearch leaves (Err fault) said lines made left_made = PrintsFault fault said lines × (made ≡ []) × (left_made ≡ [])
