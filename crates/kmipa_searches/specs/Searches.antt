-- What `search` makes and prints of a transcript and a declaration.
use Rattle.std.specs.Prelude.{◌≡◌, ℕ, List, [], ◌∷◌, ◌++◌, Bool, true, false, Option, Some, None, Result, Ok, Err, codes}
use Rattle.std.specs.Fmt.{decimal}
use Rattle.kmipa_record.specs.Marks.{MarkOf}
use Rattle.kmipa_record.specs.Files.{Tells}
use Rattle.kmipa_record.specs.Transcripts.{IsTranscript, TranscriptFault, IsTranscriptUpTo}
use Rattle.kmipa_record.specs.Declarations.{DeclarationOf, IsDeclaration, DeclarationFault, IsDeclarationUpTo}
use Rattle.kmipa_record.specs.Witnesses.{witness_of, IsWitness}
use Rattle.kmipa_check.specs.Audits.{AreATranscript}
use Rattle.kmipa_check.specs.Calls.{IsFirstOutside}
use Rattle.kmipa_check.specs.Grants.{grants_declared}
use Rattle.kmipa_check.specs.declared.auditing.AuditFault.{AuditFault}
use Rattle.kmipa_check.specs.declared.auditing.AuditFault.TheVariants as audit
use Rattle.kmipa_check.specs.declared.fault.CheckFault.{CheckFault}
use Rattle.kmipa_check.specs.declared.fault.CheckFault.TheVariants as check
use Rattle.kmipa_orders.specs.Forced.{TellsForced}
use Rattle.kmipa_orders.specs.Found.{FindsIn}
use Rattle.kmipa_orders.specs.declared.found.Found.{Found}
use Rattle.kmipa_orders.specs.declared.found.Found.TheVariants.{Yes, GaveUp, Refuted, Impossible, OutOfTime}
use Rattle.kmipa_stream.specs.Counting.{TalliesSo}
use Rattle.kmipa_stream.specs.declared.tally.Tally.{Tally}
use Rattle.kmipa_runs.specs.Lines.{line, tally_text, PrintsFault}
use Rattle.kmipa_searches.specs.declared.searched.Searched.{Searched}
use Rattle.kmipa_jobs.specs.declared.status.Status.{Status}
use Rattle.kmipa_jobs.specs.declared.status.Status.TheVariants as status

-- ---- the lines

-- the line that tells whether a transcript is forced, where that was asked for
abbrev pub forced_text : Option Bool → List ℕ
forced_text None = []
forced_text (Some true) = line (codes "forced: yes" ∷ [])
forced_text (Some false) = line (codes "forced: no" ∷ [])

-- the line of what was found
abbrev pub found_text : Found → List ℕ
found_text (Yes witness count) = line (codes "yes: " ∷ decimal count ∷ codes " steps" ∷ [])
found_text (GaveUp count) = line (codes "gave up: " ∷ decimal count ∷ codes " steps" ∷ [])
found_text (Refuted count object) = line (codes "gave up: " ∷ decimal count ∷ codes " steps" ∷ [])
found_text (Impossible count number) = line (codes "gave up: " ∷ decimal count ∷ codes " steps" ∷ [])
found_text (OutOfTime count after) = line (codes "gave up: " ∷ decimal count ∷ codes " steps" ∷ [])

abbrev pub found_status : Found → Status
found_status (Yes witness count) = status.Done
found_status (GaveUp count) = status.GaveUp
found_status (Refuted count object) = status.GaveUp
found_status (Impossible count number) = status.GaveUp
found_status (OutOfTime count after) = status.GaveUp

-- the lines of a search
abbrev pub searched_text : Searched → List ℕ
searched_text searched = forced_text searched.forced ++ (found_text searched.found ++ tally_text searched.tally)

-- what is made of it: a file of the witness, or nothing
abbrev pub Makes : Found → List ℕ → Type 0
Makes (Yes witness count) made = IsWitness made (witness_of witness)
Makes (GaveUp count) made = made ≡ []
Makes (Refuted count object) made = made ≡ []
Makes (Impossible count number) made = made ≡ []
Makes (OutOfTime count after) made = made ≡ []

-- ---- what is searched

-- whether the transcript of these marks is forced under the declaration's tolerance, where that was asked for
abbrev pub IsForcedTold : List MarkOf → DeclarationOf → Bool → Option Bool → Type 0
IsForcedTold marks declared true (Some forced) = TellsForced marks (grants_declared declared).tolerance (Ok forced)
IsForcedTold marks declared true None = ⊥
IsForcedTold marks declared false reported = reported ≡ None

-- what became of the items by the witness that was found; of nothing else anything is told
abbrev pub TalliesFound : List MarkOf → DeclarationOf → Found → Option Tally → Type 0
TalliesFound marks declared (Yes witness count) tally = TalliesSo marks declared (witness_of witness) tally
TalliesFound marks declared (GaveUp count) tally = tally ≡ None
TalliesFound marks declared (Refuted count object) tally = tally ≡ None
TalliesFound marks declared (Impossible count number) tally = tally ≡ None
TalliesFound marks declared (OutOfTime count after) tally = tally ≡ None

-- a search of these records found this, in so many seconds or in all the time that it took
pub record AreSearched (searched : Searched) (t d : List ℕ) (seconds budget : ℕ) (asked : Bool) : Type 0 where
  pub marks : List MarkOf
  pub transcript : IsTranscript t marks
  pub declared : DeclarationOf
  pub declaration : IsDeclaration d declared
  pub forced : IsForcedTold marks declared asked searched.forced
  pub found : FindsIn seconds marks declared budget searched.found
  pub tallied : TalliesFound marks declared searched.found searched.tally

-- a message of the transcript is the first outside, or memory ran out
abbrev pub SearchStops : List MarkOf → CheckFault → Type 0
SearchStops marks (check.Outside number side o) = IsFirstOutside marks number side o.item o.kind
SearchStops marks (check.Witness f) = ⊥
SearchStops marks check.Memory = Unit {0}

-- what a search of records answers
abbrev pub SearchesRecords : List MarkOf → DeclarationOf → ℕ → ℕ → Bool → Result Searched CheckFault → Type 0
SearchesRecords marks declared seconds budget asked (Ok searched) = IsForcedTold marks declared asked searched.forced × FindsIn seconds marks declared budget searched.found
    × TalliesFound marks declared searched.found searched.tally
SearchesRecords marks declared seconds budget asked (Err fault) = SearchStops marks fault

-- and what is reported first
abbrev pub TellsIfForced : List MarkOf → DeclarationOf → Bool → Result (Option Bool) CheckFault → Type 0
TellsIfForced marks declared asked (Ok reported) = IsForcedTold marks declared asked reported
TellsIfForced marks declared asked (Err fault) = SearchStops marks fault

-- the bytes are records with this fault
pub record AreUnsearched (fault : CheckFault) (t d : List ℕ) : Type 0 where
  pub marks : List MarkOf
  pub transcript : IsTranscript t marks
  pub declared : DeclarationOf
  pub declaration : IsDeclaration d declared
  pub stops : SearchStops marks fault

-- A fault: the first of the first file that is no record, or the first message that is outside. The two truths say which inputs failed.
abbrev pub SearchFails : List ℕ → List ℕ → Bool → Bool → AuditFault → Type 0
SearchFails t d failed_t failed_d (audit.Transcript f) = Tells TranscriptFault IsTranscriptUpTo t failed_t f
SearchFails t d failed_t failed_d (audit.Declaration f) = AreATranscript t × Tells DeclarationFault IsDeclarationUpTo d failed_d f
SearchFails t d failed_t failed_d (audit.Witness f) = ⊥
SearchFails t d failed_t failed_d (audit.Check f) = AreUnsearched f t d

-- what a search of two files answers
abbrev pub SearchesFiles : List ℕ → List ℕ → Bool → Bool → ℕ → ℕ → Bool → Result Searched AuditFault → Type 0
SearchesFiles t d failed_t failed_d seconds budget asked (Ok searched) = AreSearched searched t d seconds budget asked
SearchesFiles t d failed_t failed_d seconds budget asked (Err fault) = SearchFails t d failed_t failed_d fault

-- ---- what is made and printed

-- What is made and printed of it at a status. A fault prints its own line alone, and makes nothing.
abbrev pub PrintsSearch : Result Searched AuditFault → Status → List ℕ → List ℕ → Type 0
PrintsSearch (Ok searched) said lines made = (said ≡ found_status searched.found) × (lines ≡ searched_text searched) × Makes searched.found made
PrintsSearch (Err fault) said lines made = PrintsFault fault said lines × (made ≡ [])
