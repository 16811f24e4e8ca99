-- What a search says of two files, of what their reads gave, and what it makes; and what is shown and written of one.
use Rattle.std.specs.Prelude.{◌≡◌, ◌≢◌, ◌⊎◌, ℕ, ℤ, List, [], Bool, IsTrue, Option, Result}
use Rattle.kmipa_ttlv.specs.Input.{came_of, is_ended, is_failed, IsFileOf}
use Rattle.kmipa_ttlv.specs.declared.input.Input.{Input}
use Rattle.kmipa_check.specs.Audits.{AreAccepted}
use Rattle.kmipa_check.specs.declared.auditing.AuditFault.{AuditFault}
use Rattle.kmipa_runs.specs.Inputs.{AreShown, PrintsShown}
use Rattle.kmipa_judge.specs.Searches.{IsFound, SearchesAny}
use Rattle.kmipa_jobs.specs.Statuses.{IsSilent}
use Rattle.kmipa_jobs.specs.declared.options.ShowOptions.{ShowOptions}
use Rattle.kmipa_jobs.specs.declared.status.Status.{Status}
use Rattle.kmipa_jobs.specs.declared.status.Status.TheVariants as status
use Rattle.kmipa_segments.specs.Leaving.{LeadsAsAsked}
use Rattle.kmipa_segments.specs.SegmentSearches.{PrintsSegmentSearch, SearchesSince}
use Rattle.kmipa_segments.specs.declared.segment_search.FoundSegment.{FoundSegment}
use Rattle.kmipa_searches.specs.Deciding.{DecidesFiles}
use Rattle.kmipa_searches.specs.GivingUp.{PrintsGivingUp}
use Rattle.kmipa_searches.specs.JsonSearches.{DecidesInputs, PrintsJsonSearch}
use Rattle.kmipa_telling.specs.declared.meaning.FaultTold.{FaultTold}
use Rattle.kmipa_searches.specs.declared.judged.Judged.{Judged}
use Rattle.kmipa_jobs.specs.declared.job.Form.{Form}
use Rattle.kmipa_jobs.specs.declared.job.Form.TheVariants as form
use Rattle.kmipa_jobs.specs.declared.job.SearchWords.{SearchWords}

-- memory ran out, and nothing is made
abbrev pub MakesNothing : Status → List ℕ → List ℕ → Type 0
MakesNothing said lines made = IsSilent said lines × (made ≡ [])

-- status 0 is answered only where the bytes that came, to the ends that were seen, are accepted with the witness that is made
abbrev pub FindsWhenDone : {R : Type 0} → Input R → Input R → Status → List ℕ → Type 0
FindsWhenDone t d said made = said ≡ status.Done → AreAccepted (came_of t) (came_of d) made × IsTrue (is_ended t) × IsTrue (is_ended d)

-- Of a search that ends after so many seconds, or in its own time, where these are 0: its lines alone, whatever the declaration sets aside, and a witness; or
-- memory ran out. Status 0 is answered only where the bytes that came, to the ends that were seen, are accepted with the witness that is made.
pub record SearchesInLines {R : Type 0} (seconds : ℕ) (words : SearchWords) (t d : Input R) (said : Status) (lines made : List ℕ) : Type 0 where
  pub searches : SearchesAny seconds words.budget words.forced t d said lines made
  pub accepts : said ≡ status.Done → IsFound t d made

-- Behind those of a giving up stands what it means.
pub record SearchesExplained {R : Type 0} (seconds : ℕ) (words : SearchWords) (t d : Input R) (said : Status) (lines made : List ℕ) : Type 0 where
  pub prints : (outcome : Result Judged FaultTold)
      × ((a b : List ℕ) → IsFileOf a t → IsFileOf b d → DecidesFiles a b (is_failed t) (is_failed d) seconds words.budget words.forced outcome)
      × (PrintsGivingUp outcome said lines made ⊎ MakesNothing said lines made)
  pub accepts : FindsWhenDone t d said made

-- One object in place of the lines, which has that too; of a torn transcript so many bytes are its own.
pub record SearchesInJson {R : Type 0} (seconds : ℕ) (words : SearchWords) (torn : Option ℕ) (t d : Input R) (said : Status) (lines made : List ℕ) : Type 0 where
  pub prints : ((outcome : Result Judged FaultTold) × DecidesInputs t d seconds words.budget words.forced outcome × PrintsJsonSearch torn t d outcome said lines made)
      ⊎ MakesNothing said lines made
  pub accepts : FindsWhenDone t d said made

-- what a search of whole files says in this form, and makes
abbrev pub Searches : {R : Type 0} → ℕ → Form → SearchWords → Option ℕ → Input R → Input R → Status → List ℕ → List ℕ → Type 0
Searches seconds form.Lines words torn t d said lines made = SearchesInLines seconds words t d said lines made
Searches seconds form.Explained words torn t d said lines made = SearchesExplained seconds words t d said lines made
Searches seconds form.Json words torn t d said lines made = SearchesInJson seconds words torn t d said lines made
Searches seconds form.ExplainedJson words torn t d said lines made = SearchesInJson seconds words torn t d said lines made

-- What a search of a segment says from a moment on: it makes a witness, and what it leaves where that is asked for.
pub record SearchesInSegment {R : Type 0} (seconds : ℕ) (words : SearchWords) (leaves : Bool) (since : Option ℤ) (t d : Input R) (said : Status) (lines made left : List ℕ) : Type 0 where
  pub prints : (outcome : Result FoundSegment AuditFault)
      × ((a b : List ℕ) → IsFileOf a t → IsFileOf b d → SearchesSince a b (is_failed t) (is_failed d) since seconds words.budget words.forced outcome)
      × (PrintsSegmentSearch leaves outcome said lines made left ⊎ (IsSilent said lines × (made ≡ []) × (left ≡ [])))
  -- status 0 is answered only where the bytes that came are accepted from the moment on with the witness that is made, and what they lead to
  -- is made where it is asked for
  pub leads : said ≡ status.Done → LeadsAsAsked leaves (came_of t) (came_of d) made since left × IsTrue (is_ended t) × IsTrue (is_ended d)

-- what `show` answers and prints of a file
pub record Shows {R : Type 0} (options : ShowOptions) (f : Input R) (said : Status) (lines : List ℕ) : Type 0 where
  -- the lines of its items or of its first fault, whatever the file may be, or nothing, where memory ran out
  pub prints : (file : List ℕ) → IsFileOf file f → PrintsShown options file (is_failed f) said lines ⊎ IsSilent said lines
  -- status 0 is answered only where the bytes that came, to the end that was seen, are the items that are shown
  pub shows : said ≡ status.Done → AreShown options (came_of f) lines × IsTrue (is_ended f)
