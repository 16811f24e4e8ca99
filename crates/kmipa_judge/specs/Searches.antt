-- WHAT A SEARCH SAYS OF TWO FILES, AND MAKES, whatever their declaration sets aside (profile).
use Rattle.std.specs.Prelude.{◌≡◌, ◌≢◌, ◌⊎◌, ℕ, ℤ, List, [], ◌∷◌, ◌++◌, Bool, true, false, IsTrue, Option, Some, None, Result, Ok, Err, codes}
use Rattle.std.specs.Fmt.{decimal}
use Rattle.kmipa_ttlv.specs.Input.{came_of, is_ended, is_failed, IsFileOf}
use Rattle.kmipa_ttlv.specs.declared.input.Input.{Input}
use Rattle.kmipa_msgs.specs.declared.rules.Unjudged.{Unjudged}
use Rattle.kmipa_msgs.specs.declared.rules.Unjudged.TheVariants.{Refused, SetAside, Unknown}
use Rattle.kmipa_msgs.specs.declared.rules.Visibility.TheVariants.{Everyone}
use Rattle.kmipa_record.specs.Declarations.{DeclarationOf, IsDeclarationWithin}
use Rattle.kmipa_record.specs.Marks.{MarkOf}
use Rattle.kmipa_record.specs.Witnesses.{TurnOf, IsWitness, witness_of}
use Rattle.kmipa_record.specs.declared.reach.Reach.TheVariants.{Aside}
use Rattle.kmipa_check.specs.Audits.{AreAccepted}
use Rattle.kmipa_check.specs.Calls.{CallOf, AreCalls, IsFirstOutside}
use Rattle.kmipa_check.specs.declared.auditing.AuditFault.{AuditFault}
use Rattle.kmipa_check.specs.declared.auditing.AuditFault.TheVariants as audit
use Rattle.kmipa_check.specs.declared.fault.CheckFault.{CheckFault}
use Rattle.kmipa_check.specs.declared.fault.CheckFault.TheVariants as check
use Rattle.kmipa_check.specs.declared.fault.Side.{Side}
use Rattle.kmipa_msgs.specs.declared.fault.Outside.{Outside}
use Rattle.kmipa_trail.specs.Tallies.{TallyOf}
use Rattle.kmipa_trail.specs.Told.{tally_of}
use Rattle.kmipa_findings.specs.Choices.{IsForcedBeside}
use Rattle.kmipa_findings.specs.Seeking.{Explains, Seeks}
use Rattle.kmipa_findings.specs.declared.seeking.Order.{Order}
use Rattle.kmipa_findings.specs.declared.seeking.Sought.{Sought}
use Rattle.kmipa_findings.specs.declared.seeking.Sought.TheVariants as sought
use Rattle.kmipa_beside.specs.Checks.{ChecksNothing}
use Rattle.kmipa_beside.specs.Lines.{judged_line}
use Rattle.kmipa_runs.specs.Lines.{PrintsFault, line}
use Rattle.kmipa_searches.specs.Searches.{PrintsSearch, SearchesFiles, SearchesRecords, forced_text}
use Rattle.kmipa_searches.specs.declared.searched.Searched.{Searched}
use Rattle.kmipa_jobs.specs.Statuses.{IsSilent}
use Rattle.kmipa_jobs.specs.declared.status.Status.{Status}
use Rattle.kmipa_jobs.specs.declared.status.Status.TheVariants as status
use Rattle.kmipa_judge.specs.Declaring.{IsPlain}
use Rattle.kmipa_judge.specs.Runs.{IsReadAs}
use Rattle.kmipa_judge.specs.declared.beside.Beside.{Beside}

-- ---- by what it is searched

-- the bytes that came, to the end that was seen, are this declaration
pub record IsGivenAs {R : Type 0} (d : Input R) (declared : DeclarationOf) : Type 0 where
  pub declaration : IsDeclarationWithin Aside (came_of d) declared
  pub ended : IsTrue (is_ended d)

-- memory ran out, and nothing is made
abbrev pub SaysNothing : Status → List ℕ → List ℕ → Type 0
SaysNothing said lines made = IsSilent said lines × (made ≡ [])

-- ---- as ever

-- Where no message is outside: the lines tell what a search answers of whatever the files may be, and a witness is made; or memory ran out.
pub record SearchesAsEver {R : Type 0} (seconds budget : ℕ) (forced : Bool) (t d : Input R) (said : Status) (lines made : List ℕ) : Type 0 where
  pub prints : (outcome : Result Searched AuditFault)
      × ((a b : List ℕ) → IsFileOf a t → IsFileOf b d → SearchesFiles a b (is_failed t) (is_failed d) seconds budget forced outcome)
      × (PrintsSearch outcome said lines made ⊎ SaysNothing said lines made)
  -- status 0 is answered only where the bytes that came, to the ends that were seen, are accepted with the witness that is made
  pub accepts : said ≡ status.Done → AreAccepted (came_of t) (came_of d) made × IsTrue (is_ended t) × IsTrue (is_ended d)

-- ---- beside what is set aside

-- how many items are judged stands behind a yes, where what isn't judged is set aside
abbrev pub counts_text : Unjudged → TallyOf → List ℕ
counts_text Refused k = []
counts_text SetAside k = judged_line k.counts
counts_text Unknown k = judged_line k.counts

abbrev pub gave_up_text : ℕ → List ℕ
gave_up_text steps = line (codes "gave up: " ∷ decimal steps ∷ codes " steps" ∷ [])

abbrev pub yes_text : ℕ → List ℕ
yes_text steps = line (codes "yes: " ∷ decimal steps ∷ codes " steps" ∷ [])

abbrev pub order_text : Unjudged → Order → List ℕ
order_text unjudged order = yes_text order.steps ++ counts_text unjudged (tally_of order.tally)

-- the lines of what was found
abbrev pub sought_text : Unjudged → Sought → List ℕ
sought_text unjudged (sought.Found order) = order_text unjudged order
sought_text unjudged (sought.GaveUp steps) = gave_up_text steps
sought_text unjudged (sought.OutOfTime steps after) = gave_up_text steps

abbrev pub sought_status : Sought → Status
sought_status (sought.Found order) = status.Done
sought_status (sought.GaveUp steps) = status.GaveUp
sought_status (sought.OutOfTime steps after) = status.GaveUp

-- before them stands whether the transcript is forced, where that was asked for
abbrev pub beside_text : Unjudged → Beside → List ℕ
beside_text unjudged b = forced_text b.forced ++ sought_text unjudged b.sought

-- a file of the witness is made of an order that was found
abbrev pub MakesOrder : Sought → List ℕ → Type 0
MakesOrder (sought.Found order) made = IsWitness made (witness_of order.witness)
MakesOrder (sought.GaveUp steps) made = made ≡ []
MakesOrder (sought.OutOfTime steps after) made = made ≡ []

-- whether they are forced, where that was asked for
abbrev pub IsForcedTold : List MarkOf → DeclarationOf → Bool → Option Bool → Type 0
IsForcedTold marks declared true (Some forced) = IsTrue forced → IsForcedBeside marks declared
IsForcedTold marks declared true None = ⊥
IsForcedTold marks declared false told = told ≡ None

-- the marks are searched by the declaration, beside what it sets aside
pub record IsSoughtBeside (seconds budget : ℕ) (asked : Bool) (marks : List MarkOf) (declared : DeclarationOf) (b : Beside) : Type 0 where
  pub forced : IsForcedTold marks declared asked b.forced
  pub sought : Seeks seconds budget marks declared b.sought

-- what is printed and made of it
pub record TellsBeside (unjudged : Unjudged) (b : Beside) (said : Status) (lines made : List ℕ) : Type 0 where
  pub ends : said ≡ sought_status b.sought
  pub prints : lines ≡ beside_text unjudged b
  pub makes : MakesOrder b.sought made

-- what is told of what was found: that, or that it gave up when the budget was used up
abbrev pub IsNoMore : ℕ → Sought → Sought → Type 0
IsNoMore budget (sought.Found order) told = (told ≡ sought.Found order) ⊎ (told ≡ sought.GaveUp budget)
IsNoMore budget (sought.GaveUp steps) told = told ≡ sought.GaveUp steps
IsNoMore budget (sought.OutOfTime steps after) told = told ≡ sought.OutOfTime steps after

-- the fault of a check, as one of an audit
abbrev pub of_check : Result Searched CheckFault → Result Searched AuditFault
of_check (Ok searched) = Ok searched
of_check (Err fault) = Err (audit.Check fault)

-- Where what isn't judged ends the audit the first message is told that is outside. Else what was found is told, and made. Or memory ran out.
pub data SearchesBeside (seconds budget : ℕ) (asked : Bool) (marks : List MarkOf) (declared : DeclarationOf) (said : Status) (lines made : List ℕ) : Type 0 where
  found : (b : Beside) → IsSoughtBeside seconds budget asked marks declared b
      → (declared.settings.unjudged ≡ Refused → (calls : List CallOf) × AreCalls marks calls)
      → TellsBeside declared.settings.unjudged b said lines made → SearchesBeside seconds budget asked marks declared said lines made
  outside : declared.settings.unjudged ≡ Refused → (number : ℤ) (side : Side) (o : Outside) → IsFirstOutside marks number side o.item o.kind
      → PrintsFault (audit.Check (check.Outside number side o)) said lines → made ≡ [] → SearchesBeside seconds budget asked marks declared said lines made
  no_memory : SaysNothing said lines made → SearchesBeside seconds budget asked marks declared said lines made

-- ---- of records; not promised

-- as ever, of these marks and this declaration
abbrev pub SearchesEver : ℕ → ℕ → Bool → List MarkOf → DeclarationOf → Status → List ℕ → List ℕ → Type 0
SearchesEver seconds budget asked marks declared said lines made =
    (outcome : Result Searched CheckFault) × SearchesRecords marks declared seconds budget asked outcome × (PrintsSearch (of_check outcome) said lines made ⊎ SaysNothing said lines made)

pub data SearchesRecordsAny (seconds budget : ℕ) (asked : Bool) (marks : List MarkOf) (declared : DeclarationOf) (said : Status) (lines made : List ℕ) : Type 0 where
  ever_so : IsPlain declared → SearchesEver seconds budget asked marks declared said lines made → SearchesRecordsAny seconds budget asked marks declared said lines made
  beside_so : SearchesBeside seconds budget asked marks declared said lines made → SearchesRecordsAny seconds budget asked marks declared said lines made

-- what was found is told and made, or an order that no file is of is given up; or memory ran out
pub data TellsOrNot (budget : ℕ) (unjudged : Unjudged) (b : Beside) (said : Status) (lines made : List ℕ) : Type 0 where
  tells : (c : Beside) → c.forced ≡ b.forced → IsNoMore budget b.sought c.sought → TellsBeside unjudged c said lines made → TellsOrNot budget unjudged b said lines made
  not_told : SaysNothing said lines made → TellsOrNot budget unjudged b said lines made

-- ---- THE DEFINITION

pub data SearchesAny {R : Type 0} (seconds budget : ℕ) (asked : Bool) (t d : Input R) (said : Status) (lines made : List ℕ) : Type 0 where
  as_ever : (declared : DeclarationOf) → IsGivenAs d declared → IsPlain declared → SearchesAsEver seconds budget asked t d said lines made
      → SearchesAny seconds budget asked t d said lines made
  beside : (marks : List MarkOf) → IsReadAs t marks → (declared : DeclarationOf) → IsGivenAs d declared → SearchesBeside seconds budget asked marks declared said lines made
      → SearchesAny seconds budget asked t d said lines made
  unread : ChecksNothing t d said lines → made ≡ [] → SearchesAny seconds budget asked t d said lines made

-- ---- what status 0 means

-- The bytes that came, to the ends that were seen, are accepted by the declaration with the witness that is made, beside what is set aside: and that sets
-- nothing aside by itself. Where what isn't judged ends the audit, no message is outside.
pub record IsFoundBeside {R : Type 0} (t d : Input R) (made : List ℕ) : Type 0 where
  pub marks : List MarkOf
  pub read : IsReadAs t marks
  pub declared : DeclarationOf
  pub given : IsGivenAs d declared
  pub turns : List TurnOf
  pub written : IsWitness made turns
  pub tally : TallyOf
  pub explains : Explains marks declared turns tally
  pub inside : declared.settings.unjudged ≡ Refused → (calls : List CallOf) × AreCalls marks calls

abbrev pub IsFound : {R : Type 0} → Input R → Input R → List ℕ → Type 0
IsFound t d made = (AreAccepted (came_of t) (came_of d) made × IsTrue (is_ended t) × IsTrue (is_ended d)) ⊎ IsFoundBeside t d made
