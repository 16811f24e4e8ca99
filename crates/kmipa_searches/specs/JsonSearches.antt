-- What is told in JSON of a search, and made of it.
use Rattle.std.specs.Prelude.{◌≡◌, ℕ, List, [], ◌∷◌, String, Bool, true, false, IsTrue, codes, Option, Some, None, Result, Ok, Err}
use Rattle.std.specs.String.{string_bytes}
use Rattle.std.specs.declared.alloc.Global.{Global}
use Rattle.serde_json.specs.Data.{Members, Items, no_items, item, object, array, boolean, string, put}
use Rattle.kmipa_json.specs.Told.{count, file_members, integer, line_of, with_item}
use Rattle.kmipa_ttlv.specs.Input.{came_of, is_ended, is_failed, IsFileOf}
use Rattle.kmipa_ttlv.specs.declared.input.Input.{Input}
use Rattle.kmipa_record.specs.declared.head.Head.{Head}
use Rattle.kmipa_orders.specs.declared.found.Found.{Found}
use Rattle.kmipa_orders.specs.declared.found.Found.TheVariants.{Yes, GaveUp, Refuted, Impossible, OutOfTime}
use Rattle.kmipa_stream.specs.declared.tally.Tally.{Tally}
use Rattle.kmipa_searches.specs.Searches.{found_status, Makes}
use Rattle.kmipa_jobs.specs.declared.status.Status.{Status}
use Rattle.kmipa_orders.specs.declared.stuck.Reached.{Reached}
use Rattle.kmipa_telling.specs.Claims.{call_items}
use Rattle.kmipa_searches.specs.Deciding.{DecidesFiles}
use Rattle.kmipa_searches.specs.DeepestClaims.{told_reached}
use Rattle.kmipa_telling.specs.FaultsTold.{TellsFaultTold, by_fault}
use Rattle.kmipa_telling.specs.Judging.{WhereRead}
use Rattle.kmipa_telling.specs.Seals.{KnowsJudged}
use Rattle.kmipa_telling.specs.Telling.{input_members, opened, told_tally, transcript_members, verdict_named}
use Rattle.kmipa_telling.specs.declared.meaning.FaultTold.{FaultTold}
use Rattle.kmipa_searches.specs.declared.judged.Decision.{Decision}
use Rattle.kmipa_searches.specs.declared.judged.Decision.TheVariants as decision
use Rattle.kmipa_searches.specs.declared.judged.Judged.{Judged}

-- ---- what is searched

-- the ends of two inputs were seen
abbrev pub BothEnded : {R : Type 0} → Input R → Input R → Type 0
BothEnded t d = IsTrue (is_ended t) × IsTrue (is_ended d)

-- what a search of two inputs answers, whatever follows what came
abbrev pub DecidesInputs : {R : Type 0} → Input R → Input R → ℕ → ℕ → Bool → Result Judged FaultTold → Type 0
DecidesInputs t d seconds budget asked outcome = ((a b : List ℕ) → IsFileOf a t → IsFileOf b d → DecidesFiles a b (is_failed t) (is_failed d) seconds budget asked outcome)
    × WhereRead (by_fault outcome) (BothEnded t d)

-- ---- what is told

-- objects by their identifiers: one alone, or a list of them
abbrev pub object_items : List (String Global) → Items
object_items [] = no_items
object_items (id ∷ objects) = item (string (string_bytes id)) (object_items objects)

abbrev pub objects_members : List (String Global) → Members → Members
objects_members (id ∷ []) told = put (codes "object") (string (string_bytes id)) told
objects_members objects told = put (codes "objects") (array (object_items objects)) told

-- whether giving up has decided, and by which objects; if not, the budget that was used up, the calls that aren't plain, the tolerance, the
-- seconds that are over, or that there may be births
abbrev pub decision_members : Decision → Members → Members
decision_members decision.Decided told = put (codes "decided") (boolean true) told
decision_members (decision.UsedUp steps) told = put (codes "budget") (count steps) (put (codes "decided") (boolean false) told)
decision_members decision.Impossible told = put (codes "decided") (boolean true) told
decision_members (decision.Objects objects) told = objects_members objects.items (put (codes "decided") (boolean true) told)
decision_members (decision.NotPlain numbers) told = put (codes "not_plain") (array (call_items numbers.items)) (put (codes "decided") (boolean false) told)
decision_members (decision.OutOfTime seconds) told = put (codes "seconds") (count seconds) (put (codes "decided") (boolean false) told)
decision_members (decision.Tolerant seconds) told = put (codes "tolerance") (integer seconds) (put (codes "decided") (boolean false) told)
decision_members decision.Births told = put (codes "births") (boolean true) (put (codes "decided") (boolean false) told)

abbrev pub told_decision : Option Decision → Members → Members
told_decision None told = told
told_decision (Some said) told = decision_members said told

-- whether the transcript is forced, where that was asked for
abbrev pub told_forced : Option Bool → Members → Members
told_forced None told = told
told_forced (Some forced) told = put (codes "forced") (boolean forced) told

-- the line's first words, and how many calls were tried
abbrev pub steps_members : List ℕ → ℕ → Members → Members
steps_members name steps told = put (codes "steps") (count steps) (verdict_named name told)

abbrev pub told_found : Found → Option Tally → Option Decision → Option Reached → Members → Members
told_found (Yes witness steps) tally said reached told = told_tally tally (steps_members (codes "yes") steps told)
told_found (GaveUp steps) tally said reached told = told_reached reached (told_decision said (steps_members (codes "gave up") steps told))
told_found (Refuted steps objects) tally said reached told = told_reached reached (told_decision said (steps_members (codes "gave up") steps told))
told_found (Impossible steps number) tally said reached told = told_reached reached (told_decision said (steps_members (codes "gave up") steps told))
told_found (OutOfTime steps after) tally said reached told = told_reached reached (told_decision said (steps_members (codes "gave up") steps told))

-- what is told of what was found
abbrev pub found_members : Judged → Members → Members
found_members judged told = told_found judged.searched.found judged.searched.tally judged.decision judged.reached (told_forced judged.searched.forced told)

-- ---- what is made and printed

-- the file that is made of what was found, behind the files that were read
abbrev pub found_items : Found → List ℕ → Items → Items
found_items (Yes witness steps) made told = with_item (object (file_members (codes "witness") made)) told
found_items (GaveUp steps) made told = told
found_items (Refuted steps objects) made told = told
found_items (Impossible steps number) made told = told
found_items (OutOfTime steps after) made told = told

abbrev pub judged_items : Result Judged FaultTold → List ℕ → Items → Items
judged_items (Ok judged) made told = found_items judged.searched.found made told
judged_items (Err fault) made told = told

-- the files of a search: the two that are read, and the one that is made
abbrev pub judged_files : {R : Type 0} → Option ℕ → Result Judged FaultTold → Option Head → Input R → Input R → List ℕ → Items
judged_files torn outcome known t d made = judged_items outcome made
    (item (object (transcript_members torn known t)) (item (object (input_members (codes "declaration") d)) no_items))

-- the bytes are a file of the witness that was found, or none
abbrev pub MakesFile : Result Judged FaultTold → List ℕ → Type 0
MakesFile (Ok judged) made = Makes judged.searched.found made
MakesFile (Err fault) made = made ≡ []

abbrev pub TellsJudged : Result Judged FaultTold → Status → Members → Members → Type 0
TellsJudged (Ok judged) said before after = (said ≡ found_status judged.searched.found) × (after ≡ found_members judged before)
TellsJudged (Err told) said before after = TellsFaultTold told said before after

-- what a search of two files prints in JSON of this outcome, one object on a line, with the head of a sealed transcript, and what it makes
abbrev pub PrintsJsonSearch : {R : Type 0} → Option ℕ → Input R → Input R → Result Judged FaultTold → Status → List ℕ → List ℕ → Type 0
PrintsJsonSearch torn t d outcome said lines made = MakesFile outcome made
    × ((known : Option Head) × (told : Members) × KnowsJudged outcome (came_of t) known
    × TellsJudged outcome said (opened (judged_files torn outcome known t d made)) told × (lines ≡ line_of (object told)))
