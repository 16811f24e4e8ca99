-- What is told in JSON of a search, and made of it.
use Rattle.std.proofs.Common.{◌≡◌, ◌⊎◌, inl, inr, List, [], ◌∷◌, ◌++◌, ◌<◌, ◌+◌, ℕ, suc, length, take, get_or, Bool, Option, Result, Ok, Err, refl, sym, ap, subst, ◌∙◌}
use Rattle.std.proofs.Math.Seq.{take-suc}
use native.Mathlib.Omega.{arith}
use Rattle.std.specs.Prelude.{IfOk, IsOkAnd, String, string_bytes}
use Rattle.std.specs.declared.alloc.Global.{Global}
use Rattle.serde_json.specs.Data.{Items, item, string}
use Rattle.kmipa_json.specs.Told.{with_item}
use Rattle.std.specs.declared.alloc.AllocError.{AllocError}
use Rattle.kmipa_ttlv.specs.Input.{came_of}
use Rattle.kmipa_ttlv.specs.declared.input.Input.{Input}
use Rattle.kmipa_ttlv.proofs.ReadLemmas.{itself}
use Rattle.kmipa_check.specs.Audits.{AreAccepted}
use Rattle.kmipa_jobs.specs.Statuses.{IsSilent}
use Rattle.kmipa_jobs.specs.declared.status.Status.{Status}
use Rattle.kmipa_jobs.specs.declared.status.Status.TheVariants as status
use Rattle.kmipa_searches.specs.JsonSearches.{BothEnded, DecidesInputs, PrintsJsonSearch, object_items}
use Rattle.kmipa_searches.specs.declared.json_search.Answer.{Answer}
use Rattle.kmipa_telling.specs.declared.meaning.FaultTold.{FaultTold}
use Rattle.kmipa_searches.specs.declared.judged.Judged.{Judged}
use Rattle.kmipa_searches.proofs.GivingUpLemmas.{done_accepted}
use Rattle.kmipa_telling.proofs.JsonLemmas.{fault_not_done, silent_not_done}

-- what is printed and made of what a search answers
abbrev pub ToldSearch : {R : Type 0} → Option ℕ → Input R → Input R → ℕ → ℕ → Bool → Status → List ℕ → List ℕ → Type 0
ToldSearch torn t d seconds budget asked said lines made = (outcome : Result Judged FaultTold) × DecidesInputs t d seconds budget asked outcome × PrintsJsonSearch torn t d outcome said lines made

found_done : {R : Type 0} (torn : Option ℕ) (t d : Input R) (seconds budget : ℕ) (asked : Bool) (outcome : Result Judged FaultTold) (said : Status) (lines made : List ℕ) → DecidesInputs t d seconds budget asked outcome
    → PrintsJsonSearch torn t d outcome said lines made → said ≡ status.Done → AreAccepted (came_of t) (came_of d) made × BothEnded t d
found_done torn t d seconds budget asked (Err told) said lines made decides (none, (known, told_in, knows, (without, tells, more), is)) done = absurd (fault_not_done told.fault (sym tells.0 ∙ done))
found_done torn t d seconds budget asked (Ok judged) said lines made decides (makes, (known, told_in, knows, tells, is)) done =
    let are = decides.0 (came_of t) (came_of d) (itself t) (itself d) in
    (done_accepted judged (came_of t) (came_of d) seconds budget asked said made are tells.0 makes done, decides.1)

pub done_is_found : {R : Type 0} (torn : Option ℕ) (t d : Input R) (seconds budget : ℕ) (asked : Bool) (said : Status) (lines made : List ℕ)
    → ToldSearch torn t d seconds budget asked said lines made ⊎ (IsSilent said lines × (made ≡ [])) → said ≡ status.Done → AreAccepted (came_of t) (came_of d) made × BothEnded t d
done_is_found torn t d seconds budget asked said lines made (inl told) done = found_done torn t d seconds budget asked told.0 said lines made told.1 told.2 done
done_is_found torn t d seconds budget asked said lines made (inr silent) done = absurd (silent_not_done said lines silent.0 done)

-- ---- what is appended

pub search_reported : {R : Type 0} (torn : Option ℕ) (answer : Result Answer AllocError) (t d : Input R) (outcome : Result Judged FaultTold) (said : Status) (lines file : List ℕ)
    → IfOk answer (λ a. PrintsJsonSearch torn t d outcome a.lines.status (string_bytes a.lines.text) a.made.items)
    → IsOkAnd answer (λ a. (said ≡ a.lines.status) × (lines ≡ string_bytes a.lines.text) × (file ≡ a.made.items)) ⊎ (IsSilent said lines × (file ≡ []))
    → PrintsJsonSearch torn t d outcome said lines file ⊎ (IsSilent said lines × (file ≡ []))
search_reported torn answer t d outcome said lines file told (inr silent) = inr silent
search_reported torn (Err e) t d outcome said lines file told (inl p) = absurd p
search_reported torn (Ok a) t d outcome said lines file told (inl p) =
    let P : Status → Type 0 = λ s. PrintsJsonSearch torn t d outcome s (string_bytes a.lines.text) a.made.items in
    let Q : List ℕ → Type 0 = λ text. PrintsJsonSearch torn t d outcome said text a.made.items in
    let S : List ℕ → Type 0 = λ bytes. PrintsJsonSearch torn t d outcome said lines bytes in
    inl (subst S (sym p.2) (subst Q (sym p.1) (subst P (sym p.0) told)))

pub printed_search : {R : Type 0} (torn : Option ℕ) (t d : Input R) (seconds budget : ℕ) (asked : Bool) (outcome : Result Judged FaultTold) (said : Status) (lines file : List ℕ)
    → DecidesInputs t d seconds budget asked outcome → PrintsJsonSearch torn t d outcome said lines file ⊎ (IsSilent said lines × (file ≡ []))
    → ToldSearch torn t d seconds budget asked said lines file ⊎ (IsSilent said lines × (file ≡ []))
printed_search torn t d seconds budget asked outcome said lines file decides (inl prints) = inl (outcome, decides, prints)
printed_search torn t d seconds budget asked outcome said lines file decides (inr silent) = inr silent

-- ---- objects

object_behind : (objects : List (String Global)) (object : String Global) → object_items (objects ++ object ∷ []) ≡ with_item (string (string_bytes object)) (object_items objects)
object_behind [] object = refl
object_behind (o ∷ objects) object = ap (item (string (string_bytes o))) (object_behind objects object)

-- what a turn of the loop over objects keeps
pub one_object_more : (objects : List (String Global)) (i : ℕ) (object : String Global) (before after : Items) → i < length objects → before ≡ object_items (take i objects)
    → object ≡ get_or objects i object → after ≡ with_item (string (string_bytes object)) before → after ≡ object_items (take (i + 1) objects)
one_object_more objects i object before after within told is pushed =
    let next : suc i ≡ i + 1 = omega arith in
    let taken = sym (take-suc objects i object within) ∙ ap (λ n. take n objects) next in
    pushed ∙ ap (λ (o : String Global). with_item (string (string_bytes o)) before) is ∙ ap (with_item (string (string_bytes (get_or objects i object)))) told
    ∙ sym (object_behind (take i objects) (get_or objects i object)) ∙ ap object_items taken
