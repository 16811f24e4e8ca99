-- From what a run appends to what a session prints.
use Rattle.std.proofs.Common.{◌≡◌, ◌⊎◌, inl, inr, List, [], ℕ, Bool, Option, refl, sym, ap, subst, Result, Ok, Err}
use Rattle.std.specs.Prelude.{IfOk, IsTrue}
use Rattle.std.specs.Io.{appended_bytes}
use Rattle.kmipa_ttlv.specs.Input.{came_of, is_ended, is_failed, IsFileOf}
use Rattle.kmipa_ttlv.specs.declared.input.Input.{Input}
use Rattle.kmipa_runs.specs.Inputs.{AreShown, PrintsShown}
use Rattle.kmipa_jobs.specs.Statuses.{IsSilent}
use Rattle.kmipa_jobs.specs.declared.options.ShowOptions.{ShowOptions}
use Rattle.kmipa_jobs.specs.declared.status.Status.{Status}
use Rattle.kmipa_jobs.specs.declared.status.Status.TheVariants as status
use Rattle.kmipa_session.specs.Checks.{Checks}
use Rattle.kmipa_session.specs.Printing.{trouble_text}
use Rattle.kmipa_session.specs.Searches.{Shows}
use Rattle.kmipa_session.specs.Sessions.{IsRefused, TellsDone, TellsWhat}
use Rattle.kmipa_session.specs.declared.did.Did.{Did}
use Rattle.kmipa_session.specs.declared.did.Said.{Said}
use Rattle.kmipa_jobs.specs.declared.job.Form.{Form}
use Rattle.kmipa_session.specs.declared.ran.Ran.{Ran}
use Rattle.kmipa_session.specs.declared.voice.Voice.{Voice}

-- behind nothing all is new
pub behind_nothing : (P : List ℕ → Type 0) (old new : List ℕ) → old ≡ [] → P (appended_bytes old new) → P new
behind_nothing P old new e p = subst P (ap (λ (xs : List ℕ). appended_bytes xs new) e) p

-- what is told of a run is what it said
pub told_so : {R : Type 0} (form : Form) (torn : Option ℕ) (t d w : Input R) (ran told : Ran) → told.status ≡ ran.status → told.lines ≡ ran.lines
    → Checks form torn t d w ran.status ran.lines.items → Checks form torn t d w told.status told.lines.items
told_so form torn t d w ran told status lines p = rw status (rw lines p)

-- and so of two lists
pub both_behind_nothing : (P : List ℕ → List ℕ → Type 0) (old new old_made made : List ℕ) → old ≡ [] → old_made ≡ []
    → P (appended_bytes old new) (appended_bytes old_made made) → P new made
both_behind_nothing P old new old_made made e em p =
    behind_nothing (λ xs. P xs made) old new e (behind_nothing (λ xs. P (appended_bytes old new) xs) old_made made em p)

-- and of three
pub all_behind_nothing : (P : List ℕ → List ℕ → List ℕ → Type 0) (old new old_made made old_left left : List ℕ) → old ≡ [] → old_made ≡ [] → old_left ≡ []
    → P (appended_bytes old new) (appended_bytes old_made made) (appended_bytes old_left left) → P new made left
all_behind_nothing P old new old_made made old_left left e em el p =
    both_behind_nothing (λ xs ys. P xs ys left) old new old_made made e em
    (behind_nothing (λ xs. P (appended_bytes old new) (appended_bytes old_made made) xs) old_left left el p)

-- what was done or refused is told
pub told_what : {F M E : Type 0} (made : M → List ℕ × List ℕ) (lacked : E → Bool) (voice : Voice) (Has : Did F M E → Status → List ℕ → Type 0)
    (done : Result (Said × Did F M E) E) (did : Did F M E) (before after : List ℕ) (failed : Bool) (left : Status)
    → IfOk done (λ it. Has it.1 it.0.status it.0.lines.items ⊎ IsRefused made lacked voice it.1 it.0.status it.0.lines.items)
    → TellsDone made lacked voice done did before after failed left → TellsWhat made lacked voice Has did before after failed left
told_what {F} {M} {E} made lacked voice Has (Ok it) did before after failed left h t =
    let P : Did F M E → Type 0 = λ d. Has d it.0.status it.0.lines.items ⊎ IsRefused made lacked voice d it.0.status it.0.lines.items in
    (it.0.status, it.0.lines.items, subst P (sym t.0) h, t.1)
told_what {F} {M} {E} made lacked voice Has (Err e) did before after failed left h t =
    let lines = trouble_text voice (lacked e) in
    let P : Did F M E → Type 0 = λ d. Has d status.Failed lines ⊎ IsRefused made lacked voice d status.Failed lines in
    (status.Failed, lines, subst P (sym t.0) (inr (inr (refl, refl))), t.1)

-- and in this voice
pub told_in : {F M E : Type 0} (made : M → List ℕ × List ℕ) (lacked : E → Bool) (voice chosen : Voice) (Has : Did F M E → Status → List ℕ → Type 0)
    (done : Result (Said × Did F M E) E) (did : Did F M E) (before after : List ℕ) (failed : Bool) (left : Status) → chosen ≡ voice
    → IfOk done (λ it. Has it.1 it.0.status it.0.lines.items ⊎ IsRefused made lacked voice it.1 it.0.status it.0.lines.items)
    → TellsDone made lacked chosen done did before after failed left → TellsWhat made lacked voice Has did before after failed left
told_in made lacked voice chosen Has done did before after failed left same h t =
    let P : Voice → Type 0 = λ v. TellsDone made lacked v done did before after failed left in
    told_what made lacked voice Has done did before after failed left h (subst P same t)

-- what is shown of an input, where it was printed
pub shown_of : {R E : Type 0} (options : ShowOptions) (f : Input R) (done : Result Status E) (lines : List ℕ)
    → ((file : List ℕ) → IsFileOf file f → IfOk done (λ said. PrintsShown options file (is_failed f) said lines ⊎ IsSilent said lines))
    → (done ≡ Ok status.Done → AreShown options (came_of f) lines × IsTrue (is_ended f)) → IfOk done (λ said. Shows options f said lines)
shown_of {R} {E} options f (Ok said) lines p s = record {
  prints = p;
  shows = λ e. let O : Status → Result Status E = λ x. Ok x in s (ap O e);
}
shown_of options f (Err e) lines p s = tt
