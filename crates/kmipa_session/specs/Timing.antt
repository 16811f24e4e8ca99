-- What is said of a check that may last so many seconds, or as long as it takes, where these are 0.
use Rattle.std.specs.Prelude.{◌≡◌, ◌<◌, ◌++◌, ◌||◌, ℕ, List, [], ◌∷◌, Bool, IsTrue, codes, Option}
use Rattle.serde_json.specs.Data.{no_members, object, put, string}
use Rattle.kmipa_json.specs.Told.{line_of}
use Rattle.kmipa_ttlv.specs.Input.{is_failed}
use Rattle.kmipa_searches.specs.Searches.{found_text}
use Rattle.kmipa_jobs.specs.Statuses.{IsSilent}
use Rattle.kmipa_jobs.specs.declared.status.Status.{Status}
use Rattle.kmipa_jobs.specs.declared.status.Status.TheVariants as status
use Rattle.kmipa_orders.specs.declared.found.Found.TheVariants as found
use Rattle.kmipa_searches.specs.GivingUp.{decision_line}
use Rattle.kmipa_searches.specs.JsonSearches.{decision_members, steps_members}
use Rattle.kmipa_searches.specs.declared.judged.Decision.TheVariants as decision
use Rattle.kmipa_session.specs.Sealing.{SaysOf}
use Rattle.kmipa_session.specs.Worlds.{input_of}
use Rattle.kmipa_session.specs.declared.did.Said.{Said}
use Rattle.kmipa_session.specs.declared.named.Named.{Named}
use Rattle.kmipa_session.specs.declared.voice.Voice.{Voice}
use Rattle.kmipa_session.specs.declared.voice.Voice.TheVariants.{Lines, Object}

-- whether a read of one of three files failed
abbrev pub have_failed : {R : Type 0} → Named R → Named R → Named R → Bool
have_failed t d w = is_failed (input_of t) || (is_failed (input_of d) || is_failed (input_of w))

-- the lines of a search that ended ahead of its first step, since so many seconds were over, and what that means
abbrev pub over_lines : ℕ → List ℕ
over_lines seconds = found_text (found.OutOfTime 0 seconds) ++ decision_line (decision.OutOfTime seconds)

-- and its object, in which no files are named, since they weren't all read
abbrev pub over_object : ℕ → List ℕ
over_object seconds = line_of (object (decision_members (decision.OutOfTime seconds)
    (steps_members (codes "gave up") 0 (put (codes "auditor") (string (codes "0.1.0")) no_members))))

-- what is printed where the seconds of a check are over
abbrev pub over_text : Voice → ℕ → List ℕ
over_text Lines seconds = over_lines seconds
over_text Object seconds = over_object seconds

-- What is said where a run over files said this, and a read of one of them failed, if one did.
pub data EndsInTime (voice : Voice) (seconds : ℕ) (failed : Bool) (ran : Status) (told : List ℕ) (said : Status) (lines : List ℕ) : Type 0 where
  -- what the run said
  in_time : said ≡ ran → lines ≡ told → EndsInTime voice seconds failed ran told said lines
  -- or that the seconds are over, if any were given: only in place of a failure, behind a read that failed, and so of no verdict and of no fault of a file
  over : 0 < seconds → IsTrue failed → ran ≡ status.Failed → said ≡ status.GaveUp → lines ≡ over_text voice seconds
      → EndsInTime voice seconds failed ran told said lines
  no_memory : IsSilent said lines → EndsInTime voice seconds failed ran told said lines

-- what is said of the seals of a transcript behind a run over it and two files more, which may last so many seconds
abbrev pub SaysInTime : {R : Type 0} → Voice → ℕ → Option (List ℕ) → Named R → Named R → Named R → (Status → List ℕ → Type 0) → Status → List ℕ → Type 0
SaysInTime voice seconds expected t d w Tells said lines = (ran : Said) × SaysOf voice expected t Tells ran.status ran.lines.items
    × EndsInTime voice seconds (have_failed t d w) ran.status ran.lines.items said lines
