-- A session: what words of a command line lead to.
use Rattle.std.specs.Prelude.{◌≡◌, ◌≢◌, ◌⊎◌, ℕ, List, Bool, true, false, string_bytes}
use Rattle.std.specs.declared.io.ErrorKind.{ErrorKind}
use Rattle.std.specs.declared.io.ErrorKind.TheVariants.{OutOfMemory}
use Rattle.clap.specs.Words.{subcommand_of, fault_of}
use Rattle.kmipa_jobs.specs.declared.status.Status.{Status}
use Rattle.kmipa_jobs.specs.declared.status.Status.TheVariants as status
use Rattle.kmipa_session.specs.Printing.{TellsLines}
use Rattle.kmipa_session.specs.Sessions.{RunsJob, TellsMistake}
use Rattle.kmipa_session.specs.declared.did.Did.{Did}
use Rattle.kmipa_session.specs.declared.did.Did.TheVariants as did
use Rattle.kmipa_jobs.specs.declared.job.Job.{Job}
use Rattle.kmipa_session.specs.declared.voice.Voice.TheVariants.{Lines}
use Rattle.kmipa_words.specs.Words.{IsJob, IsTold, program_app}
use Rattle.kmipa_words.specs.declared.words.Usage.{Usage}

-- an error that tells of want of memory, and not of a device
abbrev pub is_memory : ErrorKind → Bool
is_memory OutOfMemory = true
is_memory kind = false

-- Help is printed, or that memory ran out, and nothing is done; or, at a mistake in the words, nothing is printed.
abbrev pub TellsUsage : {F M E : Type 0} → Usage → Did F M E → List ℕ → List ℕ → Bool → Status → Type 0
TellsUsage usage done before after failed left =
    ((usage.status ≢ status.Usage) × (done ≡ did.Nothing) × TellsLines Lines (string_bytes usage.text) usage.status before after failed left)
    ⊎ ((usage.status ≡ status.Usage) × TellsMistake done before after left)

-- The words name a job, and it is done; or they name none, and that is told.
abbrev pub Runs : {F M E : Type 0} → (M → List ℕ × List ℕ) → (E → Bool) → List (List ℕ) → Did F M E → List ℕ → List ℕ → Bool → Status → Type 0
Runs made lacked words done before after failed left =
    ((job : Job) × IsJob job (subcommand_of program_app words) × RunsJob made lacked job done before after failed left)
    ⊎ ((usage : Usage) × IsTold (fault_of program_app words) usage × TellsUsage usage done before after failed left)
