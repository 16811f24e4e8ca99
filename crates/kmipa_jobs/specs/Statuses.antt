-- The statuses that the process ends with.
use Rattle.std.specs.Prelude.{◌≡◌, ℕ, List, []}
use Rattle.kmipa_jobs.specs.declared.status.Status.{Status}
use Rattle.kmipa_jobs.specs.declared.status.Status.TheVariants.{Done, No, Refused, Failed, GaveUp, Usage}

-- the number that the shell sees
abbrev pub status_number : Status → ℕ
status_number Done = 0
status_number No = 1
status_number Refused = 2
status_number Failed = 3
status_number GaveUp = 4
status_number Usage = 64

-- nothing is reported, since memory ran out
abbrev pub IsSilent : Status → List ℕ → Type 0
IsSilent status text = (status ≡ Failed) × (text ≡ [])
