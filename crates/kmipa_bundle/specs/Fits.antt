-- The computing form of a call's shape: what is looked at, place by place.
use Rattle.std.specs.Prelude.{ℕ, Bool, ◌&&◌, ◌||◌, Option, Some, None}
use Rattle.kmipa_msgs.specs.declared.request.BatchOption.{BatchOption}
use Rattle.kmipa_msgs.specs.declared.response.Status.TheVariants as status
use Rattle.kmipa_passed.specs.declared.passed.Outcome.{Outcome}
use Rattle.kmipa_passed.specs.declared.passed.Outcome.TheVariants.{Done, Undone, Pending, Failed}
use Rattle.kmipa_batch.specs.Fits.{fits}

-- whether a place may have an answer that ends so, where `asked` says that the request has an item there
abbrev pub fits_outcome : Bool → BatchOption → Option ℕ → ℕ → Bool → Outcome → Bool
fits_outcome pending option failed place asked Done = fits option failed place asked (Some status.Success)
fits_outcome pending option failed place asked Undone = fits option failed place asked (Some status.Undone)
fits_outcome pending option failed place asked Failed = fits option failed place asked (Some status.Failed)
fits_outcome pending option failed place asked Pending =
    pending && (fits option failed place asked (Some status.Success) || fits option failed place asked (Some status.Undone))

-- or none
abbrev pub fits_at : Bool → BatchOption → Option ℕ → ℕ → Bool → Option Outcome → Bool
fits_at pending option failed place asked None = fits option failed place asked None
fits_at pending option failed place asked (Some outcome) = fits_outcome pending option failed place asked outcome
