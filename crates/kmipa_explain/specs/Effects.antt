-- What an item sets and tells: the dates of an object, and its bytes.
use Rattle.std.specs.Prelude.{ℕ, ℤ, Bool, false, if◌then◌else◌, Option, Some, None, is_some}
use Rattle.kmipa_attrs.specs.Sets.{Attributes}
use Rattle.kmipa_object.specs.Life.{Dates, compromises}
use Rattle.kmipa_msgs.specs.Messages.{AskedOf, PayloadOf}
use Rattle.kmipa_ops.specs.Effects.{EffectOf, makes, changes, shows_bytes}
use Rattle.kmipa_ops.specs.Explains.{shows}
use Rattle.kmipa_ops.specs.Rows.{effect_asked}
use Rattle.kmipa_ops.specs.declared.change.Change.{Change}
use Rattle.kmipa_ops.specs.declared.change.Change.TheVariants.{Activate, Revoke, Destroy}

abbrev pub no_dates : Dates
no_dates = record { initial = None; activation = None; deactivation = None; destroy = None; compromise = None }

-- a new object has the moment as its Initial Date, and the dates that are given with it
abbrev pub dates_born : ℤ → Attributes → Dates
dates_born t a = record no_dates { initial = Some t; activation = a.activation; deactivation = a.deactivation }

-- a Revoke sets the Compromise Date or, with another code, the Deactivation Date
abbrev pub dates_revoked : ℤ → ℕ → Dates
dates_revoked t code = if compromises code then record no_dates { compromise = Some t } else record no_dates { deactivation = Some t }

-- those of a change: a Revoke and a Destroy may leave a date as it was
abbrev pub dates_changed : ℤ → Change → Dates
dates_changed t Activate = record no_dates { activation = Some t }
dates_changed t (Revoke code) = dates_revoked t code
dates_changed t Destroy = record no_dates { deactivation = Some t; destroy = Some t }

abbrev pub dates_by : ℤ → EffectOf → Dates
dates_by t (makes new) = dates_born t new.attributes
dates_by t (changes change) = dates_changed t change
dates_by t effect = no_dates

-- The dates that an operation sets at a moment, where it sets any (KMIP 2.1, section 6): which of the items that may have set a date did set it
-- follows from their order.
abbrev pub dates_set : ℤ → AskedOf → Dates
dates_set t asked = dates_by t (effect_asked asked)

-- an item tells an object's bytes: a Register brings them, a Get may show them
abbrev pub tells_by : EffectOf → Option PayloadOf → Bool
tells_by (makes new) payload = is_some new.block
tells_by shows_bytes payload = is_some (shows payload)
tells_by effect payload = false

abbrev pub tells_bytes : AskedOf → Option PayloadOf → Bool
tells_bytes asked payload = tells_by (effect_asked asked) payload
