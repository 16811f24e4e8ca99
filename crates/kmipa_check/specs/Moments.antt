-- The moment at which a call is taken, by the server's clock (profile).
use Rattle.std.specs.Prelude.{◌≡◌, ◌+ℤ◌, ◌≤ℤ◌, ℤ, Option, Some, None}
use Rattle.kmipa_msgs.specs.Messages.{ResponseOf}
use Rattle.kmipa_check.specs.Grants.{GrantsOf}

-- two times are at most so many seconds apart
abbrev pub IsNear : ℤ → ℤ → ℤ → Type 0
IsNear tolerance stamp moment = (moment ≤ℤ (stamp +ℤ tolerance)) × (stamp ≤ℤ (moment +ℤ tolerance))

-- the moment at which a turn has a call taken whose response has this Time Stamp: the one that it gives, which is near the stamp; or the stamp
abbrev pub IsMoment : GrantsOf → ℤ → Option ℤ → ℤ → Type 0
IsMoment g stamp None moment = moment ≡ stamp
IsMoment g stamp (Some given) moment = (moment ≡ given) × IsNear g.tolerance stamp given

-- the turn gives a moment that isn't near the stamp
abbrev pub IsUntimely : GrantsOf → ℤ → Option ℤ → Type 0
IsUntimely g stamp None = ⊥
IsUntimely g stamp (Some given) = IsNear g.tolerance stamp given → ⊥

-- the response as one of this moment
abbrev pub at_moment : ResponseOf → ℤ → ResponseOf
at_moment response moment = record response { stamp = moment }
