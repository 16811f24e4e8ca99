-- How far files are read and written: `Whole` is all that the formats have, `Aside` what calls are judged by, whether or not something is set aside,
-- `Judged` what they are judged by where nothing is.
use Rattle.std.specs.Prelude.{◌≡◌, ◌≢◌}
use Rattle.kmipa_msgs.specs.declared.rules.Unjudged.TheVariants.{Refused, Unknown}
use Rattle.kmipa_msgs.specs.declared.rules.Visibility.TheVariants.{Everyone}
use Rattle.kmipa_record.specs.declared.reach.Reach.{Reach}
use Rattle.kmipa_record.specs.declared.reach.Reach.TheVariants.{Judged, Aside, Whole}
use Rattle.kmipa_record.specs.declared.settings.Settings.{Settings}

-- The settings of a declaration by which calls are judged: all that the format has; where nothing is set aside, those by which clients see every object,
-- and not everything that isn't declared is unknown
abbrev pub ReachesSettings : Reach → Settings → Type 0
ReachesSettings Whole s = Unit {0}
ReachesSettings Aside s = Unit {0}
ReachesSettings Judged s = (s.unjudged ≢ Unknown) × (s.visibility ≡ Everyone)

-- a declaration with these settings may set identifiers aside: one that says what becomes of what isn't judged; and none by which nothing is set aside
abbrev pub ReachesAsides : Reach → Settings → Type 0
ReachesAsides Whole s = s.unjudged ≢ Refused
ReachesAsides Aside s = s.unjudged ≢ Refused
ReachesAsides Judged s = ⊥
