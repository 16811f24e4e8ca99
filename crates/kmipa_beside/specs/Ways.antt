-- Which way a declaration asks for. Not promised: `Checks` says what each comes to.
use Rattle.std.specs.Prelude.{◌≡◌, ◌≢◌}
use Rattle.kmipa_msgs.specs.declared.rules.Unjudged.TheVariants.{Refused}
use Rattle.kmipa_msgs.specs.declared.rules.Visibility.TheVariants.{Everyone}
use Rattle.kmipa_record.specs.declared.settings.Settings.{Settings}
use Rattle.kmipa_beside.specs.declared.way.Way.{Way}
use Rattle.kmipa_beside.specs.declared.way.Way.TheVariants.{AsEver, InSight, Beside}

abbrev pub IsWay : Settings → Way → Type 0
IsWay s AsEver = (s.unjudged ≡ Refused) × (s.visibility ≡ Everyone)
IsWay s InSight = (s.unjudged ≡ Refused) × (s.visibility ≢ Everyone)
IsWay s Beside = s.unjudged ≢ Refused
