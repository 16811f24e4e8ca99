-- BY WHICH DECLARATION A RECORDING IS JUDGED (profile).
use Rattle.std.specs.Prelude.{◌≡◌, ◌≢◌, pos, Bool, false, []}
use Rattle.kmipa_msgs.specs.declared.rules.Unjudged.{Unjudged}
use Rattle.kmipa_msgs.specs.declared.rules.Unjudged.TheVariants.{Refused, SetAside, Unknown}
use Rattle.kmipa_msgs.specs.declared.rules.Visibility.{Visibility}
use Rattle.kmipa_msgs.specs.declared.rules.Visibility.TheVariants.{Everyone, MayHide, MustHide}
use Rattle.kmipa_record.specs.Declarations.{DeclarationOf, nothing_declared}
use Rattle.kmipa_record.specs.declared.settings.Settings.{Settings}

-- what isn't judged is set aside, also where a declaration would end the audit there
abbrev pub aside_for : Unjudged → Unjudged
aside_for Refused = SetAside
aside_for SetAside = SetAside
aside_for Unknown = Unknown

abbrev pub aside_settings : Settings → Settings
aside_settings s = record s { unjudged = aside_for s.unjudged }

-- the declaration that is used for one that is given
abbrev pub judging_by : DeclarationOf → DeclarationOf
judging_by d = record d { settings = aside_settings d.settings }

-- Where none is given nothing is known of the server: names may be shared, nothing is known of identifiers, moments are stamps, and no object, line or owner
-- is declared. By what is assumed of who sees whose objects: that a server may hide those of some clients from others; or, of long recordings, that each client
-- sees every object.
abbrev pub nothing_known : Visibility → DeclarationOf
nothing_known v = nothing_declared (record { unique_names = false; unjudged = Unknown; tolerance = pos 0; visibility = v })

-- that each client sees every object is assumed alone, and not declared
abbrev pub is_presumed : Bool → Visibility → Bool
is_presumed assumed Everyone = assumed
is_presumed assumed MayHide = false
is_presumed assumed MustHide = false

-- the declaration sets no identifier aside, and each client sees every object
pub record IsPlain (declared : DeclarationOf) : Type 0 where
  pub known : declared.settings.unjudged ≢ Unknown
  pub seen : declared.settings.visibility ≡ Everyone
  pub none : declared.asides ≡ []
