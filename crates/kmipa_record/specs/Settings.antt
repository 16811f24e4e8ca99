-- What the header of a declaration says (profile).
use Rattle.std.specs.Prelude.{◌≡◌, ◌≤ℤ◌, ℕ, ℤ, pos, Bool}
use Rattle.kmipa_ttlv.specs.Tree.{Tree, Trees, structure, scalar, none, more, integer, enumeration, boolean}
use Rattle.kmipa_msgs.specs.Numbers.{unjudged_number, visibility_number}
use Rattle.kmipa_msgs.specs.declared.rules.Unjudged.TheVariants.{Refused}
use Rattle.kmipa_msgs.specs.declared.rules.Visibility.TheVariants.{Everyone}
use Rattle.kmipa_record.specs.Tags.{version_tag, declaration_header_tag, unique_names_tag, unjudged_tag, tolerance_tag, visibility_tag}
use Rattle.kmipa_record.specs.declared.declaration_header.DeclarationHeader.{DeclarationHeader}
use Rattle.kmipa_record.specs.declared.declaration_version.DeclarationVersion.{DeclarationVersion}
use Rattle.kmipa_record.specs.declared.declaration_version.DeclarationVersion.TheVariants.{First, Second}
use Rattle.kmipa_record.specs.declared.settings.Settings.{Settings}

-- the settings that a declaration of version 1 stands for
abbrev pub plain_settings : Bool → Settings
plain_settings unique = record { unique_names = unique; unjudged = Refused; tolerance = pos 0; visibility = Everyone }

-- a tolerance: seconds, at most a day
abbrev pub IsTolerance : ℤ → Type 0
IsTolerance seconds = (pos 0 ≤ℤ seconds) × (seconds ≤ℤ pos 86400)

-- the settings that a header of this version may have
abbrev pub MayHave : DeclarationVersion → Settings → Type 0
MayHave First s = s ≡ plain_settings s.unique_names
MayHave Second s = IsTolerance s.tolerance

abbrev pub version_number : DeclarationVersion → ℕ
version_number First = 1
version_number Second = 2

-- the children of a header behind its version and the truth on names: version 1 has none
abbrev pub more_settings : DeclarationVersion → Settings → Trees
more_settings First s = none
more_settings Second s =
    more (scalar unjudged_tag (enumeration (unjudged_number s.unjudged))) (more (scalar tolerance_tag (integer s.tolerance)) (more (scalar visibility_tag (enumeration (visibility_number s.visibility))) none))

-- the item that is the header: exactly these children, in this order
abbrev pub declaration_header : DeclarationHeader → Tree
declaration_header h =
    structure declaration_header_tag (more (scalar version_tag (integer (pos (version_number h.version)))) (more (scalar unique_names_tag (boolean h.settings.unique_names)) (more_settings h.version h.settings)))
