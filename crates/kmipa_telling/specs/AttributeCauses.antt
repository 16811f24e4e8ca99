-- What is printed of attributes that are shown otherwise than the object has them, or that are missing.
use Rattle.std.specs.Prelude.{◌≡◌, ℕ, ℤ, Bool, true, false, List, [], ◌∷◌, ◌++◌, codes, flat_map, Option, Some, None}
use Rattle.kmipa_attrs.specs.declared.name.Name.{Name}
use Rattle.kmipa_explain.specs.declared.held.AttributesHeld.{AttributesHeld}
use Rattle.kmipa_explain.specs.declared.held.ValueHeld.{ValueHeld}
use Rattle.kmipa_explain.specs.declared.source.Source.{Source}
use Rattle.kmipa_explain.specs.declared.source.Whence.{Whence}
use Rattle.kmipa_ops.specs.declared.judged.Judged.{Judged}
use Rattle.kmipa_ops.specs.declared.judged.Judged.TheVariants as judged
use Rattle.kmipa_runs.specs.Dates.{TellsSecond}
use Rattle.kmipa_runs.specs.Lines.{line}
use Rattle.kmipa_telling.specs.Lists.{AreLines}
use Rattle.kmipa_telling.specs.Naming.{attribute_name, is_moment, name_text, number_text, value_name}
use Rattle.kmipa_telling.specs.Sources.{PrintsBehind, PrintsSource, value_source}

-- the line of a name, with these words behind it
abbrev pub name_line : List ℕ → Name → List ℕ
name_line words name = line (codes "Name: " ∷ name_text name ∷ words ∷ [])

-- the same, and behind it the line of whence it is
abbrev pub names_line : List ℕ → List ℕ → Name → List ℕ
names_line words since name = name_line words name ++ since

-- the unit of an attribute's numbers
abbrev pub unit_text : Judged → List ℕ
unit_text judged.ActivationDate = []
unit_text judged.CompromiseDate = []
unit_text judged.CryptographicAlgorithm = []
unit_text judged.CryptographicLength = codes " bits"
unit_text judged.CryptographicUsageMask = []
unit_text judged.DeactivationDate = []
unit_text judged.DestroyDate = []
unit_text judged.InitialDate = []
unit_text judged.Name = []
unit_text judged.ObjectType = []
unit_text judged.State = []

-- a value is told: as a date where it is a moment, else so
abbrev pub PrintsEither : Bool → ℤ → List ℕ → List ℕ → Type 0
PrintsEither true value so text = TellsSecond value text
PrintsEither false value so text = text ≡ so

-- a value of an attribute: of a moment its date, of another its number, with the name or the unit that it has
abbrev pub PrintsValue : Judged → ℤ → List ℕ → Type 0
PrintsValue attribute value text = PrintsEither (is_moment attribute) value (number_text value (value_name attribute value) ++ unit_text attribute) text

-- a value with this word behind it, or the words for none
abbrev pub PrintsSide : Judged → List ℕ → List ℕ → Option ℤ → List ℕ → Type 0
PrintsSide attribute none word None text = text ≡ none
PrintsSide attribute none word (Some value) text = (told : List ℕ) × PrintsValue attribute value told × (text ≡ told ++ word)

-- the line of an attribute: what is shown of it, and what the object has
abbrev pub PrintsValueHeld : ValueHeld → List ℕ → Type 0
PrintsValueHeld v lines = (shown own : List ℕ) × PrintsSide v.attribute (codes "not shown") (codes " shown") v.shown shown
    × PrintsSide v.attribute (codes "none held") (codes " held") v.held own × (lines ≡ line (attribute_name v.attribute ∷ codes ": " ∷ shown ∷ codes ", " ∷ own ∷ []))

-- the same with whence the object has it
abbrev pub PrintsValueSince : Option Whence → ValueHeld → List ℕ → Type 0
PrintsValueSince w v lines = (told : List ℕ) × PrintsValueHeld v told × PrintsBehind told (codes "held since") (value_source w v) lines

-- the lines of names, each with these words behind it and whence it is, and then of other attributes
abbrev pub PrintsAttributes : List ℕ → Option Source → Option Whence → AttributesHeld → List ℕ → Type 0
PrintsAttributes words source w a lines = (since values : List ℕ) × PrintsSource (codes "held since") source since
    × AreLines (PrintsValueSince w) a.values.items values × (lines ≡ flat_map (names_line words since) a.names.items ++ values)
