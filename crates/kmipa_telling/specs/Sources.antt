-- What is printed of whence something is that is held.
use Rattle.std.specs.Prelude.{◌≡◌, ℕ, if◌then◌else◌, List, [], ◌∷◌, ◌++◌, codes, Option, Some, None, is_some, option_and_then}
use Rattle.kmipa_explain.specs.Sources.{since}
use Rattle.kmipa_explain.specs.declared.explanation.Cause.{Cause}
use Rattle.kmipa_explain.specs.declared.explanation.Cause.TheVariants as cause
use Rattle.kmipa_explain.specs.declared.held.ValueHeld.{ValueHeld}
use Rattle.kmipa_explain.specs.declared.source.Source.{Source}
use Rattle.kmipa_explain.specs.declared.source.Source.TheVariants.{Declared, Done}
use Rattle.kmipa_explain.specs.declared.source.Whence.{Whence}
use Rattle.kmipa_ops.specs.declared.judged.Judged.{Judged}
use Rattle.kmipa_runs.specs.Lines.{line}
use Rattle.kmipa_telling.specs.Stories.{PrintsEvent}

-- of what is known of an object's sources: that of the object, of an attribute, and of its bytes
abbrev pub object_source : Option Whence → Option Source
object_source w = option_and_then (λ (x : Whence). x.object) w

abbrev pub attribute_source : Option Whence → Judged → Option Source
attribute_source w attribute = option_and_then (λ (x : Whence). since x attribute) w

abbrev pub bytes_source : Option Whence → Option Source
bytes_source w = option_and_then (λ (x : Whence). x.bytes) w

-- that of the value that the object has, where it has one
abbrev pub value_source : Option Whence → ValueHeld → Option Source
value_source w v = if is_some v.held then attribute_source w v.attribute else None

-- the line of a source, behind these words; none where none is known
abbrev pub PrintsSource : List ℕ → Option Source → List ℕ → Type 0
PrintsSource words None lines = lines ≡ []
PrintsSource words (Some Declared) lines = lines ≡ line (words ∷ codes ": declared" ∷ [])
PrintsSource words (Some (Done e)) lines = PrintsEvent words e lines

-- a text, and behind it the line of a source
abbrev pub PrintsBehind : List ℕ → List ℕ → Option Source → List ℕ → Type 0
PrintsBehind first words source lines = (behind : List ℕ) × PrintsSource words source behind × (lines ≡ first ++ behind)

-- what is printed behind a cause whose lines tell one thing that is held: known bytes, or the object that has an identifier or a name
abbrev pub PrintsCauseSource : Cause → Option Whence → List ℕ → Type 0
PrintsCauseSource (cause.Bytes held) w lines = PrintsSource (codes "known since") (bytes_source w) lines
PrintsCauseSource (cause.Identifier id) w lines = PrintsSource (codes "held since") (object_source w) lines
PrintsCauseSource (cause.Name held) w lines = PrintsSource (codes "held since") (object_source w) lines
PrintsCauseSource other w lines = lines ≡ []
