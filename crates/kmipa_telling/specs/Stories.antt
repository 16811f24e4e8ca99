-- What is printed of the story of an object: a line for the object, and one for each item that was done to it, the newest last.
use Rattle.std.specs.Prelude.{◌≡◌, ℕ, ◌-◌, Bool, true, false, List, [], ◌∷◌, ◌++◌, codes, drop, length, Option, Some, None}
use Rattle.std.specs.String.{string_bytes}
use Rattle.std.specs.Fmt.{decimal, signed_decimal}
use Rattle.kmipa_runs.specs.Dates.{TellsSecond}
use Rattle.kmipa_runs.specs.Lines.{line}
use Rattle.kmipa_runs.specs.Shown.{quoted}
use Rattle.kmipa_telling.specs.Lists.{AreLines}
use Rattle.kmipa_telling.specs.Phrases.{more_line, operation_text}
use Rattle.kmipa_explain.specs.declared.explanation.Event.{Event}
use Rattle.kmipa_explain.specs.declared.explanation.Story.{Story}

abbrev pub declared_text : Bool → List ℕ
declared_text true = codes ", declared"
declared_text false = codes ", not declared"

abbrev pub undone_text : Bool → List ℕ
undone_text true = codes ", undone"
undone_text false = []

-- where an item stands
abbrev pub place_text : Event → List ℕ
place_text e = codes "turn " ++ (decimal e.turn ++ (codes " call " ++ (signed_decimal e.call ++ (codes " item " ++ decimal e.item))))

-- the line of an item that was done to an object, behind this word
abbrev pub PrintsEvent : List ℕ → Event → List ℕ → Type 0
PrintsEvent word e lines = (date : List ℕ) × TellsSecond e.stamp date
    × (lines ≡ line (word ∷ codes ": " ∷ place_text e ∷ codes " at " ∷ date ∷ codes ": " ∷ operation_text e.operation ∷ undone_text e.undone ∷ []))

-- the line of the item that made the object later, where there is one
abbrev pub PrintsLater : Option Event → List ℕ → Type 0
PrintsLater None lines = lines ≡ []
PrintsLater (Some e) lines = PrintsEvent (codes "made later") e lines

-- of more than twenty items the twenty that are newest
abbrev pub PrintsNewest : List Event → List ℕ → Type 0
PrintsNewest events lines = (told : List ℕ) × AreLines (PrintsEvent (codes "before")) (drop (length events - 20) events) told × (lines ≡ more_line (codes "before") (length events) ++ told)

-- what is printed of a story
abbrev pub PrintsStory : Story → List ℕ → Type 0
PrintsStory s lines = (events later : List ℕ) × PrintsNewest s.events.items events × PrintsLater s.born_later later
    × (lines ≡ codes "object: " ++ (quoted (string_bytes s.identifier) ++ (declared_text s.declared ++ 10 ∷ (events ++ later))))
