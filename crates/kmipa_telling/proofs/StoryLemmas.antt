-- Of what is printed of a story.
use Rattle.std.proofs.Common.{◌≡◌, ◌∙◌, ap, sym, subst, List, [], ◌∷◌, ◌++◌, ℕ, ℤ, codes, drop, length, take, ◌-◌}
use Rattle.std.proofs.lemmas.List.{length-drop}
use Rattle.std.proofs.Math.Seq.{take-length}
use Rattle.std.specs.String.{string_bytes}
use Rattle.kmipa_runs.specs.Dates.{TellsSecond}
use Rattle.kmipa_runs.specs.Lines.{line}
use Rattle.kmipa_runs.specs.Shown.{quoted}
use Rattle.kmipa_telling.specs.Lists.{AreLines}
use Rattle.kmipa_telling.specs.Phrases.{more_line, operation_text}
use Rattle.kmipa_telling.specs.Stories.{declared_text, place_text, undone_text, PrintsEvent, PrintsLater, PrintsNewest, PrintsStory}
use Rattle.kmipa_explain.specs.declared.explanation.Event.{Event}
use Rattle.kmipa_explain.specs.declared.explanation.Story.{Story}

-- an item is told by its parts
pub event_told : (word : List ℕ) (e : Event) (stamp : ℤ) (place date name end text : List ℕ) → stamp ≡ e.stamp → place ≡ place_text e
    → TellsSecond stamp date → name ≡ operation_text e.operation → end ≡ undone_text e.undone
    → text ≡ line (word ∷ codes ": " ∷ place ∷ codes " at " ∷ date ∷ codes ": " ∷ name ∷ end ∷ []) → PrintsEvent word e text
event_told word e stamp place date name end text same placed dated named ended told =
    let D : ℤ → Type 0 = λ z. TellsSecond z date in
    let lines : List ℕ → List ℕ → List ℕ → List ℕ = λ p n u. line (word ∷ codes ": " ∷ p ∷ codes " at " ∷ date ∷ codes ": " ∷ n ∷ u ∷ []) in
    (date, subst D same dated, told ∙ ap (λ p. lines p name end) placed ∙ ap (λ n. lines (place_text e) n end) named ∙ ap (lines (place_text e) (operation_text e.operation)) ended)

-- the newest items are told by their parts
pub newest_told : (events : List Event) (from : ℕ) (untold told text : List ℕ) → from ≡ length events - 20 → untold ≡ more_line (codes "before") (length events)
    → AreLines (PrintsEvent (codes "before")) (take (length events - from) (drop from events)) told → text ≡ untold ++ told → PrintsNewest events text
newest_told events from untold told text ef eu tells et =
    let E : List Event → Type 0 = λ es. AreLines (PrintsEvent (codes "before")) es told in
    let P : ℕ → Type 0 = λ n. AreLines (PrintsEvent (codes "before")) (drop n events) told in
    let all : take (length events - from) (drop from events) ≡ drop from events = ap (λ n. take n (drop from events)) (sym (length-drop from events)) ∙ take-length (drop from events) in
    (told, subst P ef (subst E all tells), et ∙ ap (λ (t : List ℕ). t ++ told) eu)

-- a story is told by its parts
pub story_told : (s : Story) (identifier declared events later text : List ℕ) → identifier ≡ quoted (string_bytes s.identifier) → declared ≡ declared_text s.declared
    → PrintsNewest s.events.items events → PrintsLater s.born_later later
    → text ≡ codes "object: " ++ (identifier ++ (declared ++ 10 ∷ (events ++ later))) → PrintsStory s text
story_told s identifier declared events later text ei ed pe pl et = (
  events,
  later,
  pe,
  pl,
  et ∙ ap (λ (t : List ℕ). codes "object: " ++ (t ++ (declared ++ 10 ∷ (events ++ later)))) ei
      ∙ ap (λ (t : List ℕ). codes "object: " ++ (quoted (string_bytes s.identifier) ++ (t ++ 10 ∷ (events ++ later)))) ed,
)
