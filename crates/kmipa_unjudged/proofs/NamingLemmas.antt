-- What places name, one place more.
use Rattle.std.proofs.Common.{◌≡◌, ◌∙◌, ◌<◌, ◌+◌, ◌++◌, ◌∷◌, add-one, ap, append_assoc, drop, get_or, length, List, map, suc, sym, ℕ, ℤ, Bool}
use Rattle.std.proofs.lemmas.List.{at_drop_more}
use Rattle.kmipa_places.specs.Places.{PlaceOf, place_of}
use Rattle.kmipa_places.specs.declared.place.Place.{Place}
use Rattle.kmipa_unjudged.specs.Naming.{named_at, named_from}
use Rattle.kmipa_unjudged.specs.Told.{NamedOf}

-- the next place, and those behind it
drop_here : (places : List Place) (i : ℕ) (p : Place) → i < length places → p ≡ get_or places i p → map place_of (drop i places) ≡ place_of p ∷ map place_of (drop (i + 1) places)
drop_here places i p less is = at_drop_more (map place_of) places i p less ∙ ap (λ (x : Place). place_of x ∷ map place_of (drop (i + 1) places)) (sym is)

pub named_on : (causes : Bool) (call : ℤ) (places : List Place) (i : ℕ) (p : Place) (old new all : List NamedOf) → i < length places → p ≡ get_or places i p
    → new ≡ old ++ named_at causes call (i + 1) (place_of p) → old ++ named_from causes call (suc i) (map place_of (drop i places)) ≡ all
    → new ++ named_from causes call (suc (i + 1)) (map place_of (drop (i + 1) places)) ≡ all
named_on causes call places i p old new all less is e so =
    let behind : List PlaceOf = map place_of (drop (i + 1) places) in
    ap (λ (l : List NamedOf). l ++ named_from causes call (suc (i + 1)) behind) e
    ∙ append_assoc old (named_at causes call (i + 1) (place_of p)) (named_from causes call (suc (i + 1)) behind)
    ∙ ap (λ (n : ℕ). old ++ (named_at causes call n (place_of p) ++ named_from causes call (suc n) behind)) (add-one i)
    ∙ ap (λ (ps : List PlaceOf). old ++ named_from causes call (suc i) ps) (sym (drop_here places i p less is)) ∙ so
