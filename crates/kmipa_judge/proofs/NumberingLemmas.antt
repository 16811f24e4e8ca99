-- The turns of calls in a witness.
use Rattle.std.proofs.Common.{◌≡◌, ◌<◌, inl, inr, ℕ, zero, suc, ◌+◌, ℤ, Bool, true, List, [], ◌∷◌, ◌++◌, drop, get_or, map, length, slice_get, slice_set, take, Option, Some, None, refl, sym, ap, subst, ◌∙◌, nat_lt}
use Rattle.std.proofs.lemmas.Bool.{lt-ltb}
use Rattle.std.proofs.lemmas.List.Edits.{map_over_more}
use Rattle.std.proofs.lemmas.List.{length-map}
use Rattle.std.proofs.lemmas.Option.{slice_get-map}
use Rattle.kmipa_record.specs.Witnesses.{TurnOf, turn_of}
use Rattle.kmipa_record.specs.declared.turn.Turn.{Turn}
use Rattle.kmipa_check.specs.Numbers.{Indexes, StandsFirst, place_in}
use Rattle.kmipa_check.specs.Orders.{NamesAt, NamesBefore}
use Rattle.kmipa_check.specs.declared.numbers.FirstPlaces.{FirstPlaces}
use Rattle.kmipa_check.proofs.PlaceLemmas.{apart, at_within, get_at, mapped_from}
use Rattle.kmipa_judge.specs.Parts.{AreTurnsOf, turn_at, turn_by}

abbrev pub numbers : List Turn → List (Option ℤ)
numbers turns = map (λ (t : Turn). Some t.call) turns

-- a turn that names a call, by its number
named_at : (turns : List Turn) (place : ℕ) (call : ℤ) → NamesAt (map turn_of turns) place call → slice_get (numbers turns) place ≡ Some (Some call)
named_at turns place call n =
    let from = mapped_from turn_of turns place n.0 n.1 in
    let called : from.0.call ≡ call = ap (λ (t : TurnOf). t.call) from.2 ∙ n.2 in
    get_at (λ (t : Turn). Some t.call) turns place from.0 from.1 ∙ ap (λ (z : ℤ). Some (Some z)) called

at_named : (turns : List Turn) (place : ℕ) (call : ℤ) → slice_get (numbers turns) place ≡ Some (Some call) → NamesAt (map turn_of turns) place call
at_named turns place call at =
    let from = mapped_from (λ (t : Turn). Some t.call) turns place (Some call) at in
    (turn_of from.0, get_at turn_of turns place from.0 from.1, cc)

told_at : (count place told : ℕ) → place < count → turn_at count (Some place) told ≡ place + 1
told_at count place told below = let e : nat_lt place count ≡ true = lt-ltb place count below in rw e refl

by_place : (turns : List Turn) (call : ℤ) (place told : ℕ) (at : Option ℕ) → StandsFirst (numbers turns) (length (numbers turns)) call at
    → NamesAt (map turn_of turns) place call → (NamesBefore (map turn_of turns) place call → ⊥) → turn_at (length turns) at told ≡ place + 1
by_place turns call place told None none names first =
    let at = named_at turns place call names in
    absurd (none place (at_within (numbers turns) place (Some call) at) at)
by_place turns call place told (Some p) stands names first =
    let long : length (numbers turns) ≡ length turns = length-map turns (λ (t : Turn). Some t.call) in
    let below : p < length turns = subst (λ (n : ℕ). p < n) long stands.0 in
    elim (apart p place) [
      | inl before ↦ absurd (first (p, before, at_named turns p call stands.1.there))
      | inr other ↦ elim other [
        | inl behind ↦ absurd (stands.1.first place behind (named_at turns place call names))
        | inr same ↦ told_at (length turns) p told below ∙ ap (λ (n : ℕ). n + 1) same
      ]
    ]

pub turns_numbered : (turns : List Turn) (places : FirstPlaces) → Indexes (numbers turns) places → AreTurnsOf (map turn_of turns) (turn_by places (length turns))
turns_numbered turns places knows = λ call place told names first. by_place turns call place told (place_in places call) (knows call) names first

-- ---- events one after the other

same_length : {X : Type 0} (f : X → X) (xs : List X) (i : ℕ) → length (map f (take i xs) ++ drop i xs) ≡ length xs
same_length f [] zero = refl
same_length f [] (suc i) = refl
same_length f (x ∷ xs) zero = refl
same_length f (x ∷ xs) (suc i) = ap suc (same_length f xs i)

pub renumbered_more : {X : Type 0} (f : X → X) (xs ys : List X) (i : ℕ) (x y : X) → i < length ys → ys ≡ map f (take i xs) ++ drop i xs → x ≡ get_or ys i x → y ≡ f x
    → slice_set ys i y ≡ map f (take (i + 1) xs) ++ drop (i + 1) xs
renumbered_more f xs ys i x y less so here is =
    let long : length ys ≡ length xs = ap length so ∙ same_length f xs i in
    ap (λ (e : _). slice_set ys i e) is ∙ map_over_more f xs ys i x (subst (λ (n : ℕ). i < n) long less) so here
