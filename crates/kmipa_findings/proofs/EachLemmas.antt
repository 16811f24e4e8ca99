-- What holds of each element of a list, looked through from the last.
use Rattle.std.proofs.Common.{◌≡◌, ◌<◌, ◌≤◌, ◌⊎◌, inl, inr, ℕ, ◌-◌, List, [], map, length, get_or, Option, Some, slice_get, Contains, refl, sym, subst, arith}
use Rattle.std.proofs.lemmas.Option.{slice_get_read, slice_get_within}
use Rattle.kmipa_record.specs.Witnesses.{TurnOf, turn_of}
use Rattle.kmipa_record.specs.declared.turn.Turn.{Turn}
use Rattle.kmipa_check.proofs.PlaceLemmas.{apart, at_contains, mapped_from}
use Rattle.kmipa_findings.specs.Findings.{SetsNothingAside}

-- it holds of each from a place on
abbrev pub EachFrom : {X : Type 0} → (X → Type 0) → List X → ℕ → Type 0
EachFrom {X} P xs from = (i : ℕ) (x : X) → from ≤ i → slice_get xs i ≡ Some x → P x

pub each_past : {X : Type 0} (P : X → Type 0) (xs : List X) (from : ℕ) → length xs ≤ from → EachFrom P xs from
each_past P xs from all i x after there = absurd (omega (arith, all, after, slice_get_within xs i x there))

pub each_more : {X : Type 0} (P : X → Type 0) (xs : List X) (p : ℕ) (c : X) → 0 < p → p ≤ length xs → c ≡ get_or xs (p - 1) c → P c → EachFrom P xs p → EachFrom P xs (p - 1)
each_more {X} P xs p c some within is holds later i x from there = by (apart (p - 1) i)
  where
    here : slice_get xs (p - 1) ≡ Some c
    here = slice_get_read xs (length xs) (p - 1) c refl (omega (arith, some, within)) is

    by : (p - 1 < i) ⊎ ((i < p - 1) ⊎ (p - 1 ≡ i)) → P x
    by (inl b) = later i x (omega (arith, some, b)) there
    by (inr (inl b)) = absurd (omega (arith, from, b))
    by (inr (inr e)) =
        let A : ℕ → Type 0 = λ n. slice_get xs n ≡ Some c in
        let at : slice_get xs i ≡ Some c = subst A e here in
        let same : c ≡ x = cc in
        subst P same holds

-- ---- turns

abbrev pub IsUnaside : Turn → Type 0
IsUnaside t = t.asides.items ≡ []

pub none_aside : (turns : List Turn) (from : ℕ) → from ≡ 0 → EachFrom IsUnaside turns from → SetsNothingAside (map turn_of turns)
none_aside turns from zero each t has =
    let at = at_contains (map turn_of turns) t has in
    let of = mapped_from turn_of turns at.0 t at.1 in
    let P : TurnOf → Type 0 = λ u. u.asides ≡ [] in
    subst P of.2 (each at.0 of.0 (omega (arith, zero)) of.1)
