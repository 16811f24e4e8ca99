-- The marks of a call among all.
use Rattle.std.proofs.Common.{◌≡◌, ◌⊎◌, ◌<◌, ◌≤◌, ◌+◌, ℕ, zero, suc, ℤ, List, length, map, get_or, slice_get, Some, refl, sym, ap, ◌∙◌, subst, inl, inr, arith}
use Rattle.std.proofs.lemmas.List.{length-map}
use Rattle.kmipa_record.specs.Marks.{MarkOf, begins, ends, mark_of}
use Rattle.kmipa_record.specs.declared.transcript.Mark.{Mark}
use Rattle.kmipa_check.specs.Calls.{HasBegin, HasEnd}
use Rattle.kmipa_check.proofs.PlaceLemmas.{at_within, mapped_at}
use Rattle.kmipa_outside.specs.Explaining.{HasNoBegin, HasNoEnd}

here_or_before : (k n : ℕ) → k < n + 1 → (k < n) ⊎ (k ≡ n)
here_or_before zero zero lt = inr refl
here_or_before zero (suc n) lt = inl (omega arith)
here_or_before (suc k) zero lt = absurd (omega (arith, lt))
here_or_before (suc k) (suc n) lt = elim (here_or_before k n (omega (arith, lt))) [ inl h ↦ inl (omega (arith, h)) | inr h ↦ inr (ap suc h) ]

-- of marks of which none up to a place is of a sort, and the one there isn't
none_more : (P : MarkOf → Type 0) (marks : List Mark) (place : ℕ) (mark : Mark) → place < length marks → mark ≡ get_or marks place mark → (P (mark_of mark) → ⊥)
    → ((k : ℕ) (m : MarkOf) → k < place → slice_get (map mark_of marks) k ≡ Some m → P m → ⊥) → (k : ℕ) (m : MarkOf) → k < place + 1 → slice_get (map mark_of marks) k ≡ Some m → P m → ⊥
none_more P marks place mark below is other before k m lt at p = elim (here_or_before k place lt) [
  | inl h ↦ before k m h at p
  | inr h ↦
      let there : slice_get (map mark_of marks) place ≡ Some (mark_of mark) = mapped_at mark_of marks place mark below is in
      let same : slice_get (map mark_of marks) k ≡ Some (mark_of mark) = ap (slice_get (map mark_of marks)) h ∙ there in
      let one : m ≡ mark_of mark = cc in
      other (subst P one p)
]

pub begin_more : (marks : List Mark) (number : ℤ) (place : ℕ) (mark : Mark) → place < length marks → mark ≡ get_or marks place mark
    → ((client asked : List ℕ) → mark_of mark ≡ begins number client asked → ⊥) → ((k : ℕ) (asked : List ℕ) → k < place → HasBegin (map mark_of marks) number k asked → ⊥)
    → (k : ℕ) (asked : List ℕ) → k < place + 1 → HasBegin (map mark_of marks) number k asked → ⊥
begin_more marks number place mark below is other before k asked lt b =
    let P : MarkOf → Type 0 = λ m. (client : List ℕ) × (asked : List ℕ) × (m ≡ begins number client asked) in
    none_more P marks place mark below is (λ p. other p.0 p.1 p.2)
    (λ j m lower at p. before j p.1 lower (record { client = p.0; there = at ∙ ap (λ (x : MarkOf). Some x) p.2 }))
    k (begins number b.client asked) lt b.there (b.client, asked, refl)

pub end_more : (marks : List Mark) (number : ℤ) (place : ℕ) (mark : Mark) → place < length marks → mark ≡ get_or marks place mark
    → ((answered : List ℕ) → mark_of mark ≡ ends number answered → ⊥) → ((k : ℕ) (answered : List ℕ) → k < place → HasEnd (map mark_of marks) number k answered → ⊥)
    → (k : ℕ) (answered : List ℕ) → k < place + 1 → HasEnd (map mark_of marks) number k answered → ⊥
end_more marks number place mark below is other before k answered lt b =
    let P : MarkOf → Type 0 = λ m. (answered : List ℕ) × (m ≡ ends number answered) in
    none_more P marks place mark below is (λ p. other p.0 p.1)
    (λ j m lower at p. before j p.0 lower (at ∙ ap (λ (x : MarkOf). Some x) p.1))
    k (ends number answered) lt b (answered, refl)

pub begin_none : (marks : List Mark) (number : ℤ) (place : ℕ) → length marks ≤ place → ((k : ℕ) (asked : List ℕ) → k < place → HasBegin (map mark_of marks) number k asked → ⊥)
    → HasNoBegin (map mark_of marks) number
begin_none marks number place above before k asked b = before k asked (omega (arith, at_within (map mark_of marks) k _ b.there, length-map marks mark_of, above)) b

pub end_none : (marks : List Mark) (number : ℤ) (place : ℕ) → length marks ≤ place → ((k : ℕ) (answered : List ℕ) → k < place → HasEnd (map mark_of marks) number k answered → ⊥)
    → HasNoEnd (map mark_of marks) number
end_none marks number place above before k answered b = before k answered (omega (arith, at_within (map mark_of marks) k _ b, length-map marks mark_of, above)) b
