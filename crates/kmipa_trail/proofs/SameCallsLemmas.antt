-- A transcript has one list of calls.
use Rattle.std.proofs.Common.{◌≡◌, ◌<◌, ℕ, ℤ, List, map, length, Option, Some, slice_get, sym, ap, ◌∙◌, subst, arith}
use Rattle.std.proofs.lemmas.List.{length-map}
use Rattle.std.proofs.lemmas.Option.{get_or_from_slice_get, slice_get_within}
use Rattle.kmipa_record.specs.Marks.{MarkOf, begins, ends}
use Rattle.kmipa_record.specs.Marks
use Rattle.kmipa_check.specs.Calls.{HasBegin}
use Rattle.kmipa_check.proofs.OnceLemmas.{IsOnce, once_pairs}
use Rattle.kmipa_check.proofs.PlaceLemmas.{get_at, same_elements, some_at}
use Rattle.kmipa_check.proofs.RecordedLemmas.{same_begin, same_end}
use Rattle.kmipa_turns.specs.Recorded.{RecordedOf, AreRecorded, IsRecorded, IsEnded, has_ended, is_open}
use Rattle.kmipa_trail.proofs.CheckLemmas.{calls_once}
use Rattle.kmipa_trail.proofs.MissingLemmas.{number_of}

abbrev made : ℤ → List ℕ → ℕ → Option ℕ → List ℕ → Option (List ℕ) → RecordedOf
made n who b e q a = record { number = n; client = who; begin = b; end = e; request = q; response = a }

module _ (marks : List MarkOf) (r : Marks.AreRecorded marks) where
  same_ended : (c d : RecordedOf) → c.number ≡ d.number → IsEnded marks c → IsEnded marks d → (c.end ≡ d.end) × (c.response ≡ d.response)
  same_ended c d n (has_ended e a h close is) (has_ended f b k ended being) =
      let P : ℤ → Type 0 = λ z. slice_get marks f ≡ Some (ends z b) in
      let m = same_end marks c.number e f a b r h (subst P (sym n) k) in
      (close ∙ ap Some m.0 ∙ sym ended, is ∙ ap Some m.1 ∙ sym being)
  same_ended c d n (has_ended e a h close is) (is_open none ended being) = let P : ℤ → Type 0 = λ z. slice_get marks e ≡ Some (ends z a) in absurd (none e a (subst P n h))
  same_ended c d n (is_open none close is) (has_ended f b k ended being) = let P : ℤ → Type 0 = λ z. slice_get marks f ≡ Some (ends z b) in absurd (none f b (subst P (sym n) k))
  same_ended c d n (is_open none close is) (is_open never ended being) = (close ∙ sym ended, is ∙ sym being)

  same_recorded : (c d : RecordedOf) → IsRecorded marks c → IsRecorded marks d → c.number ≡ d.number → c ≡ d
  same_recorded c d x y n =
      let P : ℤ → Type 0 = λ z. slice_get marks d.begin ≡ Some (begins z d.client d.request) in
      let there = subst P (sym n) y.begun in
      let b : HasBegin marks c.number c.begin c.request = record { client = c.client; there = x.begun } in
      let e : HasBegin marks c.number d.begin d.request = record { client = d.client; there = there } in
      let m = same_begin marks c.number c.begin d.begin c.request d.request r b e in
      let Q : ℕ → Type 0 = λ k. slice_get marks k ≡ Some (begins c.number c.client c.request) in
      let here = subst Q m.0 x.begun in
      let client : c.client ≡ d.client = cc in
      let s = same_ended c d n x.ended y.ended in
      ap (λ (z : ℤ). made z c.client c.begin c.end c.request c.response) n
      ∙ ap (λ (z : List ℕ). made d.number z c.begin c.end c.request c.response) client
      ∙ ap (λ (z : ℕ). made d.number d.client z c.end c.request c.response) m.0
      ∙ ap (λ (z : Option ℕ). made d.number d.client d.begin z c.request c.response) s.0
      ∙ ap (λ (z : List ℕ). made d.number d.client d.begin d.end z c.response) m.1
      ∙ ap (λ (z : Option (List ℕ)). made d.number d.client d.begin d.end d.request z) s.1

  recorded_at : (calls : List RecordedOf) (i : ℕ) (c : RecordedOf) → AreRecorded marks calls → slice_get calls i ≡ Some c → IsRecorded marks c
  recorded_at calls i c are at =
      let P : RecordedOf → Type 0 = λ x. IsRecorded marks x in
      subst P (get_or_from_slice_get calls i c c at) (are.recorded i c (slice_get_within calls i c at))

  pub same_calls : (calls others : List RecordedOf) → AreRecorded marks calls → AreRecorded marks others → calls ≡ others
  same_calls calls others a b =
      let e : map number_of calls ≡ map number_of others = a.numbers ∙ sym b.numbers in
      same_elements calls others (sym (length-map calls number_of) ∙ ap length e ∙ length-map others number_of) (λ i c at. by e i c at)
    where
      by : map number_of calls ≡ map number_of others → (i : ℕ) (c : RecordedOf) → slice_get calls i ≡ Some c → slice_get others i ≡ Some c
      by e i c at =
          let within : i < length others = omega (arith, slice_get_within calls i c at, length-map calls number_of, ap length e, length-map others number_of) in
          let d = some_at others i within in
          let P : List ℤ → Type 0 = λ xs. slice_get xs i ≡ Some c.number in
          let u = subst P e (get_at number_of calls i c at) in
          let v = get_at number_of others i d.0 d.1 in
          let n : d.0.number ≡ c.number = cc in
          d.1 ∙ ap Some (same_recorded d.0 c (recorded_at others i d.0 b d.1) (recorded_at calls i c a at) n)

  pub numbered_once : (calls : List RecordedOf) → AreRecorded marks calls → IsOnce (map number_of calls)
  numbered_once calls are = once_pairs (map number_of calls) (calls_once marks calls r are)
