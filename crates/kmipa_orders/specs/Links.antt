-- Elements in a list that is linked both ways, numbered from 1 on, some of which are out of it. Not promised.
use Rattle.std.specs.Prelude.{◌≡◌, ◌<◌, ◌≤◌, ◌+◌, ◌⊎◌, ℕ, List, length, slice_index_or, slice_set}

abbrev pub at : List ℕ → ℕ → ℕ
at xs i = slice_index_or xs i 0

-- the next one that is in after a place, or the end, which is one more than the last number
pub record IsAfter (count : ℕ) (left : ℕ → Type 0) (i j : ℕ) : Type 0 where
  pub onward : i < j
  pub within : j ≤ count + 1
  pub stands : left j ⊎ (j ≡ count + 1)
  pub none : (k : ℕ) → left k → i < k → k < j → ⊥

-- the one before a place, or the start, 0
pub record IsBefore (left : ℕ → Type 0) (i j : ℕ) : Type 0 where
  pub onward : i < j
  pub stands : left i ⊎ (i ≡ 0)
  pub none : (k : ℕ) → left k → i < k → k < j → ⊥

-- the elements that are left are linked
pub record AreLinked (count : ℕ) (left : ℕ → Type 0) (after before : List ℕ) : Type 0 where
  pub long_after : length after ≡ count + 2
  pub long_before : length before ≡ count + 2
  pub within : (k : ℕ) → left k → (0 < k) × (k ≤ count)
  pub afters : (i : ℕ) → left i ⊎ (i ≡ 0) → IsAfter count left i (at after i)
  pub befores : (j : ℕ) → left j ⊎ (j ≡ count + 1) → IsBefore left (at before j) j

-- an element goes out, or comes back
abbrev pub after_without : List ℕ → List ℕ → ℕ → List ℕ
after_without after before x = slice_set after (at before x) (at after x)

abbrev pub before_without : List ℕ → List ℕ → ℕ → List ℕ
before_without after before x = slice_set before (at after x) (at before x)

abbrev pub after_with : List ℕ → List ℕ → ℕ → List ℕ
after_with after before x = slice_set after (at before x) x

abbrev pub before_with : List ℕ → List ℕ → ℕ → List ℕ
before_with after before x = slice_set before (at after x) x

abbrev pub IsWithin : ℕ → ℕ → Type 0
IsWithin count k = (0 < k) × (k ≤ count)
