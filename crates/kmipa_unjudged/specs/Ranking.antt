-- OPERATIONS, BY HOW OFTEN THEY WERE PASSED (profile): most first, and of those that were as often the one of the lower number.
use Rattle.std.specs.Prelude.{◌≡◌, ℕ, ◌+◌, ◌==◌, ◌||◌, ◌&&◌, nat_lt, Bool, if◌then◌else◌, List, [], ◌∷◌}
use Rattle.std.specs.List.{list_any}
use Rattle.kmipa_unjudged.specs.declared.rank.Rank.{Rank}

-- how often a number stands among these
abbrev pub times : ℕ → List ℕ → ℕ
times n [] = 0
times n (m ∷ ms) = if m == n then times n ms + 1 else times n ms

abbrev pub is_ahead : Rank → Rank → Bool
is_ahead one other = nat_lt other.count one.count || ((one.count == other.count) && nat_lt one.operation other.operation)

-- one more, ahead of the first that it is ahead of
abbrev pub put : Rank → List Rank → List Rank
put r [] = r ∷ []
put r (s ∷ ss) = if is_ahead r s then r ∷ s ∷ ss else s ∷ put r ss

abbrev pub has_operation : List Rank → ℕ → Bool
has_operation rs n = list_any (λ (r : Rank). r.operation == n) rs

-- each operation once, with how often it stands among all of these
abbrev pub with_rank : List ℕ → List Rank → ℕ → List Rank
with_rank all rs n = if has_operation rs n then rs else put (record { operation = n; count = times n all }) rs

abbrev pub ranks_from : List ℕ → List Rank → List ℕ → List Rank
ranks_from all rs [] = rs
ranks_from all rs (n ∷ ns) = ranks_from all (with_rank all rs n) ns

-- THE DEFINITION
abbrev pub ranks : List ℕ → List Rank
ranks ns = ranks_from ns [] ns
