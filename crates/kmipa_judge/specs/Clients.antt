-- WHO MADE THE CALLS OF A RECORDING (profile).
use Rattle.std.specs.Prelude.{◌≡◌, ◌==◌, ◌||◌, not, ℕ, Bool, List, All, take_while}
use Rattle.kmipa_record.specs.Marks.{MarkOf, begins, ends}

-- a blank or a slash
abbrev pub ends_identity : ℕ → Bool
ends_identity b = (b == 0x20) || (b == 0x2F)

abbrev pub is_of_identity : ℕ → Bool
is_of_identity b = not (ends_identity b)

-- the identity of a client: its text up to the first of these
abbrev pub identity : List ℕ → List ℕ
identity client = take_while is_of_identity client

-- where the mark begins a call, that came from a client of this identity
abbrev pub IsBy : List ℕ → MarkOf → Type 0
IsBy id (begins call client message) = identity client ≡ id
IsBy id (ends call message) = Unit {0}

-- all calls came from clients of one identity
abbrev pub AreOfOne : List MarkOf → Type 0
AreOfOne marks = (id : List ℕ) × All (IsBy id) marks

-- ---- for its own proofs

-- where the mark begins a call, this is the identity of its client
abbrev pub IsIdentityOf : MarkOf → List ℕ → Type 0
IsIdentityOf (begins call client message) id = id ≡ identity client
IsIdentityOf (ends call message) id = Unit {0}
