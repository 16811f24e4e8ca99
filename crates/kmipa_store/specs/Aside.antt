-- What is set aside (profile): identifiers about which nothing is judged; every identifier that no object has, where `rest` says so; or all,
-- for good, where judging is over.
use Rattle.std.specs.Prelude.{◌≡◌, ◌≢◌, ◌||◌, ℕ, Bool, true, false, if◌then◌else◌, List, [], ◌∷◌, bytes_eq}
use Rattle.std.specs.List.{list_any}

-- an identifier that was set aside, and whether it still is
abbrev pub Entry : Type 0
Entry = List ℕ × Bool

pub record AsideOf : Type 0 where
  -- identifiers that were set aside, in the order in which they were first
  pub ids : List Entry
  pub rest : Bool
  pub over : Bool

abbrev pub nothing_aside : AsideOf
nothing_aside = record { ids = []; rest = false; over = false }

-- the first entry of an identifier says that it is set aside
abbrev pub says : List Entry → List ℕ → Bool
says [] id = false
says (e ∷ es) id = if bytes_eq id e.0 then e.1 else says es id

-- the first entry of an identifier says so from now on; where there is none a new one stands behind the others
abbrev pub said_aside : List Entry → List ℕ → List Entry
said_aside [] id = (id, true) ∷ []
said_aside (e ∷ es) id = if bytes_eq id e.0 then (e.0, true) ∷ es else e ∷ said_aside es id

-- the first entry of an identifier, if there is one, says no more so
abbrev pub said_in : List Entry → List ℕ → List Entry
said_in [] id = []
said_in (e ∷ es) id = if bytes_eq id e.0 then (e.0, false) ∷ es else e ∷ said_in es id

-- the identifier is set aside by its name
abbrev pub is_named_aside : AsideOf → List ℕ → Bool
is_named_aside a id = says a.ids id

-- some identifier still is
abbrev pub is_any_named : List Entry → Bool
is_any_named es = list_any (λ (e : Entry). e.1) es

-- something is set aside
abbrev pub is_any_aside : AsideOf → Bool
is_any_aside a = is_any_named a.ids || (a.rest || a.over)

-- an identifier that is set aside is so until it is taken in, and what is said of no other one changes
pub record SaysOfEach : Type 0 where
  pub aside : (es : List Entry) (id : List ℕ) → says (said_aside es id) id ≡ true
  pub taken : (es : List Entry) (id : List ℕ) → says (said_in es id) id ≡ false
  pub aside_other : (es : List Entry) (id other : List ℕ) → other ≢ id → says (said_aside es id) other ≡ says es other
  pub taken_other : (es : List Entry) (id other : List ℕ) → other ≢ id → says (said_in es id) other ≡ says es other
