-- What setting identifiers aside leaves of a ledger. Not promised: `Opening` says what a declaration sets aside.
use Rattle.std.specs.Prelude.{◌≡◌, ℕ, Bool, true, false, List, Result, Ok, Err}
use Rattle.kmipa_store.specs.Aside.{nothing_aside}
use Rattle.kmipa_store.specs.Ledger.{LedgerState, rest_set_aside, with_aside}
use Rattle.kmipa_record.specs.Declarations.{DeclarationOf}
use Rattle.kmipa_check.specs.Described.{aside_declared, each_aside}

abbrev pub with_each_aside : LedgerState → List (List ℕ) → LedgerState
with_each_aside s ids = with_aside s (record { ids = each_aside ids s.now.aside.ids; rest = s.now.aside.rest; over = s.now.aside.over })

-- want of memory tells nothing
abbrev pub SetsEachAside : {E : Type 0} → LedgerState → List (List ℕ) → Result (Unit {0}) E → LedgerState → Type 0
SetsEachAside s ids (Ok done) u = u ≡ with_each_aside s ids
SetsEachAside s ids (Err e) u = Unit {0}

abbrev pub with_rest : Bool → LedgerState → LedgerState
with_rest true s = rest_set_aside s
with_rest false s = s

-- where nothing was set aside, what the declaration says is so
abbrev pub SetsDeclaredAside : {E : Type 0} → LedgerState → DeclarationOf → Result (Unit {0}) E → LedgerState → Type 0
SetsDeclaredAside s declared (Ok done) u = s.now.aside ≡ nothing_aside → u ≡ with_aside s (aside_declared declared)
SetsDeclaredAside s declared (Err e) u = Unit {0}
