-- Where a search for an order in which each call is possible stands over its ledger. Not promised.
use Rattle.std.specs.Prelude.{◌≡◌, ◌∷◌, length, vec_len, Option, Some, None, Result, Ok, Err}
use Rattle.kmipa_store.specs.Ledger.{LedgerState}
use Rattle.kmipa_store.specs.Choices.{IsSound}
use Rattle.kmipa_findings.specs.Walking.{IsWalkedBy}
use Rattle.kmipa_findings.specs.declared.descending.Descent.{Descent}
use Rattle.kmipa_findings.specs.declared.descending.Taken.{Taken}

abbrev pub IsDescended : Descent → LedgerState → Type 0
IsDescended d s = IsWalkedBy (vec_len d.path) d.depth s

-- a call is taken after a new mark; or the ledger is as before
abbrev pub IsTakenAfter : {E : Type 0} → LedgerState → Result (Option Taken) E → LedgerState → Type 0
IsTakenAfter s (Ok (Some taken)) u = IsSound u.now × (u.marks ≡ s.now ∷ s.marks) × (taken.depth ≡ length u.marks)
IsTakenAfter s (Ok None) u = u ≡ s
IsTakenAfter s (Err fault) u = Unit {0}
