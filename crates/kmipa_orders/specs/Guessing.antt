-- A search that guesses payloads: how far it may go. Not promised: that its witness is right is reported by a check.
use Rattle.std.specs.Prelude.{◌≡◌, ◌≤◌, ℕ, zero, suc, List, ◌∷◌, [], length, All, Contains, Option, Some, None, IfSome, Result, Ok, Err}
use Rattle.kmipa_store.specs.Ledger.{LedgerState, Meaning}
use Rattle.kmipa_store.specs.Choices.{IsSound}
use Rattle.kmipa_record.specs.Marks.{MarkOf}
use Rattle.kmipa_batch.specs.Readable.{IsReadableCall}
use Rattle.kmipa_check.specs.Calls.{CallOf, IsRecorded, call_of}
use Rattle.kmipa_record.specs.declared.call.Call.{Call}
use Rattle.kmipa_check.specs.declared.fault.CheckFault.{CheckFault}
use Rattle.kmipa_orders.specs.Candidates.{candidate_step}
use Rattle.kmipa_orders.specs.declared.candidate.Candidate.{Candidate}
use Rattle.kmipa_orders.specs.declared.guessing.Guessed.{Guessed}
use Rattle.kmipa_orders.specs.declared.guessing.Taken.{Taken}

-- the call is one of some transcript
abbrev pub IsRecordedCall : CallOf → Type 0
IsRecordedCall c = (marks : List MarkOf) × IsRecorded marks c

abbrev pub AreRecordedCalls : List Candidate → Type 0
AreRecordedCalls calls = (c : Candidate) → Contains calls c → IsRecordedCall (call_of c.call.now)

-- a call that can be judged as it was recorded
abbrev pub IsReadableOne : Candidate → Type 0
IsReadableOne c = IsReadableCall (candidate_step c).request (candidate_step c).response

-- each of these that is there
abbrev pub AreReadableOnes : List (Option Candidate) → Type 0
AreReadableOnes = All (λ (o : Option Candidate). IfSome o IsReadableOne)

abbrev pub AreAllRecorded : List Call → Type 0
AreAllRecorded calls = (c : Call) → Contains calls c → IsRecordedCall (call_of c)

-- each turn was tried, and no more than the budget
abbrev pub IsBounded : ℕ → Guessed → Type 0
IsBounded budget g = (g.steps ≤ budget) × IfSome g.turns (λ turns. length turns.items ≤ g.steps)

-- taken after a new mark; or nothing is changed
abbrev pub TurnTried : LedgerState → Result (Option ℕ) CheckFault → LedgerState → Type 0
TurnTried s (Ok (Some depth)) u = IsSound u.now × (u.marks ≡ s.now ∷ s.marks) × (depth ≡ length u.marks)
TurnTried s (Ok None) u = u ≡ s
TurnTried s (Err fault) u = Unit {0}

abbrev pub GuessTried : LedgerState → Result (Option Taken) CheckFault → LedgerState → Type 0
GuessTried s (Ok (Some taken)) u = IsSound u.now × (u.marks ≡ s.now ∷ s.marks) × (taken.depth ≡ length u.marks)
GuessTried s (Ok None) u = u ≡ s
GuessTried s (Err fault) u = Unit {0}

-- the ledger is sound at so many marks
abbrev pub AreSoundMarks : ℕ → List Meaning → Type 0
AreSoundMarks zero marks = Unit {0}
AreSoundMarks (suc count) [] = ⊥
AreSoundMarks (suc count) (m ∷ marks) = IsSound m × AreSoundMarks count marks
