-- The ledger and the placeholder after an item against which nothing speaks: of an unknown secret that a Get shows the bytes are known then.
use Rattle.std.specs.Prelude.{◌≡◌, ℕ, ℤ, List, Option, Result, Ok, Err}
use Rattle.kmipa_store.specs.Ledger.{changed, Meaning, LedgerState}
use Rattle.kmipa_msgs.specs.Messages.{AskedOf, PayloadOf}
use Rattle.kmipa_msgs.specs.declared.response.Status.{Status}
use Rattle.kmipa_msgs.specs.declared.response.Status.TheVariants.{Success, Failed, Undone}
use Rattle.kmipa_ops.specs.Judging.{row_leaves, row_holds}
use Rattle.kmipa_ops.specs.Rows.{asked_judging, asked_row}

abbrev pub after_done : Meaning → Option (List ℕ) → ℤ → AskedOf → Option PayloadOf → Meaning
after_done m before t asked payload = row_leaves (asked_row asked) (asked_judging asked) m before t payload

abbrev pub after : Status → Meaning → Option (List ℕ) → ℤ → AskedOf → Option PayloadOf → Meaning
after Success m before t asked payload = after_done m before t asked payload
after Undone m before t asked payload = after_done m before t asked payload
after Failed m before t asked payload = m

-- a Create, a Register or a Locate sets the placeholder
abbrev pub placeholder_done : Option (List ℕ) → AskedOf → Option PayloadOf → Option (List ℕ)
placeholder_done before asked payload = row_holds (asked_row asked) (asked_judging asked) before payload

abbrev pub placeholder_after : Status → Option (List ℕ) → AskedOf → Option PayloadOf → Option (List ℕ)
placeholder_after Success before asked payload = placeholder_done before asked payload
placeholder_after Undone before asked payload = placeholder_done before asked payload
placeholder_after Failed before asked payload = before

-- what a step leaves that only want of memory refuses: the ledger and the placeholder, and after a refusal the marks
abbrev pub LeavesAfter : {E : Type 0} → LedgerState → Meaning → Option (List ℕ) → Result (Unit {0}) E → LedgerState → Option (List ℕ) → Type 0
LeavesAfter s n after (Ok done) u p = (u ≡ changed s n) × (p ≡ after)
LeavesAfter s n after (Err e) u p = u.marks ≡ s.marks

-- what a step does to the ledger alone
abbrev pub Changes : {E : Type 0} → LedgerState → Meaning → Result (Unit {0}) E → LedgerState → Type 0
Changes s n (Ok done) u = u ≡ changed s n
Changes s n (Err e) u = u.marks ≡ s.marks
