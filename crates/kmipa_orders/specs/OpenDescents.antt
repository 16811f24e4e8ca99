-- A search that takes calls without an end mark, on its way. Not promised.
use Rattle.std.specs.Prelude.{◌≡◌, ◌<◌, ◌≤◌, ◌+◌, Bool, true, false, [], length}
use Rattle.kmipa_store.specs.Ledger.{LedgerState}
use Rattle.kmipa_store.specs.Choices.{IsSound}
use Rattle.kmipa_orders.specs.Guessing.{AreSoundMarks}
use Rattle.kmipa_orders.specs.declared.guessing.Taken.{Taken}
use Rattle.kmipa_orders.specs.declared.open.descent.OpenDescent.{OpenDescent}

-- The ledger is sound, and at the mark before each call that is taken; the depth is the one of the newest mark; each call that is taken was
-- tried, and has a turn.
pub record Descends (d : OpenDescent) (u : LedgerState) : Type 0 where
  pub sound : IsSound u.now
  pub after : AreSoundMarks (length d.path.items) u.marks
  pub deep : 0 < length d.path.items → d.depth ≡ length u.marks
  pub paid : length d.path.items ≤ d.steps
  pub turned : length d.turns.items ≡ length d.path.items

-- nothing was tried
abbrev pub IsFresh : OpenDescent → Type 0
IsFresh d = (d.steps ≡ 0) × (d.path.items ≡ []) × (d.turns.items ≡ [])

-- a call was tried
abbrev pub IsStep : OpenDescent → OpenDescent → LedgerState → Type 0
IsStep d e u = Descends e u × (e.steps ≡ d.steps + 1) × (length e.path.items ≤ length d.path.items + 1)

-- a call was taken
abbrev pub IsTaken : OpenDescent → Taken → OpenDescent → Type 0
IsTaken d taken e =
    (e.steps ≡ d.steps) × (e.depth ≡ taken.depth)
    × (length e.path.items ≡ length d.path.items + 1) × (length e.turns.items ≡ length d.turns.items + 1)

-- the call that was taken last was given back, or there is none
abbrev pub IsBack : OpenDescent → OpenDescent → LedgerState → Bool → Type 0
IsBack d e u true = Descends e u × (e.steps ≡ d.steps) × (length e.path.items < length d.path.items)
IsBack d e u false = e.steps ≡ d.steps
