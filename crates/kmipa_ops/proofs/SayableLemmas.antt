-- What may complete an answer is what some item says.
use Rattle.std.proofs.Common.{◌≡◌, true, is_some, Some, ap, sym, ◌∙◌, subst, inl, inr}
use Rattle.kmipa_ttlv.specs.Tree.{Tree, Trees, structure, scalar}
use Rattle.kmipa_msgs.specs.Messages.{AskedOf, operation_asked, PayloadOf}
use Rattle.kmipa_msgs.specs.Payloads.{SaysDone, SaysPayloadOf}
use Rattle.kmipa_msgs.specs.declared.operation.Operation.{Operation}
use Rattle.kmipa_msgs.specs.Sayable.{IsSayable}
use Rattle.kmipa_msgs.proofs.SayableLemmas.{sayable_is_said}
use Rattle.kmipa_ops.specs.Completes.{FillsRow, FillsAbsent, is_of}
use Rattle.kmipa_ops.specs.Judging.{RowJudging}
use Rattle.kmipa_ops.specs.Row.{Row, deed, idle, unknown, row_is_of}
use Rattle.kmipa_ops.specs.Rows.{asked_judging, asked_row}
use Rattle.kmipa_ops.specs.Sayable.{ShowsSayable, FillsAreSaid}
use Rattle.kmipa_ops.proofs.DeedLaws.{IsRow}
use Rattle.kmipa_ops.proofs.RowLemmas.{is_row}

row_sayable : (operation : Operation) (row : Row) (j : RowJudging row) → IsRow operation row j → (p : PayloadOf) → FillsRow row (Some p) → ShowsSayable p → IsSayable operation p
row_sayable operation (deed d) j is p x s =
    let some : Some p ≡ Some (d.payload x.shown) = x.is in
    let same : p ≡ d.payload x.shown = cc in
    subst (IsSayable operation) (sym same) ((is.carries x.shown).1 (x.sayable, subst ShowsSayable same s))
row_sayable operation idle j is p x s = let bad : ⊥ = cc in absurd bad
row_sayable operation unknown j is p x s = let bad : ⊥ = cc in absurd bad

-- a payload that an item says is the operation's, and fills
row_said : (operation : Operation) (row : Row) (j : RowJudging row) → IsRow operation row j → (ts : Trees) (p : PayloadOf) → SaysDone operation ts p
    → (row_is_of row p ≡ true) × (IsSayable operation p → FillsRow row (Some p) × ShowsSayable p)
row_said operation (deed d) j is ts p s = elim (is.each p) [
  | inl x ↦ (
    ap (λ (q : PayloadOf). is_some (d.seen q)) x.1 ∙ ap is_some (is.back x.0),
    λ h.
        let c = (is.carries x.0).0 (subst (IsSayable operation) x.1 h) in
        (record { shown = x.0; is = ap Some x.1; sayable = c.0 }, subst ShowsSayable (sym x.1) c.1),
  )
  | inr none ↦ absurd (none.1 ts s)
]
row_said operation idle j is ts p s = absurd (is ts p s)
row_said operation unknown j is ts p s = absurd (is ts p s)

pub payload_said : (asked : AskedOf) (t : Tree) (p : PayloadOf) → SaysPayloadOf (operation_asked asked) t p
    → (is_of asked p ≡ true) × (IsSayable (operation_asked asked) p → FillsAbsent asked (Some p) × ShowsSayable p)
payload_said asked (structure n ts) p s = row_said (operation_asked asked) (asked_row asked) (asked_judging asked) (is_row asked) ts p s
payload_said asked (scalar n s) p h = absurd h

pub fills_are_said : FillsAreSaid
fills_are_said ask p = (
  λ x. (sayable_is_said ask p).1 (row_sayable (operation_asked ask.asked) (asked_row ask.asked) (asked_judging ask.asked) (is_row ask.asked) p x.0 x.1),
  λ y. (payload_said ask.asked y.0 p y.2).1 ((sayable_is_said ask p).0 y),
)
