-- What each operation proves of itself.
use Rattle.std.proofs.Common.{◌≡◌, ◌⊎◌, ℕ, ℤ, true, false, List, [], ◌∷◌, find, Option, Some, None, option_map, ◌↔◌, inl, inr, ap, sym, ◌∙◌}
use Rattle.kmipa_object.specs.Inventory.{Thing}
use Rattle.kmipa_store.specs.Ledger.{Meaning, bytes_at, cards_of}
use Rattle.kmipa_store.specs.Choices.{Choice, Chooses, inv, IsSound}
use Rattle.kmipa_msgs.specs.Messages.{RulesOf, PayloadOf}
use Rattle.kmipa_ops.specs.declared.why.Why.{Why}
use Rattle.kmipa_ops.specs.declared.why.Why.TheVariants.{EarlierCallLate, StampRunsBack, BatchShape, OperationDiffers, NotVisible}
use Rattle.kmipa_ops.specs.Effects.{brought_by}
use Rattle.kmipa_ops.specs.Judging.{Judging, RowJudging}
use Rattle.kmipa_ops.specs.Row.{Deed, Row, deed, idle, unknown}
use Rattle.kmipa_ops.specs.Explains.{shows, AreBytes}
use Rattle.kmipa_ops.proofs.StepLemmas.{Step}
use Rattle.std.specs.Bool.{Decides}
use Rattle.kmipa_ops.specs.Meant.{secret_meant}
use Rattle.kmipa_ttlv.specs.Tree.{Trees}
use Rattle.kmipa_msgs.specs.declared.operation.Operation.{Operation}
use Rattle.kmipa_msgs.specs.Payloads.{SaysDone}
use Rattle.kmipa_msgs.specs.Sayable.{IsSayable}
use Rattle.kmipa_ops.specs.Sayable.{ShowsSayable}

-- the reasons that are no operation's own: the order of calls, the shape of a batch, the Operation
abbrev pub outer_whys : List Why
outer_whys = NotVisible ∷ EarlierCallLate ∷ StampRunsBack ∷ BatchShape ∷ OperationDiffers ∷ []

-- bytes are known afterwards only where they were, or where the ask brought them or the answer showed them
abbrev pub Learns : Meaning → Meaning → Option (List ℕ) → Option (List ℕ) → Type 0
Learns m n brought shown =
    (number : ℕ) (bytes : List ℕ) → bytes_at n.secrets number ≡ Some (Some bytes)
    → (bytes_at m.secrets number ≡ Some (Some bytes)) ⊎ ((brought ≡ Some bytes) ⊎ (shown ≡ Some bytes))

-- of both ledgers the same is known: the objects but for their bytes, and the bytes of each that may be meant
abbrev pub KnowSame : Meaning → Meaning → Type 0
KnowSame m n = (cards_of m.objects ≡ cards_of n.objects) × ((about : Option (List ℕ)) → secret_meant m about ≡ secret_meant n about)

-- `Says` is how the children of an item say the operation's payloads, and what is `Sayable` some item shows
pub record IsDeed (d : Deed) (j : Judging d) (Says : Trees → PayloadOf → Type 0) (Sayable : d.Shown → Type 0) : Type 0 where
  -- its payloads are those that show something, and no item says another
  pub back : (x : d.Shown) → d.seen (d.payload x) ≡ Some x
  pub each : (p : PayloadOf) → ((x : d.Shown) × (p ≡ d.payload x)) ⊎ ((d.seen p ≡ None) × ((ts : Trees) → Says ts p → ⊥))
  -- what some item shows is what a message can carry, with attributes that can be said
  pub carries : (x : d.Shown) → Sayable x ↔ (d.says x × ShowsSayable (d.payload x))
  -- no outer reason is its own, and what speaks against a hidden payload speaks against each
  pub quiet : (rules : RulesOf) (m : Meaning) (before : Option (List ℕ)) (t : ℤ) (shown : Option d.Shown) → find (j.speaks rules m before t shown) outer_whys ≡ None
  pub covers : (rules : RulesOf) (m : Meaning) (before : Option (List ℕ)) (t : ℤ) (x : d.Shown) (w : Why) → j.speaks rules m before t None w ≡ true → j.speaks rules m before t (Some x) w ≡ true
  -- where nothing speaks against it the ledger goes on, and what speaks against it allows no choice
  pub step : (rules : RulesOf) (m : Meaning) (before : Option (List ℕ)) (t : ℤ) (x : d.Shown) → IsSound m → AreBytes (brought_by j.effect) → AreBytes (shows (Some (d.payload x)))
      → ((w : Why) → j.speaks rules m before t (Some x) w ≡ false)
      → Step (λ V V' p. d.does rules V before t x V' p) m (j.leaves m before t (Some x)) (j.holds before (Some x))
  pub never : (rules : RulesOf) (m : Meaning) (before : Option (List ℕ)) (t : ℤ) (x : d.Shown) (w : Why) → j.speaks rules m before t (Some x) w ≡ true
      → (c : Choice) → Chooses m.secrets c → (V : List Thing) (p : Option (List ℕ)) → d.does rules (inv c m.objects) before t x V p → ⊥
  -- the same of an answer without payload, where it may have none: some payload that a message can carry completes it
  pub hidden : (rules : RulesOf) (m : Meaning) (before : Option (List ℕ)) (t : ℤ) → d.may_lack ≡ true → IsSound m → ((w : Why) → j.speaks rules m before t None w ≡ false)
      → Step (λ V V' p. (x : d.Shown) × d.says x × d.does rules V before t x V' p) m (j.leaves m before t None) (j.holds before None)
  pub learns : (m : Meaning) (before : Option (List ℕ)) (t : ℤ) (shown : Option d.Shown) → Learns m (j.leaves m before t shown) (brought_by j.effect) (shows (option_map d.payload shown))
  -- its test says what its reasons mean, and the same over ledgers of which the same is known
  pub decides : (rules : RulesOf) (m : Meaning) (before : Option (List ℕ)) (t : ℤ) (shown : Option d.Shown) (w : Why) → Decides (j.speaks rules m before t shown w) (j.means rules m before t shown w)
  pub same : (rules : RulesOf) (m n : Meaning) → KnowSame m n → (before : Option (List ℕ)) (t : ℤ) (shown : Option d.Shown) (w : Why) → j.speaks rules m before t shown w ≡ j.speaks rules n before t shown w

pub one_shows : (d : Deed) {j : Judging d} {Says : Trees → PayloadOf → Type 0} {Sayable : d.Shown → Type 0} → IsDeed d j Says Sayable → (p : PayloadOf) (x : d.Shown) → d.seen p ≡ Some x → p ≡ d.payload x
one_shows d is p x e = elim (is.each p) [
  | inl y ↦
      let both : Some y.0 ≡ Some x = sym (ap d.seen y.1 ∙ is.back y.0) ∙ e in
      let same : y.0 ≡ x = cc in
      y.1 ∙ ap d.payload same
  | inr none ↦ let bad : None ≡ Some x = sym none.0 ∙ e in cc
]

-- the row is that of the operation
abbrev pub IsRow : Operation → (row : Row) → RowJudging row → Type 0
IsRow operation (deed d) j = IsDeed d j (SaysDone operation) (λ x. IsSayable operation (d.payload x))
IsRow operation idle j = (ts : Trees) (p : PayloadOf) → SaysDone operation ts p → ⊥
IsRow operation unknown j = (ts : Trees) (p : PayloadOf) → SaysDone operation ts p → ⊥
