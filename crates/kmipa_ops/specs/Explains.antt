-- What a ledger may claim of the items that it took: one choice of bytes for every secret that ever existed meets them all.
use Rattle.std.specs.Prelude.{◌≡◌, ◌≤◌, ◌<◌, ◌⊎◌, ◌↔◌, ◌||◌, ◌==◌, ℕ, ℤ, Bool, true, List, [], ◌∷◌, length, All, Option, Some, None, Result, Ok, Err}
use Rattle.kmipa_object.specs.Inventory.{Thing}
use Rattle.kmipa_store.specs.Ledger.{Meaning, LedgerState, bytes_at, changed}
use Rattle.kmipa_store.specs.Choices.{Choice, Chooses, Agrees, inv, IsSound, Extends}
use Rattle.kmipa_msgs.specs.Operations.{operation_number}
use Rattle.kmipa_msgs.specs.Messages.{RulesOf, AskedOf, AskOf, operation_asked, PayloadOf, got, AnswerOf}
use Rattle.kmipa_ops.specs.declared.why.Why.{Why}
use Rattle.kmipa_ops.specs.declared.why.Refusal.{Refusal}
use Rattle.kmipa_ops.specs.declared.why.Refusal.TheVariants.{Impossible, Memory}
use Rattle.kmipa_ops.specs.Judging.{row_brings}
use Rattle.kmipa_ops.specs.Rows.{asked_judging, asked_row}
use Rattle.kmipa_ops.specs.Objects.{is_other}
use Rattle.kmipa_ops.specs.Completes.{DoesSome, can_judge}
use Rattle.kmipa_ops.specs.Chains.{ChainSome}
use Rattle.kmipa_ops.specs.After.{after as leaves_after}
use Rattle.kmipa_ops.specs.Ascending.{SecretsAscend}
use Rattle.kmipa_ops.specs.Blame.{lowest}

-- the bytes that an ask brings
abbrev pub brings : AskedOf → Option (List ℕ)
brings asked = row_brings (asked_row asked) (asked_judging asked)

-- the bytes that an answer shows
abbrev pub shows : Option PayloadOf → Option (List ℕ)
shows (Some (got a)) = Some a.block.material
shows payload = None

-- one of the asks brings these bytes, or one of the answers shows them
abbrev pub BringsOrShows : List (AskOf × AnswerOf) → List ℕ → Type 0
BringsOrShows [] bytes = ⊥
BringsOrShows (pair ∷ pairs) bytes = (brings pair.0.asked ≡ Some bytes) ⊎ ((shows pair.1.payload ≡ Some bytes) ⊎ BringsOrShows pairs bytes)

-- the pairs lead the ledger from `m` to `n`, and the placeholder from `before` to `after`
pub record Explains (rules : RulesOf) (t : ℤ) (m : Meaning) (before : Option (List ℕ)) (pairs : List (AskOf × AnswerOf)) (n : Meaning) (after : Option (List ℕ)) : Type 0 where
  -- every choice afterwards was a choice before, and the items link the two inventories
  pub sound : (c : Choice) → Chooses n.secrets c
      → Chooses m.secrets c × ChainSome rules t (inv c m.objects) before pairs (inv c n.objects) after
  -- whatever the items reach from an inventory before is an inventory afterwards, under a choice that agrees on the secrets before
  pub complete : (c : Choice) → Chooses m.secrets c → (V : List Thing) (p : Option (List ℕ)) → ChainSome rules t (inv c m.objects) before pairs V p
      → (d : Choice) × Chooses n.secrets d × Agrees (length m.secrets) c d × (V ≡ inv d n.objects) × (p ≡ after)
  -- bytes are known only where they were, or where an item told them
  pub learns : (number : ℕ) (bytes : List ℕ) → bytes_at n.secrets number ≡ Some (Some bytes)
      → (bytes_at m.secrets number ≡ Some (Some bytes)) ⊎ BringsOrShows pairs bytes
  pub grows : length m.secrets ≤ length n.secrets
  pub extends : Extends m.secrets n.secrets
  -- each object keeps a secret of its own
  pub ascends : SecretsAscend m.objects → SecretsAscend n.objects

-- no choice allows the answer, and this is the lowest reason
pub record Refuted (rules : RulesOf) (m : Meaning) (before : Option (List ℕ)) (t : ℤ) (ask : AskOf) (answer : AnswerOf) (why : Why) : Type 0 where
  pub named : lowest rules m before t ask answer ≡ Some why
  pub never : (c : Choice) → Chooses m.secrets c → (V : List Thing) (p : Option (List ℕ)) → DoesSome rules (inv c m.objects) before t ask answer V p → ⊥

-- the item was taken
pub record Took (rules : RulesOf) (s : LedgerState) (before : Option (List ℕ)) (t : ℤ) (ask : AskOf) (answer : AnswerOf) (u : LedgerState) (after : Option (List ℕ)) : Type 0 where
  pub explains : Explains rules t s.now before ((ask, answer) ∷ []) u.now after
  pub sound : IsSound u.now
  pub marks : u.marks ≡ s.marks
  -- and the ledger is what the item leaves, so that whatever is set aside stays so
  pub left : u ≡ changed s (leaves_after answer.status s.now before t ask.asked answer.payload)

-- what taking an item comes to: from a ledger `s` and a placeholder `before` to `u` and `after`
abbrev pub Taken : RulesOf → LedgerState → Option (List ℕ) → ℤ → AskOf → AnswerOf → Result (Unit {0}) Refusal → LedgerState → Option (List ℕ) → Type 0
Taken rules s before t ask answer (Ok done) u after = Took rules s before t ask answer u after
Taken rules s before t ask answer (Err (Impossible why)) u after = Refuted rules s.now before t ask answer why × (u ≡ s) × (after ≡ before)
Taken rules s before t ask answer (Err Memory) u after = u.marks ≡ s.marks

-- the answer's Operation isn't the one asked for, or what there is to judge is there
abbrev pub is_readable : AskOf → AnswerOf → Bool
is_readable ask answer = is_other (λ (x y : ℕ). x == y) answer.operation (operation_number (operation_asked ask.asked)) || can_judge answer.status ask.asked answer.payload

-- bytes that are told are numbers below 256
abbrev pub AreBytes : Option (List ℕ) → Type 0
AreBytes None = Unit {0}
AreBytes (Some bytes) = All (λ b. b < 256) bytes

abbrev pub TellsBytes : AskOf → AnswerOf → Type 0
TellsBytes ask answer = AreBytes (brings ask.asked) × AreBytes (shows answer.payload)

-- an item is possible for some choice
pub record IsPossible (rules : RulesOf) (m : Meaning) (before : Option (List ℕ)) (t : ℤ) (ask : AskOf) (answer : AnswerOf) : Type 0 where
  pub choice : Choice
  pub chooses : Chooses m.secrets choice
  pub things : List Thing
  pub placeholder : Option (List ℕ)
  pub does : DoesSome rules (inv choice m.objects) before t ask answer things placeholder

-- no reason speaks against an answer exactly where it is possible for some choice
abbrev pub BlameIsExact : Type 0
BlameIsExact =
    (rules : RulesOf) (m : Meaning) (before : Option (List ℕ)) (t : ℤ) (ask : AskOf) (answer : AnswerOf) → IsSound m → is_readable ask answer ≡ true → TellsBytes ask answer
    → (lowest rules m before t ask answer ≡ None) ↔ IsPossible rules m before t ask answer
