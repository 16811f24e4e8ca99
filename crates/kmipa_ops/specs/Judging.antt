-- What the auditor keeps of an operation beside what it does: which reasons speak against it, what they mean, and what it leaves of a ledger.
use Rattle.std.specs.Prelude.{ℕ, ℤ, Bool, false, List, Option, None}
use Rattle.kmipa_store.specs.Ledger.{Meaning}
use Rattle.kmipa_msgs.specs.Messages.{RulesOf, PayloadOf}
use Rattle.kmipa_ops.specs.Effects.{EffectOf, brought_by, does_nothing, is_unread}
use Rattle.kmipa_ops.specs.Objects.{meant}
use Rattle.kmipa_ops.specs.Row.{Deed, Row, SubjectOf, deed, idle, on_names, on_nothing, on_object, seen_in, unknown}
use Rattle.kmipa_ops.specs.declared.why.Why.{Why}

-- of an operation whose payloads are read
pub record Judging (d : Deed) : Type 1 where
  -- whether it makes, changes, lists or shows
  pub effect : EffectOf
  -- this reason speaks against it where it is done, and shows this if its payload is there
  pub speaks : RulesOf → Meaning → Option (List ℕ) → ℤ → Option d.Shown → Why → Bool
  -- what each reason that speaks against it means
  pub means : RulesOf → Meaning → Option (List ℕ) → ℤ → Option d.Shown → Why → Type 0
  -- the ledger and the placeholder after it
  pub leaves : Meaning → Option (List ℕ) → ℤ → Option d.Shown → Meaning
  pub holds : Option (List ℕ) → Option d.Shown → Option (List ℕ)

-- of any operation
abbrev pub RowJudging : Row → Type 1
RowJudging (deed d) = Judging d
RowJudging idle = Unit {1}
RowJudging unknown = Unit {1}

abbrev pub row_effect : (row : Row) → RowJudging row → EffectOf
row_effect (deed d) j = j.effect
row_effect idle j = does_nothing
row_effect unknown j = is_unread

abbrev pub row_brings : (row : Row) → RowJudging row → Option (List ℕ)
row_brings row j = brought_by (row_effect row j)

abbrev pub row_speaks : (row : Row) → RowJudging row → RulesOf → Meaning → Option (List ℕ) → ℤ → Option PayloadOf → Why → Bool
row_speaks (deed d) j rules m before t payload why = j.speaks rules m before t (seen_in d payload) why
row_speaks idle j rules m before t payload why = false
row_speaks unknown j rules m before t payload why = false

abbrev pub row_reason : (row : Row) → RowJudging row → RulesOf → Meaning → Option (List ℕ) → ℤ → Option PayloadOf → Why → Type 0
row_reason (deed d) j rules m before t payload why = j.means rules m before t (seen_in d payload) why
row_reason idle j rules m before t payload why = ⊥
row_reason unknown j rules m before t payload why = ⊥

abbrev pub row_leaves : (row : Row) → RowJudging row → Meaning → Option (List ℕ) → ℤ → Option PayloadOf → Meaning
row_leaves (deed d) j m before t payload = j.leaves m before t (seen_in d payload)
row_leaves idle j m before t payload = m
row_leaves unknown j m before t payload = m

abbrev pub row_holds : (row : Row) → RowJudging row → Option (List ℕ) → Option PayloadOf → Option (List ℕ)
row_holds (deed d) j before payload = j.holds before (seen_in d payload)
row_holds idle j before payload = before
row_holds unknown j before payload = before

-- the identifier of the object that an item is about: of one that is to have names the one that is answered, which `named` is
abbrev pub about_by : SubjectOf → (named before : Option (List ℕ)) → Option (List ℕ)
about_by (on_object id act unjudged) named before = meant id before
about_by (on_names names) named before = named
about_by on_nothing named before = None
