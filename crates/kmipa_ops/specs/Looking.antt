-- Operations that only look: what they show is judged by the objects but for their bytes, and no object changes.
use Rattle.std.specs.Prelude.{◌≡◌, ℕ, ℤ, Bool, List, Option, Some}
use Rattle.kmipa_object.specs.Inventory.{Card, cards}
use Rattle.kmipa_store.specs.Ledger.{cards_of}
use Rattle.kmipa_msgs.specs.Messages.{PayloadOf}
use Rattle.kmipa_ops.specs.declared.why.Why.{Why}
use Rattle.kmipa_ops.specs.Effects.{EffectOf}
use Rattle.kmipa_ops.specs.Judging.{Judging}
use Rattle.kmipa_ops.specs.Row.{Deed, SubjectOf}

pub record Look : Type 1 where
  pub Shown : Type 0
  pub payload : Shown → PayloadOf
  pub seen : PayloadOf → Option Shown
  pub says : Shown → Type 0
  pub subject : SubjectOf
  pub may_lack : Bool
  -- what is shown is right of these objects
  pub Sees : List Card → Option (List ℕ) → ℤ → Shown → Type 0
  pub holds : Option (List ℕ) → Option Shown → Option (List ℕ)

abbrev pub look_deed : Look → Deed
look_deed l = record {
  Shown = l.Shown;
  payload = l.payload;
  seen = l.seen;
  says = l.says;
  subject = l.subject;
  may_lack = l.may_lack;
  does = λ rules V before t x V' after. l.Sees (cards V) before t x × (V' ≡ V) × (after ≡ l.holds before (Some x));
}

-- the reasons against it, and what they mean
pub record LookJudging (l : Look) : Type 1 where
  pub effect : EffectOf
  pub speaks : List Card → Option (List ℕ) → ℤ → Option l.Shown → Why → Bool
  pub means : List Card → Option (List ℕ) → ℤ → Option l.Shown → Why → Type 0

abbrev pub look_judging : (l : Look) → LookJudging l → Judging (look_deed l)
look_judging l j = record {
  effect = j.effect;
  speaks = λ rules m before t shown why. j.speaks (cards_of m.objects) before t shown why;
  means = λ rules m before t shown why. j.means (cards_of m.objects) before t shown why;
  leaves = λ m before t shown. m;
  holds = l.holds;
}
