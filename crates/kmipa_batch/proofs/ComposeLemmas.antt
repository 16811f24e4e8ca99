-- What is taken along any list of pairs.
use Rattle.std.proofs.Common.{◌++◌, ℕ, ℤ, List, [], ◌∷◌, Option, subst}
use Rattle.kmipa_object.specs.Inventory.{Thing}
use Rattle.kmipa_store.specs.Ledger.{Meaning}
use Rattle.kmipa_store.specs.Choices.{inv, IsSound}
use Rattle.kmipa_msgs.specs.Messages.{RulesOf, AskOf, AnswerOf}
use Rattle.kmipa_ops.specs.declared.why.Why.{Why}
use Rattle.kmipa_ops.specs.Completes.{DoesSome}
use Rattle.kmipa_ops.specs.Explains.{Explains, Refuted}
use Rattle.kmipa_ops.proofs.ExplainLemmas.{chain_split, explains_more}
use Rattle.kmipa_batch.specs.Composing.{CanChain, ChainsCompose, RefusalsAreExact}

pub chains_compose : ChainsCompose
chains_compose rules t m before xs ys k between n after e f = explains_more rules t m before xs ys k between n after e f

module _ (rules : RulesOf) (t : ℤ) (m : Meaning) (before : Option (List ℕ)) (pairs : List (AskOf × AnswerOf)) (n : Meaning) (after : Option (List ℕ)) (e : Explains rules t m before pairs n after) where
  -- what was taken is possible
  pub taken_can : IsSound n → CanChain rules t m before pairs
  taken_can sound =
      let r = e.sound sound.choice.0 sound.choice.1 in
      record { choice = sound.choice.0; chooses = r.0; things = inv sound.choice.0 n.objects; placeholder = after; chain = r.1 }

  -- and with what is refused after it it is not
  pub refused_cannot : (ask : AskOf) (answer : AnswerOf) (why : Why) → Refuted rules n after t ask answer why → CanChain rules t m before (pairs ++ (ask, answer) ∷ []) → ⊥
  refused_cannot ask answer why r p =
      let c = chain_split rules t (inv p.choice m.objects) before pairs ((ask, answer) ∷ []) p.things p.placeholder p.chain in
      let d = e.complete p.choice p.chooses c.0 c.1 c.2 in
      let Q : List Thing → Type 0 = λ X. DoesSome rules X c.1 t ask answer c.3.0 c.3.1 in
      let R : Option (List ℕ) → Type 0 = λ x. DoesSome rules (inv d.0 n.objects) x t ask answer c.3.0 c.3.1 in
      r.never d.0 d.1 c.3.0 c.3.1 (subst R d.4 (subst Q d.3 c.3.2))

pub refusals_are_exact : RefusalsAreExact
refusals_are_exact rules t m before pairs n after ask answer why e sound r =
    (taken_can rules t m before pairs n after e sound, refused_cannot rules t m before pairs n after e ask answer why r)
