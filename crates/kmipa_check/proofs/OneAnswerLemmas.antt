-- What a check may answer is one answer.
use Rattle.std.proofs.Common.{◌≡◌, ◌⊎◌, inl, inr, ℕ, List, map, Result, Ok, Err, refl, sym, subst}
use Rattle.kmipa_record.specs.Marks.{MarkOf, AreRecorded}
use Rattle.kmipa_record.specs.Declarations.{DeclarationOf}
use Rattle.kmipa_record.specs.Witnesses.{TurnOf}
use Rattle.kmipa_check.specs.Calls.{CallOf, AreCalls}
use Rattle.kmipa_check.specs.Grants.{grants_declared}
use Rattle.kmipa_check.specs.Steps.{StepOf}
use Rattle.kmipa_check.specs.Orders.{IsOrder, WitnessFaultAt}
use Rattle.kmipa_check.specs.Verdicts.{IsRefused, Checks}
use Rattle.kmipa_check.specs.Laws.{AreOne}
use Rattle.kmipa_check.specs.declared.fault.CheckFault.{CheckFault}
use Rattle.kmipa_check.specs.declared.fault.CheckFault.TheVariants.{Outside, Witness, Memory}
use Rattle.kmipa_check.specs.declared.fault.WitnessKind.{WitnessKind}
use Rattle.kmipa_check.specs.declared.verdict.Refused.{Refused}
use Rattle.kmipa_check.specs.declared.verdict.Verdict.{Verdict}
use Rattle.kmipa_check.specs.declared.verdict.Verdict.TheVariants.{Yes, No}
use Rattle.kmipa_check.proofs.OnceLemmas.{IsOnce, once_pairs}
use Rattle.kmipa_check.proofs.WholeOrderLemmas.{number_of, one_order_lem}
use Rattle.kmipa_check.proofs.CheckLemmas.{calls_once}
use Rattle.kmipa_check.proofs.RecordedLemmas.{same_calls}
use Rattle.kmipa_check.proofs.AcceptedLemmas.{accepted_is_yes_lem}
use Rattle.kmipa_check.proofs.FirstOutsideLemmas.{none_outside, one_first_outside}
use Rattle.kmipa_check.proofs.WitnessFaultLemmas.{order_right, one_witness_fault}
use Rattle.kmipa_check.proofs.RefusedLemmas.{one_refused}

module _ (marks : List MarkOf) (declared : DeclarationOf) (turns : List TurnOf) (r : AreRecorded marks) where
  its_numbers : (calls : List CallOf) → AreCalls marks calls → IsOnce (map number_of calls)
  its_numbers calls are = once_pairs (map number_of calls) (calls_once marks calls r are)

  yes_left : (b : Result Verdict CheckFault) → (b ≡ Ok Yes) ⊎ (b ≡ Err Memory) → AreOne (Ok Yes) b
  yes_left b (inl e) = let P : Result Verdict CheckFault → Type 0 = λ x. AreOne (Ok Yes) x in subst P (sym e) tt
  yes_left b (inr e) = let P : Result Verdict CheckFault → Type 0 = λ x. AreOne (Ok Yes) x in subst P (sym e) tt

  no_and_no : (v w : Refused) → Checks marks declared turns (Ok (No v)) → Checks marks declared turns (Ok (No w)) → AreOne (Ok (No v)) (Ok (No w))
  no_and_no v w h k =
      let e : k.0 ≡ h.0 = same_calls marks k.0 h.0 r k.1 h.1 in
      let P : List CallOf → Type 0 = λ calls. IsOrder (grants_declared declared) calls turns k.2.0 in
      let o = one_order_lem (grants_declared declared) h.0 turns k.2.0 h.2.0 (its_numbers h.0 h.1) (subst P e k.2.1) h.2.1 in
      let Q : List StepOf → Type 0 = λ order. IsRefused declared order w in
      one_refused declared h.2.0 v w h.2.2 (subst Q o k.2.2)

  no_and_witness : (v : Refused) (at : ℕ) (kind : WitnessKind) → Checks marks declared turns (Ok (No v)) → (calls : List CallOf) → AreCalls marks calls → WitnessFaultAt (grants_declared declared) calls turns at kind → ⊥
  no_and_witness v at kind h calls are f =
      let e : calls ≡ h.0 = same_calls marks calls h.0 r are h.1 in
      let P : List CallOf → Type 0 = λ cs. WitnessFaultAt (grants_declared declared) cs turns at kind in
      order_right (grants_declared declared) h.0 turns (its_numbers h.0 h.1) h.2.0 at kind h.2.1 (subst P e f)

  no_is_no : (v : Refused) (a : Result Verdict CheckFault) → a ≡ Ok (No v) → (a ≡ Ok Yes) ⊎ (a ≡ Err Memory) → ⊥
  no_is_no v a is (inl e) = absurd cc
  no_is_no v a is (inr e) = absurd cc

  pub one_answer_lem : (a b : Result Verdict CheckFault) → Checks marks declared turns a → Checks marks declared turns b → AreOne a b
  one_answer_lem (Err Memory) b h k = tt
  one_answer_lem (Ok Yes) b h k = yes_left b (accepted_is_yes_lem marks declared turns r h b k)
  one_answer_lem (Ok (No v)) (Err Memory) h k = tt
  one_answer_lem (Ok (No v)) (Ok Yes) h k = absurd (no_is_no v (Ok (No v)) refl (accepted_is_yes_lem marks declared turns r k (Ok (No v)) h))
  one_answer_lem (Ok (No v)) (Ok (No w)) h k = no_and_no v w h k
  one_answer_lem (Ok (No v)) (Err (Outside n s o)) h k = absurd (none_outside marks r h.0 n s o.item o.kind h.1 k)
  one_answer_lem (Ok (No v)) (Err (Witness f)) h k = absurd (no_and_witness v f.at f.kind h k.0 k.1 k.2)
  one_answer_lem (Err (Outside n s o)) (Err Memory) h k = tt
  one_answer_lem (Err (Outside n s o)) (Ok Yes) h k = absurd (none_outside marks r k.calls n s o.item o.kind k.are h)
  one_answer_lem (Err (Outside n s o)) (Ok (No w)) h k = absurd (none_outside marks r k.0 n s o.item o.kind k.1 h)
  one_answer_lem (Err (Outside n s o)) (Err (Outside m t p)) h k = one_first_outside marks r n m s t o.item p.item o.kind p.kind h k
  one_answer_lem (Err (Outside n s o)) (Err (Witness f)) h k = absurd (none_outside marks r k.0 n s o.item o.kind k.1 h)
  one_answer_lem (Err (Witness f)) (Err Memory) h k = tt
  one_answer_lem (Err (Witness f)) (Ok Yes) h k =
      let e : h.0 ≡ k.calls = same_calls marks h.0 k.calls r h.1 k.are in
      let P : List CallOf → Type 0 = λ cs. WitnessFaultAt (grants_declared declared) cs turns f.at f.kind in
      absurd (order_right (grants_declared declared) k.calls turns (its_numbers k.calls k.are) k.steps f.at f.kind k.order (subst P e h.2))
  one_answer_lem (Err (Witness f)) (Ok (No w)) h k = absurd (no_and_witness w f.at f.kind k h.0 h.1 h.2)
  one_answer_lem (Err (Witness f)) (Err (Outside n s o)) h k = absurd (none_outside marks r h.0 n s o.item o.kind h.1 k)
  one_answer_lem (Err (Witness f)) (Err (Witness g)) h k =
      let e : k.0 ≡ h.0 = same_calls marks k.0 h.0 r k.1 h.1 in
      let P : List CallOf → Type 0 = λ cs. WitnessFaultAt (grants_declared declared) cs turns g.at g.kind in
      one_witness_fault (grants_declared declared) h.0 turns (its_numbers h.0 h.1) f.at g.at f.kind g.kind h.2 (subst P e k.2)
