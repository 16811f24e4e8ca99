-- A place that isn't judged, or is excused, taken.
use Rattle.std.proofs.Common.{◌≡◌, ◌∙◌, ◌⊎◌, ◌==◌, not, cond, inl, inr, refl, ap, sym, subst, ℕ, ℤ, Bool, true, false, List, length, Option, Some, None, Result, Ok, Err, bytes_eq, arith}
use Rattle.std.specs.Bool.{Decides}
use Rattle.std.proofs.lemmas.Bool.Decides.{Decides-eqb}
use Rattle.std.proofs.lemmas.Slice.Eq.{bytes_eq-Decides}
use Rattle.kmipa_store.specs.Ledger.{Known, Meaning, LedgerState, bytes_at}
use Rattle.kmipa_store.specs.Choices.{Choice, Chooses, IsSound, Extends}
use Rattle.kmipa_store.proofs.ChoiceLemmas.{agrees_same, extends_same}
use Rattle.kmipa_msgs.specs.Messages.{RulesOf, AskOf, AnswerOf, operation_asked}
use Rattle.kmipa_msgs.specs.Operations.{operation_number}
use Rattle.kmipa_ops.specs.Objects.{Echoes, Agree, clash, is_other}
use Rattle.kmipa_ops.specs.declared.why.Why.{Why}
use Rattle.kmipa_ops.specs.declared.why.Why.TheVariants.{OperationDiffers, EchoDiffers}
use Rattle.kmipa_passed.specs.Leaving.{AsideOf as LeftOf, HeldOf, leaves}
use Rattle.kmipa_aside.specs.Becoming.{Becomes, Turns, stand_in}
use Rattle.kmipa_aside.specs.Cases.{case}
use Rattle.kmipa_aside.specs.Does.{DoesExcused, IsExcused, held_behind, is_as_ever, world_behind}
use Rattle.kmipa_aside.specs.Explains.{Deed, Explains, Refutes, Took, world}
use Rattle.kmipa_aside.specs.Passed.{PassedOf, DoesPassed, DoesUnread}
use Rattle.kmipa_aside.specs.Standing.{StandOf}
use Rattle.kmipa_aside.specs.Taking.{NoBytes, TakenUnread, frame_lowest}
use Rattle.kmipa_aside.specs.Worlds.{WorldOf, stand, with_left}
use Rattle.kmipa_aside.specs.declared.case.Case.{Case}
use Rattle.kmipa_aside.proofs.NearLemmas.{stand_world}

module _ {A : Type 0} (same : A → A → Bool) (decides : (x y : A) → Decides (same x y) (x ≡ y)) where
  pub echoes_if : (o : Option A) (x : A) → is_other same o x ≡ false → Echoes o x
  echoes_if None x h = tt
  echoes_if (Some y) x h = elim (same y x) as (λ b. same y x ≡ b → y ≡ x) [ true ↦ λ e. (decides y x).0 e | false ↦ λ e. let f : not (same y x) ≡ true = ap not e in cc ] refl

  pub echoes_not : (o : Option A) (x : A) → is_other same o x ≡ true → Echoes o x → ⊥
  echoes_not None x h e = cc
  echoes_not (Some y) x h e = let f : not (same y x) ≡ false = ap not ((decides y x).1 e) in cc

  pub agree_if : (a b : Option A) → clash same a b ≡ false → Agree a b
  agree_if None b h = tt
  agree_if (Some x) b h = echoes_if b x h

  pub agree_not : (a b : Option A) → clash same a b ≡ true → Agree a b → ⊥
  agree_not None b h e = cc
  agree_not (Some x) b h e = echoes_not b x h e

abbrev pub eq : ℕ → ℕ → Bool
eq x y = x == y

-- a deed that makes one world of each, and one placeholder, and tells no bytes
module _ (does : Deed) (change : WorldOf → WorldOf) (s u : LedgerState) (before after : HeldOf) where
  pub explains_change : ((c : Choice) → does (world c s.now) before (change (world c s.now)) after)
      → ((c : Choice) (w : WorldOf) (h : HeldOf) → does (world c s.now) before w h → (w ≡ change (world c s.now)) × (h ≡ after)) → Becomes change s u
      → Explains does NoBytes s.now before u.now after
  explains_change holds alone b = record {
    sound = λ c h.
        let P : List Known → Type 0 = λ xs. Chooses xs c in
        let Q : WorldOf → Type 0 = λ w. does (world c s.now) before w after in
        (subst P b.secrets h, subst Q (sym (b.worlds c)) (holds c));
    complete = λ c h w x d.
        let P : List Known → Type 0 = λ xs. Chooses xs c in
        let r = alone c w x d in
        (c, subst P (sym b.secrets) h, agrees_same (length s.now.secrets) c, r.0 ∙ sym (b.worlds c), r.1);
    learns = λ number bytes e. inl (ap (λ (xs : List Known). bytes_at xs number) (sym b.secrets) ∙ e);
    grows = let same : length u.now.secrets ≡ length s.now.secrets = ap (λ (xs : List Known). length xs) b.secrets in omega (arith, same);
    extends = let P : List Known → Type 0 = λ xs. Extends s.now.secrets xs in subst P (sym b.secrets) (extends_same s.now.secrets);
    apart = b.apart;
  }

  pub took_change : IsSound s.now → ((c : Choice) → does (world c s.now) before (change (world c s.now)) after)
      → ((c : Choice) (w : WorldOf) (h : HeldOf) → does (world c s.now) before w h → (w ≡ change (world c s.now)) × (h ≡ after)) → Becomes change s u
      → Took does NoBytes s before u after
  took_change sound holds alone b = record { explains = explains_change holds alone b; sound = b.sound sound; marks = b.marks }

pub took_passed : (t : ℤ) (p : PassedOf) (before : HeldOf) (s u : LedgerState) (after : HeldOf) → IsSound s.now → is_other (λ (a b : ℕ). a == b) p.names p.asks ≡ false
    → (after ≡ (leaves p.ask p.answer before).held) × Becomes (with_left t (leaves p.ask p.answer before).aside) s u → Took (DoesPassed t p) NoBytes s before u after
took_passed t p before s u after sound same b =
    took_change (DoesPassed t p) (with_left t (leaves p.ask p.answer before).aside) s u before after sound
    (λ c. record { operation = echoes_if eq Decides-eqb p.names p.asks same; world = refl; placeholder = b.0 }) (λ c w h d. (d.world, d.placeholder ∙ sym b.0)) b.1

pub refutes_passed : (t : ℤ) (p : PassedOf) (m : Meaning) (before : HeldOf) → is_other (λ (a b : ℕ). a == b) p.names p.asks ≡ true → Refutes (DoesPassed t p) m before
refutes_passed t p m before other = record { never = λ c h w x d. echoes_not eq Decides-eqb p.names p.asks other d.operation }

pub took_unread : {E : Type 0} (t : ℤ) (left : LeftOf) (s u : LedgerState) (r : Result (Unit {0}) E) → IsSound s.now → Turns (with_left t left) s r u → TakenUnread s t left r u
took_unread t left s u (Ok done) sound b =
    λ before. took_change (DoesUnread t left) (with_left t left) s u before before sound (λ c. record { world = refl; placeholder = refl }) (λ c w h d. (d.world, d.placeholder)) b
took_unread t left s u (Err e) sound b = b

-- ---- a judged item that is excused

pub two_none : (a b : Bool) (x y : Why) → cond a (Some x) (cond b (Some y) None) ≡ None → (a ≡ false) × (b ≡ false)
two_none true b x y e = let bad : ⊥ = cc in absurd bad
two_none false true x y e = let bad : ⊥ = cc in absurd bad
two_none false false x y e = (refl, refl)

pub two_some : (a b : Bool) (x y z : Why) → cond a (Some x) (cond b (Some y) None) ≡ Some z → (a ≡ true) ⊎ (b ≡ true)
two_some true b x y z e = inl refl
two_some false true x y z e = inr refl
two_some false false x y z e = let bad : ⊥ = cc in absurd bad

abbrev pub other_operation : AskOf → AnswerOf → Bool
other_operation ask answer = is_other eq answer.operation (operation_number (operation_asked ask.asked))

abbrev pub other_item : AskOf → AnswerOf → Bool
other_item ask answer = clash bytes_eq answer.batch_id ask.batch_id

module _ (rules : RulesOf) (t : ℤ) (ask : AskOf) (answer : AnswerOf) where
  case_same : (before : HeldOf) (m : Meaning) (c : Choice) → case rules (stand (world c m)) before ask answer ≡ case rules (stand_in m) before ask answer
  case_same before m c = ap (λ (s : StandOf). case rules s before ask answer) (stand_world c m)

  pub took_excused : (s u : LedgerState) (before after : HeldOf) → IsSound s.now → IsExcused (case rules (stand_in s.now) before ask answer) → frame_lowest ask answer ≡ None
      → after ≡ held_behind (case rules (stand_in s.now) before ask answer) before → Becomes (world_behind (case rules (stand_in s.now) before ask answer) t ask answer) s u
      → Took (DoesExcused rules t ask answer) NoBytes s before u after
  took_excused s u before after sound free none held b =
      let k : Case = case rules (stand_in s.now) before ask answer in
      let q = two_none (other_operation ask answer) (other_item ask answer) OperationDiffers EchoDiffers none in
      took_change (DoesExcused rules t ask answer) (world_behind k t ask answer) s u before after sound
      (λ c.
      let same = case_same before s.now c in
      record {
        free = subst IsExcused (sym same) free;
        operation = echoes_if eq Decides-eqb answer.operation (operation_number (operation_asked ask.asked)) q.0;
        batch_id = agree_if bytes_eq bytes_eq-Decides answer.batch_id ask.batch_id q.1;
        world = ap (λ (x : Case). world_behind x t ask answer (world c s.now)) (sym same);
        placeholder = held ∙ ap (λ (x : Case). held_behind x before) (sym same);
      })
      (λ c w h d.
      let same = case_same before s.now c in
      (d.world ∙ ap (λ (x : Case). world_behind x t ask answer (world c s.now)) same, d.placeholder ∙ ap (λ (x : Case). held_behind x before) same ∙ sym held)) b

  pub refutes_excused : (m : Meaning) (before : HeldOf) (why : Why) → frame_lowest ask answer ≡ Some why → Refutes (DoesExcused rules t ask answer) m before
  refutes_excused m before why some = record {
    never = λ c h w x d. elim (two_some (other_operation ask answer) (other_item ask answer) OperationDiffers EchoDiffers why some) [
      | inl a ↦ echoes_not eq Decides-eqb answer.operation (operation_number (operation_asked ask.asked)) a d.operation
      | inr b ↦ agree_not bytes_eq bytes_eq-Decides answer.batch_id ask.batch_id b d.batch_id
    ];
  }

  pub took_case : (s u : LedgerState) (before after : HeldOf) (k : Case) → IsSound s.now → k ≡ case rules (stand_in s.now) before ask answer → is_as_ever k ≡ false → frame_lowest ask answer ≡ None
      → after ≡ held_behind k before → Becomes (world_behind k t ask answer) s u → Took (DoesExcused rules t ask answer) NoBytes s before u after
  took_case s u before after k sound is free none held b =
      let P : Case → Type 0 = λ x. Becomes (world_behind x t ask answer) s u in
      took_excused s u before after sound (subst IsExcused is free) none (held ∙ ap (λ (x : Case). held_behind x before) is) (subst P is b)
