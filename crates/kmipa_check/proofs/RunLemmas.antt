-- Steps that are linked and known, joined and split.
use Rattle.std.proofs.Common.{◌≡◌, ◌<◌, inl, inr, ℕ, ◌+◌, zero, suc, List, [], ◌∷◌, ◌++◌, take, drop, None, Some, slice_get, refl, sym, ap, subst, arith}
use Rattle.std.proofs.lemmas.List.{take-append-drop}
use Rattle.std.proofs.lemmas.List.Elements.{Contains-append_left, Contains-append_right}
use Rattle.kmipa_object.specs.Inventory.{Thing}
use Rattle.kmipa_store.specs.Ledger.{Meaning}
use Rattle.kmipa_store.specs.Choices.{Choice, Chooses, inv}
use Rattle.kmipa_record.specs.Declarations.{DeclarationOf}
use Rattle.kmipa_msgs.specs.Messages.{RulesOf, AskOf, AnswerOf}
use Rattle.kmipa_ops.specs.declared.why.Why.{Why}
use Rattle.kmipa_ops.specs.Chains.{ChainSome}
use Rattle.kmipa_ops.proofs.ExplainLemmas.{chain_split}
use Rattle.kmipa_batch.specs.Calls.{CallSomeAlong, pairs_taken}
use Rattle.kmipa_batch.specs.Refusals.{CallExplainsAlong, CallRefutedAlong}
use Rattle.kmipa_batch.proofs.CompletionLemmas.{batch_of_call}
use Rattle.kmipa_check.specs.Steps.{StepOf, order_of}
use Rattle.kmipa_check.specs.Described.{Describes}
use Rattle.kmipa_check.specs.Runs.{Linked, rules_declared}
use Rattle.kmipa_check.specs.Verdicts.{AreKnown, WereReported, by_declaration, by_step}

pub linked_join : (rules : RulesOf) (V : List Thing) (xs ys : List StepOf) (M W : List Thing) → Linked rules V xs M → Linked rules M ys W → Linked rules V (xs ++ ys) W
linked_join rules V [] ys M W l r = let P : List Thing → Type 0 = λ X. Linked rules X ys W in subst P l r
linked_join rules V (x ∷ xs) ys M W l r = (l.0, l.1, linked_join rules l.0 xs ys M W l.2 r)

pub linked_split : (rules : RulesOf) (V : List Thing) (xs ys : List StepOf) (W : List Thing) → Linked rules V (xs ++ ys) W → (M : List Thing) × Linked rules V xs M × Linked rules M ys W
linked_split rules V [] ys W l = (V, refl, l)
linked_split rules V (x ∷ xs) ys W l = let p = linked_split rules l.0 xs ys W l.2 in (p.0, (l.0, l.1, p.1), p.2)

-- one element more is taken
pub take_next : {X : Type 0} (xs : List X) (n : ℕ) (x : X) → slice_get xs n ≡ Some x → take (suc n) xs ≡ take n xs ++ x ∷ []
take_next [] n x at = absurd cc
take_next (y ∷ xs) zero x at = let e : y ≡ x = cc in ap (λ (z : _). z ∷ []) e
take_next (y ∷ xs) (suc n) x at = ap (λ (l : List _). y ∷ l) (take_next xs n x at)

-- a call that is taken
pub taken_is_known_lem : (declared : DeclarationOf) (steps : List StepOf) (s : StepOf) (m n : Meaning) → AreKnown declared steps m
    → CallExplainsAlong (rules_declared declared) m s.request s.response (order_of s) n → AreKnown declared (steps ++ s ∷ []) n
taken_is_known_lem declared steps s m n k e = record {
  sound = λ choice h.
      let f = e.sound choice h in
      let g = k.sound choice f.0 in
      (g.0, g.1, linked_join (rules_declared declared) g.0 steps (s ∷ []) (inv choice m.objects) (inv choice n.objects) g.2 (inv choice n.objects, f.1, refl));
  complete = λ start V d l.
      let p = linked_split (rules_declared declared) start steps (s ∷ []) V l in
      let q = k.complete start p.0 d p.1 in
      let P : List Thing → Type 0 = λ X. CallSomeAlong (rules_declared declared) X s.request s.response (order_of s) V in
      let Q : List Thing → Type 0 = λ X. CallSomeAlong (rules_declared declared) p.0 s.request s.response (order_of s) X in
      let f = e.complete q.0 q.1 V (subst P q.2 (subst Q (sym p.2.2) p.2.1)) in
      (f.0, f.1, f.3);
  reported = λ number bytes known. elim (e.learns number bytes known) [
    | inl h ↦ kept bytes (k.reported number bytes h)
    | inr t ↦ by_step s (Contains-append_right steps (s ∷ []) s (0, last, refl)) t
  ];
  ascends = e.ascends k.ascends;
}
  where
    last : 0 < 1
    last = omega arith

    kept : (bytes : List ℕ) → WereReported declared steps bytes → WereReported declared (steps ++ s ∷ []) bytes
    kept bytes (by_declaration entry has is) = by_declaration entry has is
    kept bytes (by_step x has t) = by_step x (Contains-append_left steps (s ∷ []) x has) t

-- one that is refused is possible from no inventory of the ledger
never_called : (rules : RulesOf) (m : Meaning) (s : StepOf) (item : ℕ) (why : Why) (choice : Choice) (V W : List Thing) → CallRefutedAlong rules m s.request s.response (order_of s) item why
    → Chooses m.secrets choice → V ≡ inv choice m.objects → CallSomeAlong rules V s.request s.response (order_of s) W → ⊥
never_called rules m s item why choice V W e h is call =
    let b = batch_of_call rules V s.request s.response (order_of s) W e.unrefused call in
    let pairs = pairs_taken s.request s.response (order_of s) in
    let count = e.count + 1 in
    let P : List (AskOf × AnswerOf) → Type 0 = λ ps. ChainSome rules s.response.stamp V None ps b.last b.placeholder in
    let c = chain_split rules s.response.stamp V None (take count pairs) (drop count pairs) b.last b.placeholder (subst P (sym (take-append-drop count pairs)) b.chain) in
    let Q : List Thing → Type 0 = λ X. ChainSome rules s.response.stamp X None (take count pairs) c.0 c.1 in
    e.never (record { shaped = λ place below. b.shaped place; choice = choice; chooses = h; things = c.0; placeholder = c.1; chain = subst Q is c.2 })

-- so no linked steps go on with it
pub refused_is_never_lem : (declared : DeclarationOf) (steps rest : List StepOf) (s : StepOf) (m : Meaning) (item : ℕ) (why : Why) (start last : List Thing) → AreKnown declared steps m
    → CallRefutedAlong (rules_declared declared) m s.request s.response (order_of s) item why → Describes declared start → Linked (rules_declared declared) start (steps ++ s ∷ rest) last → ⊥
refused_is_never_lem declared steps rest s m item why start last k e d l =
    let p = linked_split (rules_declared declared) start steps (s ∷ rest) last l in
    let q = k.complete start p.0 d p.1 in
    never_called (rules_declared declared) m s item why q.0 p.0 p.2.0 e q.1 q.2 p.2.1
