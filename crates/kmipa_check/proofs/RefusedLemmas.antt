-- The place of a no: a turn that a run takes is not refused, and one place is.
use Rattle.std.proofs.Common.{◌≡◌, ◌<◌, ◌≤◌, ◌⊎◌, inl, inr, ℕ, zero, suc, ◌+◌, List, [], ◌∷◌, length, take, drop, Some, None, slice_get, refl, sym, ap, ◌∙◌, subst, arith, Option}
use Rattle.std.proofs.lemmas.List.{take-append-drop}
use Rattle.kmipa_object.specs.Inventory.{Thing}
use Rattle.kmipa_store.specs.Ledger.{Meaning}
use Rattle.kmipa_store.specs.Choices.{inv}
use Rattle.kmipa_record.specs.Declarations.{DeclarationOf}
use Rattle.kmipa_msgs.specs.Messages.{RulesOf, AskOf, AnswerOf, ResponseOf}
use Rattle.kmipa_ops.specs.declared.why.Why.{Why}
use Rattle.kmipa_ops.specs.Alike.{StandAlike}
use Rattle.kmipa_ops.specs.Chains.{ChainSome}
use Rattle.kmipa_ops.specs.OneInventory.{StandsFor}
use Rattle.kmipa_ops.proofs.ExplainLemmas.{chain_split}
use Rattle.kmipa_batch.specs.Calls.{pairs_taken, RefusesMessage, CallSomeAlong}
use Rattle.kmipa_batch.specs.Refusals.{SpeaksAtAlong}
use Rattle.kmipa_check.specs.Steps.{StepOf, order_of}
use Rattle.kmipa_check.specs.Runs.{Linked, rules_declared}
use Rattle.kmipa_check.specs.Verdicts.{IsPlacedAt, AreKnown, GoesUpTo, ArePossibleUpTo, RefusedPlace, late, runs_back, RefusedAt, in_place, RefusedAt.in_item as at_item, IsRefused}
use Rattle.kmipa_check.specs.declared.verdict.Refused.{Refused}
use Rattle.kmipa_check.proofs.PlaceLemmas.{apart}
use Rattle.kmipa_check.proofs.RecordedLemmas.{taken_at}
use Rattle.kmipa_msgs.specs.declared.response.Status.{Status}
use Rattle.kmipa_msgs.specs.declared.response.Status.TheVariants.{Success, Failed, Undone}
use Rattle.kmipa_batch.proofs.CompletionLemmas.{batch_of_call}
use Rattle.kmipa_batch.proofs.RunLemmas.{shaped_fewer, one_item_is_reported, one_reason_is_reported}

-- the inventories before and after a turn
pub record AtTurn (rules : RulesOf) (V : List Thing) (order : List StepOf) (turn : ℕ) (c : StepOf) : Type 0 where
  pub before : List Thing
  pub after : List Thing
  pub linked : Linked rules V (take turn order) before
  pub call : CallSomeAlong rules before c.request c.response (order_of c) after

pub linked_at : (rules : RulesOf) (V : List Thing) (order : List StepOf) (turn : ℕ) (c : StepOf) (W : List Thing) → Linked rules V order W → slice_get order turn ≡ Some c → AtTurn rules V order turn c
linked_at rules V [] turn c W l at = absurd cc
linked_at rules V (x ∷ order) zero c W l at =
    let is : x ≡ c = cc in
    let P : StepOf → Type 0 = λ d. CallSomeAlong rules V d.request d.response (order_of d) l.0 in
    record { before = V; after = l.0; linked = refl; call = subst P is l.1 }
linked_at rules V (x ∷ order) (suc turn) c W l at =
    let t = linked_at rules l.0 order turn c W l.2 at in
    record { before = t.before; after = t.after; linked = (l.0, l.1, t.linked); call = t.call }

-- a response refuses the whole message, or doesn't
refuses : (r : ResponseOf) → RefusesMessage r ⊎ (RefusesMessage r → ⊥)
refuses r = of r.items refl
  where
    named : (a : AnswerOf) → r.items ≡ a ∷ [] → (o : Option ℕ) → a.operation ≡ o → (s : Status) → a.status ≡ s → RefusesMessage r ⊎ (RefusesMessage r → ⊥)
    named a is None unnamed Failed failed = inl (record { answer = a; alone = is; failed = failed; unnamed = unnamed })
    named a is (Some n) unnamed s failed = inr (λ h. let x = h.alone in let y = h.unnamed in let z : a ≡ h.answer = cc in let w : a.operation ≡ h.answer.operation = ap (λ (b : AnswerOf). b.operation) z in cc)
    named a is None unnamed Success failed = inr (λ h. let x = h.alone in let y = h.failed in let z : a ≡ h.answer = cc in let w : a.status ≡ h.answer.status = ap (λ (b : AnswerOf). b.status) z in cc)
    named a is None unnamed Undone failed = inr (λ h. let x = h.alone in let y = h.failed in let z : a ≡ h.answer = cc in let w : a.status ≡ h.answer.status = ap (λ (b : AnswerOf). b.status) z in cc)

    of : (items : List AnswerOf) → r.items ≡ items → RefusesMessage r ⊎ (RefusesMessage r → ⊥)
    of [] is = inr (λ h. let x = h.alone in cc)
    of (a ∷ []) is = named a is a.operation refl a.status refl
    of (a ∷ b ∷ items) is = inr (λ h. let x : 1 ≡ suc (suc (length items)) = sym (ap length h.alone) ∙ ap length is in omega (arith, x))

-- a call that is given goes up to each of its items
pub goes_up : (rules : RulesOf) (V : List Thing) (c : StepOf) (W : List Thing) (count : ℕ) → CallSomeAlong rules V c.request c.response (order_of c) W → GoesUpTo rules V c count
goes_up rules V c W count call = elim (refuses c.response) [
  | inl h ↦ inr h
  | inr not ↦
      let b = batch_of_call rules V c.request c.response (order_of c) W not call in
      let pairs = pairs_taken c.request c.response (order_of c) in
      let P : List (AskOf × AnswerOf) → Type 0 = λ ps. ChainSome rules c.response.stamp V None ps b.last b.placeholder in
      let s = chain_split rules c.response.stamp V None (take count pairs) (drop count pairs) b.last b.placeholder (subst P (sym (take-append-drop count pairs)) b.chain) in
      inl ((λ place below. b.shaped place), (s.0, s.1, s.2))
]

take_take : {X : Type 0} (xs : List X) (i j : ℕ) → i ≤ j → take i (take j xs) ≡ take i xs
take_take [] zero zero h = refl
take_take [] zero (suc j) h = refl
take_take [] (suc i) zero h = refl
take_take [] (suc i) (suc j) h = refl
take_take (x ∷ xs) zero j h = refl
take_take (x ∷ xs) (suc i) zero h = absurd (omega (arith, h))
take_take (x ∷ xs) (suc i) (suc j) h = ap (λ (l : List _). x ∷ l) (take_take xs i j (omega (arith, h)))

-- fewer items go as well
goes_fewer : (rules : RulesOf) (V : List Thing) (s : StepOf) (n m : ℕ) → m ≤ n → GoesUpTo rules V s n → GoesUpTo rules V s m
goes_fewer rules V s n m few (inr refused) = inr refused
goes_fewer rules V s n m few (inl (shaped, (W, placeholder, chain))) =
    let pairs = take n (pairs_taken s.request s.response (order_of s)) in
    let P : List (AskOf × AnswerOf) → Type 0 = λ ps. ChainSome rules s.response.stamp V None ps W placeholder in
    let c = chain_split rules s.response.stamp V None (take m pairs) (drop m pairs) W placeholder (subst P (sym (take-append-drop m pairs)) chain) in
    let Q : List (AskOf × AnswerOf) → Type 0 = λ ps. ChainSome rules s.response.stamp V None ps c.0 c.1 in
    inl (shaped_fewer s.request s.response m n few shaped, (c.0, c.1, subst Q (take_take (pairs_taken s.request s.response (order_of s)) m n few) c.2))

possible_fewer : (declared : DeclarationOf) (order : List StepOf) (turn : ℕ) (s : StepOf) (n m : ℕ) → m ≤ n → ArePossibleUpTo declared order turn s n → ArePossibleUpTo declared order turn s m
possible_fewer declared order turn s n m few p = record {
  placed = p.placed;
  here = p.here;
  start = p.start;
  described = p.described;
  before = p.before;
  linked = p.linked;
  items = goes_fewer (rules_declared declared) p.before s n m few p.items;
}

not_placed : (order : List StepOf) (turn : ℕ) (s : StepOf) (why : Why) → IsPlacedAt order turn s → RefusedPlace order turn s why → ⊥
not_placed order turn s why p (late l is) = p.kept l
not_placed order turn s why p (runs_back k l is) = p.stamped l

one_reason : (order : List StepOf) (turn : ℕ) (s : StepOf) (why other : Why) → RefusedPlace order turn s why → RefusedPlace order turn s other → why ≡ other
one_reason order turn s why other (late l is) (late m same) = is ∙ sym same
one_reason order turn s why other (late l is) (runs_back k m same) = absurd (k l)
one_reason order turn s why other (runs_back k l is) (late m same) = absurd (k m)
one_reason order turn s why other (runs_back k l is) (runs_back j m same) = is ∙ sym same

-- ledgers that know what the same steps leave stand for the same inventories
stands_too : (declared : DeclarationOf) (order : List StepOf) (m n : Meaning) → AreKnown declared order m → AreKnown declared order n → (V : List Thing) → StandsFor m V → StandsFor n V
stands_too declared order m n x y V s =
    let r = x.sound s.0 s.1 in
    let t = y.complete r.0 (inv s.0 m.objects) r.1 r.2 in
    (t.0, t.1, s.2 ∙ t.2)

stand_alike : (declared : DeclarationOf) (order : List StepOf) (m n : Meaning) → AreKnown declared order m → AreKnown declared order n → StandAlike m n
stand_alike declared order m n x y V = (stands_too declared order m n x y V, stands_too declared order n m y x V)

reported_same : (rules : RulesOf) (m k : Meaning) (s : StepOf) (count other i j : ℕ) (why because : Why) → StandAlike m k
    → SpeaksAtAlong rules m s.request s.response (order_of s) count i why → SpeaksAtAlong rules k s.request s.response (order_of s) other j because → count ≡ other → (i ≡ j) × (why ≡ because)
reported_same rules m k s count other i j why because alike p q e =
    let P : ℕ → Type 0 = λ n. SpeaksAtAlong rules m s.request s.response (order_of s) n i why in
    let r = subst P e p in
    (one_item_is_reported rules m k s.request s.response (order_of s) other i j why because r q, one_reason_is_reported rules m k s.request s.response (order_of s) other i j why because alike r q)

module _ (declared : DeclarationOf) (order : List StepOf) where
  one_item : (turn : ℕ) (s : StepOf) (i j : ℕ) (why other : Why) → RefusedAt declared order turn s i why → RefusedAt declared order turn s j other → (i ≡ j) × (why ≡ other)
  one_item turn s i j why other (in_place is p) (in_place same q) = (is ∙ sym same, one_reason order turn s why other p q)
  one_item turn s i j why other (in_place is p) (at_item n q) = absurd (not_placed order turn s why q.before.here p)
  one_item turn s i j why other (at_item n p) (in_place same q) = absurd (not_placed order turn s other p.before.here q)
  one_item turn s i j why other (at_item n p) (at_item m q) = elim (apart n m) [
    | inl h ↦ absurd (p.never (possible_fewer declared order turn s m (n + 1) (omega (arith, h)) q.before))
    | inr g ↦ elim g [
      | inl h ↦ absurd (q.never (possible_fewer declared order turn s n (m + 1) (omega (arith, h)) p.before))
      | inr e ↦ reported_same (rules_declared declared) p.known q.known s n m i j why other (stand_alike declared (take turn order) p.known q.known p.knows q.knows) p.speaks q.speaks e
    ]
  ]

  -- no turn before one that is refused is refused itself
  none_ahead : (v w : Refused) (h : IsRefused declared order v) (k : IsRefused declared order w) → h.turn < k.turn → ⊥
  none_ahead v w h k below = elim h.refused [
    | in_place is p ↦ not_placed order h.turn h.call v.why here p
    | at_item count item ↦
        let t = linked_at (rules_declared declared) k.before.start (take k.turn order) h.turn h.call k.before.last k.before.linked (taken_at order h.turn k.turn h.call below h.there) in
        let P : List StepOf → Type 0 = λ steps. Linked (rules_declared declared) k.before.start steps t.before in
        item.never (record {
          placed = λ turn under. k.before.placed turn (omega (arith, under, below));
          here = here;
          start = k.before.start;
          described = k.before.described;
          before = t.before;
          linked = subst P (take_take order h.turn k.turn (omega (arith, below))) t.linked;
          items = goes_up (rules_declared declared) t.before h.call t.after (count + 1) t.call;
        })
  ]
    where
      here : IsPlacedAt order h.turn h.call
      here =
          let p = k.before.placed h.turn below in
          let a = p.1.there in
          let b = h.there in
          let same : p.0 ≡ h.call = cc in
          let P : StepOf → Type 0 = λ s. IsPlacedAt order h.turn s in
          subst P same p.1

  pub one_refused : (v w : Refused) → IsRefused declared order v → IsRefused declared order w → (v.turn ≡ w.turn) × (v.call ≡ w.call) × (v.item ≡ w.item) × (v.why ≡ w.why)
  one_refused v w h k = elim (apart h.turn k.turn) [
    | inl l ↦ absurd (none_ahead v w h k l)
    | inr g ↦ elim g [ inl l ↦ absurd (none_ahead w v k h l) | inr e ↦ by e ]
  ]
    where
      by : h.turn ≡ k.turn → (v.turn ≡ w.turn) × (v.call ≡ w.call) × (v.item ≡ w.item) × (v.why ≡ w.why)
      by e =
          let P : ℕ → Type 0 = λ x. slice_get order x ≡ Some h.call in
          let a = subst P e h.there in
          let b = k.there in
          let same : h.call ≡ k.call = cc in
          let Q : ℕ → Type 0 = λ x. RefusedAt declared order x h.call v.item v.why in
          let R : StepOf → Type 0 = λ s. RefusedAt declared order k.turn s v.item v.why in
          let i = one_item k.turn k.call v.item w.item v.why w.why (subst R same (subst Q e h.refused)) k.refused in
          (h.reported ∙ ap (λ (x : ℕ). x + 1) e ∙ sym k.reported, sym h.number ∙ ap (λ (s : StepOf). s.number) same ∙ k.number, i.0, i.1)
