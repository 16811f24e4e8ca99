-- Calls of which no two change the same object, as they are gone through.
use Rattle.std.proofs.Common.{◌≡◌, ◌≢◌, ◌≤◌, ◌<◌, ◌⊎◌, inl, inr, ◌+◌, ◌-◌, ℕ, Bool, true, false, List, [], ◌∷◌, length, Option, Some, None, IfSome, slice_get, refl, sym, ap, ◌∙◌, subst, arith}
use Rattle.std.specs.Prelude.{slice_set}
use Rattle.std.proofs.lemmas.List.{get_or-set_same, get_or-set_other}
use Rattle.kmipa_object.specs.Inventory.{Card, place_of}
use Rattle.kmipa_store.specs.Ledger.{Held, Known}
use Rattle.kmipa_msgs.specs.Messages.{AskOf, AnswerOf, RequestOf, ResponseOf}
use Rattle.kmipa_check.specs.Steps.{StepOf, order_of}
use Rattle.kmipa_orders.specs.Taken.{step_at}
use Rattle.kmipa_orders.specs.Settled.{is_steady_item, IsSteadyAt, AreSteadyFrom, done_id, lone_item, target, IsLone, IsTold, AreApartTo, Marks, MarksPlace, marked}
use Rattle.kmipa_check.proofs.PlaceLemmas.{below_suc}
use Rattle.kmipa_orders.proofs.IdleLemmas.{pair_within, zip_at}
use Rattle.kmipa_orders.proofs.LinksLemmas.{same_or}
use Rattle.kmipa_orders.proofs.PickLemmas.{lower}

-- ---- a call that changes nothing, place by place

pub steady_past : (request : RequestOf) (response : ResponseOf) (count : ℕ) → length request.items ≤ count → AreSteadyFrom request response count
steady_past request response count past place from ask answer at = absurd (omega (arith, past, from, pair_within request.items response.items place (ask, answer) at))

pub steady_here : (request : RequestOf) (response : ResponseOf) (place : ℕ) (a : AskOf) (b : AnswerOf) (result : Bool) → slice_get request.items place ≡ Some a → slice_get response.items place ≡ Some b
    → result ≡ is_steady_item a.asked b.status → result ≡ true → IsSteadyAt request response place
steady_here request response place a b result asked answered is yes_it_is ask answer at =
    let here = zip_at request.items response.items place a b asked answered in
    let T : Option (AskOf × AnswerOf) → Type 0 = λ o. IfSome o (λ x. is_steady_item x.0.asked x.1.status ≡ true) in
    subst T at (subst T (sym here) (sym is ∙ yes_it_is))

pub steady_more : (request : RequestOf) (response : ResponseOf) (place : ℕ) → 0 < place → IsSteadyAt request response (place - 1) → AreSteadyFrom request response place → AreSteadyFrom request response (place - 1)
steady_more request response place some here h other low = elim (lower place other) [
  | inl less ↦ let e : other ≡ place - 1 = omega (arith, less, low, some) in let P : ℕ → Type 0 = λ z. IsSteadyAt request response z in subst P (sym e) here
  | inr past ↦ h other past
]

-- ---- a call of one item

pub lone_target : (asks : List AskOf) (answers : List AnswerOf) (ask : AskOf) (answer : AnswerOf) → length asks ≡ 1 → length answers ≡ 1 → slice_get asks 0 ≡ Some ask → slice_get answers 0 ≡ Some answer
    → lone_item asks answers ≡ done_id answer.status ask.asked
lone_target [] answers ask answer one lone asked answered = absurd cc
lone_target (a ∷ (b ∷ asks)) answers ask answer one lone asked answered = absurd (omega (arith, one))
lone_target (a ∷ []) [] ask answer one lone asked answered = absurd cc
lone_target (a ∷ []) (x ∷ (y ∷ answers)) ask answer one lone asked answered = absurd (omega (arith, lone))
lone_target (a ∷ []) (x ∷ []) ask answer one lone asked answered =
    let e : a ≡ ask = cc in
    let f : x ≡ answer = cc in
    ap (λ (z : AnswerOf). done_id z.status a.asked) f ∙ ap (λ (z : AskOf). done_id answer.status z.asked) e

pub many_asked : (asks : List AskOf) (answers : List AnswerOf) → length asks ≢ 1 → lone_item asks answers ≡ None
many_asked [] answers many = refl
many_asked (a ∷ (b ∷ asks)) answers many = refl
many_asked (a ∷ []) answers many = absurd (many refl)

pub many_answered : (asks : List AskOf) (answers : List AnswerOf) → length answers ≢ 1 → lone_item asks answers ≡ None
many_answered [] answers many = refl
many_answered (a ∷ (b ∷ asks)) answers many = refl
many_answered (a ∷ []) [] many = refl
many_answered (a ∷ []) (x ∷ (y ∷ answers)) many = refl
many_answered (a ∷ []) (x ∷ []) many = absurd (many refl)

-- ---- calls, one after the other

-- the first so many are apart, and the places of the objects that they change are marked
pub record AreMarked (calls : List StepOf) (cs : List Card) (count : ℕ) (marks : List Bool) : Type 0 where
  pub apart : AreApartTo calls count
  pub placed : (p : ℕ) (id : List ℕ) → p < count → target (step_at calls p) ≡ Some id → (place : ℕ) × (place_of id cs ≡ Some place) × (marked marks place ≡ true)

pub marked_none : (calls : List StepOf) (cs : List Card) (marks : List Bool) → AreMarked calls cs 0 marks
marked_none calls cs marks = record {
  apart = record { each = λ p below. absurd (omega (arith, below)); own = λ p q id below under is its. absurd (omega (arith, below)) };
  placed = λ p id below is. absurd (omega (arith, below));
}

module _ (calls : List StepOf) (cs : List Card) (count : ℕ) (old new : List Bool) (m : AreMarked calls cs count old) where
  last_or : (p : ℕ) → p < count + 1 → (p < count) ⊎ (p ≡ count)
  last_or p below = below_suc p count (omega (arith, below))

  marked_same : target (step_at calls count) ≡ None → IsLone (step_at calls count) → new ≡ old → AreMarked calls cs (count + 1) new
  marked_same none lone is = record {
    apart = record {
      each = λ p below. elim (last_or p below) as (λ q. IsLone (step_at calls p)) [
        | inl less ↦ m.apart.each p less
        | inr e ↦ let P : ℕ → Type 0 = λ i. IsLone (step_at calls i) in subst P (sym e) lone
      ];
      own = λ p q id below under is its. by p q id (last_or p below) (last_or q under) is its;
    };
    placed = λ p id below at. elim (last_or p below) as (λ q. (place : ℕ) × (place_of id cs ≡ Some place) × (marked new place ≡ true)) [
      | inl less ↦ let r = m.placed p id less at in (r.0, r.1, ap (λ (marks : List Bool). marked marks r.0) is ∙ r.2)
      | inr e ↦ absurd (no p id e at)
    ];
  }
    where
      no : (p : ℕ) (id : List ℕ) → p ≡ count → target (step_at calls p) ≡ Some id → ⊥
      no p id e at = let clash : None ≡ Some id = sym none ∙ ap (λ (i : ℕ). target (step_at calls i)) (sym e) ∙ at in absurd cc

      by : (p q : ℕ) (id : List ℕ) → (p < count) ⊎ (p ≡ count) → (q < count) ⊎ (q ≡ count) → target (step_at calls p) ≡ Some id → target (step_at calls q) ≡ Some id → p ≡ q
      by p q id (inl below) (inl under) is its = m.apart.own p q id below under is its
      by p q id (inr e) under is its = absurd (no p id e is)
      by p q id (inl below) (inr e) is its = absurd (no q id e its)

  module _ (own : List ℕ) (place : ℕ) (targeted : target (step_at calls count) ≡ Some own) (there : place_of own cs ≡ Some place) (within : place < length old) (free : marked old place ≡ false)
      (is_new : new ≡ slice_set old place true) where
    -- the call is the one that changes this object
    is_own : (p : ℕ) (id : List ℕ) → p ≡ count → target (step_at calls p) ≡ Some id → id ≡ own
    is_own p id e at = let both : Some id ≡ Some own = sym at ∙ ap (λ (i : ℕ). target (step_at calls i)) e ∙ targeted in cc

    marked_now : marked new place ≡ true
    marked_now = ap (λ (marks : List Bool). marked marks place) is_new ∙ get_or-set_same old place true false within

    marked_still : (k : ℕ) → marked old k ≡ true → marked new k ≡ true
    marked_still k before = elim (same_or k place) as (λ q. marked new k ≡ true) [
      | inl e ↦ let P : ℕ → Type 0 = λ i. marked new i ≡ true in subst P (sym e) marked_now
      | inr d ↦ ap (λ (marks : List Bool). marked marks k) is_new ∙ get_or-set_other old place k true false d ∙ before
    ]

    apart_before : (p : ℕ) (id : List ℕ) → p < count → target (step_at calls p) ≡ Some id → id ≡ own → ⊥
    apart_before p id below at same =
        let r = m.placed p id below at in
        let both : Some r.0 ≡ Some place = sym r.1 ∙ ap (λ (i : List ℕ). place_of i cs) same ∙ there in
        let e : r.0 ≡ place = cc in
        let clash : true ≡ false = sym r.2 ∙ ap (marked old) e ∙ free in
        absurd cc

    marked_more : IsLone (step_at calls count) → AreMarked calls cs (count + 1) new
    marked_more lone = record {
      apart = record {
        each = λ p below. elim (last_or p below) as (λ q. IsLone (step_at calls p)) [
          | inl less ↦ m.apart.each p less
          | inr e ↦ let P : ℕ → Type 0 = λ i. IsLone (step_at calls i) in subst P (sym e) lone
        ];
        own = λ p q id below under is its. by p q id (last_or p below) (last_or q under) is its;
      };
      placed = λ p id below at. elim (last_or p below) as (λ q. (k : ℕ) × (place_of id cs ≡ Some k) × (marked new k ≡ true)) [
        | inl less ↦ let r = m.placed p id less at in (r.0, r.1, marked_still r.0 r.2)
        | inr e ↦ (place, ap (λ (i : List ℕ). place_of i cs) (is_own p id e at) ∙ there, marked_now)
      ];
    }
      where
        by : (p q : ℕ) (id : List ℕ) → (p < count) ⊎ (p ≡ count) → (q < count) ⊎ (q ≡ count) → target (step_at calls p) ≡ Some id → target (step_at calls q) ≡ Some id → p ≡ q
        by p q id (inl below) (inl under) is its = m.apart.own p q id below under is its
        by p q id (inr e) (inr f) is its = e ∙ sym f
        by p q id (inl below) (inr f) is its = absurd (apart_before p id below is (is_own q id f its))
        by p q id (inr e) (inl under) is its = absurd (apart_before q id under its (is_own p id e is))

-- one call more is gone through
pub marked_next : (calls : List StepOf) (cs : List Card) (count : ℕ) (s : StepOf) (old new : List Bool) → AreMarked calls cs count old → step_at calls count ≡ s → order_of s ≡ None → Marks cs s old true new
    → AreMarked calls cs (count + 1) new
marked_next calls cs count s old new m is order (inl (none, steady, same)) =
    let P : StepOf → Type 0 = λ x. IsLone x in
    marked_same calls cs count old new m (ap target is ∙ none) (subst P (sym is) (order, inl (none, steady))) same
marked_next calls cs count s old new m is order (inr (id, place, at, there, (within, free, is_new))) =
    let P : StepOf → Type 0 = λ x. IsLone x in
    marked_more calls cs count old new m id place (ap target is ∙ at) there within free is_new (subst P (sym is) (order, inr (id, at)))

-- ---- objects

pub told_on : (secrets : List Known) (objects : List Held) (place : ℕ) (h : Held) → 0 < place → slice_get objects (place - 1) ≡ Some h → IsTold secrets h.material
    → ((k : ℕ) (o : Held) → place ≤ k → slice_get objects k ≡ Some o → IsTold secrets o.material) → (k : ℕ) (o : Held) → place - 1 ≤ k → slice_get objects k ≡ Some o → IsTold secrets o.material
told_on secrets objects place h some there told before k o from at = elim (same_or k (place - 1)) as (λ q. IsTold secrets o.material) [
  | inl e ↦
      let P : ℕ → Type 0 = λ i. slice_get objects i ≡ Some o in
      let both : Some h ≡ Some o = sym there ∙ subst P e at in
      let same : h ≡ o = cc in
      let T : Held → Type 0 = λ x. IsTold secrets x.material in
      subst T same told
  | inr d ↦ before k o (omega (arith, from, d, some)) at
]

-- ---- one call, as it is gone through

pub marks_lone : (cs : List Card) (s : StepOf) (old new : List Bool) (result : Bool) (id : List ℕ) (place : ℕ) → target s ≡ Some id → place_of id cs ≡ Some place → MarksPlace place old result new → Marks cs s old result new
marks_lone cs s old new false id place is there m = tt
marks_lone cs s old new true id place is there m = inr (id, place, is, there, m)

pub marks_steady : (cs : List Card) (s : StepOf) (marks : List Bool) (result : Bool) → target s ≡ None → (result ≡ true → AreSteadyFrom s.request s.response 0) → Marks cs s marks result marks
marks_steady cs s marks false none steady = tt
marks_steady cs s marks true none steady = inl (none, steady refl, refl)
