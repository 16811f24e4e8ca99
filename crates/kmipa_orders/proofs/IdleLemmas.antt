-- Calls without effect can come first.
use Rattle.std.proofs.Common.{◌≡◌, ◌≢◌, ◌≤◌, ◌<◌, inl, inr, ℕ, zero, suc, ℤ, ◌≤ℤ◌, ◌-◌, Bool, true, false, List, [], ◌∷◌, ◌++◌, length, take, drop, Option, Some, None, IfSome, MatchOption, slice_get, get_or, Contains, refl, sym, ap, ◌∙◌, subst, arith}
use Rattle.std.specs.Prelude.{AllPairs, IsPermutation}
use Rattle.std.specs.List.{zip}
use Rattle.std.proofs.lemmas.List.{length-append, append_assoc}
use Rattle.std.proofs.lemmas.List.Elements.{Contains-append_cases, Contains-append_left, Contains-append_right, Contains-get_or}
use Rattle.std.proofs.lemmas.List.Sorted.{IsPermutation-sym, Contains-permutation, length_permutation}
use Rattle.kmipa_object.specs.Inventory.{Card, Thing, cards}
use Rattle.kmipa_object.specs.declared.allow.Act.TheVariants as act
use Rattle.kmipa_object.specs.declared.allow.Allow.TheVariants.{Not}
use Rattle.kmipa_store.specs.Ledger.{Meaning}
use Rattle.kmipa_store.specs.Choices.{inv, IsSound}
use Rattle.kmipa_store.proofs.InventoryLemmas.{cards-inv}
use Rattle.kmipa_record.specs.Declarations.{DeclarationOf}
use Rattle.kmipa_msgs.specs.declared.response.Status.{Status}
use Rattle.kmipa_msgs.specs.declared.response.Status.TheVariants.{Success, Failed, Undone}
use Rattle.kmipa_msgs.specs.Messages.{RulesOf, AskedOf, creates, registers, locates, gets, gets_attributes, activates, revokes, destroys, idles, does_other, GetAttributesOf, GotAttributesOf, AskOf, PayloadOf, RequestOf, AnswerOf, ResponseOf}
use Rattle.kmipa_ops.specs.Allowance.{allowance}
use Rattle.kmipa_ops.specs.Founded.{Founded}
use Rattle.kmipa_ops.specs.Row.{seen_in}
use Rattle.kmipa_ops.specs.Locate.{Lists, locate_deed, names_only}
use Rattle.kmipa_ops.specs.GetAttributes.{GetsAttributes, IsOwnAt, HasRequired, get_attributes_deed}
use Rattle.kmipa_ops.specs.Objects.{HasObject}
use Rattle.kmipa_object.specs.Inventory.{place_of}
use Rattle.kmipa_ops.specs.Does.{Succeeds, Outcome, Does}
use Rattle.kmipa_ops.specs.Chains.{Chain}
use Rattle.kmipa_batch.specs.Calls.{pairs_of, Leaves, goes_back, goes_on, CallAlong, CompletesAnswers, CallSomeAlong}
use Rattle.kmipa_batch.specs.Refusals.{CallExplainsAlong}
use Rattle.kmipa_check.specs.Steps.{StepOf, order_of}
use Rattle.kmipa_check.specs.Described.{Describes}
use Rattle.kmipa_check.specs.Runs.{Before, IsPlaced, Linked, rules_declared}
use Rattle.kmipa_check.specs.Verdicts.{AreKnown}
use Rattle.kmipa_check.proofs.RunLemmas.{linked_join, linked_split}
use Rattle.kmipa_orders.specs.Next.{IsNext}
use Rattle.kmipa_orders.specs.Taken.{step_at, so_far, TakesAll, IsDead, AreNext}
use Rattle.kmipa_orders.specs.Idle.{only_looks, is_idle_item, AllIdle, IsIdleStep, IsIdleAt, AreIdleFrom}
use Rattle.kmipa_check.proofs.PlaceLemmas.{contains_at, at_contains, mapped_from, get_at}
use Rattle.kmipa_orders.proofs.PermutationLemmas.{IsOnce, permuted}
use Rattle.kmipa_orders.proofs.PlaceLemmas.{one_place, one_cases, has_head, fresh, pairs_behind}
use Rattle.kmipa_orders.proofs.CutLemmas.{cut}
use Rattle.kmipa_orders.proofs.PickLemmas.{lower}
use Rattle.kmipa_orders.proofs.NextLemmas.{call_of_next, place_taken, call_taken}

-- ---- an item

matched : {X : Type 0} (o : Option X) (P Q : X → Type 0) (R : Type 0) → ((x : X) → P x → R × Q x) → MatchOption o ⊥ P → R × MatchOption o ⊥ Q
matched None P Q R f h = absurd h
matched (Some x) P Q R f h = f x h

module _ (rules : RulesOf) (t : ℤ) (V W : List Thing) (same : cards V ≡ cards W) where
  -- an object stands in both, but for its bytes
  there : (id : List ℕ) (place : ℕ) (object : Thing) → HasObject V id place object → (other : Thing) × HasObject W id place other × (other.card ≡ object.card)
  there id place object h =
      let P : List Card → Type 0 = λ cs. slice_get cs place ≡ Some object.card in
      let Q : List Card → Type 0 = λ cs. place_of id cs ≡ Some place in
      let m = mapped_from (λ (x : Thing). x.card) W place object.card (subst P same (get_at (λ (x : Thing). x.card) V place object h.stands)) in
      (m.0, record { named = subst Q same h.named; stands = m.1 }, m.2)

  attributes_again : (before : Option (List ℕ)) (g : GetAttributesOf) (V' : List Thing) (after : Option (List ℕ)) (a : GotAttributesOf) → GetsAttributes rules V before t g a V' after
      → (V' ≡ V) × GetsAttributes rules W before t g a W after
  attributes_again before g V' after a h =
      let o = there h.id h.place h.object h.there in
      let P : Card → Type 0 = λ c. IsOwnAt c t a.attributes in
      let Q : Card → Type 0 = λ c. HasRequired g c a.attributes in (
        h.leaves,
        record {
          id = h.id;
          place = h.place;
          object = o.0;
          about = h.about;
          there = o.1;
          may = let M : Card → Type 0 = λ c. allowance rules act.GetAttributes t c ≢ Not in subst M (sym o.2) h.may;
          own = subst P (sym o.2) h.own;
          required = subst Q (sym o.2) h.required;
          echo = h.echo;
          leaves = refl;
          placeholder = h.placeholder;
        },
      )

  succeeds_again : (before : Option (List ℕ)) (asked : AskedOf) (payload : Option PayloadOf) (V' : List Thing) (after : Option (List ℕ)) → only_looks asked ≡ true
      → Succeeds rules V before t asked payload V' after → (V' ≡ V) × Succeeds rules W before t asked payload W after
  succeeds_again before (locates q) payload V' after h s =
      let P : List (List ℕ) → Type 0 = λ listed. Lists (cards V) t q listed × (V' ≡ V) × (after ≡ names_only before (Some listed)) in
      let Q : List (List ℕ) → Type 0 = λ listed. Lists (cards W) t q listed × (W ≡ W) × (after ≡ names_only before (Some listed)) in
      matched (seen_in (locate_deed q) payload) P Q (V' ≡ V) (λ listed l. let L : List Card → Type 0 = λ cs. Lists cs t q listed in (l.1, (subst L same l.0, refl, l.2))) s
  succeeds_again before (gets_attributes g) payload V' after h s =
      matched (seen_in (get_attributes_deed g) payload) (λ (a : GotAttributesOf). GetsAttributes rules V before t g a V' after) (λ (a : GotAttributesOf). GetsAttributes rules W before t g a W after) (V' ≡ V)
      (λ a x. attributes_again before g V' after a x) s
  succeeds_again before (idles number) None V' after h s = (s.0, (refl, s.1))
  succeeds_again before (idles number) (Some payload) V' after h s = absurd s
  succeeds_again before (creates a) payload V' after h s = let clash : false ≡ true = h in absurd cc
  succeeds_again before (registers r) payload V' after h s = let clash : false ≡ true = h in absurd cc
  succeeds_again before (gets id) payload V' after h s = let clash : false ≡ true = h in absurd cc
  succeeds_again before (activates id) payload V' after h s = let clash : false ≡ true = h in absurd cc
  succeeds_again before (revokes r) payload V' after h s = let clash : false ≡ true = h in absurd cc
  succeeds_again before (destroys id) payload V' after h s = let clash : false ≡ true = h in absurd cc
  succeeds_again before (does_other number) payload V' after h s = let clash : false ≡ true = h in absurd cc

  outcome_again : (status : Status) (before : Option (List ℕ)) (asked : AskedOf) (reason : Option ℕ) (payload : Option PayloadOf) (V' : List Thing) (after : Option (List ℕ)) → is_idle_item asked status ≡ true
      → Outcome status rules V before t asked reason payload V' after → (V' ≡ V) × Outcome status rules W before t asked reason payload W after
  outcome_again Failed before asked reason payload V' after h o =
      let F : List Card → Type 0 = λ cs. Founded rules cs before t asked reason in
      (o.leaves, record { founded = subst F same o.founded; leaves = refl; placeholder = o.placeholder })
  outcome_again Success before asked reason payload V' after h o = succeeds_again before asked payload V' after h o
  outcome_again Undone before asked reason payload V' after h o = succeeds_again before asked payload V' after h o

  does_again : (before : Option (List ℕ)) (ask : AskOf) (answer : AnswerOf) (V' : List Thing) (after : Option (List ℕ)) → is_idle_item ask.asked answer.status ≡ true
      → Does rules V before t ask answer V' after → (V' ≡ V) × Does rules W before t ask answer W after
  does_again before ask answer V' after h d =
      let o = outcome_again answer.status before ask.asked answer.reason answer.payload V' after h d.outcome in
      (o.0, record { operation = d.operation; batch_id = d.batch_id; outcome = o.1 })

  chain_again : (pairs : List (AskOf × AnswerOf)) (before : Option (List ℕ)) (V' : List Thing) (after : Option (List ℕ)) → AllIdle pairs → Chain rules t V before pairs V' after
      → (V' ≡ V) × Chain rules t W before pairs W after
  chain_again [] before V' after idle c = (c.0, (refl, c.1))
  chain_again (pair ∷ pairs) before V' after idle c =
      let d = does_again before pair.0 pair.1 c.0 c.1 idle.0 c.2 in
      let P : List Thing → Type 0 = λ X. Chain rules t X c.1 pairs V' after in
      let r = chain_again pairs c.1 V' after idle.1 (subst P d.0 c.3) in
      (r.0, (W, c.1, d.1, r.1))

-- ---- a call

fulls_idle : (asks : List AskOf) (answers fulls : List AnswerOf) → CompletesAnswers asks answers fulls → AllIdle (zip asks answers) → AllIdle (zip asks fulls)
fulls_idle [] [] [] c idle = tt
fulls_idle [] [] (full ∷ fulls) c idle = absurd c
fulls_idle [] (answer ∷ answers) [] c idle = absurd c
fulls_idle [] (answer ∷ answers) (full ∷ fulls) c idle = tt
fulls_idle (ask ∷ asks) [] [] c idle = tt
fulls_idle (ask ∷ asks) [] (full ∷ fulls) c idle = absurd c
fulls_idle (ask ∷ asks) (answer ∷ answers) [] c idle = absurd c
fulls_idle (ask ∷ asks) (answer ∷ answers) (full ∷ fulls) c idle =
    let P : Status → Type 0 = λ s. is_idle_item ask.asked s ≡ true in
    (subst P (sym c.0.status) idle.0, fulls_idle asks answers fulls c.1 idle.1)

-- what is possible over one inventory changes nothing there, and is possible over any other that is the same but for bytes
pub call_again : (rules : RulesOf) (V W : List Thing) (request : RequestOf) (response : ResponseOf) (V' : List Thing) → AllIdle (pairs_of request response) → cards V ≡ cards W
    → CallSomeAlong rules V request response None V' → (V' ≡ V) × CallSomeAlong rules W request response None W
call_again rules V W request response V' idle same c = by c.call
  where
    by : CallAlong rules V request c.full None V' → (V' ≡ V) × CallSomeAlong rules W request response None W
    by (inl b) =
        let r = chain_again rules c.full.stamp V W same (pairs_of request c.full) None b.last b.placeholder (fulls_idle request.items response.items c.full.items c.completes.items idle) b.chain in
        let left = leaves b.last r.0 b.leaves in
        (left.0, record { full = c.full; completes = c.completes; call = inl (record { shaped = b.shaped; last = W; placeholder = b.placeholder; chain = r.1; leaves = left.1 }) })
      where
        leaves : (M : List Thing) → M ≡ V → Leaves request.option c.full.items V M V' → (V' ≡ V) × Leaves request.option c.full.items W W W
        leaves M is (goes_back undo failed first e) = (e, goes_back undo failed first refl)
        leaves M is (goes_on none e) = (e ∙ is, goes_on none refl)
    by (inr (refuses, e)) = (e, record { full = c.full; completes = c.completes; call = inr (refuses, refl) })

-- ---- an element goes to the front

abbrev pub Pairwise : {X : Type 0} (R : X → X → Type 0) → List X → Type 0
Pairwise R [] = Unit {0}
Pairwise R (x ∷ xs) = ((y : _) → Contains xs y → R x y) × Pairwise R xs

pub pairwise : {X : Type 0} (R : X → X → Type 0) (xs : List X) → AllPairs R xs → Pairwise R xs
pairwise R [] h = tt
pairwise R (x ∷ xs) h = ((λ y has. pairs_behind R [] xs x y h has), pairwise R xs (λ i j d below within. h (suc i) (suc j) d (omega (arith, below)) (omega (arith, within))))

pub all_pairs : {X : Type 0} (R : X → X → Type 0) (xs : List X) → Pairwise R xs → AllPairs R xs
all_pairs R [] h i j d below within = absurd (omega (arith, within))
all_pairs R (x ∷ xs) h zero zero d below within = absurd (omega (arith, below))
all_pairs R (x ∷ xs) h zero (suc j) d below within = h.0 (get_or xs j d) (Contains-get_or xs j d (omega (arith, within)))
all_pairs R (x ∷ xs) h (suc i) zero d below within = absurd (omega (arith, below))
all_pairs R (x ∷ xs) h (suc i) (suc j) d below within = all_pairs R xs h.1 i j d (omega (arith, below)) (omega (arith, within))

module _ {X : Type 0} (c : X) (bs es : List X) where
  pub to_back : (xs : List X) (y : X) → Contains (xs ++ (c ∷ (bs ++ es))) y → Contains (xs ++ (bs ++ (c ∷ es))) y
  to_back xs y h = elim (Contains-append_cases xs (c ∷ (bs ++ es)) y h) [
    | inl l ↦ Contains-append_left xs (bs ++ (c ∷ es)) y l
    | inr r ↦ Contains-append_right xs (bs ++ (c ∷ es)) y (elim (one_cases c y (bs ++ es) r) [
      | inl e ↦ Contains-append_right bs (c ∷ es) y (let P : X → Type 0 = λ z. Contains (z ∷ es) y in subst P (sym e) (has_head y es))
      | inr t ↦ elim (Contains-append_cases bs es y t) [ inl b ↦ Contains-append_left bs (c ∷ es) y b | inr a ↦ Contains-append_right bs (c ∷ es) y (Contains-append_right (c ∷ []) es y a) ]
    ])
  ]

  pub to_front : (xs : List X) (y : X) → Contains (xs ++ (bs ++ (c ∷ es))) y → Contains (xs ++ (c ∷ (bs ++ es))) y
  to_front xs y h = elim (Contains-append_cases xs (bs ++ (c ∷ es)) y h) [
    | inl l ↦ Contains-append_left xs (c ∷ (bs ++ es)) y l
    | inr r ↦ Contains-append_right xs (c ∷ (bs ++ es)) y (elim (Contains-append_cases bs (c ∷ es) y r) [
      | inl b ↦ Contains-append_right (c ∷ []) (bs ++ es) y (Contains-append_left bs es y b)
      | inr a ↦ elim (one_cases c y es a) [
        | inl e ↦ let P : X → Type 0 = λ z. Contains (z ∷ (bs ++ es)) y in subst P (sym e) (has_head y (bs ++ es))
        | inr t ↦ Contains-append_right (c ∷ []) (bs ++ es) y (Contains-append_right bs es y t)
      ]
    ])
  ]

  module _ (R : X → X → Type 0) (least : (y : X) → Contains bs y → R c y) where
    moved_here : Pairwise R (bs ++ (c ∷ es)) → Pairwise R (c ∷ (bs ++ es))
    moved_here h = (first, rest bs h)
      where
        behind : (ds : List X) → Pairwise R (ds ++ (c ∷ es)) → (y : X) → Contains es y → R c y
        behind [] h y has = h.0 y has
        behind (d ∷ ds) h y has = behind ds h.1 y has

        first : (y : X) → Contains (bs ++ es) y → R c y
        first y has = elim (Contains-append_cases bs es y has) [ inl b ↦ least y b | inr a ↦ behind bs h y a ]

        rest : (ds : List X) → Pairwise R (ds ++ (c ∷ es)) → Pairwise R (ds ++ es)
        rest [] h = h.1
        rest (d ∷ ds) h = (
          λ y has. h.0 y (elim (Contains-append_cases ds es y has) [ inl b ↦ Contains-append_left ds (c ∷ es) y b | inr a ↦ Contains-append_right ds (c ∷ es) y (Contains-append_right (c ∷ []) es y a) ]),
          rest ds h.1,
        )

    moved_behind : (xs : List X) → Pairwise R (xs ++ (bs ++ (c ∷ es))) → Pairwise R (xs ++ (c ∷ (bs ++ es)))
    moved_behind [] h = moved_here h
    moved_behind (x ∷ xs) h = ((λ y has. h.0 y (to_back xs y has)), moved_behind xs h.1)

    pub pairs_moved : (xs : List X) → AllPairs R (xs ++ (bs ++ (c ∷ es))) → AllPairs R (xs ++ (c ∷ (bs ++ es)))
    pairs_moved xs h = all_pairs R (xs ++ (c ∷ (bs ++ es))) (moved_behind xs (pairwise R (xs ++ (bs ++ (c ∷ es))) h))

-- ---- the law

module _ (declared : DeclarationOf) (calls : List StepOf) (once : IsOnce calls) (taken : List ℕ) (nexts : AreNext calls taken) where
  -- what is dead stays dead
  pub dead_more : (p : ℕ) → IsDead declared calls taken → IsDead declared calls (p ∷ taken)
  dead_more p dead start order rest d run is = dead start order (step_at calls p ∷ rest) d run (is ∙ append_assoc (so_far calls taken) (step_at calls p ∷ []) rest)

  -- a call that stands behind those taken isn't among them
  behind_left : (rest : List StepOf) (y : StepOf) (other : ℕ) → IsPermutation calls (so_far calls taken ++ rest) → Contains rest y → slice_get calls other ≡ Some y → Contains taken other → ⊥
  behind_left rest y other perm has at taken_there =
      let r = at_contains rest y has in
      let xs = so_far calls taken in
      let P : List StepOf → Type 0 = λ zs. IsPermutation calls zs in
      let e : xs ++ rest ≡ (xs ++ take r.0 rest) ++ y ∷ drop (suc r.0) rest = ap (λ (zs : List StepOf). xs ++ zs) (cut rest r.0 y r.1) ∙ sym (append_assoc xs (take r.0 rest) (y ∷ drop (suc r.0) rest)) in
      fresh calls (xs ++ take r.0 rest) (drop (suc r.0) rest) y once (subst P e perm) (Contains-append_left xs (take r.0 rest) y (call_taken calls taken other y taken_there at))

  module _ (p : ℕ) (n : IsNext calls taken p) (m k : Meaning) (known : AreKnown declared (so_far calls taken) m)
      (explains : CallExplainsAlong (rules_declared declared) m n.call.request n.call.response (order_of n.call) k) (sound : IsSound k) (idle : IsIdleStep n.call)
      (start : List Thing) (described : Describes declared start) (bs es : List StepOf) (run : TakesAll (rules_declared declared) calls start (so_far calls taken ++ (bs ++ (n.call ∷ es)))) where
    -- those that it passes may come after it
    passes : (y : StepOf) → Contains bs y → (other : ℕ) × (slice_get calls other ≡ Some y) × (Contains taken other → ⊥)
    passes y has =
        let r : Contains (bs ++ (n.call ∷ es)) y = Contains-append_left bs (n.call ∷ es) y has in
        let all = so_far calls taken ++ (bs ++ (n.call ∷ es)) in
        let q = at_contains calls y (Contains-permutation all calls y (IsPermutation-sym calls all run.once) (Contains-append_right (so_far calls taken) (bs ++ (n.call ∷ es)) y r)) in
        (q.0, q.1, behind_left (bs ++ (n.call ∷ es)) y q.0 run.once r q.1)

    moved_placed : IsPlaced (so_far calls taken ++ (n.call ∷ (bs ++ es)))
    moved_placed = record {
      kept = pairs_moved n.call bs es (λ (a b : StepOf). ¬ (Before b a)) (λ y has. let q = passes y has in n.first q.0 y q.1 q.2) (so_far calls taken) run.placed.kept;
      stamped = pairs_moved n.call bs es (λ (a b : StepOf). a.response.stamp ≤ℤ b.response.stamp) (λ y has. let q = passes y has in n.least q.0 y q.1 q.2) (so_far calls taken) run.placed.stamped;
    }

    moved_all : IsPermutation calls (so_far calls taken ++ (n.call ∷ (bs ++ es)))
    moved_all =
        let xs = so_far calls taken in
        permuted calls (xs ++ (n.call ∷ (bs ++ es))) once (λ y has. to_front n.call bs es xs y (Contains-permutation calls (xs ++ (bs ++ (n.call ∷ es))) y run.once has))
        (omega (arith, length_permutation calls (xs ++ (bs ++ (n.call ∷ es))) run.once, length-append xs (bs ++ (n.call ∷ es)), length-append bs (n.call ∷ es), length-append xs (n.call ∷ (bs ++ es)), length-append bs es))

    moved_linked : Linked (rules_declared declared) start (so_far calls taken ++ (n.call ∷ (bs ++ es))) run.last
    moved_linked =
        let rules = rules_declared declared in
        let c = n.call in
        let a = linked_split rules start (so_far calls taken) (bs ++ (n.call ∷ es)) run.last run.linked in
        let b = linked_split rules a.0 bs (n.call ∷ es) run.last a.2 in
        let Q : Option (List ℕ) → Type 0 = λ o. CallSomeAlong (rules_declared declared) b.0 n.call.request n.call.response o b.2.0 in
        let later = call_again rules b.0 b.0 c.request c.response b.2.0 idle.1 refl (subst Q idle.0 b.2.1) in
        let P : List Thing → Type 0 = λ X. Linked (rules_declared declared) X es run.last in
        let g = known.complete start a.0 described a.1 in
        let h = explains.sound sound.choice.0 sound.choice.1 in
        let S : Option (List ℕ) → Type 0 = λ o. CallSomeAlong (rules_declared declared) (inv sound.choice.0 m.objects) n.call.request n.call.response o (inv sound.choice.0 k.objects) in
        let alike : cards (inv sound.choice.0 m.objects) ≡ cards a.0 = cards-inv sound.choice.0 m.objects ∙ sym (cards-inv g.0 m.objects) ∙ ap cards (sym g.2) in
        let now = call_again rules (inv sound.choice.0 m.objects) a.0 c.request c.response (inv sound.choice.0 k.objects) idle.1 alike (subst S idle.0 h.1) in
        let T : Option (List ℕ) → Type 0 = λ o. CallSomeAlong (rules_declared declared) a.0 n.call.request n.call.response o a.0 in
        linked_join rules start (so_far calls taken) (n.call ∷ (bs ++ es)) a.0 run.last a.1
        (a.0, subst T (sym idle.0) now.1, linked_join rules a.0 bs es b.0 run.last b.1 (subst P later.0 b.2.2))

    moved_run : IsDead declared calls (p ∷ taken) → ⊥
    moved_run dead =
        let P : StepOf → Type 0 = λ x. so_far calls taken ++ (n.call ∷ (bs ++ es)) ≡ so_far calls taken ++ (x ∷ (bs ++ es)) in
        dead start (so_far calls taken ++ (n.call ∷ (bs ++ es))) (bs ++ es) described (record { once = moved_all; placed = moved_placed; last = run.last; linked = moved_linked })
        (subst P (sym (call_of_next calls taken p n)) refl ∙ sym (append_assoc (so_far calls taken) (step_at calls p ∷ []) (bs ++ es)))

  -- where a call without effect is next and possible, it comes first in some run, if there is any
  pub idle_dead : (p : ℕ) (n : IsNext calls taken p) (m k : Meaning) → AreKnown declared (so_far calls taken) m
      → CallExplainsAlong (rules_declared declared) m n.call.request n.call.response (order_of n.call) k → IsSound k → IsIdleStep n.call → IsDead declared calls (p ∷ taken) → IsDead declared calls taken
  idle_dead p n m k known explains sound idle dead start order rest d run is =
      let P : List StepOf → Type 0 = λ zs. TakesAll (rules_declared declared) calls start zs in
      let all = subst P is run in
      let at = at_contains rest n.call (in_rest all.once) in
      let xs = so_far calls taken in
      moved_run p n m k known explains sound idle start d (take at.0 rest) (drop (suc at.0) rest) (subst P (is ∙ ap (λ (zs : List StepOf). so_far calls taken ++ zs) (cut rest at.0 n.call at.1)) run) dead
    where
      in_rest : IsPermutation calls (so_far calls taken ++ rest) → Contains rest n.call
      in_rest perm = elim (Contains-append_cases (so_far calls taken) rest n.call (Contains-permutation calls (so_far calls taken ++ rest) n.call perm (contains_at calls p n.call n.there))) [
        | inl l ↦
            let q = place_taken calls taken n.call nexts l in
            let P : ℕ → Type 0 = λ z. Contains taken z in
            absurd (n.left (subst P (one_place calls q.0 p n.call once q.2 n.there) q.1))
        | inr r ↦ r
      ]

-- ---- the pairs of a call, place by place

pub pair_within : {X Y : Type 0} (xs : List X) (ys : List Y) (i : ℕ) (p : X × Y) → slice_get (zip xs ys) i ≡ Some p → i < length xs
pair_within [] ys i p at = absurd cc
pair_within (x ∷ xs) [] i p at = absurd cc
pair_within (x ∷ xs) (y ∷ ys) zero p at = omega arith
pair_within (x ∷ xs) (y ∷ ys) (suc i) p at = omega (arith, pair_within xs ys i p at)

pub idle_past : (request : RequestOf) (response : ResponseOf) (count : ℕ) → length request.items ≤ count → AreIdleFrom request response count
idle_past request response count past place from ask answer at = absurd (omega (arith, past, from, pair_within request.items response.items place (ask, answer) at))

pub all_idle : (pairs : List (AskOf × AnswerOf)) → ((place : ℕ) (ask : AskOf) (answer : AnswerOf) → slice_get pairs place ≡ Some (ask, answer) → is_idle_item ask.asked answer.status ≡ true) → AllIdle pairs
all_idle [] h = tt
all_idle (pair ∷ pairs) h = (h 0 pair.0 pair.1 refl, all_idle pairs (λ place ask answer at. h (suc place) ask answer at))

-- what stands at one place of two lists
pub zip_at : {X Y : Type 0} (xs : List X) (ys : List Y) (i : ℕ) (x : X) (y : Y) → slice_get xs i ≡ Some x → slice_get ys i ≡ Some y → slice_get (zip xs ys) i ≡ Some (x, y)
zip_at [] ys i x y a b = absurd cc
zip_at (u ∷ xs) [] i x y a b = absurd cc
zip_at (u ∷ xs) (v ∷ ys) zero x y a b = let e : u ≡ x = cc in let f : v ≡ y = cc in ap (λ (z : _). Some (z, v)) e ∙ ap (λ (z : _). Some (x, z)) f
zip_at (u ∷ xs) (v ∷ ys) (suc i) x y a b = zip_at xs ys i x y a b

pub idle_here : (request : RequestOf) (response : ResponseOf) (place : ℕ) (a : AskOf) (b : AnswerOf) (result : Bool) → slice_get request.items place ≡ Some a → slice_get response.items place ≡ Some b
    → result ≡ is_idle_item a.asked b.status → result ≡ true → IsIdleAt request response place
idle_here request response place a b result asked answered is yes_it_is ask answer at =
    let here = zip_at request.items response.items place a b asked answered in
    let T : Option (AskOf × AnswerOf) → Type 0 = λ o. IfSome o (λ x. is_idle_item x.0.asked x.1.status ≡ true) in
    subst T at (subst T (sym here) (sym is ∙ yes_it_is))

pub idle_more : (request : RequestOf) (response : ResponseOf) (place : ℕ) → 0 < place → IsIdleAt request response (place - 1) → AreIdleFrom request response place → AreIdleFrom request response (place - 1)
idle_more request response place some here h other low = elim (lower place other) [
  | inl less ↦ let e : other ≡ place - 1 = omega (arith, less, low, some) in let P : ℕ → Type 0 = λ z. IsIdleAt request response z in subst P (sym e) here
  | inr past ↦ h other past
]

-- a step of a call all of whose places are without effect
pub idle_step : (s : StepOf) → order_of s ≡ None → AreIdleFrom s.request s.response 0 → IsIdleStep s
idle_step s order h = (order, all_idle (pairs_of s.request s.response) (λ place ask answer at. h place (omega arith) ask answer at))
