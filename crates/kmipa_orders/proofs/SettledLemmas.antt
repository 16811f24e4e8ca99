-- Calls that leave the same objects in whatever order they are taken.
use Rattle.std.proofs.Common.{◌≡◌, ◌≢◌, ◌⊎◌, inl, inr, ℕ, zero, suc, ℤ, true, false, List, [], ◌∷◌, length, Option, Some, None, MatchOption, slice_get, Contains, refl, sym, ap, ◌∙◌, subst, arith}
use Rattle.std.specs.List.{zip}
use Rattle.std.proofs.lemmas.List.Elements.{Contains-append_right}
use Rattle.std.proofs.lemmas.Slice.Eq.{bytes_eq-Decides}
use Rattle.kmipa_object.specs.Inventory.{Card, Thing, cards}
use Rattle.kmipa_object.specs.Lists.{updated}
use Rattle.kmipa_store.proofs.InventoryLemmas.{place_found}
use Rattle.kmipa_msgs.specs.declared.response.Status.{Status}
use Rattle.kmipa_msgs.specs.declared.response.Status.TheVariants.{Success, Failed, Undone}
use Rattle.kmipa_msgs.specs.Messages.{RulesOf, AskedOf, creates, registers, locates, gets, gets_attributes, activates, revokes, destroys, idles, does_other, GotOf, GotAttributesOf, AskOf, PayloadOf, RequestOf, AnswerOf, ResponseOf}
use Rattle.kmipa_ops.specs.Row.{seen_in}
use Rattle.kmipa_ops.specs.Objects.{meant, HasObject}
use Rattle.kmipa_ops.specs.Changes.{ChangesObject, change_deed, thing_after}
use Rattle.kmipa_ops.specs.Get.{Gets, get_deed}
use Rattle.kmipa_ops.specs.GetAttributes.{GetsAttributes, get_attributes_deed}
use Rattle.kmipa_ops.specs.Locate.{Lists, locate_deed, names_only}
use Rattle.kmipa_ops.specs.declared.change.Change.{Change}
use Rattle.kmipa_ops.specs.declared.change.Change.TheVariants.{Activate, Revoke, Destroy}
use Rattle.kmipa_ops.specs.Does.{Succeeds, Outcome}
use Rattle.kmipa_ops.specs.Chains.{Chain}
use Rattle.kmipa_batch.specs.Calls.{pairs_of, Leaves, goes_back, goes_on, CallAlong, CompletesAnswers, CallSomeAlong}
use Rattle.kmipa_check.specs.Steps.{StepOf, order_of}
use Rattle.kmipa_check.specs.Runs.{Linked}
use Rattle.kmipa_orders.specs.Settled.{reads_only, is_steady_item, AreSteadyFrom, changed_id, done_id, lone_item, target, IsLone}
use Rattle.kmipa_check.proofs.PlaceLemmas.{at_within, some_at, get_at}
use Rattle.kmipa_orders.proofs.FrontLemmas.{shown_by}
use Rattle.kmipa_orders.proofs.IdleLemmas.{Pairwise}
use Rattle.kmipa_orders.proofs.LinksLemmas.{same_or}
use Rattle.kmipa_orders.proofs.PlaceLemmas.{one_cases, has_head}

-- ---- what a call does to the object that it changes

abbrev pub turn_asked : AskedOf → ℤ → Thing → Thing
turn_asked (activates id) t o = thing_after Activate t o
turn_asked (revokes r) t o = thing_after (Revoke r.code) t o
turn_asked (destroys id) t o = thing_after Destroy t o
turn_asked asked t o = o

abbrev pub turn_first : List AskOf → ℤ → Thing → Thing
turn_first [] t o = o
turn_first (ask ∷ asks) t o = turn_asked ask.asked t o

abbrev pub turn : StepOf → Thing → Thing
turn s = turn_first s.request.items s.response.stamp

turned_id : (asked : AskedOf) (t : ℤ) (o : Thing) → (turn_asked asked t o).card.id ≡ o.card.id
turned_id (activates id) t o = refl
turned_id (revokes r) t o = refl
turned_id (destroys id) t o = refl
turned_id (creates a) t o = refl
turned_id (registers r) t o = refl
turned_id (locates q) t o = refl
turned_id (gets id) t o = refl
turned_id (gets_attributes g) t o = refl
turned_id (idles number) t o = refl
turned_id (does_other number) t o = refl

first_id : (asks : List AskOf) (t : ℤ) (o : Thing) → (turn_first asks t o).card.id ≡ o.card.id
first_id [] t o = refl
first_id (ask ∷ asks) t o = turned_id ask.asked t o

-- the object of this identifier is changed so, and nothing else
record Turns (V : List Thing) (id : List ℕ) (f : Thing → Thing) (V' : List Thing) : Type 0 where
  place : ℕ
  object : Thing
  there : HasObject V id place object
  leaves : V' ≡ updated V place f

-- ---- an item

module _ (rules : RulesOf) (t : ℤ) (V : List Thing) (before : Option (List ℕ)) (V' : List Thing) (after : Option (List ℕ)) where
  same_succeeds : (asked : AskedOf) (payload : Option PayloadOf) → reads_only asked ≡ true → Succeeds rules V before t asked payload V' after → V' ≡ V
  same_succeeds (locates q) payload h s =
      shown_by (seen_in (locate_deed q) payload) (λ (listed : List (List ℕ)). Lists (cards V) t q listed × (V' ≡ V) × (after ≡ names_only before (Some listed))) (V' ≡ V) (λ listed l. l.1) s
  same_succeeds (gets id) payload h s = shown_by (seen_in (get_deed id) payload) (λ (a : GotOf). Gets rules V before t id a V' after) (V' ≡ V) (λ a g. g.leaves) s
  same_succeeds (gets_attributes g) payload h s =
      shown_by (seen_in (get_attributes_deed g) payload) (λ (a : GotAttributesOf). GetsAttributes rules V before t g a V' after) (V' ≡ V) (λ a x. x.leaves) s
  same_succeeds (idles number) None h s = s.0
  same_succeeds (idles number) (Some payload) h s = absurd s
  same_succeeds (creates a) payload h s = let clash : false ≡ true = h in absurd cc
  same_succeeds (registers r) payload h s = let clash : false ≡ true = h in absurd cc
  same_succeeds (activates id) payload h s = let clash : false ≡ true = h in absurd cc
  same_succeeds (revokes r) payload h s = let clash : false ≡ true = h in absurd cc
  same_succeeds (destroys id) payload h s = let clash : false ≡ true = h in absurd cc
  same_succeeds (does_other number) payload h s = let clash : false ≡ true = h in absurd cc

  same_outcome : (status : Status) (asked : AskedOf) (reason : Option ℕ) (payload : Option PayloadOf) → is_steady_item asked status ≡ true → Outcome status rules V before t asked reason payload V' after → V' ≡ V
  same_outcome Failed asked reason payload h o = o.leaves
  same_outcome Success asked reason payload h o = same_succeeds asked payload h o
  same_outcome Undone asked reason payload h o = same_succeeds asked payload h o

  turns_change : (named : Option (List ℕ)) (change : Change) (payload : Option PayloadOf) (id : List ℕ) → named ≡ Some id
      → MatchOption (seen_in (change_deed named change) payload) ⊥ (λ (shown : Option (List ℕ)). ChangesObject rules V before t named change shown V' after) → Turns V id (thing_after change t) V'
  turns_change named change payload id is s =
      shown_by (seen_in (change_deed named change) payload) (λ (shown : Option (List ℕ)). ChangesObject rules V before t named change shown V' after) (Turns V id (thing_after change t) V')
      (λ shown h.
      let e : Some id ≡ Some h.id = ap (λ (o : Option (List ℕ)). meant o before) (sym is) ∙ h.about in
      let same : id ≡ h.id = cc in
      let P : List ℕ → Type 0 = λ i. HasObject V i h.place h.object in
      record { place = h.place; object = h.object; there = subst P (sym same) h.there; leaves = h.leaves }) s

  turns_asked : (asked : AskedOf) (payload : Option PayloadOf) (id : List ℕ) → changed_id asked ≡ Some id → Succeeds rules V before t asked payload V' after → Turns V id (turn_asked asked t) V'
  turns_asked (activates named) payload id is s = turns_change named Activate payload id is s
  turns_asked (revokes r) payload id is s = turns_change r.id (Revoke r.code) payload id is s
  turns_asked (destroys named) payload id is s = turns_change named Destroy payload id is s
  turns_asked (creates a) payload id is s = let clash : None ≡ Some id = is in absurd cc
  turns_asked (registers r) payload id is s = let clash : None ≡ Some id = is in absurd cc
  turns_asked (locates q) payload id is s = let clash : None ≡ Some id = is in absurd cc
  turns_asked (gets x) payload id is s = let clash : None ≡ Some id = is in absurd cc
  turns_asked (gets_attributes g) payload id is s = let clash : None ≡ Some id = is in absurd cc
  turns_asked (idles number) payload id is s = let clash : None ≡ Some id = is in absurd cc
  turns_asked (does_other number) payload id is s = let clash : None ≡ Some id = is in absurd cc

-- ---- a call that changes nothing

abbrev AllSteady : List (AskOf × AnswerOf) → Type 0
AllSteady [] = Unit {0}
AllSteady (pair ∷ pairs) = (is_steady_item pair.0.asked pair.1.status ≡ true) × AllSteady pairs

all_steady : (pairs : List (AskOf × AnswerOf)) → ((place : ℕ) (ask : AskOf) (answer : AnswerOf) → slice_get pairs place ≡ Some (ask, answer) → is_steady_item ask.asked answer.status ≡ true) → AllSteady pairs
all_steady [] h = tt
all_steady (pair ∷ pairs) h = (h 0 pair.0 pair.1 refl, all_steady pairs (λ place ask answer at. h (suc place) ask answer at))

fulls_steady : (asks : List AskOf) (answers fulls : List AnswerOf) → CompletesAnswers asks answers fulls → AllSteady (zip asks answers) → AllSteady (zip asks fulls)
fulls_steady [] [] [] c steady = tt
fulls_steady [] [] (full ∷ fulls) c steady = absurd c
fulls_steady [] (answer ∷ answers) [] c steady = absurd c
fulls_steady [] (answer ∷ answers) (full ∷ fulls) c steady = tt
fulls_steady (ask ∷ asks) [] [] c steady = tt
fulls_steady (ask ∷ asks) [] (full ∷ fulls) c steady = absurd c
fulls_steady (ask ∷ asks) (answer ∷ answers) [] c steady = absurd c
fulls_steady (ask ∷ asks) (answer ∷ answers) (full ∷ fulls) c steady =
    let P : Status → Type 0 = λ s. is_steady_item ask.asked s ≡ true in
    (subst P (sym c.0.status) steady.0, fulls_steady asks answers fulls c.1 steady.1)

module _ (rules : RulesOf) where
  same_chain : (t : ℤ) (V : List Thing) (before : Option (List ℕ)) (pairs : List (AskOf × AnswerOf)) (V' : List Thing) (after : Option (List ℕ)) → AllSteady pairs → Chain rules t V before pairs V' after → V' ≡ V
  same_chain t V before [] V' after steady c = c.0
  same_chain t V before (pair ∷ pairs) V' after steady c =
      same_chain t c.0 c.1 pairs V' after steady.1 c.3
      ∙ same_outcome rules t V before c.0 c.1 pair.1.status pair.0.asked pair.1.reason pair.1.payload steady.0 c.2.outcome

  same_call : (V : List Thing) (request : RequestOf) (response : ResponseOf) (V' : List Thing) → AllSteady (pairs_of request response) → CallSomeAlong rules V request response None V' → V' ≡ V
  same_call V request response V' steady c = by c.call
    where
      by : CallAlong rules V request c.full None V' → V' ≡ V
      by (inl b) = leaves b.leaves
        where
          leaves : Leaves request.option c.full.items V b.last V' → V' ≡ V
          leaves (goes_back undo failed first e) = e
          leaves (goes_on none e) =
              e ∙ same_chain c.full.stamp V None (pairs_of request c.full) b.last b.placeholder (fulls_steady request.items response.items c.full.items c.completes.items steady) b.chain
      by (inr (refuses, e)) = e

  -- ---- a call that changes one object

  done_success : (status : Status) (asked : AskedOf) (id : List ℕ) → done_id status asked ≡ Some id → (status ≡ Success) × (changed_id asked ≡ Some id)
  done_success Success asked id is = (refl, is)
  done_success Failed asked id is = let clash : None ≡ Some id = is in absurd cc
  done_success Undone asked id is = let clash : None ≡ Some id = is in absurd cc

  record OneDone (asks : List AskOf) (fulls : List AnswerOf) (id : List ℕ) : Type 0 where
    ask : AskOf
    full : AnswerOf
    asked : asks ≡ ask ∷ []
    answered : fulls ≡ full ∷ []
    done : full.status ≡ Success
    changes : changed_id ask.asked ≡ Some id

  one_done : (asks : List AskOf) (answers fulls : List AnswerOf) (id : List ℕ) → lone_item asks answers ≡ Some id → CompletesAnswers asks answers fulls → OneDone asks fulls id
  one_done [] answers fulls id is c = let clash : None ≡ Some id = is in absurd cc
  one_done (ask ∷ (other ∷ asks)) answers fulls id is c = let clash : None ≡ Some id = is in absurd cc
  one_done (ask ∷ []) [] fulls id is c = let clash : None ≡ Some id = is in absurd cc
  one_done (ask ∷ []) (answer ∷ (other ∷ answers)) fulls id is c = let clash : None ≡ Some id = is in absurd cc
  one_done (ask ∷ []) (answer ∷ []) [] id is c = absurd c
  one_done (ask ∷ []) (answer ∷ []) (full ∷ (other ∷ fulls)) id is c = absurd c.1
  one_done (ask ∷ []) (answer ∷ []) (full ∷ []) id is c =
      let d = done_success answer.status ask.asked id is in
      record { ask = ask; full = full; asked = refl; answered = refl; done = c.0.status ∙ d.0; changes = d.1 }

  none_failed : (fulls : List AnswerOf) (full : AnswerOf) (place : ℕ) (answer : AnswerOf) → fulls ≡ full ∷ [] → full.status ≡ Success → slice_get fulls place ≡ Some answer → answer.status ≡ Failed → ⊥
  none_failed fulls full place answer is done at failed = by place (ap (λ (xs : List AnswerOf). slice_get xs place) (sym is) ∙ at)
    where
      by : (place : ℕ) → slice_get (full ∷ []) place ≡ Some answer → ⊥
      by zero here =
          let same : full ≡ answer = cc in
          let clash : Success ≡ Failed = sym done ∙ ap (λ (x : AnswerOf). x.status) same ∙ failed in
          absurd cc
      by (suc k) here = absurd cc

  turns_call : (V : List Thing) (request : RequestOf) (response : ResponseOf) (V' : List Thing) (id : List ℕ) → lone_item request.items response.items ≡ Some id → CallSomeAlong rules V request response None V'
      → Turns V id (turn_first request.items response.stamp) V'
  turns_call V request response V' id is c = by c.call
    where
      one : OneDone request.items c.full.items id
      one = one_done request.items response.items c.full.items id is c.completes.items

      by : CallAlong rules V request c.full None V' → Turns V id (turn_first request.items response.stamp) V'
      by (inl b) = left b.leaves
        where
          turns : Turns V id (turn_first request.items response.stamp) b.last
          turns =
              let P : List AskOf → Type 0 = λ asks. Chain rules c.full.stamp V None (zip asks c.full.items) b.last b.placeholder in
              let Q : List AnswerOf → Type 0 = λ fulls. Chain rules c.full.stamp V None (zip (one.ask ∷ []) fulls) b.last b.placeholder in
              let chain : Chain rules c.full.stamp V None ((one.ask, one.full) ∷ []) b.last b.placeholder = subst Q one.answered (subst P one.asked b.chain) in
              let S : Status → Type 0 = λ s. Outcome s rules V None c.full.stamp one.ask.asked one.full.reason one.full.payload chain.0 chain.1 in
              let r = turns_asked rules c.full.stamp V None chain.0 chain.1 one.ask.asked one.full.payload id one.changes (subst S one.done chain.2.outcome) in
              let T : List Thing → Type 0 = λ X. Turns V id (turn_asked one.ask.asked c.full.stamp) X in
              let U : ℤ → Type 0 = λ t. Turns V id (turn_asked one.ask.asked t) b.last in
              let W : List AskOf → Type 0 = λ asks. Turns V id (turn_first asks response.stamp) b.last in
              subst W (sym one.asked) (subst U c.completes.stamp (subst T (sym chain.3.0) r))

          left : Leaves request.option c.full.items V b.last V' → Turns V id (turn_first request.items response.stamp) V'
          left (goes_back undo failed first e) = absurd (none_failed c.full.items one.full failed first.answer one.answered one.done first.there first.failed)
          left (goes_on none e) = let T : List Thing → Type 0 = λ X. Turns V id (turn_first request.items response.stamp) X in subst T (sym e) turns
      by (inr (refuses, e)) =
          absurd (none_failed c.full.items one.full 0 refuses.answer one.answered one.done (ap (λ (xs : List AnswerOf). slice_get xs 0) refuses.alone) refuses.failed)

-- ---- places

pub updated_here : {X : Type 0} (xs : List X) (place : ℕ) (f : X → X) (o : X) → slice_get xs place ≡ Some o → slice_get (updated xs place f) place ≡ Some (f o)
updated_here [] place f o at = absurd cc
updated_here {X} (x ∷ xs) zero f o at = let e : x ≡ o = cc in ap (λ (z : X). Some (f z)) e
updated_here (x ∷ xs) (suc place) f o at = updated_here xs place f o at

pub updated_other : {X : Type 0} (xs : List X) (place : ℕ) (f : X → X) (k : ℕ) (o : X) → k ≢ place → slice_get xs k ≡ Some o → slice_get (updated xs place f) k ≡ Some o
updated_other [] place f k o apart at = absurd cc
updated_other (x ∷ xs) zero f zero o apart at = absurd (apart refl)
updated_other (x ∷ xs) zero f (suc k) o apart at = at
updated_other (x ∷ xs) (suc place) f zero o apart at = at
updated_other (x ∷ xs) (suc place) f (suc k) o apart at = updated_other xs place f k o (λ e. apart (ap suc e)) at

updated_long : {X : Type 0} (xs : List X) (place : ℕ) (f : X → X) → length (updated xs place f) ≡ length xs
updated_long [] place f = refl
updated_long (x ∷ xs) zero f = refl
updated_long (x ∷ xs) (suc place) f = ap suc (updated_long xs place f)

-- no identifier stands twice
abbrev pub Distinct : List Thing → Type 0
Distinct V = (i j : ℕ) (a b : Thing) → slice_get V i ≡ Some a → slice_get V j ≡ Some b → a.card.id ≡ b.card.id → i ≡ j

pub object_id : (V : List Thing) (id : List ℕ) (place : ℕ) (object : Thing) → HasObject V id place object → id ≡ object.card.id
object_id V id place object h =
    let f = place_found (cards V) id place h.named in
    let at : slice_get (cards V) place ≡ Some object.card = get_at (λ (x : Thing). x.card) V place object h.stands in
    let both : Some f.0 ≡ Some object.card = sym f.1 ∙ at in
    let same : f.0 ≡ object.card = cc in
    (bytes_eq-Decides id f.0.id).0 f.2 ∙ ap (λ (c : Card). c.id) same

-- ---- what a step does to one object

abbrev pub TurnsAt : StepOf → Thing → Thing → Type 0
TurnsAt s o x = ((target s ≡ Some o.card.id → ⊥) × (x ≡ o)) ⊎ ((target s ≡ Some o.card.id) × (x ≡ turn s o))

turned_at_id : (s : StepOf) (o x : Thing) → TurnsAt s o x → x.card.id ≡ o.card.id
turned_at_id s o x (inl (apart, e)) = ap (λ (z : Thing). z.card.id) e
turned_at_id s o x (inr (at, e)) = ap (λ (z : Thing). z.card.id) e ∙ first_id s.request.items s.response.stamp o

-- each object stands at its place again, as the step leaves it
record StepsTo (s : StepOf) (V V' : List Thing) : Type 0 where
  long : length V' ≡ length V
  each : (k : ℕ) (o : Thing) → slice_get V k ≡ Some o → (x : Thing) × (slice_get V' k ≡ Some x) × TurnsAt s o x

steps_same : (s : StepOf) (V V' : List Thing) → target s ≡ None → V' ≡ V → StepsTo s V V'
steps_same s V V' none e = record {
  long = ap length e;
  each = λ k o at.
      let P : List Thing → Type 0 = λ X. slice_get X k ≡ Some o in
      (o, subst P (sym e) at, inl ((λ is. let clash : None ≡ Some o.card.id = sym none ∙ is in absurd cc), refl));
}

steps_turned : (s : StepOf) (V V' : List Thing) (id : List ℕ) → Distinct V → target s ≡ Some id → Turns V id (turn s) V' → StepsTo s V V'
steps_turned s V V' id distinct is t = record {
  long = ap length t.leaves ∙ updated_long V t.place (turn s);
  each = λ k o at. by k o at (same_or k t.place);
}
  where
    own : id ≡ t.object.card.id
    own = object_id V id t.place t.object t.there

    by : (k : ℕ) (o : Thing) → slice_get V k ≡ Some o → (k ≡ t.place) ⊎ (k ≢ t.place) → (x : Thing) × (slice_get V' k ≡ Some x) × TurnsAt s o x
    by k o at (inl e) =
        let P : ℕ → Type 0 = λ i. slice_get V i ≡ Some o in
        let both : Some t.object ≡ Some o = sym t.there.stands ∙ subst P e at in
        let same : t.object ≡ o = cc in
        let Q : List Thing → Type 0 = λ X. slice_get X k ≡ Some (turn s o) in
        let R : ℕ → Type 0 = λ i. slice_get (updated V i (turn s)) k ≡ Some (turn s o) in
        (turn s o, subst Q (sym t.leaves) (subst R e (updated_here V k (turn s) o at)), inr (is ∙ ap Some (own ∙ ap (λ (z : Thing). z.card.id) same), refl))
    by k o at (inr d) =
        let Q : List Thing → Type 0 = λ X. slice_get X k ≡ Some o in (
          o,
          subst Q (sym t.leaves) (updated_other V t.place (turn s) k o d at),
          inl (
            (λ h.
                let both : Some id ≡ Some o.card.id = sym is ∙ h in
                let same : id ≡ o.card.id = cc in
                d (distinct k t.place o t.object at t.there.stands (sym same ∙ own))),
            refl,
          ),
        )

steps_call : (rules : RulesOf) (s : StepOf) (V V' : List Thing) → IsLone s → Distinct V → CallSomeAlong rules V s.request s.response (order_of s) V' → StepsTo s V V'
steps_call rules s V V' lone distinct c = by lone.1
  where
    call : CallSomeAlong rules V s.request s.response None V'
    call = let P : Option (List ℕ) → Type 0 = λ o. CallSomeAlong rules V s.request s.response o V' in subst P lone.0 c

    by : ((target s ≡ None) × AreSteadyFrom s.request s.response 0) ⊎ ((id : List ℕ) × (target s ≡ Some id)) → StepsTo s V V'
    by (inl (none, steady)) = steps_same s V V' none (same_call rules V s.request s.response V' (all_steady (pairs_of s.request s.response) (λ place ask answer at. steady place (omega arith) ask answer at)) call)
    by (inr (id, is)) = steps_turned s V V' id distinct is (turns_call rules V s.request s.response V' id is call)

distinct_after : (s : StepOf) (V V' : List Thing) → StepsTo s V V' → Distinct V → Distinct V'
distinct_after s V V' t distinct i j a b at there same =
    let x = before i a at in
    let y = before j b there in
    distinct i j x.0 y.0 x.1 y.1 (sym x.2 ∙ same ∙ y.2)
  where
    before : (k : ℕ) (z : Thing) → slice_get V' k ≡ Some z → (o : Thing) × (slice_get V k ≡ Some o) × (z.card.id ≡ o.card.id)
    before k z at =
        let o = some_at V k (let w = at_within V' k z at in let l = t.long in omega (arith, w, l)) in
        let x = t.each k o.0 o.1 in
        let both : Some x.0 ≡ Some z = sym x.1 ∙ at in
        let same : x.0 ≡ z = cc in
        (o.0, o.1, ap (λ (v : Thing). v.card.id) (sym same) ∙ turned_at_id s o.0 x.0 x.2)

-- ---- and steps, one after the other

abbrev pub Turned : List StepOf → Thing → Thing → Type 0
Turned [] o x = x ≡ o
Turned (s ∷ steps) o x = (y : Thing) × TurnsAt s o y × Turned steps y x

pub record StepsAll (steps : List StepOf) (V W : List Thing) : Type 0 where
  pub long : length W ≡ length V
  pub each : (k : ℕ) (o : Thing) → slice_get V k ≡ Some o → (x : Thing) × (slice_get W k ≡ Some x) × Turned steps o x

pub steps_linked : (rules : RulesOf) (V : List Thing) (steps : List StepOf) (W : List Thing) → ((s : StepOf) → Contains steps s → IsLone s) → Distinct V → Linked rules V steps W → StepsAll steps V W
steps_linked rules V [] W lone distinct l = record {
  long = ap length l;
  each = λ k o at. let P : List Thing → Type 0 = λ X. slice_get X k ≡ Some o in (o, subst P (sym l) at, refl);
}
steps_linked rules V (s ∷ steps) W lone distinct l =
    let one = steps_call rules s V l.0 (lone s (has_head s steps)) distinct l.1 in
    let rest = steps_linked rules l.0 steps W (λ z has. lone z (Contains-append_right (s ∷ []) steps z has)) (distinct_after s V l.0 one distinct) l.2 in
    record {
      long = rest.long ∙ one.long;
      each = λ k o at. let y = one.each k o at in let x = rest.each k y.0 y.1 in (x.0, x.1, (y.0, y.2, x.2));
    }

-- no two change the same object
abbrev pub Own : List StepOf → Type 0
Own steps = Pairwise (λ (a b : StepOf). (id : List ℕ) → target a ≡ Some id → target b ≡ Some id → ⊥) steps

-- none of the steps changes the object; or one does, and alone
abbrev Told : List StepOf → Thing → Thing → Type 0
Told steps o x =
    (((s : StepOf) → Contains steps s → target s ≡ Some o.card.id → ⊥) × (x ≡ o))
    ⊎ ((s : StepOf) × Contains steps s × (target s ≡ Some o.card.id) × (x ≡ turn s o))

told_more : (s : StepOf) (steps : List StepOf) (o x y : Thing) → TurnsAt s o y → Own (s ∷ steps) → Told steps y x → Told (s ∷ steps) o x
told_more s steps o x y (inl (apart, e)) own r = rest (let P : Thing → Type 0 = λ z. Told steps z x in subst P e r)
  where
    rest : Told steps o x → Told (s ∷ steps) o x
    rest (inl (none, is)) = inl (
      (λ z has h. elim (one_cases s z steps has) as (λ q. ⊥) [
        | inl same ↦ apart (ap target same ∙ h)
        | inr more ↦ none z more h
      ]),
      is,
    )
    rest (inr (z, has, at, is)) = inr (z, Contains-append_right (s ∷ []) steps z has, at, is)
told_more s steps o x y (inr (at, e)) own r = rest r
  where
    rest : Told steps y x → Told (s ∷ steps) o x
    rest (inl (none, is)) = inr (s, has_head s steps, at, is ∙ e)
    rest (inr (z, has, there, is)) = absurd (own.0 z has o.card.id at (there ∙ ap Some (turned_at_id s o y (inr (at, e)))))

told : (steps : List StepOf) (o x : Thing) → Own steps → Turned steps o x → Told steps o x
told [] o x own is = inl ((λ s has h. omega (arith, has.1)), is)
told (s ∷ steps) o x own t = told_more s steps o x t.0 t.1 own (told steps t.0 x own.1 t.2)

-- the same steps in two orders leave the same
pub agree : (steps others : List StepOf) (o x y : Thing) → Own steps → Own others → ((s : StepOf) → Contains steps s → Contains others s) → ((s : StepOf) → Contains others s → Contains steps s)
    → ((s z : StepOf) (id : List ℕ) → Contains steps s → Contains steps z → target s ≡ Some id → target z ≡ Some id → s ≡ z) → Turned steps o x → Turned others o y → x ≡ y
agree steps others o x y own other_own each back one a b = by (told steps o x own a) (told others o y other_own b)
  where
    by : Told steps o x → Told others o y → x ≡ y
    by (inl (none, is)) (inl (other_none, its)) = is ∙ sym its
    by (inl (none, is)) (inr (s, has, at, its)) = absurd (none s (back s has) at)
    by (inr (s, has, at, is)) (inl (none, its)) = absurd (none s (each s has) at)
    by (inr (s, has, at, is)) (inr (z, have, there, its)) =
        let same : s ≡ z = one s z o.card.id has (back z have) at there in
        is ∙ ap (λ (v : StepOf). turn v o) same ∙ sym its
