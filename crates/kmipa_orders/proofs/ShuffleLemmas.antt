-- Whatever steps do to one inventory, they do to another with the same objects in another order.
use Rattle.std.proofs.Common.{◌≡◌, ◌≢◌, ◌&&◌, ◌⊎◌, inl, inr, ℕ, zero, suc, ℤ, Bool, true, false, List, [], ◌∷◌, ◌++◌, length, Option, Some, None, MatchOption, option_and_then, slice_get, Contains, refl, sym, ap, ◌∙◌, subst, arith}
use Rattle.std.specs.Cmp.{both_ways}
use Rattle.std.specs.List.{list_any}
use Rattle.std.proofs.lemmas.List.Elements.{Contains-append_cases, Contains-append_left, Contains-append_right}
use Rattle.std.proofs.lemmas.List.Folds.{Any-from_list_any, list_any_at}
use Rattle.std.proofs.lemmas.Slice.Eq.{bytes_eq-Decides}
use Rattle.kmipa_attrs.specs.Sets.{Attributes, NameOf}
use Rattle.kmipa_attrs.specs.declared.object_type.ObjectType.{ObjectType}
use Rattle.kmipa_attrs.specs.declared.object_type.ObjectType.TheVariants.{SymmetricKey}
use Rattle.kmipa_attrs.specs.Filters.{FilterOf}
use Rattle.kmipa_object.specs.Inventory.{Card, Thing, cards, place_of, live}
use Rattle.kmipa_object.specs.Lists.{updated}
use Rattle.kmipa_store.proofs.InventoryLemmas.{place_found, place_none}
use Rattle.kmipa_msgs.specs.declared.rules.Cause.{Cause}
use Rattle.kmipa_msgs.specs.declared.rules.Cause.TheVariants.{WrongState, NotFound, TakenName}
use Rattle.kmipa_msgs.specs.declared.response.Status.{Status}
use Rattle.kmipa_msgs.specs.declared.response.Status.TheVariants.{Success, Failed, Undone}
use Rattle.kmipa_msgs.specs.Messages.{RulesOf, AskedOf, creates, registers, locates, gets, gets_attributes, activates, revokes, destroys, idles, does_other, GetAttributesOf, GotOf, GotAttributesOf, RegisteredOf, AskOf, PayloadOf, RequestOf, AnswerOf, ResponseOf}
use Rattle.kmipa_ops.specs.Objects.{card_meant, HasObject, is_named}
use Rattle.kmipa_ops.specs.Row.{SubjectOf, on_object, on_names, on_nothing, row_subject, seen_in}
use Rattle.kmipa_ops.specs.Rows.{asked_row}
use Rattle.kmipa_ops.specs.Founded.{Holds, FoundedOf, unsaid, unlisted, of_nothing, caused}
use Rattle.kmipa_ops.specs.Adding.{AddsObject, name_taken, newborn}
use Rattle.kmipa_ops.specs.Changes.{ChangesObject, change_deed, thing_after}
use Rattle.kmipa_ops.specs.Create.{Creates, create_deed}
use Rattle.kmipa_ops.specs.Get.{Gets, get_deed}
use Rattle.kmipa_ops.specs.GetAttributes.{GetsAttributes, get_attributes_deed}
use Rattle.kmipa_ops.specs.Locate.{Lists, locate_deed, names_only}
use Rattle.kmipa_ops.specs.Register.{Registers, brought, register_deed}
use Rattle.kmipa_ops.specs.declared.change.Change.{Change}
use Rattle.kmipa_ops.specs.declared.change.Change.TheVariants.{Activate, Revoke, Destroy}
use Rattle.kmipa_ops.specs.Does.{Succeeds, Outcome, Does}
use Rattle.kmipa_ops.specs.Chains.{Chain}
use Rattle.kmipa_batch.specs.Calls.{pairs_taken, Leaves, goes_back, goes_on, CallAlong, CallSomeAlong}
use Rattle.kmipa_check.specs.Steps.{StepOf, order_of}
use Rattle.kmipa_check.specs.Runs.{Linked}
use Rattle.kmipa_check.proofs.PlaceLemmas.{contains_at, at_contains, mapped_from, get_at, pushed_at}
use Rattle.kmipa_orders.proofs.SettledLemmas.{Distinct, object_id, updated_here, updated_other}

-- inventories with the same objects, in whatever order these arrived
pub record Shuffled (V W : List Thing) : Type 0 where
  pub each : (o : Thing) → Contains V o → Contains W o
  pub back : (o : Thing) → Contains W o → Contains V o
  pub distinct : Distinct V
  pub other : Distinct W

turned : (V W : List Thing) → Shuffled V W → Shuffled W V
turned V W s = record { each = s.back; back = s.each; distinct = s.other; other = s.distinct }

-- ---- objects by their identifiers

-- a place that is found is that of an object
held : (V : List Thing) (id : List ℕ) (p : ℕ) → place_of id (cards V) ≡ Some p → (o : Thing) × HasObject V id p o
held V id p e =
    let f = place_found (cards V) id p e in
    let x = mapped_from (λ (x : Thing). x.card) V p f.0 f.1 in
    (x.0, record { named = e; stands = x.1 })

-- no object has an identifier that leads nowhere
fresh : (V : List Thing) (id : List ℕ) → place_of id (cards V) ≡ None → (k : ℕ) (o : Thing) → slice_get V k ≡ Some o → id ≡ o.card.id → ⊥
fresh V id none k o at is =
    let clash : true ≡ false = sym ((bytes_eq-Decides id o.card.id).1 is) ∙ place_none (cards V) id none k o.card (get_at (λ (x : Thing). x.card) V k o at) in
    absurd cc

-- an object's identifier leads to its place
found : (W : List Thing) → Distinct W → (j : ℕ) (o : Thing) → slice_get W j ≡ Some o → place_of o.card.id (cards W) ≡ Some j
found W distinct j o at = by (place_of o.card.id (cards W)) refl
  where
    by : (p : Option ℕ) → place_of o.card.id (cards W) ≡ p → place_of o.card.id (cards W) ≡ Some j
    by None e = absurd (fresh W o.card.id e j o at refl)
    by (Some q) e =
        let x = held W o.card.id q e in
        e ∙ ap Some (distinct q j x.0 o x.1.stands at (sym (object_id W o.card.id q x.0 x.1)))

-- whatever object has an identifier, has it in the other inventory too
has_again : (V W : List Thing) → Shuffled V W → (id : List ℕ) (place : ℕ) (object : Thing) → HasObject V id place object → (q : ℕ) × HasObject W id q object
has_again V W s id place object h =
    let j = at_contains W object (s.each object (contains_at V place object h.stands)) in
    let P : List ℕ → Type 0 = λ i. place_of i (cards W) ≡ Some j.0 in
    (j.0, record { named = subst P (sym (object_id V id place object h)) (found W s.other j.0 object j.1); stands = j.1 })

free_again : (V W : List Thing) → Shuffled V W → (id : List ℕ) → place_of id (cards V) ≡ None → place_of id (cards W) ≡ None
free_again V W s id none = by (place_of id (cards W)) refl
  where
    by : (p : Option ℕ) → place_of id (cards W) ≡ p → place_of id (cards W) ≡ None
    by None e = e
    by (Some p) e =
        let o = held W id p e in
        let q = has_again W V (turned V W s) id p o.0 o.1 in
        let clash : None ≡ Some q.0 = sym none ∙ q.1.named in
        absurd cc

card_found : (V : List Thing) (id : List ℕ) (place : ℕ) (object : Thing) → HasObject V id place object → card_meant (cards V) (Some id) ≡ Some object.card
card_found V id place object h = ap (option_and_then (slice_get (cards V))) h.named ∙ get_at (λ (x : Thing). x.card) V place object h.stands

card_again : (V W : List Thing) → Shuffled V W → (about : Option (List ℕ)) → card_meant (cards V) about ≡ card_meant (cards W) about
card_again V W s None = refl
card_again V W s (Some id) = by (place_of id (cards V)) refl
  where
    by : (p : Option ℕ) → place_of id (cards V) ≡ p → card_meant (cards V) (Some id) ≡ card_meant (cards W) (Some id)
    by None e = ap (option_and_then (slice_get (cards V))) e ∙ sym (ap (option_and_then (slice_get (cards W))) (free_again V W s id e))
    by (Some p) e =
        let o = held V id p e in
        let q = has_again V W s id p o.0 o.1 in
        card_found V id p o.0 o.1 ∙ sym (card_found W id q.0 o.0 q.1)

-- ---- cards, whichever

has_card : (V W : List Thing) → Shuffled V W → (c : Card) → Contains (cards V) c → Contains (cards W) c
has_card V W s c has =
    let i = at_contains (cards V) c has in
    let x = mapped_from (λ (x : Thing). x.card) V i.0 c i.1 in
    let j = at_contains W x.0 (s.each x.0 (contains_at V i.0 x.0 x.1)) in
    contains_at (cards W) j.0 c (get_at (λ (x : Thing). x.card) W j.0 x.0 j.1 ∙ ap Some x.2)

any_there : (V W : List Thing) → Shuffled V W → (test : Card → Bool) → list_any test (cards V) ≡ true → list_any test (cards W) ≡ true
any_there V W s test h =
    let a = Any-from_list_any test (cards V) h in
    let c = has_card V W s a.1 (a.0, a.2, a.3) in
    list_any_at test (cards W) c.0 a.1 c.1 (ap test c.2 ∙ a.4)

any_again : (V W : List Thing) → Shuffled V W → (test : Card → Bool) → list_any test (cards V) ≡ list_any test (cards W)
any_again V W s test = both_ways (list_any test (cards V)) (list_any test (cards W)) (any_there V W s test) (any_there W V (turned V W s) test)

taken_again : (V W : List Thing) → Shuffled V W → (rules : RulesOf) (names : List NameOf) → name_taken rules (cards V) names ≡ name_taken rules (cards W) names
taken_again V W s rules names = ap (λ (b : Bool). rules.unique_names && b) (any_again V W s (λ (c : Card). live c && is_named names c))

lists_again : (V W : List Thing) → Shuffled V W → (t : ℤ) (q : FilterOf) (listed : List (List ℕ)) → Lists (cards V) t q listed → Lists (cards W) t q listed
lists_again V W s t q listed l = record {
  right = record {
    once = l.right.once;
    fits = λ id has. let f = l.right.fits id has in (f.0, sym (card_again V W s (Some id)) ∙ f.1, f.2);
    most = l.right.most;
  };
  all = λ full c has must. l.all full c (has_card W V (turned V W s) c has) must;
}

-- ---- reasons

holds_again : (rules : RulesOf) (V W : List Thing) → Shuffled V W → (before : Option (List ℕ)) (t : ℤ) (subject : SubjectOf) (cause : Cause) → Holds rules (cards V) before t subject cause → Holds rules (cards W) before t subject cause
holds_again rules V W s before t (on_object id act true) cause h = tt
holds_again rules V W s before t (on_object id act false) NotFound h = λ c is alive. h c (card_again V W s _ ∙ is) alive
holds_again rules V W s before t (on_object id act false) WrongState h = (h.0, sym (card_again V W s _) ∙ h.1, h.2)
holds_again rules V W s before t (on_object id act false) TakenName h = tt
holds_again rules V W s before t (on_names names) TakenName h = (h.0, has_card V W s h.0 h.1, h.2)
holds_again rules V W s before t (on_names names) NotFound h = tt
holds_again rules V W s before t (on_names names) WrongState h = tt
holds_again rules V W s before t on_nothing cause h = tt

founded_again : (V W : List Thing) → Shuffled V W → (rules : RulesOf) (before : Option (List ℕ)) (t : ℤ) (subject : SubjectOf) (reason : Option ℕ) → FoundedOf rules (cards V) before t subject reason
    → FoundedOf rules (cards W) before t subject reason
founded_again V W s rules before t subject reason (unsaid none) = unsaid none
founded_again V W s rules before t subject reason (unlisted number is none) = unlisted number is none
founded_again V W s rules before t subject reason (of_nothing h) = of_nothing h
founded_again V W s rules before t subject reason (caused row has is h) = caused row has is (holds_again rules V W s before t subject row.cause h)

-- ---- what is left

stays : (V W V' : List Thing) → Shuffled V W → V' ≡ V → Shuffled V' W
stays V W V' s is = let P : List Thing → Type 0 = λ X. Shuffled X W in subst P (sym is) s

distinct_added : (V : List Thing) (x : Thing) → Distinct V → place_of x.card.id (cards V) ≡ None → Distinct (V ++ x ∷ [])
distinct_added V x distinct free i j a b at there same = by (pushed_at V x i a at) (pushed_at V x j b there)
  where
    by : (slice_get V i ≡ Some a) ⊎ ((i ≡ length V) × (x ≡ a)) → (slice_get V j ≡ Some b) ⊎ ((j ≡ length V) × (x ≡ b)) → i ≡ j
    by (inl p) (inl q) = distinct i j a b p q same
    by (inl p) (inr q) = absurd (fresh V x.card.id free i a p (ap (λ (z : Thing). z.card.id) q.1 ∙ sym same))
    by (inr p) (inl q) = absurd (fresh V x.card.id free j b q (ap (λ (z : Thing). z.card.id) p.1 ∙ same))
    by (inr p) (inr q) = p.0 ∙ sym q.0

added_there : (V W : List Thing) → Shuffled V W → (x o : Thing) → Contains (V ++ x ∷ []) o → Contains (W ++ x ∷ []) o
added_there V W s x o has = elim (Contains-append_cases V (x ∷ []) o has) [
  | inl l ↦ Contains-append_left W (x ∷ []) o (s.each o l)
  | inr r ↦ Contains-append_right W (x ∷ []) o r
]

added : (V W : List Thing) → Shuffled V W → (x : Thing) → place_of x.card.id (cards V) ≡ None → Shuffled (V ++ x ∷ []) (W ++ x ∷ [])
added V W s x free = record {
  each = added_there V W s x;
  back = added_there W V (turned V W s) x;
  distinct = distinct_added V x s.distinct free;
  other = distinct_added W x s.other (free_again V W s x.card.id free);
}

-- what stands in a list of which one element is changed, stood there or was changed
updated_from : {X : Type 0} (xs : List X) (place : ℕ) (f : X → X) (k : ℕ) (o : X) → slice_get (updated xs place f) k ≡ Some o
    → (x : X) × (slice_get xs k ≡ Some x) × (((k ≡ place) × (f x ≡ o)) ⊎ ((k ≢ place) × (x ≡ o)))
updated_from [] place f k o at = absurd cc
updated_from (x ∷ xs) zero f zero o at = (x, refl, inl (refl, cc))
updated_from (x ∷ xs) zero f (suc k) o at = (o, at, inr ((λ e. omega (arith, e)), refl))
updated_from (x ∷ xs) (suc place) f zero o at = (x, refl, inr ((λ e. omega (arith, e)), cc))
updated_from {X} (x ∷ xs) (suc place) f (suc k) o at = let r = updated_from xs place f k o at in (r.0, r.1, up r.0 r.2)
  where
    up : (y : X) → ((k ≡ place) × (f y ≡ o)) ⊎ ((k ≢ place) × (y ≡ o)) → ((suc k ≡ suc place) × (f y ≡ o)) ⊎ ((suc k ≢ suc place) × (y ≡ o))
    up y (inl h) = inl (ap suc h.0, h.1)
    up y (inr h) = inr ((λ e. h.0 (omega (arith, e))), h.1)

-- a change leaves identifiers
module _ (f : Thing → Thing) (keeps : (x : Thing) → (f x).card.id ≡ x.card.id) where
  distinct_changed : (V : List Thing) (p : ℕ) → Distinct V → Distinct (updated V p f)
  distinct_changed V p distinct i j a b at there same =
      let x = before i a at in
      let y = before j b there in
      distinct i j x.0 y.0 x.1 y.1 (sym x.2 ∙ same ∙ y.2)
    where
      before : (k : ℕ) (z : Thing) → slice_get (updated V p f) k ≡ Some z → (o : Thing) × (slice_get V k ≡ Some o) × (z.card.id ≡ o.card.id)
      before k z at = let r = updated_from V p f k z at in (r.0, r.1, same_id r.0 r.2)
        where
          same_id : (o : Thing) → ((k ≡ p) × (f o ≡ z)) ⊎ ((k ≢ p) × (o ≡ z)) → z.card.id ≡ o.card.id
          same_id o (inl h) = ap (λ (v : Thing). v.card.id) (sym h.1) ∙ keeps o
          same_id o (inr h) = ap (λ (v : Thing). v.card.id) (sym h.1)

  -- the same object is changed in both, wherever it stands
  changed_there : (V W : List Thing) → Shuffled V W → (p q : ℕ) (object : Thing) → slice_get V p ≡ Some object → slice_get W q ≡ Some object → (o : Thing) → Contains (updated V p f) o → Contains (updated W q f) o
  changed_there V W s p q object here there o has = by k.0 (updated_from V p f k.0 o k.1)
    where
      k : (k : ℕ) × (slice_get (updated V p f) k ≡ Some o)
      k = at_contains (updated V p f) o has

      by : (k : ℕ) → (x : Thing) × (slice_get V k ≡ Some x) × (((k ≡ p) × (f x ≡ o)) ⊎ ((k ≢ p) × (x ≡ o))) → Contains (updated W q f) o
      by k (x, at, inl (e, is)) =
          let P : ℕ → Type 0 = λ i. slice_get V i ≡ Some x in
          let both : Some object ≡ Some x = sym here ∙ subst P e at in
          let same : object ≡ x = cc in
          contains_at (updated W q f) q o (updated_here W q f object there ∙ ap Some (ap f same ∙ is))
      by k (x, at, inr (apart, is)) =
          let j = at_contains W x (s.each x (contains_at V k x at)) in
          contains_at (updated W q f) j.0 o (updated_other W q f j.0 x (λ e. apart (place j.0 j.1 e)) j.1 ∙ ap Some is)
        where
          place : (j : ℕ) → slice_get W j ≡ Some x → j ≡ q → k ≡ p
          place j stands e =
              let P : ℕ → Type 0 = λ i. slice_get W i ≡ Some x in
              let both : Some object ≡ Some x = sym there ∙ subst P e stands in
              let same : object ≡ x = cc in
              s.distinct k p x object at here (ap (λ (v : Thing). v.card.id) (sym same))

  changed : (V W : List Thing) → Shuffled V W → (p q : ℕ) (object : Thing) → slice_get V p ≡ Some object → slice_get W q ≡ Some object → Shuffled (updated V p f) (updated W q f)
  changed V W s p q object here there = record {
    each = changed_there V W s p q object here there;
    back = changed_there W V (turned V W s) q p object there here;
    distinct = distinct_changed V p s.distinct;
    other = distinct_changed W q s.other;
  }

-- ---- an item

-- what is shown leads on from the other inventory
shown_again : {X : Type 0} (o : Option X) (P : X → Type 0) (Q : X → List Thing → Type 0) (S : List Thing → Type 0) → ((x : X) → P x → (W' : List Thing) × Q x W' × S W') → MatchOption o ⊥ P
    → (W' : List Thing) × MatchOption o ⊥ (λ (x : X). Q x W') × S W'
shown_again None P Q S f h = absurd h
shown_again (Some x) P Q S f h = f x h

module _ (rules : RulesOf) (t : ℤ) (V W : List Thing) (s : Shuffled V W) (before : Option (List ℕ)) (V' : List Thing) (after : Option (List ℕ)) where
  adds_again : (kind : ObjectType) (a : Attributes) (bytes : List ℕ) (x : RegisteredOf) → AddsObject rules V t kind a bytes x V' after → (W' : List Thing) × AddsObject rules W t kind a bytes x W' after × Shuffled V' W'
  adds_again kind a bytes x h =
      let new : Thing = record { card = newborn t x.id kind a; bytes = Some bytes } in
      let P : List Thing → Type 0 = λ X. Shuffled X (W ++ new ∷ []) in (
        W ++ new ∷ [],
        record {
          free = free_again V W s x.id h.free;
          names = sym (taken_again V W s rules a.names) ∙ h.names;
          admitted = h.admitted;
          echo = h.echo;
          leaves = refl;
          placeholder = h.placeholder;
        },
        subst P (sym h.leaves) (added V W s new h.free),
      )

  changes_again : (id : Option (List ℕ)) (change : Change) (shown : Option (List ℕ)) → ChangesObject rules V before t id change shown V' after
      → (W' : List Thing) × ChangesObject rules W before t id change shown W' after × Shuffled V' W'
  changes_again id change shown h =
      let q = has_again V W s h.id h.place h.object h.there in
      let f : Thing → Thing = thing_after change t in
      let P : List Thing → Type 0 = λ X. Shuffled X (updated W q.0 f) in (
        updated W q.0 f,
        record {
          id = h.id;
          place = q.0;
          object = h.object;
          about = h.about;
          there = q.1;
          may = h.may;
          echo = h.echo;
          leaves = refl;
          placeholder = h.placeholder;
        },
        subst P (sym h.leaves) (changed f (λ x. refl) V W s h.place q.0 h.object h.there.stands q.1.stands),
      )

  gets_again : (id : Option (List ℕ)) (a : GotOf) → Gets rules V before t id a V' after → (W' : List Thing) × Gets rules W before t id a W' after × Shuffled V' W'
  gets_again id a h =
      let q = has_again V W s h.id h.place h.object h.there in (
        W,
        record {
          id = h.id;
          place = q.0;
          object = h.object;
          about = h.about;
          there = q.1;
          alive = h.alive;
          may = h.may;
          bytes = h.bytes;
          kind = h.kind;
          shape = h.shape;
          algorithm = h.algorithm;
          length = h.length;
          echo = h.echo;
          leaves = refl;
          placeholder = h.placeholder;
        },
        stays V W V' s h.leaves,
      )

  attributes_again : (g : GetAttributesOf) (a : GotAttributesOf) → GetsAttributes rules V before t g a V' after → (W' : List Thing) × GetsAttributes rules W before t g a W' after × Shuffled V' W'
  attributes_again g a h =
      let q = has_again V W s h.id h.place h.object h.there in (
        W,
        record {
          id = h.id;
          place = q.0;
          object = h.object;
          about = h.about;
          there = q.1;
          may = h.may;
          own = h.own;
          required = h.required;
          echo = h.echo;
          leaves = refl;
          placeholder = h.placeholder;
        },
        stays V W V' s h.leaves,
      )

  change_again : (id : Option (List ℕ)) (change : Change) (payload : Option PayloadOf) → MatchOption (seen_in (change_deed id change) payload) ⊥ (λ (shown : Option (List ℕ)). ChangesObject rules V before t id change shown V' after)
      → (W' : List Thing) × MatchOption (seen_in (change_deed id change) payload) ⊥ (λ (shown : Option (List ℕ)). ChangesObject rules W before t id change shown W' after) × Shuffled V' W'
  change_again id change payload h =
      shown_again (seen_in (change_deed id change) payload) (λ (shown : Option (List ℕ)). ChangesObject rules V before t id change shown V' after)
      (λ (shown : Option (List ℕ)) (W' : List Thing). ChangesObject rules W before t id change shown W' after) (Shuffled V') (λ shown x. changes_again id change shown x) h

  succeeds_again : (asked : AskedOf) (payload : Option PayloadOf) → Succeeds rules V before t asked payload V' after → (W' : List Thing) × Succeeds rules W before t asked payload W' after × Shuffled V' W'
  succeeds_again (creates a) payload h =
      shown_again (seen_in (create_deed a) payload) (λ (x : RegisteredOf). Creates rules V t a x V' after) (λ (x : RegisteredOf) (W' : List Thing). Creates rules W t a x W' after) (Shuffled V')
      (λ x c. let r = adds_again SymmetricKey a c.0 x c.1 in (r.0, (c.0, r.1), r.2)) h
  succeeds_again (registers r) payload h =
      shown_again (seen_in (register_deed r) payload) (λ (x : RegisteredOf). Registers rules V t r x V' after) (λ (x : RegisteredOf) (W' : List Thing). Registers rules W t r x W' after) (Shuffled V')
      (λ x c. adds_again r.object_type (brought r) r.block.material x c) h
  succeeds_again (locates q) payload h =
      shown_again (seen_in (locate_deed q) payload) (λ (listed : List (List ℕ)). Lists (cards V) t q listed × (V' ≡ V) × (after ≡ names_only before (Some listed)))
      (λ (listed : List (List ℕ)) (W' : List Thing). Lists (cards W) t q listed × (W' ≡ W) × (after ≡ names_only before (Some listed))) (Shuffled V')
      (λ listed l. (W, (lists_again V W s t q listed l.0, refl, l.2), stays V W V' s l.1)) h
  succeeds_again (gets id) payload h =
      shown_again (seen_in (get_deed id) payload) (λ (a : GotOf). Gets rules V before t id a V' after) (λ (a : GotOf) (W' : List Thing). Gets rules W before t id a W' after) (Shuffled V') (λ a x. gets_again id a x) h
  succeeds_again (gets_attributes g) payload h =
      shown_again (seen_in (get_attributes_deed g) payload) (λ (a : GotAttributesOf). GetsAttributes rules V before t g a V' after)
      (λ (a : GotAttributesOf) (W' : List Thing). GetsAttributes rules W before t g a W' after) (Shuffled V') (λ a x. attributes_again g a x) h
  succeeds_again (activates id) payload h = change_again id Activate payload h
  succeeds_again (revokes r) payload h = change_again r.id (Revoke r.code) payload h
  succeeds_again (destroys id) payload h = change_again id Destroy payload h
  succeeds_again (idles number) None h = (W, (refl, h.1), stays V W V' s h.0)
  succeeds_again (idles number) (Some payload) h = absurd h
  succeeds_again (does_other number) payload h = absurd h

  outcome_again : (status : Status) (asked : AskedOf) (reason : Option ℕ) (payload : Option PayloadOf) → Outcome status rules V before t asked reason payload V' after
      → (W' : List Thing) × Outcome status rules W before t asked reason payload W' after × Shuffled V' W'
  outcome_again Failed asked reason payload o = (
    W,
    record { founded = founded_again V W s rules before t (row_subject (asked_row asked)) reason o.founded; leaves = refl; placeholder = o.placeholder },
    stays V W V' s o.leaves,
  )
  outcome_again Success asked reason payload o = succeeds_again asked payload o
  outcome_again Undone asked reason payload o = succeeds_again asked payload o

  does_again : (ask : AskOf) (answer : AnswerOf) → Does rules V before t ask answer V' after → (W' : List Thing) × Does rules W before t ask answer W' after × Shuffled V' W'
  does_again ask answer d =
      let o = outcome_again answer.status ask.asked answer.reason answer.payload d.outcome in
      (o.0, record { operation = d.operation; batch_id = d.batch_id; outcome = o.1 }, o.2)

-- ---- calls, one after the other

module _ (rules : RulesOf) where
  chain_again : (t : ℤ) (V W : List Thing) → Shuffled V W → (before : Option (List ℕ)) (pairs : List (AskOf × AnswerOf)) (V' : List Thing) (after : Option (List ℕ)) → Chain rules t V before pairs V' after
      → (W' : List Thing) × Chain rules t W before pairs W' after × Shuffled V' W'
  chain_again t V W s before [] V' after c = (W, (refl, c.1), stays V W V' s c.0)
  chain_again t V W s before (pair ∷ pairs) V' after c =
      let d = does_again rules t V W s before c.0 c.1 pair.0 pair.1 c.2 in
      let r = chain_again t c.0 d.0 d.2 c.1 pairs V' after c.3 in
      (r.0, (d.0, c.1, d.1, r.1), r.2)

  call_again : (V W : List Thing) → Shuffled V W → (request : RequestOf) (response : ResponseOf) (order : Option (List ℕ)) (V' : List Thing) → CallSomeAlong rules V request response order V'
      → (W' : List Thing) × CallSomeAlong rules W request response order W' × Shuffled V' W'
  call_again V W s request response order V' c = by c.call
    where
      by : CallAlong rules V request c.full order V' → (W' : List Thing) × CallSomeAlong rules W request response order W' × Shuffled V' W'
      by (inl b) =
          let r = chain_again c.full.stamp V W s None (pairs_taken request c.full order) b.last b.placeholder b.chain in
          let l = left r.0 r.2 b.leaves in (
            l.0,
            record { full = c.full; completes = c.completes; call = inl (record { shaped = b.shaped; last = r.0; placeholder = b.placeholder; chain = r.1; leaves = l.1 }) },
            l.2,
          )
        where
          left : (M : List Thing) → Shuffled b.last M → Leaves request.option c.full.items V b.last V' → (W' : List Thing) × Leaves request.option c.full.items W M W' × Shuffled V' W'
          left M m (goes_back undo failed first e) = (W, goes_back undo failed first refl, stays V W V' s e)
          left M m (goes_on none e) = (M, goes_on none refl, stays b.last M V' m e)
      by (inr (refuses, e)) = (W, record { full = c.full; completes = c.completes; call = inr (refuses, refl) }, stays V W V' s e)

-- what steps lead one inventory to, they lead the other to, shuffled again
pub linked_shuffled : (rules : RulesOf) (V W : List Thing) (steps : List StepOf) (V' : List Thing) → Shuffled V W → Linked rules V steps V' → (W' : List Thing) × Linked rules W steps W' × Shuffled V' W'
linked_shuffled rules V W [] V' s l = (W, refl, stays V W V' s l)
linked_shuffled rules V W (step ∷ steps) V' s l =
    let c = call_again rules V W s step.request step.response (order_of step) l.0 l.1 in
    let r = linked_shuffled rules l.0 c.0 steps V' c.2 l.2 in
    (r.0, (c.0, c.1, r.1), r.2)
