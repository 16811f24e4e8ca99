-- What an item does to an inventory, its part on some objects does to the inventory cut to those objects.
use Rattle.std.specs.Prelude.{int_lt}
use Rattle.std.proofs.Common.{◌≡◌, ◌≢◌, ◌<◌, ◌≤◌, ◌&&◌, ◌||◌, ◌==◌, ◌⊎◌, inl, inr, ℕ, zero, suc, ℤ, pos, negsuc, not, nat_lt, Bool, true, false, cond, List, [], ◌∷◌, length, bytes_eq, slice_get, Option, Some, None, MatchOption, option_map, Contains, refl, sym, ap, ◌∙◌, subst, arith}
use Rattle.std.proofs.lemmas.Slice.Eq.{bytes_eq-Decides}
use Rattle.kmipa_attrs.specs.Sets.{Attributes}
use Rattle.kmipa_attrs.specs.Filters.{FilterOf}
use Rattle.kmipa_attrs.specs.declared.object_type.ObjectType.{ObjectType}
use Rattle.kmipa_attrs.specs.declared.object_type.ObjectType.TheVariants.{SymmetricKey}
use Rattle.kmipa_object.specs.Inventory.{Card, Thing, cards, place_of, live}
use Rattle.kmipa_object.specs.Life.{state}
use Rattle.kmipa_object.specs.declared.allow.Act.{Act}
use Rattle.kmipa_msgs.specs.declared.rules.Cause.{Cause}
use Rattle.kmipa_msgs.specs.declared.rules.Cause.TheVariants.{WrongState, NotFound, TakenName}
use Rattle.kmipa_msgs.specs.declared.response.Status.{Status}
use Rattle.kmipa_msgs.specs.declared.response.Status.TheVariants.{Success, Failed, Undone}
use Rattle.kmipa_msgs.specs.Messages.{RulesOf, AskedOf, creates, registers, locates, gets, gets_attributes, activates, revokes, destroys, idles, does_other, GetAttributesOf, GotOf, GotAttributesOf, RegisteredOf, AskOf, PayloadOf, located, AnswerOf, operation_asked}
use Rattle.kmipa_msgs.specs.Operations.{operation_number}
use Rattle.kmipa_ops.specs.Objects.{meant, card_meant, any_live_named, is_named, Echoes, Agree, is_other}
use Rattle.kmipa_ops.specs.Row.{on_object, row_subject, seen_in}
use Rattle.kmipa_ops.specs.Rows.{asked_row}
use Rattle.kmipa_ops.specs.Founded.{Holds, FoundedOf, unsaid, unlisted, of_nothing, caused}
use Rattle.kmipa_ops.specs.Adding.{AddsObject, newborn, names_new}
use Rattle.kmipa_ops.specs.Changes.{ChangesObject, change_deed, thing_after}
use Rattle.kmipa_ops.specs.Create.{Creates, create_deed}
use Rattle.kmipa_ops.specs.Get.{Gets, get_deed}
use Rattle.kmipa_ops.specs.GetAttributes.{HasRequired, GetsAttributes, get_attributes_deed}
use Rattle.kmipa_ops.specs.Locate.{Lists, May, Must, locate_deed, names_only, is_full, is_over}
use Rattle.kmipa_ops.specs.Register.{Registers, brought, register_deed}
use Rattle.kmipa_ops.specs.declared.change.Change.{Change}
use Rattle.kmipa_ops.specs.declared.change.Change.TheVariants.{Activate, Revoke, Destroy}
use Rattle.kmipa_ops.specs.Completes.{Fills, DoesSome, can_judge}
use Rattle.kmipa_ops.specs.Explains.{is_readable}
use Rattle.kmipa_ops.specs.Does.{Succeeds, Outcome}
use Rattle.kmipa_batch.proofs.ShapeLemmas.{less_or_not}
use Rattle.kmipa_check.proofs.PlaceLemmas.{contains_at, at_contains, apart}
use Rattle.kmipa_parts.specs.Parts.{OwnOf, cut, held_after, about, written, is_change, is_own, LeavesBe, failed, looks, elsewhere, IsIdle, only_own, filter_own, IsPart, stays, lists, idle}
use Rattle.kmipa_parts.proofs.CutLemmas.{stands_in, has_cut, free_cut, card_cut, card_in, none_in_cut, cut_added, cut_other, cut_kept, of_id}

-- ---- what is known

taken_not : (b c d : Bool) → (b && c) ≡ false → (c ≡ false → d ≡ false) → (b && d) ≡ false
taken_not true c d e f = f e
taken_not false c d e f = refl

pub same_some : {X : Type 0} (x y : X) → Some x ≡ Some y → x ≡ y
same_some x y e = cc

no_none : {X : Type 0} (x : X) → None ≡ Some x → ⊥
no_none x e = cc

-- what is required of an answer hangs on no identifier
required_part : (id : List ℕ) (g : GetAttributesOf) (c : Card) (shown : Attributes) → HasRequired g c shown → HasRequired (record g { id = Some id }) c shown
required_part id g c shown h alive others =
    let s = h alive others in
    record {
      names = s.names;
      object_type = s.object_type;
      state = s.state;
      algorithm = s.algorithm;
      length = s.length;
      mask = s.mask;
      initial = s.initial;
      activation = s.activation;
      deactivation = s.deactivation;
      destroy = s.destroy;
      compromise = s.compromise;
    }

-- ---- each operation

module _ (rules : RulesOf) (t : ℤ) (V V' : List Thing) (after : Option (List ℕ)) where
  adds_part : (own : OwnOf) (kind : ObjectType) (a : Attributes) (bytes : List ℕ) (x : RegisteredOf) → own x.id ≡ true → AddsObject rules V t kind a bytes x V' after
      → AddsObject rules (cut own V) t kind a bytes x (cut own V') (Some x.id)
  adds_part own kind a bytes x is h = record {
    free = free_cut own x.id V h.free;
    names = taken_not rules.unique_names (any_live_named (cards V) a.names) (any_live_named (cards (cut own V)) a.names) h.names (none_in_cut own V (λ (c : Card). live c && is_named a.names c));
    admitted = h.admitted;
    echo = h.echo;
    leaves = ap (cut own) h.leaves ∙ cut_added own V (record { card = newborn t x.id kind a; bytes = Some bytes }) is;
    placeholder = refl;
  }

  adds_other : (own : OwnOf) (kind : ObjectType) (a : Attributes) (bytes : List ℕ) (x : RegisteredOf) → AddsObject rules V t kind a bytes x V' after → own x.id ≡ false → cut own V' ≡ cut own V
  adds_other own kind a bytes x h apart = ap (cut own) h.leaves ∙ cut_other own V (record { card = newborn t x.id kind a; bytes = Some bytes }) apart

  module _ (before : Option (List ℕ)) where
    module _ (own : OwnOf) (id : List ℕ) (is : own id ≡ true) (now : Option (List ℕ)) where
      changes_part : (asked : Option (List ℕ)) (change : Change) (shown : Option (List ℕ)) → meant asked before ≡ Some id → ChangesObject rules V before t asked change shown V' after
          → ChangesObject rules (cut own V) now t (Some id) change shown (cut own V') now
      changes_part asked change shown m h =
          let s = stands_in own h.id V h.place h.object (ap own (same_some h.id id (sym h.about ∙ m)) ∙ is) h.there in
          let P : List ℕ → Type 0 = λ i. ChangesObject rules (cut own V) now t (Some i) change shown (cut own V') now in
          subst P (same_some h.id id (sym h.about ∙ m)) (record {
            id = h.id;
            place = s.at;
            object = h.object;
            about = refl;
            there = has_cut own h.id V h.place h.object s;
            may = h.may;
            echo = h.echo;
            leaves = ap (cut own) h.leaves ∙ s.changed (thing_after change t) (λ x. refl);
            placeholder = refl;
          })

      gets_part : (asked : Option (List ℕ)) (a : GotOf) → meant asked before ≡ Some id → Gets rules V before t asked a V' after → Gets rules (cut own V) now t (Some id) a (cut own V') now
      gets_part asked a m h =
          let s = stands_in own h.id V h.place h.object (ap own (same_some h.id id (sym h.about ∙ m)) ∙ is) h.there in
          let P : List ℕ → Type 0 = λ i. Gets rules (cut own V) now t (Some i) a (cut own V') now in
          subst P (same_some h.id id (sym h.about ∙ m)) (record {
            id = h.id;
            place = s.at;
            object = h.object;
            about = refl;
            there = has_cut own h.id V h.place h.object s;
            alive = h.alive;
            may = h.may;
            bytes = h.bytes;
            kind = h.kind;
            shape = h.shape;
            algorithm = h.algorithm;
            length = h.length;
            echo = h.echo;
            leaves = ap (cut own) h.leaves;
            placeholder = refl;
          })

      attributes_part : (g : GetAttributesOf) (a : GotAttributesOf) → meant g.id before ≡ Some id → GetsAttributes rules V before t g a V' after
          → GetsAttributes rules (cut own V) now t (record g { id = Some id }) a (cut own V') now
      attributes_part g a m h =
          let s = stands_in own h.id V h.place h.object (ap own (same_some h.id id (sym h.about ∙ m)) ∙ is) h.there in
          let P : List ℕ → Type 0 = λ i. GetsAttributes rules (cut own V) now t (record g { id = Some i }) a (cut own V') now in
          subst P (same_some h.id id (sym h.about ∙ m)) (record {
            id = h.id;
            place = s.at;
            object = h.object;
            about = refl;
            there = has_cut own h.id V h.place h.object s;
            may = h.may;
            own = h.own;
            required = required_part h.id g h.object.card a.attributes h.required;
            echo = h.echo;
            leaves = ap (cut own) h.leaves;
            placeholder = refl;
          })

    changes_other : (own : OwnOf) (asked : Option (List ℕ)) (change : Change) (shown : Option (List ℕ)) → is_own own (meant asked before) ≡ false → ChangesObject rules V before t asked change shown V' after
        → cut own V' ≡ cut own V
    changes_other own asked change shown apart h =
        ap (cut own) h.leaves
        ∙ cut_kept (thing_after change t) (λ x. refl) own V h.place h.object h.there.stands
        (ap own (sym (of_id V h.id h.place h.object h.there)) ∙ sym (ap (is_own own) h.about) ∙ apart)

-- ---- reasons

holds_part : (rules : RulesOf) (V : List Thing) (own : OwnOf) (id : List ℕ) (is_in : own id ≡ true) (before now : Option (List ℕ)) (t : ℤ) (asked : Option (List ℕ)) (act : Act) (unjudged : Bool) (cause : Cause) → meant asked before ≡ Some id
    → Holds rules (cards V) before t (on_object asked act unjudged) cause → Holds rules (cards (cut own V)) now t (on_object (Some id) act unjudged) cause
holds_part rules V own id is_in before now t asked act true cause m h = tt
holds_part rules V own id is_in before now t asked act false NotFound m h = λ c is alive. h c (ap (card_meant (cards V)) m ∙ card_cut own id V is_in ∙ is) alive
holds_part rules V own id is_in before now t asked act false WrongState m h = (h.0, sym (card_cut own id V is_in) ∙ sym (ap (card_meant (cards V)) m) ∙ h.1, h.2)
holds_part rules V own id is_in before now t asked act false TakenName m h = tt

founded_part : (V : List Thing) (own : OwnOf) (id : List ℕ) (is_in : own id ≡ true) (rules : RulesOf) (before now : Option (List ℕ)) (t : ℤ) (asked : Option (List ℕ)) (act : Act) (unjudged : Bool) (reason : Option ℕ) → meant asked before ≡ Some id
    → FoundedOf rules (cards V) before t (on_object asked act unjudged) reason → FoundedOf rules (cards (cut own V)) now t (on_object (Some id) act unjudged) reason
founded_part V own id is_in rules before now t asked act unjudged reason m (unsaid none) = unsaid none
founded_part V own id is_in rules before now t asked act unjudged reason m (unlisted number is none) = unlisted number is none
founded_part V own id is_in rules before now t asked act unjudged reason m (of_nothing h) = absurd (no_none id (sym h ∙ m))
founded_part V own id is_in rules before now t asked act unjudged reason m (caused row has is h) = caused row has is (holds_part rules V own id is_in before now t asked act unjudged row.cause m h)

-- ---- lists

contains_kept : (own : OwnOf) (x : List ℕ) (xs : List (List ℕ)) → own x ≡ true → Contains xs x → Contains (only_own own xs) x
contains_kept own x xs is has = let i = at_contains xs x has in let r = kept xs i.0 i.1 in contains_at (only_own own xs) r.0 x r.1
  where
    kept : (ys : List (List ℕ)) (k : ℕ) → slice_get ys k ≡ Some x → (j : ℕ) × (slice_get (only_own own ys) j ≡ Some x)
    kept [] k at = let bad : ⊥ = cc in absurd bad
    kept (y ∷ ys) zero at =
        let same : y ≡ x = cc in
        let tests : own y ≡ true = ap own same ∙ is in
        (0, ap (λ b. slice_get (cond b (y ∷ only_own own ys) (only_own own ys)) 0) tests ∙ at)
    kept (y ∷ ys) (suc k) at =
        let r = kept ys k at in
        (elim (own y) as (λ b. (j : ℕ) × (slice_get (cond b (y ∷ only_own own ys) (only_own own ys)) j ≡ Some x)) [
          | true ↦ (suc r.0, r.1)
          | false ↦ (r.0, r.1)
        ])

pub contains_only : (own : OwnOf) (x : List ℕ) (xs : List (List ℕ)) → Contains (only_own own xs) x → (own x ≡ true) × Contains xs x
contains_only own x xs has = let i = at_contains (only_own own xs) x has in let r = from xs i.0 i.1 in (r.1, contains_at xs r.0.0 x r.0.1)
  where
    from : (ys : List (List ℕ)) (k : ℕ) → slice_get (only_own own ys) k ≡ Some x → ((j : ℕ) × (slice_get ys j ≡ Some x)) × (own x ≡ true)
    from [] k at = let bad : ⊥ = cc in absurd bad
    from (y ∷ ys) k at =
        (elim (own y) as (λ b. own y ≡ b → slice_get (cond b (y ∷ only_own own ys) (only_own own ys)) k ≡ Some x → ((j : ℕ) × (slice_get (y ∷ ys) j ≡ Some x)) × (own x ≡ true)) [
          | true ↦ λ e s. first y ys k e s (λ n q. from ys n q)
          | false ↦ λ e s. let r = from ys k s in ((suc r.0.0, r.0.1), r.1)
        ]) refl at
      where
        first : (y : List ℕ) (ys : List (List ℕ)) (n : ℕ) → own y ≡ true → slice_get (y ∷ only_own own ys) n ≡ Some x
            → ((m : ℕ) → slice_get (only_own own ys) m ≡ Some x → ((j : ℕ) × (slice_get ys j ≡ Some x)) × (own x ≡ true)) → ((j : ℕ) × (slice_get (y ∷ ys) j ≡ Some x)) × (own x ≡ true)
        first y ys zero e s rest = let same : y ≡ x = cc in ((0, s), ap own (sym same) ∙ e)
        first y ys (suc n) e s rest = let r = rest n s in ((suc r.0.0, r.0.1), r.1)

fewer : (own : OwnOf) (xs : List (List ℕ)) → length (only_own own xs) ≤ length xs
fewer own [] = omega arith
fewer own (x ∷ xs) =
    let r = fewer own xs in
    (elim (own x) as (λ b. length (cond b (x ∷ only_own own xs) (only_own own xs)) ≤ length (x ∷ xs)) [
      | true ↦ omega (arith, r)
      | false ↦ omega (arith, r)
    ])

less_not : (m n k : ℕ) → k ≤ n → nat_lt m n ≡ false → nat_lt m k ≡ false
less_not m n k le e = by (less_or_not m n) (less_or_not m k)
  where
    by : ((m < n) × (nat_lt m n ≡ true)) ⊎ ((n ≤ m) × (nat_lt m n ≡ false)) → ((m < k) × (nat_lt m k ≡ true)) ⊎ ((k ≤ m) × (nat_lt m k ≡ false)) → nat_lt m k ≡ false
    by (inl a) b = let bad : true ≡ false = sym a.1 ∙ e in absurd cc
    by (inr a) (inl b) = absurd (omega (arith, a.0, b.0, le))
    by (inr a) (inr b) = b.1

over_not : (most : Option ℤ) (n k : ℕ) → k ≤ n → is_over most n ≡ false → is_over most k ≡ false
over_not None n k le e = refl
over_not (Some (pos m)) n k le e = less_not m n k le e
over_not (Some (negsuc m)) n k le e = absurd cc

-- nothing stands twice
once_kept : (own : OwnOf) (xs : List (List ℕ)) → ((i j : ℕ) (x : List ℕ) → slice_get xs i ≡ Some x → slice_get xs j ≡ Some x → i ≡ j)
    → (i j : ℕ) (x : List ℕ) → slice_get (only_own own xs) i ≡ Some x → slice_get (only_own own xs) j ≡ Some x → i ≡ j
once_kept own [] once = λ i j x a b. let bad : ⊥ = cc in absurd bad
once_kept own (y ∷ ys) once = by (once_kept own ys (λ i j x a b. let e : suc i ≡ suc j = once (suc i) (suc j) x a b in omega (arith, e)))
  where
    by : ((i j : ℕ) (x : List ℕ) → slice_get (only_own own ys) i ≡ Some x → slice_get (only_own own ys) j ≡ Some x → i ≡ j)
        → (i j : ℕ) (x : List ℕ) → slice_get (only_own own (y ∷ ys)) i ≡ Some x → slice_get (only_own own (y ∷ ys)) j ≡ Some x → i ≡ j
    by rest i j x =
        (elim (own y) as (λ b. slice_get (cond b (y ∷ only_own own ys) (only_own own ys)) i ≡ Some x → slice_get (cond b (y ∷ only_own own ys) (only_own own ys)) j ≡ Some x → i ≡ j) [
          | true ↦ λ a b. first i j a b
          | false ↦ λ a b. rest i j x a b
        ])
      where
        never : (n : ℕ) → y ≡ x → slice_get (only_own own ys) n ≡ Some x → ⊥
        never n same s =
            let has = contains_only own x ys (contains_at (only_own own ys) n x s) in
            let k = at_contains ys x has.1 in
            let e : 0 ≡ suc k.0 = once 0 (suc k.0) x (ap Some same) k.1 in
            omega (arith, e)

        first : (n m : ℕ) → slice_get (y ∷ only_own own ys) n ≡ Some x → slice_get (y ∷ only_own own ys) m ≡ Some x → n ≡ m
        first zero zero a b = refl
        first zero (suc m) a b = let same : y ≡ x = cc in absurd (never m same b)
        first (suc n) zero a b = let same : y ≡ x = cc in absurd (never n same a)
        first (suc n) (suc m) a b = ap suc (rest n m x a b)

-- the maximum of a part
pos_not_less : (n : ℕ) → int_lt (pos n) (pos n) ≡ false
pos_not_less n = by (less_or_not n n)
  where
    by : ((n < n) × (nat_lt n n ≡ true)) ⊎ ((n ≤ n) × (nat_lt n n ≡ false)) → int_lt (pos n) (pos n) ≡ false
    by (inl a) = absurd (omega (arith, a.0))
    by (inr a) = a.1

most_part : (most : Option ℤ) (full : Bool) (n k : ℕ) → k ≤ n → is_over most n ≡ false → is_over (cond full (Some (pos k)) most) k ≡ false
most_part most true n k le e = pos_not_less k
most_part most false n k le e = over_not most n k le e

-- where its list is not full, neither was that of the item
not_full_part : (most : Option ℤ) (full : Bool) (k : ℕ) → is_full (cond full (Some (pos k)) most) k ≡ false → full ≡ false
not_full_part most false k e = refl
not_full_part most true k e = let bad : not false ≡ false = ap not (sym (pos_not_less k)) ∙ e in absurd cc

lists_part : (own : OwnOf) (V : List Thing) (t : ℤ) (q : FilterOf) (listed : List (List ℕ)) → Lists (cards V) t q listed
    → Lists (cards (cut own V)) t (filter_own q (length listed) (length (only_own own listed))) (only_own own listed)
lists_part own V t q listed l = record {
  right = record {
    once = once_kept own listed l.right.once;
    fits = λ x has.
        let c = contains_only own x listed has in
        let f = l.right.fits x c.1 in
        (f.0, sym (card_cut own x V c.0) ∙ f.1, may_own f.0 f.2);
    most = most_part q.maximum (is_full q.maximum (length listed)) (length listed) (length (only_own own listed)) (fewer own listed) l.right.most;
  };
  all = λ full c has must.
      let r = card_in own V c has in
      contains_kept own c.id listed r.1 (l.all (not_full_part q.maximum (is_full q.maximum (length listed)) (length (only_own own listed)) full) c r.0 (must_own c must));
}
  where
    part : FilterOf
    part = filter_own q (length listed) (length (only_own own listed))

    may_own : (c : Card) → May q (state c.dates t) c → May part (state c.dates t) c
    may_own c m = record { names = m.names; object_type = m.object_type; state = m.state; algorithm = m.algorithm; length = m.length }

    must_own : (c : Card) → Must part (state c.dates t) c → Must q (state c.dates t) c
    must_own c m = record {
      may = record { names = m.may.names; object_type = m.may.object_type; state = m.may.state; algorithm = m.may.algorithm; length = m.may.length };
      alive = m.alive;
      strict = m.strict;
      algorithm = m.algorithm;
      length = m.length;
    }

-- ---- an item

-- what is shown
shown_part : {X : Type 0} (o : Option X) (P : X → Type 0) (Q : X → Option (List ℕ) → Type 0) → ((x : X) → o ≡ Some x → P x → (after : Option (List ℕ)) × Q x after) → MatchOption o ⊥ P
    → (after : Option (List ℕ)) × MatchOption o ⊥ (λ (x : X). Q x after)
shown_part None P Q f h = absurd h
shown_part (Some x) P Q f h = f x refl h

shown_leaves : {X : Type 0} (o : Option X) (P : X → Type 0) (R : Type 0) → ((x : X) → o ≡ Some x → P x → R) → MatchOption o ⊥ P → R
shown_leaves None P R f h = absurd h
shown_leaves (Some x) P R f h = f x refl h

module _ (rules : RulesOf) (t : ℤ) (V : List Thing) (before : Option (List ℕ)) (V' : List Thing) (after : Option (List ℕ)) (own : OwnOf) where
  -- what is done about one of the objects
  change_part : (id : List ℕ) (is : own id ≡ true) (now : Option (List ℕ)) (asked : Option (List ℕ)) (change : Change) (payload : Option PayloadOf) → meant asked before ≡ Some id
      → MatchOption (seen_in (change_deed asked change) payload) ⊥ (λ (shown : Option (List ℕ)). ChangesObject rules V before t asked change shown V' after)
      → (then : Option (List ℕ)) × MatchOption (seen_in (change_deed (Some id) change) payload) ⊥ (λ (shown : Option (List ℕ)). ChangesObject rules (cut own V) now t (Some id) change shown (cut own V') then)
  change_part id is now asked change payload m h =
      shown_part (seen_in (change_deed asked change) payload) (λ (shown : Option (List ℕ)). ChangesObject rules V before t asked change shown V' after)
      (λ (shown : Option (List ℕ)) (then : Option (List ℕ)). ChangesObject rules (cut own V) now t (Some id) change shown (cut own V') then)
      (λ shown e x. (now, changes_part rules t V V' after before own id is now asked change shown m x)) h

  succeeds_part : (id : List ℕ) (is : own id ≡ true) (now : Option (List ℕ)) (asked : AskedOf) (payload : Option PayloadOf) → about before asked Success payload ≡ Some id → Succeeds rules V before t asked payload V' after
      → (then : Option (List ℕ)) × Succeeds rules (cut own V) now t (written id asked) payload (cut own V') then
  succeeds_part id is now (creates a) payload m h =
      shown_part (seen_in (create_deed a) payload) (λ (x : RegisteredOf). Creates rules V t a x V' after) (λ (x : RegisteredOf) (then : Option (List ℕ)). Creates rules (cut own V) t a x (cut own V') then)
      (λ x e c.
      let same : x.id ≡ id = same_some x.id id (sym (ap (option_map (λ (y : RegisteredOf). y.id)) e) ∙ m) in
      (Some x.id, (c.0, adds_part rules t V V' after own SymmetricKey a c.0 x (ap own same ∙ is) c.1))) h
  succeeds_part id is now (registers r) payload m h =
      shown_part (seen_in (register_deed r) payload) (λ (x : RegisteredOf). Registers rules V t r x V' after) (λ (x : RegisteredOf) (then : Option (List ℕ)). Registers rules (cut own V) t r x (cut own V') then)
      (λ x e c.
      let same : x.id ≡ id = same_some x.id id (sym (ap (option_map (λ (y : RegisteredOf). y.id)) e) ∙ m) in
      (Some x.id, adds_part rules t V V' after own r.object_type (brought r) r.block.material x (ap own same ∙ is) c)) h
  succeeds_part id is now (locates q) payload m h = absurd (no_none id m)
  succeeds_part id is now (gets asked) payload m h =
      shown_part (seen_in (get_deed asked) payload) (λ (a : GotOf). Gets rules V before t asked a V' after) (λ (a : GotOf) (then : Option (List ℕ)). Gets rules (cut own V) now t (Some id) a (cut own V') then)
      (λ a e x. (now, gets_part rules t V V' after before own id is now asked a m x)) h
  succeeds_part id is now (gets_attributes g) payload m h =
      shown_part (seen_in (get_attributes_deed g) payload) (λ (a : GotAttributesOf). GetsAttributes rules V before t g a V' after)
      (λ (a : GotAttributesOf) (then : Option (List ℕ)). GetsAttributes rules (cut own V) now t (record g { id = Some id }) a (cut own V') then)
      (λ a e x. (now, attributes_part rules t V V' after before own id is now g a m x)) h
  succeeds_part id is now (activates asked) payload m h = change_part id is now asked Activate payload m h
  succeeds_part id is now (revokes r) payload m h = change_part id is now r.id (Revoke r.code) payload m h
  succeeds_part id is now (destroys asked) payload m h = change_part id is now asked Destroy payload m h
  succeeds_part id is now (idles number) payload m h = absurd (no_none id m)
  succeeds_part id is now (does_other number) payload m h = absurd (no_none id m)

  fails_as : (id : List ℕ) (is : own id ≡ true) (now : Option (List ℕ)) (asked : Option (List ℕ)) (act : Act) (unjudged : Bool) (reason : Option ℕ) → meant asked before ≡ Some id
      → FoundedOf rules (cards V) before t (on_object asked act unjudged) reason → FoundedOf rules (cards (cut own V)) now t (on_object (Some id) act unjudged) reason
  fails_as id is now asked act unjudged reason m f = founded_part V own id is rules before now t asked act unjudged reason m f

  founded_written : (id : List ℕ) (is : own id ≡ true) (now : Option (List ℕ)) (asked : AskedOf) (payload : Option PayloadOf) (reason : Option ℕ) → about before asked Failed payload ≡ Some id
      → FoundedOf rules (cards V) before t (row_subject (asked_row asked)) reason → FoundedOf rules (cards (cut own V)) now t (row_subject (asked_row (written id asked))) reason
  founded_written id is now (creates a) payload reason m f = absurd (no_none id m)
  founded_written id is now (registers r) payload reason m f = absurd (no_none id m)
  founded_written id is now (locates q) payload reason m f = absurd (no_none id m)
  founded_written id is now (gets asked) payload reason m f = founded_part V own id is rules before now t asked _ false reason m f
  founded_written id is now (gets_attributes g) payload reason m f = founded_part V own id is rules before now t g.id _ g.is_selective reason m f
  founded_written id is now (activates asked) payload reason m f = founded_part V own id is rules before now t asked _ false reason m f
  founded_written id is now (revokes r) payload reason m f = founded_part V own id is rules before now t r.id _ false reason m f
  founded_written id is now (destroys asked) payload reason m f = founded_part V own id is rules before now t asked _ false reason m f
  founded_written id is now (idles number) payload reason m f = absurd (no_none id m)
  founded_written id is now (does_other number) payload reason m f = absurd (no_none id m)

  undone_about : (asked : AskedOf) (payload : Option PayloadOf) → about before asked Undone payload ≡ about before asked Success payload
  undone_about (creates a) payload = refl
  undone_about (registers r) payload = refl
  undone_about (locates q) payload = refl
  undone_about (gets asked) payload = refl
  undone_about (gets_attributes g) payload = refl
  undone_about (activates asked) payload = refl
  undone_about (revokes r) payload = refl
  undone_about (destroys asked) payload = refl
  undone_about (idles number) payload = refl
  undone_about (does_other number) payload = refl

  outcome_part : (id : List ℕ) (is : own id ≡ true) (now : Option (List ℕ)) (status : Status) (asked : AskedOf) (reason : Option ℕ) (payload : Option PayloadOf) → about before asked status payload ≡ Some id
      → Outcome status rules V before t asked reason payload V' after → (then : Option (List ℕ)) × Outcome status rules (cut own V) now t (written id asked) reason payload (cut own V') then
  outcome_part id is now Success asked reason payload m o = succeeds_part id is now asked payload m o
  outcome_part id is now Undone asked reason payload m o = succeeds_part id is now asked payload (sym (undone_about asked payload) ∙ m) o
  outcome_part id is now Failed asked reason payload m o = (now, record { founded = founded_written id is now asked payload reason m o.founded; leaves = ap (cut own) o.leaves; placeholder = refl })

  -- what leaves these objects as they are
  looked_on : (asked : AskedOf) (payload : Option PayloadOf) → is_change asked ≡ false → Succeeds rules V before t asked payload V' after → V' ≡ V
  looked_on (creates a) payload e h = let bad : ⊥ = cc in absurd bad
  looked_on (registers r) payload e h = let bad : ⊥ = cc in absurd bad
  looked_on (locates q) payload e h = shown_leaves (seen_in (locate_deed q) payload) (λ (listed : List (List ℕ)). Lists (cards V) t q listed × (V' ≡ V) × (after ≡ names_only before (Some listed))) (V' ≡ V) (λ x s l. l.1) h
  looked_on (gets asked) payload e h = shown_leaves (seen_in (get_deed asked) payload) (λ (a : GotOf). Gets rules V before t asked a V' after) (V' ≡ V) (λ x s l. l.leaves) h
  looked_on (gets_attributes g) payload e h = shown_leaves (seen_in (get_attributes_deed g) payload) (λ (a : GotAttributesOf). GetsAttributes rules V before t g a V' after) (V' ≡ V) (λ x s l. l.leaves) h
  looked_on (activates asked) payload e h = let bad : ⊥ = cc in absurd bad
  looked_on (revokes r) payload e h = let bad : ⊥ = cc in absurd bad
  looked_on (destroys asked) payload e h = let bad : ⊥ = cc in absurd bad
  looked_on (idles number) None e h = h.0
  looked_on (idles number) (Some payload) e h = absurd h
  looked_on (does_other number) payload e h = absurd h

  change_other : (asked : Option (List ℕ)) (change : Change) (payload : Option PayloadOf) → is_own own (meant asked before) ≡ false
      → MatchOption (seen_in (change_deed asked change) payload) ⊥ (λ (shown : Option (List ℕ)). ChangesObject rules V before t asked change shown V' after) → cut own V' ≡ cut own V
  change_other asked change payload apart h =
      shown_leaves (seen_in (change_deed asked change) payload) (λ (shown : Option (List ℕ)). ChangesObject rules V before t asked change shown V' after) (cut own V' ≡ cut own V)
      (λ shown s x. changes_other rules t V V' after before own asked change shown apart x) h

  done_elsewhere : (asked : AskedOf) (payload : Option PayloadOf) → is_own own (about before asked Success payload) ≡ false → Succeeds rules V before t asked payload V' after → cut own V' ≡ cut own V
  done_elsewhere (creates a) payload apart h =
      shown_leaves (seen_in (create_deed a) payload) (λ (x : RegisteredOf). Creates rules V t a x V' after) (cut own V' ≡ cut own V)
      (λ x s c. adds_other rules t V V' after own SymmetricKey a c.0 x c.1 (sym (ap (λ (o : Option RegisteredOf). is_own own (option_map (λ (y : RegisteredOf). y.id) o)) s) ∙ apart)) h
  done_elsewhere (registers r) payload apart h =
      shown_leaves (seen_in (register_deed r) payload) (λ (x : RegisteredOf). Registers rules V t r x V' after) (cut own V' ≡ cut own V)
      (λ x s c. adds_other rules t V V' after own r.object_type (brought r) r.block.material x c (sym (ap (λ (o : Option RegisteredOf). is_own own (option_map (λ (y : RegisteredOf). y.id) o)) s) ∙ apart)) h
  done_elsewhere (locates q) payload apart h = ap (cut own) (looked_on (locates q) payload refl h)
  done_elsewhere (gets asked) payload apart h = ap (cut own) (looked_on (gets asked) payload refl h)
  done_elsewhere (gets_attributes g) payload apart h = ap (cut own) (looked_on (gets_attributes g) payload refl h)
  done_elsewhere (activates asked) payload apart h = change_other asked Activate payload apart h
  done_elsewhere (revokes r) payload apart h = change_other r.id (Revoke r.code) payload apart h
  done_elsewhere (destroys asked) payload apart h = change_other asked Destroy payload apart h
  done_elsewhere (idles number) payload apart h = ap (cut own) (looked_on (idles number) payload refl h)
  done_elsewhere (does_other number) payload apart h = ap (cut own) (looked_on (does_other number) payload refl h)

  outcome_elsewhere : (status : Status) (asked : AskedOf) (reason : Option ℕ) (payload : Option PayloadOf) → is_own own (about before asked status payload) ≡ false
      → Outcome status rules V before t asked reason payload V' after → cut own V' ≡ cut own V
  outcome_elsewhere Success asked reason payload apart o = done_elsewhere asked payload apart o
  outcome_elsewhere Undone asked reason payload apart o = done_elsewhere asked payload (sym (ap (is_own own) (undone_about asked payload)) ∙ apart) o
  outcome_elsewhere Failed asked reason payload apart o = ap (cut own) o.leaves

  outcome_looks : (status : Status) (asked : AskedOf) (reason : Option ℕ) (payload : Option PayloadOf) → is_change asked ≡ false
      → Outcome status rules V before t asked reason payload V' after → cut own V' ≡ cut own V
  outcome_looks Success asked reason payload e o = ap (cut own) (looked_on asked payload e o)
  outcome_looks Undone asked reason payload e o = ap (cut own) (looked_on asked payload e o)
  outcome_looks Failed asked reason payload e o = ap (cut own) o.leaves

  outcome_failed : (status : Status) (asked : AskedOf) (reason : Option ℕ) (payload : Option PayloadOf) → status ≡ Failed
      → Outcome status rules V before t asked reason payload V' after → cut own V' ≡ cut own V
  outcome_failed Success asked reason payload e o = let bad : ⊥ = cc in absurd bad
  outcome_failed Undone asked reason payload e o = let bad : ⊥ = cc in absurd bad
  outcome_failed Failed asked reason payload e o = ap (cut own) o.leaves

-- ---- answers that may be completed

readable_is : (named : Option ℕ) (number : ℕ) (b : Bool) → Echoes named number → (is_other (λ (x y : ℕ). x == y) named number || b) ≡ true → b ≡ true
readable_is None number b e r = r
readable_is (Some x) number b e r = by (x == number) (λ _. nat_same x number e) r
  where
    nat_same : (m n : ℕ) → m ≡ n → (m == n) ≡ true
    nat_same m n is = grind arith

    by : (same : Bool) → (same ≡ same → (x == number) ≡ true) → (not (x == number) || b) ≡ true → b ≡ true
    by same f h = ap (λ c. not c || b) (sym (f refl)) ∙ h

about_full : (before : Option (List ℕ)) (asked : AskedOf) (status : Status) (payload filled : Option PayloadOf) → can_judge status asked payload ≡ true → Fills asked status payload filled
    → about before asked status filled ≡ about before asked status payload
about_full before asked Success payload filled r f = ap (about before asked Success) f
about_full before asked Failed payload filled r f = ap (about before asked Failed) f
about_full before asked Undone (Some p) filled r f = ap (about before asked Undone) f
about_full before (creates a) Undone None filled r f = let bad : ⊥ = cc in absurd bad
about_full before (registers a) Undone None filled r f = let bad : ⊥ = cc in absurd bad
about_full before (locates q) Undone None filled r f = refl
about_full before (gets id) Undone None filled r f = refl
about_full before (gets_attributes g) Undone None filled r f = refl
about_full before (activates id) Undone None filled r f = refl
about_full before (revokes x) Undone None filled r f = refl
about_full before (destroys id) Undone None filled r f = refl
about_full before (idles n) Undone None filled r f = refl
about_full before (does_other n) Undone None filled r f = refl

held_full : (before : Option (List ℕ)) (asked : AskedOf) (status : Status) (payload filled : Option PayloadOf) → can_judge status asked payload ≡ true → Fills asked status payload filled
    → held_after before asked status filled ≡ held_after before asked status payload
held_full before asked Success payload filled r f = ap (held_after before asked Success) f
held_full before asked Failed payload filled r f = refl
held_full before asked Undone (Some p) filled r f = ap (held_after before asked Undone) f
held_full before (creates a) Undone None filled r f = let bad : ⊥ = cc in absurd bad
held_full before (registers a) Undone None filled r f = let bad : ⊥ = cc in absurd bad
held_full before (locates q) Undone None filled r f = let bad : ⊥ = cc in absurd bad
held_full before (gets id) Undone None filled r f = refl
held_full before (gets_attributes g) Undone None filled r f = refl
held_full before (activates id) Undone None filled r f = refl
held_full before (revokes x) Undone None filled r f = refl
held_full before (destroys id) Undone None filled r f = refl
held_full before (idles n) Undone None filled r f = refl
held_full before (does_other n) Undone None filled r f = let bad : ⊥ = cc in absurd bad

-- ---- the placeholder after an item

held_shown : {X : Type 0} (o : Option X) (P : X → Type 0) (after : Option (List ℕ)) (h : Option X → Option (List ℕ)) → ((x : X) → P x → after ≡ h (Some x)) → MatchOption o ⊥ P → after ≡ h o
held_shown None P after h f m = absurd m
held_shown (Some x) P after h f m = f x m

module _ (rules : RulesOf) (t : ℤ) (V : List Thing) (before : Option (List ℕ)) (V' : List Thing) (after : Option (List ℕ)) where
  held_change : (asked : Option (List ℕ)) (change : Change) (payload : Option PayloadOf)
      → MatchOption (seen_in (change_deed asked change) payload) ⊥ (λ (shown : Option (List ℕ)). ChangesObject rules V before t asked change shown V' after) → after ≡ before
  held_change asked change payload h =
      held_shown (seen_in (change_deed asked change) payload) (λ (shown : Option (List ℕ)). ChangesObject rules V before t asked change shown V' after) after (λ o. before) (λ x m. m.placeholder) h

  held_success : (asked : AskedOf) (payload : Option PayloadOf) → Succeeds rules V before t asked payload V' after → after ≡ held_after before asked Success payload
  held_success (creates a) payload h =
      held_shown (seen_in (create_deed a) payload) (λ (x : RegisteredOf). Creates rules V t a x V' after) after (names_new before) (λ x m. m.1.placeholder) h
  held_success (registers r) payload h =
      held_shown (seen_in (register_deed r) payload) (λ (x : RegisteredOf). Registers rules V t r x V' after) after (names_new before) (λ x m. m.placeholder) h
  held_success (locates q) payload h =
      held_shown (seen_in (locate_deed q) payload) (λ (listed : List (List ℕ)). Lists (cards V) t q listed × (V' ≡ V) × (after ≡ names_only before (Some listed))) after (names_only before) (λ x m. m.2) h
  held_success (gets asked) payload h = held_shown (seen_in (get_deed asked) payload) (λ (a : GotOf). Gets rules V before t asked a V' after) after (λ o. before) (λ x m. m.placeholder) h
  held_success (gets_attributes g) payload h =
      held_shown (seen_in (get_attributes_deed g) payload) (λ (a : GotAttributesOf). GetsAttributes rules V before t g a V' after) after (λ o. before) (λ x m. m.placeholder) h
  held_success (activates asked) payload h = held_change asked Activate payload h
  held_success (revokes r) payload h = held_change r.id (Revoke r.code) payload h
  held_success (destroys asked) payload h = held_change asked Destroy payload h
  held_success (idles number) None h = h.1
  held_success (idles number) (Some payload) h = absurd h
  held_success (does_other number) payload h = absurd h

  pub held_outcome : (status : Status) (asked : AskedOf) (reason : Option ℕ) (payload : Option PayloadOf) → Outcome status rules V before t asked reason payload V' after → after ≡ held_after before asked status payload
  held_outcome Success asked reason payload o = held_success asked payload o
  held_outcome Undone asked reason payload o = held_success asked payload o
  held_outcome Failed asked reason payload o = o.placeholder

-- ---- an item, and its part

written_operation : (id : List ℕ) (asked : AskedOf) → operation_asked (written id asked) ≡ operation_asked asked
written_operation id (creates a) = refl
written_operation id (registers r) = refl
written_operation id (locates q) = refl
written_operation id (gets shown) = refl
written_operation id (gets_attributes g) = refl
written_operation id (activates shown) = refl
written_operation id (revokes r) = refl
written_operation id (destroys shown) = refl
written_operation id (idles number) = refl
written_operation id (does_other number) = refl

fills_written : (id : List ℕ) (asked : AskedOf) (status : Status) (payload filled : Option PayloadOf) → Fills asked status payload filled → Fills (written id asked) status payload filled
fills_written id asked Success payload filled f = f
fills_written id asked Failed payload filled f = f
fills_written id asked Undone (Some p) filled f = f
fills_written id (creates a) Undone None filled f = f
fills_written id (registers r) Undone None filled f = f
fills_written id (locates q) Undone None filled f = f
fills_written id (gets shown) Undone None filled f = record { shown = f.shown; is = f.is; sayable = f.sayable }
fills_written id (gets_attributes g) Undone None filled f = record { shown = f.shown; is = f.is; sayable = f.sayable }
fills_written id (activates shown) Undone None filled f = record { shown = f.shown; is = f.is; sayable = f.sayable }
fills_written id (revokes r) Undone None filled f = record { shown = f.shown; is = f.is; sayable = f.sayable }
fills_written id (destroys shown) Undone None filled f = record { shown = f.shown; is = f.is; sayable = f.sayable }
fills_written id (idles number) Undone None filled f = f
fills_written id (does_other number) Undone None filled f = f

-- what is not left out is its own completion
fills_itself : (asked : AskedOf) (status : Status) (p : PayloadOf) → Fills asked status (Some p) (Some p)
fills_itself asked Success p = refl
fills_itself asked Failed p = refl
fills_itself asked Undone p = refl

filled_same : (asked : AskedOf) (status : Status) (p : PayloadOf) (filled : Option PayloadOf) → Fills asked status (Some p) filled → filled ≡ Some p
filled_same asked Success p filled f = f
filled_same asked Failed p filled f = f
filled_same asked Undone p filled f = f

fills_idle : (number : ℕ) (status : Status) → Fills (idles number) status None None
fills_idle number Success = refl
fills_idle number Failed = refl
fills_idle number Undone = refl

outcome_idle : (rules : RulesOf) (t : ℤ) (V W : List Thing) (now : Option (List ℕ)) (status : Status) (number : ℕ) → W ≡ V → Outcome status rules V now t (idles number) None None W now
outcome_idle rules t V W now Success number e = (e, refl)
outcome_idle rules t V W now Undone number e = (e, refl)
outcome_idle rules t V W now Failed number e = record { founded = unsaid refl; leaves = e; placeholder = refl }

outcome_lists : (rules : RulesOf) (t : ℤ) (V : List Thing) (before : Option (List ℕ)) (V' : List Thing) (after : Option (List ℕ)) (own : OwnOf) (now : Option (List ℕ)) (status : Status) (q : FilterOf) (listed : List (List ℕ)) (reason : Option ℕ)
    → status ≢ Failed → Outcome status rules V before t (locates q) reason (Some (located listed)) V' after
    → (then : Option (List ℕ)) × Outcome status rules (cut own V) now t (locates (filter_own q (length listed) (length (only_own own listed)))) reason (Some (located (only_own own listed))) (cut own V') then
outcome_lists rules t V before V' after own now Success q listed reason done o =
    (names_only now (Some (only_own own listed)), (lists_part own V t q listed o.0, ap (cut own) o.1, refl))
outcome_lists rules t V before V' after own now Undone q listed reason done o =
    (names_only now (Some (only_own own listed)), (lists_part own V t q listed o.0, ap (cut own) o.1, refl))
outcome_lists rules t V before V' after own now Failed q listed reason done o = absurd (done refl)

module _ (rules : RulesOf) (t : ℤ) (V : List Thing) (before : Option (List ℕ)) (ask : AskOf) (answer : AnswerOf) (V' : List Thing) (after : Option (List ℕ)) (readable : is_readable ask answer ≡ true) (d : DoesSome rules V before t ask answer V' after) where
  judged : can_judge answer.status ask.asked answer.payload ≡ true
  judged =
      let P : Option ℕ → Type 0 = λ o. Echoes o (operation_number (operation_asked ask.asked)) in
      readable_is answer.operation (operation_number (operation_asked ask.asked)) (can_judge answer.status ask.asked answer.payload) (subst P d.completes.operation d.does.operation) readable

  -- the outcome, at the status that was answered
  outcome : Outcome answer.status rules V before t ask.asked d.full.reason d.full.payload V' after
  outcome = let P : Status → Type 0 = λ s. Outcome s rules V before t ask.asked d.full.reason d.full.payload V' after in subst P d.completes.status d.does.outcome

  about_same : about before ask.asked answer.status d.full.payload ≡ about before ask.asked answer.status answer.payload
  about_same = about_full before ask.asked answer.status answer.payload d.full.payload judged d.completes.payload

  pub held_some : after ≡ held_after before ask.asked answer.status answer.payload
  held_some =
      held_outcome rules t V before V' after answer.status ask.asked d.full.reason d.full.payload outcome
      ∙ held_full before ask.asked answer.status answer.payload d.full.payload judged d.completes.payload

  pub leaves_be : (own : OwnOf) → LeavesBe own before ask answer → cut own V' ≡ cut own V
  leaves_be own (failed e) = outcome_failed rules t V before V' after own answer.status ask.asked d.full.reason d.full.payload e outcome
  leaves_be own (looks e) = outcome_looks rules t V before V' after own answer.status ask.asked d.full.reason d.full.payload e outcome
  leaves_be own (elsewhere apart) =
      outcome_elsewhere rules t V before V' after own answer.status ask.asked d.full.reason d.full.payload (ap (is_own own) about_same ∙ apart) outcome

  stays_some : (own : OwnOf) (id : List ℕ) (is : own id ≡ true) (now : Option (List ℕ)) → about before ask.asked answer.status answer.payload ≡ Some id
      → (then : Option (List ℕ)) × DoesSome rules (cut own V) now t (record ask { asked = written id ask.asked }) answer (cut own V') then
  stays_some own id is now m =
      let o = outcome_part rules t V before V' after own id is now answer.status ask.asked d.full.reason d.full.payload (about_same ∙ m) outcome in
      let P : Status → Type 0 = λ s. Outcome s rules (cut own V) now t (written id ask.asked) d.full.reason d.full.payload (cut own V') o.0 in (
        o.0,
        record {
          full = d.full;
          completes = record {
            operation = d.completes.operation;
            batch_id = d.completes.batch_id;
            status = d.completes.status;
            reason = d.completes.reason;
            payload = fills_written id ask.asked answer.status answer.payload d.full.payload d.completes.payload;
          };
          does = record {
            operation = subst (λ x. Echoes d.full.operation (operation_number x)) (sym (written_operation id ask.asked)) d.does.operation;
            batch_id = d.does.batch_id;
            outcome = subst P (sym d.completes.status) o.1;
          };
        },
      )

  lists_some : (own : OwnOf) (now : Option (List ℕ)) (q : FilterOf) (listed : List (List ℕ)) → ask.asked ≡ locates q → answer.payload ≡ Some (located listed) → answer.status ≢ Failed
      → (then : Option (List ℕ)) × DoesSome rules (cut own V) now t (record ask { asked = locates (filter_own q (length listed) (length (only_own own listed))) })
      (record answer { payload = Some (located (only_own own listed)) }) (cut own V') then
  lists_some own now q listed asks shows done =
      let same : d.full.payload ≡ Some (located listed) =
      (let P : Option PayloadOf → Type 0 = λ p. Fills ask.asked answer.status p d.full.payload in filled_same ask.asked answer.status (located listed) d.full.payload (subst P shows d.completes.payload)) in
      let P : Option PayloadOf → Type 0 = λ p. Outcome answer.status rules V before t ask.asked d.full.reason p V' after in
      let Q : AskedOf → Type 0 = λ a. Outcome answer.status rules V before t a d.full.reason (Some (located listed)) V' after in
      let o = outcome_lists rules t V before V' after own now answer.status q listed d.full.reason done (subst Q asks (subst P same outcome)) in
      let part : FilterOf = filter_own q (length listed) (length (only_own own listed)) in
      let S : Status → Type 0 = λ s. Outcome s rules (cut own V) now t (locates part) d.full.reason (Some (located (only_own own listed))) (cut own V') o.0 in
      let E : AskedOf → Type 0 = λ a. Echoes d.full.operation (operation_number (operation_asked a)) in (
        o.0,
        record {
          full = record d.full { payload = Some (located (only_own own listed)) };
          completes = record {
            operation = d.completes.operation;
            batch_id = d.completes.batch_id;
            status = d.completes.status;
            reason = d.completes.reason;
            payload = fills_itself (locates part) answer.status (located (only_own own listed));
          };
          does = record {
            operation = subst E asks d.does.operation;
            batch_id = d.does.batch_id;
            outcome = subst S (sym d.completes.status) o.1;
          };
        },
      )

idle_some : (rules : RulesOf) (t : ℤ) (V W : List Thing) (now : Option (List ℕ)) (status : Status) (ask : AskOf) (answer : AnswerOf) → W ≡ V → IsIdle status ask answer → DoesSome rules V now t ask answer W now
idle_some rules t V W now status ask answer e i =
    let A : AskedOf → Type 0 = λ a. Outcome answer.status rules V now t a answer.reason answer.payload W now in
    let R : Option ℕ → Type 0 = λ r. Outcome answer.status rules V now t (idles i.number) r answer.payload W now in
    let P : Option PayloadOf → Type 0 = λ p. Outcome answer.status rules V now t (idles i.number) None p W now in
    let F : Option PayloadOf → Type 0 = λ p. Fills (idles i.number) answer.status p p in
    let G : AskedOf → Type 0 = λ a. Fills a answer.status answer.payload answer.payload in
    let E : Option ℕ → Type 0 = λ o. Echoes o (operation_number (operation_asked ask.asked)) in
    let B : Option (List ℕ) → Type 0 = λ b. Agree b ask.batch_id in
    record {
      full = answer;
      completes = record { operation = refl; batch_id = refl; status = refl; reason = refl; payload = subst G (sym i.asks) (subst F (sym i.bare) (fills_idle i.number answer.status)) };
      does = record {
        operation = subst E (sym i.unnamed) tt;
        batch_id = subst B (sym i.batch_id) tt;
        outcome = subst A (sym i.asks) (subst R (sym i.unsaid) (subst P (sym i.bare) (outcome_idle rules t V W now answer.status i.number e)));
      };
    }

-- what an item does, its part does to the cut
pub part_does : (rules : RulesOf) (t : ℤ) (V : List Thing) (before : Option (List ℕ)) (ask : AskOf) (answer : AnswerOf) (V' : List Thing) (after : Option (List ℕ)) → is_readable ask answer ≡ true
    → DoesSome rules V before t ask answer V' after → (own : OwnOf) (now : Option (List ℕ)) (part : AskOf) (shown : AnswerOf) → IsPart own before ask answer part shown
    → (then : Option (List ℕ)) × DoesSome rules (cut own V) now t part shown (cut own V') then
part_does rules t V before ask answer V' after readable d own now part shown (stays id m is_in is same) =
    let P : AskOf → AnswerOf → Type 0 = λ k a. (then : Option (List ℕ)) × DoesSome rules (cut own V) now t k a (cut own V') then in
    subst (λ (a : AnswerOf). P part a) (sym same) (subst (λ (k : AskOf). P k answer) (sym is) (stays_some rules t V before ask answer V' after readable d own id is_in now m))
part_does rules t V before ask answer V' after readable d own now part shown (lists q listed asks shows done is same) =
    let P : AskOf → AnswerOf → Type 0 = λ k a. (then : Option (List ℕ)) × DoesSome rules (cut own V) now t k a (cut own V') then in
    subst (λ (a : AnswerOf). P part a) (sym same)
    (subst (λ (k : AskOf). P k (record answer { payload = Some (located (only_own own listed)) })) (sym is) (lists_some rules t V before ask answer V' after readable d own now q listed asks shows done))
part_does rules t V before ask answer V' after readable d own now part shown (idle be i) =
    (now, idle_some rules t (cut own V) (cut own V') now answer.status part shown (leaves_be rules t V before ask answer V' after readable d own be) i)
