-- Locates and their answers are read, and written.
use Rattle.std.proofs.Common.{◌≡◌, ◌+◌, ◌++◌, ◌||◌, nat_lt, ℕ, ℤ, pos, int_lt, Bool, true, false, cond, List, [], ◌∷◌, map, take, length, Option, Some, None, Result, Ok, Err, refl, sym, ap, ◌∙◌, subst, inl, inr, append_assoc}
use Rattle.std.proofs.lemmas.List.{append-nil, map-append}
use Rattle.kmipa_ttlv.specs.Tree.{Tree, Trees, Scalar, structure, scalar, none, more, push, forest}
use Rattle.kmipa_ttlv.specs.Tree
use Rattle.kmipa_ttlv.specs.ViewTree.{view_tree}
use Rattle.kmipa_ttlv.specs.declared.view.View.{View}
use Rattle.kmipa_attrs.specs.Attributes.{attr_number, each, Single, SomeWrong, SaysAttributes}
use Rattle.kmipa_attrs.specs.Fields.{tag_of, every, at, inside, value_in, as_structure, as_text, as_integer, as_enumeration}
use Rattle.kmipa_attrs.specs.Filters.{FilterOf, filter_of, filter_in, SaysFirst, AreTyped, is_other, has_other, is_below_one, maximum_of, SaysFilter, FilterFault}
use Rattle.kmipa_attrs.specs.ObjectTypes.{type_of}
use Rattle.kmipa_attrs.specs.Readings.{Reads, both, map_ok}
use Rattle.kmipa_attrs.specs.Tags.{cryptographic_algorithm, cryptographic_length, maximum_items, object_type_tag, response_payload, state_tag, unique_identifier, attributes_tag}
use Rattle.kmipa_attrs.specs.Names.{HasNoRepeats}
use Rattle.kmipa_attrs.specs.Sets.{NameOf, Attributes}
use Rattle.kmipa_attrs.specs.Writing.{name_tree, with_scalar, enumerated, counted, written_children}
use Rattle.kmipa_attrs.proofs.DistinctLemmas.{distinct-HasNoRepeats}
use Rattle.kmipa_attrs.proofs.WriteLemmas.{written_said, once-same}
use Rattle.kmipa_attrs.specs.declared.fault.AttrFault.{AttrFault}
use Rattle.kmipa_attrs.specs.declared.filter.Filter.{Filter}
use Rattle.kmipa_ttlv.proofs.ViewTreeLemmas.{tag_of-view}
use Rattle.kmipa_attrs.proofs.FilterLemmas.{reads_filter}
use Rattle.kmipa_attrs.proofs.ReadingLemmas.{reads_both, reads_as}
use Rattle.kmipa_msgs.specs.declared.kind.OutsideKind.{OutsideKind}
use Rattle.kmipa_msgs.specs.declared.kind.OutsideKind.TheVariants.{ObjectType, IdentifierForm, Missing, Attribute}
use Rattle.kmipa_msgs.specs.declared.operation.Operation
use Rattle.kmipa_msgs.specs.Kinds.{kind_number}
use Rattle.kmipa_msgs.specs.Messages.{lent, AskedOf, locates, operation_asked, PayloadOf, located}
use Rattle.kmipa_msgs.specs.Locates.{is_unknown, some_unknown, has_unknown, SaysLocate, LocateFault, filter_kind, shape_rows, sought_in, locate_in, SaysLocated, LocatedFault, all_held, located_in, sought_attributes, locate_fields, located_fields, AsksLocate, AnswersLocate, locate_row}
use Rattle.kmipa_msgs.specs.Locates.LocateFault.{in_maximum, in_attributes, in_type_number, in_filter}
use Rattle.kmipa_msgs.specs.Replies.{filled}
use Rattle.kmipa_msgs.specs.Rows.{asked_fields, payload_fields}
use Rattle.kmipa_msgs.specs.Writable.{IsWritableAsked, SaysNothing}
use Rattle.kmipa_msgs.specs.Written.{written_payload}
use Rattle.kmipa_msgs.specs.WrittenFields.{with_field, in_order, field, written_attributes}
use Rattle.kmipa_msgs.proofs.RowLaws.{IsRow}
use Rattle.kmipa_msgs.proofs.TableLemmas.{same_kind, reads_unless_wrong, reads_unless_unlisted}
use Rattle.kmipa_msgs.proofs.ViewLemmas.{seen, right_seen}
use Rattle.kmipa_msgs.proofs.WrittenFieldLemmas.{skipped, optional_written, inside_written, value_written, rows, in_order_rows, with_one_more}
use denote.Bor.{Bor}

-- THE REQUEST

reads_kind : (ts us : Trees) (r : Result FilterOf AttrFault) → Reads attr_number (SaysLocate ts) (FilterFault us) r
    → Reads kind_number (SaysLocate ts) (λ k. (k ≡ Attribute) × ((reported : AttrFault) × FilterFault us reported)) (filter_kind r)
reads_kind ts us (Ok q) h = record { said = h.said; only = h.only; right = λ k w. h.right w.1.0 w.1.1 }
reads_kind ts us (Err reported) h = record { here = (refl, (reported, h.here)); least = λ j lt w. same_kind j Attribute lt w.0 }

reads_sought : (ts : Trees) → Reads kind_number (SaysLocate ts) (λ k. (k ≡ Attribute) × ((reported : AttrFault) × FilterFault (inside attributes_tag ts) reported)) (sought_in ts)
reads_sought ts = reads_kind ts (inside attributes_tag ts) (filter_in (value_in (at as_integer maximum_items ts)) (has_unknown ts) (inside attributes_tag ts)) (reads_filter (value_in (at as_integer maximum_items ts)) (has_unknown ts) (inside attributes_tag ts))

pub reads_locate : (ts : Trees) → Reads kind_number (SaysLocate ts) (LocateFault ts) (locate_in ts)
unfolding locate_in
reads_locate ts =
    reads_as kind_number _ _ (SaysLocate ts) (LocateFault ts) (λ p. p.1) (both kind_number (shape_rows ts) (sought_in ts))
    (λ p s. s.1)
    (λ y t. ((((tt, tt), tt), y), (((tt, tt), tt), t), refl))
    (λ k f. elim f [
      | inl g ↦ elim g [ inl h ↦ elim h [ inl w ↦ in_maximum w.0 w.1 | inr w ↦ in_attributes w.0 w.1 ] | inr w ↦ in_type_number w.0 w.1 ]
      | inr w ↦ in_filter w.1.0 w.0 w.1.1
    ])
    (λ k f. elim f [
      | in_maximum e w ↦ inl (inl (inl (e, w)))
      | in_attributes e w ↦ inl (inl (inr (e, w)))
      | in_type_number e w ↦ inl (inr (e, w))
      | in_filter reported e w ↦ inr (e, (reported, w))
    ])
    (reads_both kind_number _ _ _ _ _ _
    (reads_both kind_number _ _ _ _ _ _
    (reads_both kind_number _ _ _ _ _ _ (reads_unless_wrong (at as_integer maximum_items ts) Missing) (reads_unless_wrong (at as_structure attributes_tag ts) Missing))
    (reads_unless_unlisted (at as_enumeration object_type_tag (inside attributes_tag ts)) type_of ObjectType))
    (reads_sought ts))

-- the rows as the program has them
abbrev pub Shape : Type 0
Shape = (Unit {0} × Unit {0}) × Unit {0}

abbrev pub locate_view : Shape × Filter → FilterOf
locate_view p = filter_of p.1

pub seen_locate : (ts us : Trees) (maximum : Option ℤ) (unknown : Bool) (shape : Result Shape OutsideKind) (filter : Result Filter OutsideKind) (rows : Result (Shape × Filter) OutsideKind)
    → rows ≡ both kind_number shape filter → shape ≡ shape_rows ts → us ≡ inside attributes_tag ts → maximum ≡ value_in (at as_integer maximum_items ts) → unknown ≡ has_unknown ts
    → map_ok filter_of filter ≡ filter_kind (filter_in maximum unknown us)
    → map_ok locate_view rows ≡ locate_in ts
unfolding locate_in
seen_locate ts us maximum unknown shape filter rows e s u m n f =
    seen (λ q. q.1) (λ q. (q.0, filter_of q.1)) rows (both kind_number (shape_rows ts) (sought_in ts))
    (right_seen kind_number filter_of shape filter rows (shape_rows ts) (sought_in ts) e s
    (f ∙ (λ i. filter_kind (filter_in (m i) (n i) (u i)))))

-- the items that no Locate has
pub unknown_none : (ts : Trees) → ts ≡ none → some_unknown ts ≡ false
unfolding some_unknown
unknown_none ts is = ap some_unknown is

unknown_at : (ts us : Trees) (v : View) (b : Bool) → ts ≡ more (view_tree v) us → is_unknown v.tag.number ≡ b → some_unknown ts ≡ (b || some_unknown us)
unfolding some_unknown
unknown_at ts us v b is e = ap some_unknown is ∙ ap (λ (n : ℕ). is_unknown n || some_unknown us) (tag_of-view v.tag.number v.value) ∙ ap (λ (k : Bool). k || some_unknown us) e

pub unknown_found : (ts us : Trees) (v : View) → ts ≡ more (view_tree v) us → is_unknown v.tag.number ≡ true → some_unknown ts ≡ true
unknown_found ts us v is e = unknown_at ts us v true is e

pub unknown_passed : (ts us : Trees) (v : View) → ts ≡ more (view_tree v) us → is_unknown v.tag.number ≡ false → some_unknown ts ≡ some_unknown us
unknown_passed ts us v is e = unknown_at ts us v false is e

-- THE ANSWER

held_reads : {A : Type 0} (k : OutsideKind) (held : List (Option A)) → Reads kind_number (λ xs. held ≡ map Some xs) (λ j. (j ≡ k) × SomeWrong held) (all_held k held)
held_reads {A} k [] = record { said = refl; only = only; right = λ j w. w.1 }
  where
    only : (y : List A) → [] ≡ map Some y → y ≡ []
    only [] e = refl
    only (x ∷ xs) e = cc
held_reads k (None ∷ held) = record { here = (refl, tt); least = λ j lt w. same_kind j k lt w.0 }
held_reads {A} k (Some x ∷ held) = next (all_held k held) (held_reads k held)
  where
    only : (xs y : List A) → ((z : List A) → held ≡ map Some z → z ≡ xs) → Some x ∷ held ≡ map Some y → y ≡ x ∷ xs
    only xs [] h e = cc
    only xs (y ∷ ys) h e = let a : x ≡ y = cc in let b : held ≡ map Some ys = cc in let c : ys ≡ xs = h ys b in cc

    next : (r : Result (List A) OutsideKind) → Reads kind_number (λ xs. held ≡ map Some xs) (λ j. (j ≡ k) × SomeWrong held) r
        → Reads kind_number (λ xs. Some x ∷ held ≡ map Some xs) (λ j. (j ≡ k) × SomeWrong held) (map_ok (λ xs. x ∷ xs) r)
    next (Ok xs) h = record { said = ap (λ (ys : List (Option A)). Some x ∷ ys) h.said; only = λ y e. only xs y h.only e; right = h.right }
    next (Err j) h = record { here = h.here; least = h.least }

pub reads_located : (ts : Trees) → Reads kind_number (SaysLocated ts) (LocatedFault ts) (located_in ts)
unfolding located_in
reads_located ts = held_reads IdentifierForm (each as_text unique_identifier ts)

-- the identifiers so far, and those of what is left
abbrev pub behind : List (List ℕ) → Result (List (List ℕ)) OutsideKind → Result (List (List ℕ)) OutsideKind
behind ids rest = map_ok (λ xs. ids ++ xs) rest

behind_one : (ids : List (List ℕ)) (id : List ℕ) (r : Result (List (List ℕ)) OutsideKind) → behind ids (map_ok (λ xs. id ∷ xs) r) ≡ behind (ids ++ id ∷ []) r
behind_one ids id (Ok xs) = ap (λ (ys : List (List ℕ)). Ok ys) (sym (append_assoc ids (id ∷ []) xs))
behind_one ids id (Err k) = refl

-- the next of those that are left
located_next : (ts us : Trees) (t : Tree) (o : Option (List ℕ)) → every unique_identifier ts ≡ t ∷ every unique_identifier us → o ≡ as_text t
    → located_in ts ≡ all_held IdentifierForm (o ∷ each as_text unique_identifier us)
unfolding located_in each
located_next ts us t o is e =
    ap (λ (vs : List Tree). all_held IdentifierForm (map as_text vs)) is ∙ ap (λ (u : Option (List ℕ)). all_held IdentifierForm (u ∷ map as_text (every unique_identifier us))) (sym e)

held_rest : (ts : Trees) (id : List ℕ) → all_held IdentifierForm (Some id ∷ each as_text unique_identifier ts) ≡ map_ok (λ xs. id ∷ xs) (located_in ts)
unfolding located_in
held_rest ts id = refl

pub located_met : (ids : List (List ℕ)) (ts us : Trees) (t : Tree) (id : List ℕ) → every unique_identifier ts ≡ t ∷ every unique_identifier us → Some id ≡ as_text t
    → behind ids (located_in ts) ≡ behind (ids ++ id ∷ []) (located_in us)
located_met ids ts us t id is e = ap (behind ids) (located_next ts us t (Some id) is e ∙ held_rest us id) ∙ behind_one ids id (located_in us)

pub located_wrong : (ids : List (List ℕ)) (ts us : Trees) (t : Tree) → every unique_identifier ts ≡ t ∷ every unique_identifier us → None ≡ as_text t → behind ids (located_in ts) ≡ Err IdentifierForm
located_wrong ids ts us t is e = ap (behind ids) (located_next ts us t None is e)

pub located_done : (ids : List (List ℕ)) (ts : Trees) → every unique_identifier ts ≡ [] → behind ids (located_in ts) ≡ Ok ids
unfolding located_in each
located_done ids ts is = ap (λ (vs : List Tree). behind ids (all_held IdentifierForm (map as_text vs))) is ∙ ap (λ (xs : List (List ℕ)). Ok xs) (append-nil ids)

-- AS THEY ARE WRITTEN

located_rows : (ids : List (List ℕ)) → each as_text unique_identifier (rows (located_fields ids)) ≡ map Some ids
unfolding each every as_text
located_rows [] = refl
located_rows (id ∷ ids) = ap (λ (held : List (Option (List ℕ))). Some id ∷ held) (located_rows ids)

pub located_written : (ids : List (List ℕ)) → SaysLocated (in_order (located_fields ids)) ids
located_written ids = ap (each as_text unique_identifier) (in_order_rows (located_fields ids)) ∙ located_rows ids

-- one identifier more
pub located_more : (ids : List (Bor (List ℕ))) (i : ℕ) (x : Bor (List ℕ)) (fields next : Trees) → take (i + 1) ids ≡ take i ids ++ x ∷ [] → fields ≡ in_order (located_fields (map lent (take i ids)))
    → next ≡ with_field fields (field Tree.text unique_identifier (Some (lent x))) → next ≡ in_order (located_fields (map lent (take (i + 1) ids)))
located_more ids i x fields next last h is =
    let one : List ℕ → Option Tree = λ id. field Tree.text unique_identifier (Some id) in
    let before = map lent (take i ids) in
    is
    ∙ ap (λ (ts : Trees). with_field ts (one (lent x))) h
    ∙ sym (with_one_more none (located_fields before) (one (lent x)))
    ∙ ap in_order (sym (ap (λ (bs : List (Bor (List ℕ))). located_fields (map lent bs)) last ∙ ap located_fields (map-append lent (take i ids) (x ∷ [])) ∙ map-append one before (lent x ∷ [])))

filled_row : (id : List ℕ) (ids : List (List ℕ)) → filled (Some (written_payload (located (id ∷ ids)))) ≡ Some (written_payload (located (id ∷ ids)))
filled_row id ids =
    let same = in_order_rows (located_fields (id ∷ ids)) in
    subst (λ (ts : Trees). filled (Some (structure response_payload ts)) ≡ Some (structure response_payload ts)) (sym same) refl

-- what is said of one value is said of the first
first_single : {A : Type 0} (held : List (Option A)) (v : Option A) → Single held v → SaysFirst held v
first_single held None e = ([], (e, refl))
first_single held (Some x) e = (x ∷ [], (e, refl))

typed_none : {A : Type 0} (held : List (Option A)) → Single held None → AreTyped held
typed_none [] e w = w
typed_none (o ∷ held) e w = cc

once_single : {A : Type 0} (how : Tree → Option A) (n : ℕ) (ts : Trees) (v : Option A) → Single (each how n ts) v → nat_lt 1 (length (every n ts)) ≡ false
unfolding each
once_single {A} how n ts v s = by (every n ts) v s
  where
    by : (us : List Tree) (v : Option A) → Single (map how us) v → nat_lt 1 (length us) ≡ false
    by [] v s = refl
    by (u ∷ []) v s = refl
    by (u ∷ w ∷ us) None s = cc
    by (u ∷ w ∷ us) (Some x) s = cc

-- no filter of another kind is written
or_left : (a b : Bool) → (a || b) ≡ false → a ≡ false
or_left true b e = e
or_left false b e = refl

or_right : (a b : Bool) → (a || b) ≡ false → b ≡ false
or_right true b e = absurd cc
or_right false b e = e

quiet_push : (ts : Trees) (t : Tree) → has_other ts ≡ false → is_other (tag_of t) ≡ false → has_other (push ts t) ≡ false
unfolding has_other
quiet_push none t h e = ap (λ (b : Bool). b || false) e
quiet_push (more u ts) t h e =
    ap (λ (b : Bool). b || has_other (push ts t)) (or_left (is_other (tag_of u)) (has_other ts) h)
    ∙ quiet_push ts t (or_right (is_other (tag_of u)) (has_other ts) h) e

quiet_names : (names : List NameOf) → has_other (forest name_tree names) ≡ false
unfolding has_other
quiet_names [] = refl
quiet_names (n ∷ names) = quiet_names names

quiet_scalar : (ts : Trees) (n : ℕ) (v : Option Scalar) → has_other ts ≡ false → is_other n ≡ false → has_other (with_scalar ts n v) ≡ false
quiet_scalar ts n None h e = h
quiet_scalar ts n (Some s) h e = quiet_push ts (scalar n s) h e

quiet_written : (q : FilterOf) → has_other (written_children (sought_attributes q)) ≡ false
quiet_written q =
    let a = sought_attributes q in
    let one = with_scalar (forest name_tree a.names) object_type_tag (enumerated a.object_type) in
    let two = with_scalar one cryptographic_algorithm (enumerated a.algorithm) in
    let three = with_scalar two cryptographic_length (counted a.length) in
    let named = quiet_names a.names in
    let typed = quiet_scalar (forest name_tree a.names) object_type_tag (enumerated a.object_type) named refl in
    let ciphered = quiet_scalar one cryptographic_algorithm (enumerated a.algorithm) typed refl in
    let measured = quiet_scalar two cryptographic_length (counted a.length) ciphered refl in
    quiet_scalar three state_tag (enumerated a.state) measured refl

above_one : (m : Option ℤ) → is_below_one (maximum_of m) ≡ false
above_one None = refl
above_one (Some z) = by (int_lt z (pos 1)) refl
  where
    by : (b : Bool) → int_lt z (pos 1) ≡ b → is_below_one (cond b None (Some z)) ≡ false
    by true e = refl
    by false e = e

-- a filter that is judged whole is said by its attributes
filter_written : (us : Trees) (most : Option ℤ) (unknown : Bool) (q : FilterOf) → q.is_loose ≡ false → SaysFilter us most unknown q → SaysFilter (written_children (sought_attributes q)) q.maximum false q
filter_written us most unknown q w h =
    let a = sought_attributes q in
    let ws = written_children a in
    let once : HasNoRepeats q.names = let P : List NameOf → Type 0 = HasNoRepeats in subst P (sym h.names.1.1) (distinct-HasNoRepeats h.names.0) in
    let said : SaysAttributes ws a = let P : Attributes → Type 0 = SaysAttributes ws in subst P (once-same a once) (written_said a) in
    let below : is_below_one q.maximum ≡ false = ap is_below_one h.maximum ∙ above_one most in
    let one = once_single as_enumeration object_type_tag ws q.object_type said.object_type in
    let two = once_single as_enumeration state_tag ws q.state said.state in
    let three = once_single as_enumeration cryptographic_algorithm ws q.algorithm said.algorithm in
    let four = once_single as_integer cryptographic_length ws q.length said.length in
    record {
      names = said.names;
      object_type = first_single _ q.object_type said.object_type;
      state = first_single _ q.state said.state;
      algorithm = first_single _ q.algorithm said.algorithm;
      length = first_single _ q.length said.length;
      mask = typed_none _ said.mask;
      initial = typed_none _ said.initial;
      activation = typed_none _ said.activation;
      deactivation = typed_none _ said.deactivation;
      destroy = typed_none _ said.destroy;
      compromise = typed_none _ said.compromise;
      maximum = sym (ap (λ (b : Bool). cond b None q.maximum) below);
      loose = w ∙ sym (λ i. (false || below i || quiet_written q i) || (one i || two i || three i || four i));
    }

unknown_written : (m : Option ℤ) (ts : Trees) → has_unknown (in_order (field Tree.integer maximum_items m ∷ Some (structure attributes_tag ts) ∷ [])) ≡ false
unfolding some_unknown every
unknown_written None ts = refl
unknown_written (Some z) ts = refl

pub locate_written : (ts : Trees) (q : FilterOf) → q.is_loose ≡ false → SaysLocate ts q → SaysLocate (in_order (locate_fields q)) q
unfolding as_integer
locate_written ts q w h =
    let ws = written_children (sought_attributes q) in
    let fields = locate_fields q in
    let attributes = Some (written_attributes (sought_attributes q)) ∷ [] in
    let given : inside attributes_tag (in_order fields) ≡ ws = inside_written attributes_tag attributes_tag fields ws (skipped Tree.integer maximum_items attributes_tag q.maximum attributes refl) in
    let most : q.maximum ≡ value_in (at as_integer maximum_items (in_order fields)) = value_written _ q.maximum (optional_written as_integer Tree.integer maximum_items q.maximum fields attributes refl refl (λ x. refl) refl) in
    subst (λ (us : Trees). SaysFilter us (value_in (at as_integer maximum_items (in_order fields))) (has_unknown (in_order fields)) q) (sym given)
    (subst (λ (m : Option ℤ). SaysFilter ws m (has_unknown (in_order fields)) q) most
    (subst (λ (b : Bool). SaysFilter ws q.maximum b q) (sym (unknown_written q.maximum ws)) (filter_written _ _ _ q w h)))

-- ITS ROW

asked_from : (ts : Trees) (y : AskedOf) → AsksLocate ts y → (x : FilterOf) × SaysLocate ts x × (y ≡ locates x)
asked_from ts (locates x) s = (x, s, refl)
asked_from ts _ s = absurd s

done_from : (ts : Trees) (y : PayloadOf) → AnswersLocate ts y → (x : List (List ℕ)) × SaysLocated ts x × (y ≡ located x)
done_from ts (located x) s = (x, s, refl)
done_from ts _ s = absurd s

asked_own : (ts : Trees) (a : AskedOf) → AsksLocate ts a → operation_asked a ≡ Operation.TheVariants.Locate
asked_own ts (locates x) s = refl
asked_own ts _ s = absurd s

asked_written : (ts : Trees) (a : AskedOf) → IsWritableAsked a → AsksLocate ts a → AsksLocate (in_order (asked_fields a)) a
asked_written ts (locates x) w s = locate_written ts x w s
asked_written ts _ w s = absurd s

done_written : (ts : Trees) (p : PayloadOf) → AnswersLocate ts p → AnswersLocate (in_order (payload_fields p)) p
done_written ts (located x) s = located_written x
done_written ts _ s = absurd s

done_filled : (ts : Trees) (p : PayloadOf) → (SaysNothing p → ⊥) → AnswersLocate ts p → filled (Some (written_payload p)) ≡ Some (written_payload p)
done_filled ts (located []) bare s = absurd (bare tt)
done_filled ts (located (id ∷ ids)) bare s = filled_row id ids
done_filled ts _ bare s = absurd s

pub is_locate_row : IsRow Operation.TheVariants.Locate locate_row
is_locate_row = record {
  own = asked_own;
  reads_asked = λ ts. reads_as kind_number _ _ (AsksLocate ts) (locate_row.AskedFault ts) locates _ (λ x s. s) (asked_from ts) (λ k f. f) (λ k f. f) (reads_locate ts);
  reads_done = λ ts. reads_as kind_number _ _ (AnswersLocate ts) (locate_row.DoneFault ts) located _ (λ x s. s) (done_from ts) (λ k f. f) (λ k f. f) (reads_located ts);
  asked_written = asked_written;
  done_written = done_written;
  done_filled = done_filled;
}
