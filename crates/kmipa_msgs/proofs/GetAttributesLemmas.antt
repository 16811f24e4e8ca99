-- Get Attributes and its answers are read.
use Rattle.std.proofs.Common.{◌≡◌, ◌+◌, ◌++◌, ℕ, Bool, true, false, ◌==◌, ◌&&◌, ◌||◌, not, nat_lt, cond, is_some, is_none, filter_map, List, [], ◌∷◌, length, Option, Some, None, Result, refl, sym, ap, ◌∙◌, inl, inr, append_assoc, eq-eqb, take, eqb-true}
use Rattle.std.proofs.lemmas.Bool.{ne_eqb}
use Rattle.std.proofs.lemmas.List.{append-nil, map-append}
use Rattle.kmipa_ttlv.specs.Tree.{Tree, Trees, more, scalar, none}
use Rattle.kmipa_ttlv.specs.ViewTree.{view_tree}
use Rattle.kmipa_ttlv.specs.declared.view.View.{View}
use Rattle.kmipa_attrs.specs.Fields.{tag_of, every, at, inside, as_structure, as_enumeration, first, as_text}
use Rattle.kmipa_attrs.specs.ObjectTypes.{type_of}
use Rattle.kmipa_attrs.specs.Readings.{Reads, both, map_ok}
use Rattle.kmipa_attrs.specs.Sets.{attributes_of}
use Rattle.kmipa_attrs.specs.Tags.{object_type_tag, unique_identifier, attributes_tag, attribute_reference}
use Rattle.kmipa_attrs.specs.declared.attr_set.AttrSet.{AttrSet}
use Rattle.kmipa_attrs.specs.declared.side.Side.TheVariants.{Server}
use Rattle.kmipa_ttlv.proofs.ViewTreeLemmas.{tag_of-view}
use Rattle.kmipa_attrs.proofs.ReadingLemmas.{reads_both, reads_as}
use Rattle.kmipa_msgs.specs.declared.kind.OutsideKind.{OutsideKind}
use Rattle.kmipa_msgs.specs.declared.kind.OutsideKind.TheVariants.{ObjectType}
use Rattle.kmipa_msgs.specs.declared.operation.Operation
use Rattle.kmipa_msgs.specs.Kinds.{kind_number}
use Rattle.kmipa_msgs.specs.Messages.{operation_asked, maybe_lent, GotAttributesOf, AskedOf, PayloadOf, GetAttributesOf, gets_attributes, got_attributes}
use Rattle.kmipa_msgs.specs.Tables.{unless_unlisted}
use Rattle.kmipa_msgs.specs.Identifiers.{identifier_in}
use Rattle.kmipa_msgs.specs.AttributeFields.{given_in}
use Rattle.kmipa_msgs.specs.GetsAttributes.{references, is_selective, as_reference, is_other, some_other, has_others, SaysGetAttributes, GetAttributesFault, get_attributes_at, get_attributes_in, SaysGotAttributes, GotAttributesFault, got_attributes_rows, got_attributes_at, got_attributes_in, reference_fields, get_attributes_fields, got_attributes_fields, AsksGetAttributes, AnswersGetAttributes, get_attributes_row}
use Rattle.kmipa_msgs.specs.GetsAttributes.GotAttributesFault.{in_identifier, in_attributes, in_attribute_type}
use Rattle.kmipa_msgs.proofs.TableLemmas.{reads_unless_unlisted}
use Rattle.kmipa_msgs.proofs.IdentifierLemmas.{reads_identifier}
use Rattle.kmipa_msgs.proofs.AttributeFieldLemmas.{reads_given}
use Rattle.kmipa_msgs.proofs.ViewLemmas.{seen, both_seen, right_seen}
use denote.Bor.{Bor}
use Rattle.kmipa_ttlv.specs.Tree
use Rattle.kmipa_msgs.specs.Replies.{filled}
use Rattle.kmipa_msgs.specs.Written.{written_payload}
use Rattle.kmipa_msgs.specs.WrittenFields.{in_order, field, with_field, with_fields, written_attributes}
use Rattle.kmipa_msgs.specs.Writable.{IsWritableAsked, SaysNothing}
use Rattle.kmipa_msgs.proofs.RowLaws.{IsRow}
use Rattle.kmipa_msgs.proofs.WrittenFieldLemmas.{skipped, optional_written, find, rows, in_order_rows, with_one_more}
use Rattle.kmipa_msgs.specs.Rows.{asked_fields, payload_fields}
use Rattle.kmipa_msgs.proofs.WrittenAttributeLemmas.{given_written}

pub reads_get_attributes : (ts : Trees) → Reads kind_number (SaysGetAttributes ts) (GetAttributesFault ts) (get_attributes_in ts)
unfolding get_attributes_in
reads_get_attributes ts =
    reads_as kind_number _ _ (SaysGetAttributes ts) (GetAttributesFault ts) (get_attributes_at ts) (identifier_in ts)
    (λ id s. record { id = s; references = refl; is_selective = refl; has_others = refl })
    (λ y t. (y.id, t.id, λ i. record { id = y.id; references = t.references i; is_selective = t.is_selective i; has_others = t.has_others i }))
    (λ k f. f) (λ k f. f)
    (reads_identifier ts)

pub reads_got_attributes : (ts : Trees) → Reads kind_number (SaysGotAttributes ts) (GotAttributesFault ts) (got_attributes_in ts)
unfolding got_attributes_in
reads_got_attributes ts =
    reads_as kind_number _ _ (SaysGotAttributes ts) (GotAttributesFault ts) got_attributes_at (got_attributes_rows ts)
    (λ p s. record { id = s.0.1; attributes = s.1 })
    (λ y t. (((tt, y.id), y.attributes), ((tt, t.id), t.attributes), refl))
    (λ k f. elim f [ inl g ↦ elim g [ inl w ↦ in_attribute_type w.0 w.1 | inr w ↦ in_identifier w.0 w.1 ] | inr w ↦ in_attributes w ])
    (λ k f. elim f [ in_identifier e w ↦ inl (inr (e, w)) | in_attributes w ↦ inr w | in_attribute_type e w ↦ inl (inl (e, w)) ])
    (reads_both kind_number _ _ _ _ _ _
    (reads_both kind_number _ _ _ _ _ _ (reads_unless_unlisted (at as_enumeration object_type_tag (inside attributes_tag ts)) type_of ObjectType) (reads_identifier ts))
    (reads_given Server (at as_structure attributes_tag ts)))

-- the rows of the answer as the program has them
abbrev pub Plain : Type 0
Plain = Unit {0} × Option (Bor (List ℕ))

abbrev pub got_attributes_view : Plain × AttrSet → GotAttributesOf
got_attributes_view p = got_attributes_at ((p.0.0, maybe_lent p.0.1), attributes_of p.1)

pub seen_got_attributes : (ts us : Trees) (known : Result (Unit {0}) OutsideKind) (id : Result (Option (Bor (List ℕ))) OutsideKind) (plain : Result Plain OutsideKind) (given : Result AttrSet OutsideKind) (rows : Result (Plain × AttrSet) OutsideKind)
    → rows ≡ both kind_number plain given → plain ≡ both kind_number known id → known ≡ unless_unlisted (at as_enumeration object_type_tag us) type_of ObjectType → us ≡ inside attributes_tag ts
    → map_ok maybe_lent id ≡ identifier_in ts → map_ok attributes_of given ≡ given_in Server (at as_structure attributes_tag ts)
    → map_ok got_attributes_view rows ≡ got_attributes_in ts
unfolding got_attributes_in
seen_got_attributes ts us known id plain given rows e p k u i g =
    let judged = unless_unlisted (at as_enumeration object_type_tag (inside attributes_tag ts)) type_of ObjectType in
    seen got_attributes_at (λ q. ((q.0.0, maybe_lent q.0.1), attributes_of q.1)) rows (got_attributes_rows ts)
    (both_seen kind_number (λ q. (q.0, maybe_lent q.1)) attributes_of plain given rows (both kind_number judged (identifier_in ts)) (given_in Server (at as_structure attributes_tag ts)) e
    (right_seen kind_number maybe_lent known id plain judged (identifier_in ts) p (k ∙ ap (λ vs. unless_unlisted (at as_enumeration object_type_tag vs) type_of ObjectType) u) i)
    g)

-- THE REFERENCES THAT ARE LEFT

abbrev with_reference : Option ℕ → List ℕ → List ℕ
with_reference None tags = tags
with_reference (Some tag) tags = tag ∷ tags

references_next : (ts us : Trees) (t : Tree) (o : Option ℕ) → every attribute_reference ts ≡ t ∷ every attribute_reference us → as_enumeration t ≡ o → references ts ≡ with_reference o (references us)
unfolding references
references_next ts us t None is e = ap (λ (vs : List Tree). filter_map as_enumeration vs) is ∙ rw e refl
references_next ts us t (Some tag) is e = ap (λ (vs : List Tree). filter_map as_enumeration vs) is ∙ rw e refl

pub references_met : (tags : List ℕ) (ts us : Trees) (t : Tree) (tag : ℕ) → every attribute_reference ts ≡ t ∷ every attribute_reference us → Some tag ≡ as_enumeration t
    → tags ++ references ts ≡ (tags ++ tag ∷ []) ++ references us
references_met tags ts us t tag is e = ap (λ ns. tags ++ ns) (references_next ts us t (Some tag) is (sym e)) ∙ sym (append_assoc tags (tag ∷ []) (references us))

pub references_passed : (tags : List ℕ) (ts us : Trees) (t : Tree) → every attribute_reference ts ≡ t ∷ every attribute_reference us → None ≡ as_enumeration t → tags ++ references ts ≡ tags ++ references us
references_passed tags ts us t is e = ap (λ ns. tags ++ ns) (references_next ts us t None is (sym e))

pub references_done : (tags : List ℕ) (ts : Trees) → every attribute_reference ts ≡ [] → tags ++ references ts ≡ tags
unfolding references
references_done tags ts is = ap (λ (vs : List Tree). tags ++ filter_map as_enumeration vs) is ∙ append-nil tags

-- THE OTHER ITEMS

pub reference_at : (v : View) → v.tag.number ≡ attribute_reference → as_enumeration (view_tree v) ≡ as_reference (view_tree v)
reference_at v e =
    let held = as_enumeration (view_tree v) in
    sym (ap (λ (n : ℕ). cond (n == attribute_reference) held None) (tag_of-view v.tag.number v.value) ∙ ap (λ (b : Bool). cond b held None) (eq-eqb v.tag.number attribute_reference e))

pub no_reference : (v : View) → (v.tag.number ≡ attribute_reference → ⊥) → None ≡ as_reference (view_tree v)
no_reference v e =
    let held = as_enumeration (view_tree v) in
    sym (ap (λ (n : ℕ). cond (n == attribute_reference) held None) (tag_of-view v.tag.number v.value) ∙ ap (λ (b : Bool). cond b held None) (ne_eqb v.tag.number attribute_reference e))

-- an identifier is none of them, and any other item is, where it is no reference
pub no_other : (v : View) → v.tag.number ≡ unique_identifier → not (v.tag.number == unique_identifier) ≡ is_other (view_tree v)
no_other v e =
    let bare = is_none (as_reference (view_tree v)) in
    let same = eq-eqb v.tag.number unique_identifier e in
    ap (λ (b : Bool). not b) same
    ∙ sym (ap (λ (n : ℕ). not (n == unique_identifier) && bare) (tag_of-view v.tag.number v.value) ∙ ap (λ (b : Bool). not b && bare) same)

turned : (a b : Bool) → a ≡ not b → b ≡ not a
turned a true e = sym (ap (λ (x : Bool). not x) e)
turned a false e = sym (ap (λ (x : Bool). not x) e)

pub other_bare : (v : View) (b : Bool) → (v.tag.number ≡ unique_identifier → ⊥) → is_some (as_reference (view_tree v)) ≡ not b → b ≡ is_other (view_tree v)
other_bare v b e h =
    let bare = is_none (as_reference (view_tree v)) in
    turned (is_some (as_reference (view_tree v))) b h ∙ sym (ap (λ (n : ℕ). not (n == unique_identifier) && bare) (tag_of-view v.tag.number v.value) ∙ ap (λ (k : Bool). not k && bare) (ne_eqb v.tag.number unique_identifier e))

-- with identifiers that are counted
pub others_counted : (ts : Trees) (n : ℕ) → n ≡ length (every unique_identifier ts) → false ≡ some_other ts → nat_lt 1 n ≡ has_others ts
others_counted ts n e h = ap (nat_lt 1) e ∙ ap (λ (b : Bool). b || nat_lt 1 (length (every unique_identifier ts))) h

pub other_none : (ts : Trees) → ts ≡ none → some_other ts ≡ false
unfolding some_other
other_none ts is = ap some_other is

other_at : (ts us : Trees) (t : Tree) (b : Bool) → ts ≡ more t us → is_other t ≡ b → some_other ts ≡ (b || some_other us)
unfolding some_other
other_at ts us t b is e = ap some_other is ∙ ap (λ (k : Bool). k || some_other us) e

pub other_found : (ts us : Trees) (t : Tree) → ts ≡ more t us → is_other t ≡ true → some_other ts ≡ true
other_found ts us t is e = other_at ts us t true is e

pub other_passed : (ts us : Trees) (t : Tree) → ts ≡ more t us → is_other t ≡ false → some_other ts ≡ some_other us
other_passed ts us t is e = other_at ts us t false is e

-- AS THEY ARE WRITTEN

abbrev names_some : List ℕ → Bool
names_some [] = false
names_some (tag ∷ tags) = true

or_left : (a b : Bool) → (a || b) ≡ false → a ≡ false
or_left true b e = e
or_left false b e = refl

or_right : (a b : Bool) → (a || b) ≡ false → b ≡ false
or_right true b e = absurd cc
or_right false b e = e

-- where no item is another, each reference has its tag
selective_named : (ts : Trees) → some_other ts ≡ false → is_selective ts ≡ names_some (references ts)
unfolding first every references some_other
selective_named none e = refl
selective_named (more t ts) e = by (tag_of t == attribute_reference) refl (selective_named ts (or_right (is_other t) (some_other ts) e))
  where
    rest : List Tree
    rest = every attribute_reference ts

    named : (o : Option ℕ) → as_enumeration t ≡ o → is_none o ≡ false → true ≡ names_some (filter_map as_enumeration (t ∷ rest))
    named None q n = absurd cc
    named (Some tag) q n = rw q refl

    by : (b : Bool) → (tag_of t == attribute_reference) ≡ b → is_some (first attribute_reference ts) ≡ names_some (filter_map as_enumeration rest)
        → is_some (cond b (Some t) (first attribute_reference ts)) ≡ names_some (filter_map as_enumeration (cond b (t ∷ rest) rest))
    by false q h = h
    by true q h =
        let apart : (tag_of t == unique_identifier) ≡ false = ap (λ (n : ℕ). n == unique_identifier) (eqb-true _ _ q) in
        let seen : is_other t ≡ is_none (as_enumeration t) =
        ap (λ (k : Bool). not k && is_none (as_reference t)) apart ∙ ap (λ (k : Bool). is_none (cond k (as_enumeration t) None)) q in
        named (as_enumeration t) refl (sym seen ∙ or_left (is_other t) (some_other ts) e)

references_rows : (tags : List ℕ) → references (rows (reference_fields tags)) ≡ tags
unfolding references every as_enumeration
references_rows [] = refl
references_rows (tag ∷ tags) = ap (λ (us : List ℕ). tag ∷ us) (references_rows tags)

selective_rows : (tags : List ℕ) → is_selective (rows (reference_fields tags)) ≡ names_some tags
unfolding first
selective_rows [] = refl
selective_rows (tag ∷ tags) = refl

other_rows : (tags : List ℕ) → some_other (rows (reference_fields tags)) ≡ false
unfolding some_other as_enumeration
other_rows [] = refl
other_rows (tag ∷ tags) = other_rows tags

identifier_rows : (tags : List ℕ) → every unique_identifier (rows (reference_fields tags)) ≡ []
unfolding every
identifier_rows [] = refl
identifier_rows (tag ∷ tags) = identifier_rows tags

no_identifier : (tags : List ℕ) → find unique_identifier (reference_fields tags) ≡ None
no_identifier [] = refl
no_identifier (tag ∷ tags) = no_identifier tags

-- one reference more
pub reference_more : (base : Trees) (tags : List ℕ) (i x : ℕ) (fields next : Trees) → take (i + 1) tags ≡ take i tags ++ x ∷ [] → fields ≡ with_fields base (reference_fields (take i tags))
    → next ≡ with_field fields (field Tree.enumeration attribute_reference (Some x)) → next ≡ with_fields base (reference_fields (take (i + 1) tags))
reference_more base tags i x fields next last h is =
    let one : ℕ → Option Tree = λ tag. field Tree.enumeration attribute_reference (Some tag) in
    is
    ∙ ap (λ (ts : Trees). with_field ts (one x)) h
    ∙ sym (with_one_more base (reference_fields (take i tags)) (one x))
    ∙ ap (with_fields base) (sym (ap reference_fields last ∙ map-append one (take i tags) (x ∷ [])))

references_written : (id : Option (List ℕ)) (tags : List ℕ) → references (rows (field Tree.text unique_identifier id ∷ reference_fields tags)) ≡ tags
unfolding references every
references_written None tags = references_rows tags
references_written (Some x) tags = references_rows tags

selective_written : (id : Option (List ℕ)) (tags : List ℕ) → is_selective (rows (field Tree.text unique_identifier id ∷ reference_fields tags)) ≡ names_some tags
unfolding first
selective_written None tags = selective_rows tags
selective_written (Some x) tags = selective_rows tags

others_written : (id : Option (List ℕ)) (tags : List ℕ) → has_others (rows (field Tree.text unique_identifier id ∷ reference_fields tags)) ≡ false
unfolding some_other every
others_written None tags = λ i. other_rows tags i || nat_lt 1 (length (identifier_rows tags i))
others_written (Some x) tags = λ i. other_rows tags i || nat_lt 1 (length (scalar unique_identifier (Tree.text x) ∷ identifier_rows tags i))

pub get_attributes_written : (ts : Trees) (g : GetAttributesOf) → g.has_others ≡ false → SaysGetAttributes ts g → SaysGetAttributes (in_order (get_attributes_fields g)) g
unfolding as_text
get_attributes_written ts g w h =
    let alone = or_left (some_other ts) (nat_lt 1 (length (every unique_identifier ts))) (sym h.has_others ∙ w) in
    let named = h.is_selective ∙ selective_named ts alone ∙ ap names_some (sym h.references) in
    let fields = get_attributes_fields g in
    let same = in_order_rows fields in
    record {
      id = optional_written as_text Tree.text unique_identifier g.id fields (reference_fields g.references) refl (no_identifier g.references) (λ x. refl) refl;
      references = sym (ap references same ∙ references_written g.id g.references);
      is_selective = named ∙ sym (ap is_selective same ∙ selective_written g.id g.references);
      has_others = w ∙ sym (ap has_others same ∙ others_written g.id g.references);
    }

pub got_attributes_written : (ts : Trees) (g : GotAttributesOf) → SaysGotAttributes ts g → SaysGotAttributes (in_order (got_attributes_fields g)) g
unfolding as_text
got_attributes_written ts g h =
    let attributes = Some (written_attributes g.attributes) ∷ [] in
    record {
      id = optional_written as_text Tree.text unique_identifier g.id (got_attributes_fields g) attributes refl refl (λ x. refl) refl;
      attributes = given_written (at as_structure attributes_tag ts) (got_attributes_fields g) g.attributes (skipped Tree.text unique_identifier attributes_tag g.id attributes refl) h.attributes;
    }

with_shown : (id : Option (List ℕ)) (g : GotAttributesOf)
    → filled (Some (written_payload (got_attributes (record g { id = id })))) ≡ Some (written_payload (got_attributes (record g { id = id })))
with_shown None g = refl
with_shown (Some x) g = refl

-- ITS ROW

asked_from : (ts : Trees) (y : AskedOf) → AsksGetAttributes ts y → (x : GetAttributesOf) × SaysGetAttributes ts x × (y ≡ gets_attributes x)
asked_from ts (gets_attributes x) s = (x, s, refl)
asked_from ts _ s = absurd s

done_from : (ts : Trees) (y : PayloadOf) → AnswersGetAttributes ts y → (x : GotAttributesOf) × SaysGotAttributes ts x × (y ≡ got_attributes x)
done_from ts (got_attributes x) s = (x, s, refl)
done_from ts _ s = absurd s

asked_written : (ts : Trees) (a : AskedOf) → IsWritableAsked a → AsksGetAttributes ts a → AsksGetAttributes (in_order (asked_fields a)) a
asked_written ts (gets_attributes x) w s = get_attributes_written ts x w s
asked_written ts _ w s = absurd s

done_written : (ts : Trees) (p : PayloadOf) → AnswersGetAttributes ts p → AnswersGetAttributes (in_order (payload_fields p)) p
done_written ts (got_attributes x) s = got_attributes_written ts x s
done_written ts _ s = absurd s

done_filled : (ts : Trees) (p : PayloadOf) → (SaysNothing p → ⊥) → AnswersGetAttributes ts p → filled (Some (written_payload p)) ≡ Some (written_payload p)
done_filled ts (got_attributes x) bare s = with_shown x.id x
done_filled ts _ bare s = absurd s

asked_own : (ts : Trees) (a : AskedOf) → AsksGetAttributes ts a → operation_asked a ≡ Operation.TheVariants.GetAttributes
asked_own ts (gets_attributes x) s = refl
asked_own ts _ s = absurd s

pub is_get_attributes_row : IsRow Operation.TheVariants.GetAttributes get_attributes_row
is_get_attributes_row = record {
  own = asked_own;
  reads_asked = λ ts. reads_as kind_number _ _ (AsksGetAttributes ts) (get_attributes_row.AskedFault ts) gets_attributes _ (λ x s. s) (asked_from ts) (λ k f. f) (λ k f. f) (reads_get_attributes ts);
  reads_done = λ ts. reads_as kind_number _ _ (AnswersGetAttributes ts) (get_attributes_row.DoneFault ts) got_attributes _ (λ x s. s) (done_from ts) (λ k f. f) (λ k f. f) (reads_got_attributes ts);
  asked_written = asked_written;
  done_written = done_written;
  done_filled = done_filled;
}
