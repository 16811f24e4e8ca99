-- Bytes begin with an item, or have a flaw.
use Rattle.std.proofs.Common.{◌≡◌, ◌&&◌, ◌≤◌, ◌<◌, ◌+◌, ◌⊎◌, inl, inr, ℕ, zero, suc, Bool, true, false, not, List, [], ◌∷◌, length, drop, Option, Some, None, refl, sym, subst, ◌∙◌, arith, IsTrue, cond}
use Rattle.std.proofs.lemmas.Bool.{ltb-false, ltb-true, leb-true, eqb-true}
use Rattle.std.proofs.lemmas.List.{length-drop}
use Rattle.std.proofs.lemmas.Str.{IsUtf8-from_is_utf8, is_utf8-from_IsUtf8}
use Rattle.std.specs.Str.{is_utf8}
use Rattle.std.specs.Int.{w32, w64, cast_signed}
use Rattle.byteorder.specs.Endian.{big_number}
use Rattle.kmipa_ttlv.specs.Tree.{Tree, Trees, Scalar, structure, scalar, none, more, integer, long_integer, big_integer, enumeration, boolean, text, byte_string, date_time, interval, date_time_extended}
use Rattle.kmipa_ttlv.specs.Spelling.{tag_at, kind_at, len_at, value_at, extent, Stands, Run, kind_of, Means}
use Rattle.kmipa_ttlv.specs.Flaw.{is_kind, allows, child_flaw, outer_flaw, ScalarFlaw, bad_boolean, bad_text, ValueFlaw, in_scalar, in_child, FirstFlawed, Flaw}
use Rattle.kmipa_ttlv.specs.declared.fault.FaultKind.{FaultKind}
use Rattle.kmipa_ttlv.specs.declared.fault.FaultKind.TheVariants.{UnknownType, BadLength, BadBoolean, BadText, Overrun, TooDeep}
use Rattle.kmipa_ttlv.proofs.FrontLemmas.{length-value_at}
use Rattle.kmipa_ttlv.proofs.FlawLemmas.{spells_front}
use Rattle.kmipa_ttlv.proofs.HeadLemmas.{tests, as_tests}
use Rattle.kmipa_ttlv.specs.Stream.{BeginsOrIsFlawed}

abbrev some : ℕ → FaultKind → Option (ℕ × FaultKind)
some n k = Some (n, k)

and_parts : (a b : Bool) → IsTrue (a && b) → IsTrue a × IsTrue b
and_parts true true h = (refl, refl)
and_parts true false h = absurd cc
and_parts false b h = absurd cc

-- a value without children, or what is wrong with it
abbrev Value : ℕ → ℕ → List ℕ → Type 0
Value place kind value = ((s : Scalar) × (kind_of s ≡ kind) × Means s value) ⊎ ((o : ℕ) × (k : FaultKind) × ScalarFlaw place kind value o k)

truth_or_not : (place : ℕ) (value : List ℕ) (n : ℕ) → big_number 8 value ≡ n → length value ≡ 8 → Value place 6 value
truth_or_not place value zero e long = inl (boolean false, refl, record { long = long; number = e })
truth_or_not place value (suc zero) e long = inl (boolean true, refl, record { long = long; number = e })
truth_or_not place value (suc (suc n)) e long = inr (place + 8, BadBoolean, bad_boolean refl (omega (arith, e)) refl refl)

text_or_not : (place : ℕ) (value : List ℕ) (b : Bool) → is_utf8 value ≡ b → Value place 7 value
text_or_not place value true e = inl (text value, refl, record { same = refl; text = IsUtf8-from_is_utf8 value e })
text_or_not place value false e = inr (place + 8, BadText, bad_text refl (λ u. cc (is_utf8-from_IsUtf8 value u, e)) refl refl)

value_or_not : (place kind : ℕ) (value : List ℕ) → 2 ≤ kind → kind ≤ 11 → IsTrue (allows kind (length value)) → Value place kind value
value_or_not place zero value some most allowed = absurd (omega (arith, some))
value_or_not place (suc zero) value some most allowed = absurd (omega (arith, some))
value_or_not place (suc (suc zero)) value some most allowed = inl (integer (cast_signed w32 (big_number 4 value)), refl, record { long = eqb-true _ _ allowed; number = refl })
value_or_not place (suc (suc (suc zero))) value some most allowed = inl (long_integer (cast_signed w64 (big_number 8 value)), refl, record { long = eqb-true _ _ allowed; number = refl })
value_or_not place (suc (suc (suc (suc zero)))) value some most allowed =
    let both = and_parts _ _ allowed in
    inl (big_integer value, refl, record { same = refl; some = ltb-true _ _ both.0; eights = eqb-true _ _ both.1 })
value_or_not place (suc (suc (suc (suc (suc zero))))) value some most allowed = inl (enumeration (big_number 4 value), refl, record { long = eqb-true _ _ allowed; number = refl })
value_or_not place (suc (suc (suc (suc (suc (suc zero)))))) value some most allowed = truth_or_not place value (big_number 8 value) refl (eqb-true _ _ allowed)
value_or_not place (suc (suc (suc (suc (suc (suc (suc zero))))))) value some most allowed = text_or_not place value (is_utf8 value) refl
value_or_not place (suc (suc (suc (suc (suc (suc (suc (suc zero)))))))) value some most allowed = inl (byte_string value, refl, refl)
value_or_not place (suc (suc (suc (suc (suc (suc (suc (suc (suc zero))))))))) value some most allowed = inl (date_time (cast_signed w64 (big_number 8 value)), refl, record { long = eqb-true _ _ allowed; number = refl })
value_or_not place (suc (suc (suc (suc (suc (suc (suc (suc (suc (suc zero)))))))))) value some most allowed = inl (interval (big_number 4 value), refl, record { long = eqb-true _ _ allowed; number = refl })
value_or_not place (suc (suc (suc (suc (suc (suc (suc (suc (suc (suc (suc zero))))))))))) value some most allowed = inl (date_time_extended (cast_signed w64 (big_number 8 value)), refl, record { long = eqb-true _ _ allowed; number = refl })
value_or_not place (suc (suc (suc (suc (suc (suc (suc (suc (suc (suc (suc (suc n)))))))))))) value some most allowed = absurd (omega (arith, most))

-- ---- children

-- an item stands at this place, or what is wrong with it
abbrev Child : ℕ → ℕ → List ℕ → Type 0
Child left place bytes = ((t : Tree) × Stands left t bytes) ⊎ ((o : ℕ) × (k : FaultKind) × Flaw left place bytes o k)

-- children stand one after the other, or what is wrong with the first that doesn't
abbrev Children : ℕ → ℕ → List ℕ → Type 0
Children left place bytes = ((ts : Trees) × Run left ts bytes []) ⊎ ((o : ℕ) × (k : FaultKind) × FirstFlawed (Flaw left) left place bytes o k)

stands_within : (left : ℕ) (t : Tree) (bytes : List ℕ) → Stands left t bytes → extent bytes ≤ length bytes
stands_within zero t bytes s = absurd s
stands_within (suc left) (structure tag ts) bytes s = s.0.whole
stands_within (suc left) (scalar tag v) bytes s = s.0.whole

-- after a child that stands go the others
behind_child : (left place : ℕ) (t : Tree) (bytes : List ℕ) → Stands left t bytes → Children left (place + extent bytes) (drop (extent bytes) bytes) → Children left place bytes
behind_child left place t bytes s (inl others) = inl (more t others.0, (s, others.1))
behind_child left place t bytes s (inr f) =
    let first = f.2 in
    inr (
      f.0,
      f.1,
      record {
        before = more t first.before;
        rest = first.rest;
        at = first.at;
        run = (s, first.run);
        some = first.some;
        after = omega (arith, first.after, length-drop (extent bytes) bytes, stands_within left t bytes s);
        flaw = first.flaw;
      },
    )

-- the children at this place, by what stands there and what is wrong or right after each that does
children_from : (left place : ℕ) (bytes : List ℕ) → 0 < length bytes → Child left place bytes
    → ((t : Tree) → Stands left t bytes → Children left (place + extent bytes) (drop (extent bytes) bytes)) → Children left place bytes
children_from left place bytes some (inl c) behind = behind_child left place c.0 bytes c.1 (behind c.0 c.1)
children_from left place bytes some (inr f) behind =
    inr (f.0, f.1, record { before = none; rest = bytes; at = place; run = refl; some = some; after = refl; flaw = f.2 })

children_or_not : (left : ℕ) → ((place : ℕ) (bytes : List ℕ) → Child left place bytes) → (fuel place : ℕ) (bytes : List ℕ) → length bytes ≤ fuel → Children left place bytes
children_or_not left child fuel place [] enough = inl (none, refl)
children_or_not left child zero place (b ∷ bytes) enough = absurd (omega (arith, enough))
children_or_not left child (suc fuel) place (b ∷ bytes) enough =
    children_from left place (b ∷ bytes) (omega arith) (child place (b ∷ bytes)) (λ t s.
    children_or_not left child fuel (place + extent (b ∷ bytes)) (drop (extent (b ∷ bytes)) (b ∷ bytes)) (omega (arith, enough, length-drop (extent (b ∷ bytes)) (b ∷ bytes))))

-- ---- an item

-- what the tests of a header that passes them say
pub record Passed (bytes : List ℕ) : Type 0 where
  pub header : 8 ≤ length bytes
  pub kind : IsTrue (is_kind (kind_at bytes))
  pub allowed : IsTrue (allows (kind_at bytes) (len_at bytes))
  pub whole : extent bytes ≤ length bytes

parts_of_child : (a b c d : Bool) (place : ℕ) → cond a (Some (place, Overrun)) (cond b (Some (place + 3, UnknownType)) (cond c (Some (place + 4, BadLength)) (cond d (some (place + 4) Overrun) None))) ≡ None
    → (a ≡ false) × (b ≡ false) × (c ≡ false) × (d ≡ false)
parts_of_child true b c d place h = absurd cc
parts_of_child false true c d place h = absurd cc
parts_of_child false false true d place h = absurd cc
parts_of_child false false false true place h = absurd cc
parts_of_child false false false false place h = (refl, refl, refl, refl)

parts_of_outer : (a b c d e : Bool) (n : ℕ) → tests a b c d e n ≡ None → (a ≡ false) × (b ≡ false) × (c ≡ false) × (d ≡ false) × (e ≡ false)
parts_of_outer true b c d e n h = absurd cc
parts_of_outer false true c d e n h = absurd cc
parts_of_outer false false true d e n h = absurd cc
parts_of_outer false false false true e n h = absurd cc
parts_of_outer false false false false true n h = absurd cc
parts_of_outer false false false false false n h = (refl, refl, refl, refl, refl)

unturned : (b : Bool) → not b ≡ false → b ≡ true
unturned true h = refl
unturned false h = absurd cc

child_passed : (place : ℕ) (bytes : List ℕ) → child_flaw place bytes ≡ None → Passed bytes
unfolding child_flaw
child_passed place bytes e =
    let p = parts_of_child _ _ _ _ place e in
    record { header = ltb-false _ _ p.0; kind = unturned _ p.1; allowed = unturned _ p.2; whole = ltb-false _ _ p.3 }

outer_passed : (bytes : List ℕ) → outer_flaw bytes ≡ None → Passed bytes × (extent bytes ≤ 0x10_0000)
outer_passed bytes e =
    let p = parts_of_outer _ _ _ _ _ (length bytes) (sym (as_tests bytes) ∙ e) in
    (record { header = ltb-false _ _ p.0; kind = unturned _ p.1; allowed = unturned _ p.2; whole = ltb-false _ _ p.4 }, ltb-false _ _ p.3)

kind_some : (bytes : List ℕ) → kind_at bytes ≡ 0 → Passed bytes → ⊥
kind_some bytes e p = omega (arith, e, leb-true 1 (kind_at bytes) (and_parts _ _ p.kind).0)

kind_most : (bytes : List ℕ) → Passed bytes → kind_at bytes ≤ 11
kind_most bytes p = leb-true (kind_at bytes) 11 (and_parts _ _ p.kind).1

-- an item stands, or its value is flawed
abbrev Standing : ℕ → ℕ → List ℕ → Type 0
Standing left place bytes = ((t : Tree) × Stands (suc left) t bytes) ⊎ ((o : ℕ) × (k : FaultKind) × ValueFlaw (Flaw left) left place (kind_at bytes) (value_at bytes) o k)

structure_of : (left place : ℕ) (bytes : List ℕ) → kind_at bytes ≡ 1 → Passed bytes → Children left (place + 8) (value_at bytes) → Standing left place bytes
structure_of left place bytes e p (inl ts) =
    inl (structure (tag_at bytes) ts.0, (record { header = p.header; tag_is = refl; kind_is = e; whole = p.whole }, ts.1))
structure_of left place bytes e p (inr f) = inr (f.0, f.1, in_child e f.2)

scalar_of : (left place : ℕ) (bytes : List ℕ) → Passed bytes → Value place (kind_at bytes) (value_at bytes) → Standing left place bytes
scalar_of left place bytes p (inl s) =
    inl (scalar (tag_at bytes) s.0, (record { header = p.header; tag_is = refl; kind_is = sym s.1; whole = p.whole }, s.2))
scalar_of left place bytes p (inr f) = inr (f.0, f.1, in_scalar f.2)

stands_or_value : (left place : ℕ) (bytes : List ℕ) → child_flaw place bytes ≡ None → Standing left place bytes → Child (suc left) place bytes
stands_or_value left place bytes e (inl s) = inl s
stands_or_value left place bytes e (inr f) = inr (f.0, f.1, rw e f.2)

-- the item after a header that passes its tests, or what is wrong with its value
by_kind : (left place kind : ℕ) (bytes : List ℕ) → kind_at bytes ≡ kind → Passed bytes → ((place : ℕ) (bytes : List ℕ) → Child left place bytes) → Standing left place bytes
by_kind left place zero bytes e p child = absurd (kind_some bytes e p)
by_kind left place (suc zero) bytes e p child =
    structure_of left place bytes e p (children_or_not left child (length (value_at bytes)) (place + 8) (value_at bytes) (omega arith))
by_kind left place (suc (suc n)) bytes e p child =
    scalar_of left place bytes p (value_or_not place (kind_at bytes) (value_at bytes) (omega (arith, e)) (kind_most bytes p)
    (subst (λ (len : ℕ). IsTrue (allows (kind_at bytes) len)) (sym (length-value_at bytes p.whole)) p.allowed))

child_by : (left place : ℕ) (bytes : List ℕ) (m : Option (ℕ × FaultKind)) → child_flaw place bytes ≡ m → ((place : ℕ) (bytes : List ℕ) → Child left place bytes)
    → Child (suc left) place bytes
child_by left place bytes (Some f) e child = inr (f.0, f.1, rw e refl)
child_by left place bytes None e child = stands_or_value left place bytes e (by_kind left place (kind_at bytes) bytes refl (child_passed place bytes e) child)

child_or_not : (left place : ℕ) (bytes : List ℕ) → Child left place bytes
child_or_not zero place bytes = inr (place, TooDeep, (refl, refl))
child_or_not (suc left) place bytes = child_by left place bytes (child_flaw place bytes) refl (child_or_not left)

-- ---- outermost items

outer_value : (bytes : List ℕ) → outer_flaw bytes ≡ None → extent bytes ≤ length bytes → extent bytes ≤ 0x10_0000
    → ((t : Tree) × Stands 16 t bytes) ⊎ ((o : ℕ) × (k : FaultKind) × ValueFlaw (Flaw 15) 15 0 (kind_at bytes) (value_at bytes) o k) → BeginsOrIsFlawed bytes
outer_value bytes e whole small (inl s) =
    inl (s.0, extent bytes, whole, spells_front s.0 (extent bytes) bytes (record { stands = s.1; taken = refl; whole = whole; small = small }))
outer_value bytes e whole small (inr f) = inr (f.0, f.1, rw e f.2)

outer_by : (bytes : List ℕ) (m : Option (ℕ × FaultKind)) → outer_flaw bytes ≡ m → BeginsOrIsFlawed bytes
outer_by bytes (Some f) e = inr (f.0, f.1, rw e refl)
outer_by bytes None e =
    let p = outer_passed bytes e in
    outer_value bytes e p.0.whole p.1 (by_kind 15 0 (kind_at bytes) bytes refl p.0 (child_or_not 15))

pub begins_or_flawed : (bytes : List ℕ) → BeginsOrIsFlawed bytes
begins_or_flawed bytes = outer_by bytes (outer_flaw bytes) refl
