-- The items that bytes spell, read in place, are those that stand there.
use Rattle.std.proofs.Common.{◌⊎◌, inl, inr, ◌≡◌, ◌≤◌, ℕ, zero, suc, Bool, true, false, cond, ◌==◌, List, [], ◌∷◌, length, drop, refl, sym, ap, subst, ◌∙◌, arith, IsTrue}
use Rattle.std.specs.Prelude.{nat_le, ◌&&◌}
use Rattle.std.specs.Prelude.{nat_lt, ◌%◌, ◌≢◌, IsUtf8}
use Rattle.std.specs.Str.{is_utf8}
use Rattle.std.proofs.lemmas.Str.{is_utf8-from_IsUtf8, IsUtf8-from_is_utf8}
use Rattle.byteorder.specs.Endian.{big_number}
use Rattle.std.proofs.lemmas.Bool.{eq-eqb, eqb-true, ne_eqb, leb-true, le-leb, ltb-true}
use Rattle.std.proofs.lemmas.List.{length-drop}
use Rattle.kmipa_ttlv.specs.Tree.{Tree, Trees, Scalar, structure, scalar, none, more, forest, every, tag_of, byte_string}
use Rattle.kmipa_ttlv.specs.Spelling.{tag_at, kind_at, len_at, value_at, extent, Stands, Run, kind_of, Means, Framed, Holds, Joined, number_of_bool}
use Rattle.kmipa_ttlv.specs.Items.{AreItems}
use Rattle.kmipa_ttlv.specs.Flaw.{is_kind, allows}
use Rattle.kmipa_ttlv.specs.Spelled.{scalar_at, IsScalarAt, held_at, item_at, is_whole, items_within, items_at}
use Rattle.kmipa_ttlv.specs.Head.{number_of_kind}
use Rattle.kmipa_ttlv.specs.declared.head.Kind.{Kind}
use Rattle.kmipa_ttlv.specs.declared.head.Kind
use Rattle.kmipa_ttlv.specs.declared.head.Kind.TheVariants.{Structure, Integer, LongInteger, BigInteger, Enumeration, Boolean, Text, Bytes, DateTime, Interval, DateTimeExtended}
use Rattle.kmipa_ttlv.proofs.ViewTreeLemmas.{every_none, every_more}
use Rattle.kmipa_ttlv.proofs.StandsLemmas.{stands_of}
use Rattle.kmipa_ttlv.proofs.FrontLemmas.{joined_lem, length-value_at}
use Rattle.kmipa_ttlv.proofs.ExactLemmas.{scalar_is, two_le_kind}
use Rattle.kmipa_ttlv.proofs.FlawLemmas.{known_scalar, allowed_scalar}

both_true : (a b : Bool) → a && b ≡ true → (a ≡ true) × (b ≡ true)
both_true true true e = (refl, refl)
both_true false b e = absurd cc
both_true true false e = absurd cc

both_hold : (a b : Bool) → a ≡ true → b ≡ true → a && b ≡ true
both_hold a b p q = rw (p, q) refl

pub whole_fits : (bytes : List ℕ) → is_whole bytes ≡ true → (8 ≤ length bytes) × (extent bytes ≤ length bytes)
unfolding is_whole
whole_fits bytes e =
    let t = both_true (nat_le 8 (length bytes)) (nat_le (extent bytes) (length bytes)) e in
    (leb-true 8 (length bytes) t.0, leb-true (extent bytes) (length bytes) t.1)

-- a kind with its lengths holds its value; without them, a byte string
false_is_true : false ≡ true → ⊥
false_is_true e = absurd cc

held_is : (kind : ℕ) (value : List ℕ) → is_kind kind ≡ true → allows kind (length value) ≡ true → held_at kind value ≡ scalar_at kind value
unfolding held_at
held_is kind value p q = ap (λ (b : Bool). cond b (scalar_at kind value) (byte_string value)) (both_hold (is_kind kind) (allows kind (length value)) p q)

not_both : (a b : Bool) → (a ≡ false) ⊎ (b ≡ false) → a && b ≡ false
not_both false b h = refl
not_both true b (inl e) = absurd cc
not_both true b (inr e) = e

held_not : (kind : ℕ) (value : List ℕ) → (is_kind kind ≡ false) ⊎ (allows kind (length value) ≡ false) → held_at kind value ≡ byte_string value
unfolding held_at
held_not kind value h = ap (λ (b : Bool). cond b (scalar_at kind value) (byte_string value)) (not_both (is_kind kind) (allows kind (length value)) h)

-- a step looks at the header first
stopped : (n : ℕ) (bytes : List ℕ) → is_whole bytes ≡ false → items_within (suc n) bytes ≡ none
stopped n bytes e =
    ap (λ (k : Bool). cond k (more (item_at (items_within n) (tag_at bytes) (kind_at bytes) (value_at bytes)) (items_within n (drop (extent bytes) bytes))) none) e

stepped : (n : ℕ) (bytes : List ℕ) → is_whole bytes ≡ true
    → items_within (suc n) bytes ≡ more (item_at (items_within n) (tag_at bytes) (kind_at bytes) (value_at bytes)) (items_within n (drop (extent bytes) bytes))
stepped n bytes e =
    ap (λ (k : Bool). cond k (more (item_at (items_within n) (tag_at bytes) (kind_at bytes) (value_at bytes)) (items_within n (drop (extent bytes) bytes))) none) e

same_item : (f g : List ℕ → Trees) (tag kind : ℕ) (value : List ℕ) → f value ≡ g value → item_at f tag kind value ≡ item_at g tag kind value
same_item f g tag kind value e = ap (λ (ts : Trees). cond (kind == 1) (structure tag ts) (scalar tag (held_at kind value))) e

no_header : (bytes : List ℕ) → length bytes ≤ 0 → is_whole bytes ≡ true → ⊥
no_header bytes less e = omega (arith, less, (whole_fits bytes e).0)

-- looking at more bytes than there are changes nothing
enough_at : (n m : ℕ) (bytes : List ℕ) (b : Bool) → is_whole bytes ≡ b → length bytes ≤ n → length bytes ≤ m → items_within n bytes ≡ items_within m bytes
enough_at zero zero bytes b e p q = refl
enough_at zero (suc m) bytes false e p q = sym (stopped m bytes e)
enough_at zero (suc m) bytes true e p q = absurd (no_header bytes p e)
enough_at (suc n) zero bytes false e p q = stopped n bytes e
enough_at (suc n) zero bytes true e p q = absurd (no_header bytes q e)
enough_at (suc n) (suc m) bytes false e p q = stopped n bytes e ∙ sym (stopped m bytes e)
enough_at (suc n) (suc m) bytes true e p q =
    let w = whole_fits bytes e in
    let v = length-value_at bytes w.1 in
    let d = length-drop (extent bytes) bytes in
    let inner : items_within n (value_at bytes) ≡ items_within m (value_at bytes) = enough_at n m (value_at bytes) (is_whole (value_at bytes)) refl (omega (arith, w.1, v, p)) (omega (arith, w.1, v, q)) in
    let others : items_within n (drop (extent bytes) bytes) ≡ items_within m (drop (extent bytes) bytes) = enough_at n m (drop (extent bytes) bytes) (is_whole (drop (extent bytes) bytes)) refl (omega (arith, w.0, d, p)) (omega (arith, w.0, d, q)) in
    let item = same_item (items_within n) (items_within m) (tag_at bytes) (kind_at bytes) (value_at bytes) inner in
    stepped n bytes e ∙ ap (λ (t : Tree). more t (items_within n (drop (extent bytes) bytes))) item
    ∙ ap (more (item_at (items_within m) (tag_at bytes) (kind_at bytes) (value_at bytes))) others ∙ sym (stepped m bytes e)

enough : (n m : ℕ) (bytes : List ℕ) → length bytes ≤ n → length bytes ≤ m → items_within n bytes ≡ items_within m bytes
enough n m bytes p q = enough_at n m bytes (is_whole bytes) refl p q

none_within : (n : ℕ) (bytes : List ℕ) → is_whole bytes ≡ false → items_within n bytes ≡ none
none_within zero bytes e = refl
none_within (suc n) bytes e = stopped n bytes e

pub items_none : (bytes : List ℕ) → is_whole bytes ≡ false → items_at bytes ≡ none
unfolding items_at
items_none bytes e = none_within (length bytes) bytes e

more_within : (n : ℕ) (bytes : List ℕ) → length bytes ≤ n → is_whole bytes ≡ true
    → items_within n bytes ≡ more (item_at items_at (tag_at bytes) (kind_at bytes) (value_at bytes)) (items_at (drop (extent bytes) bytes))
unfolding items_at
more_within zero bytes p e = absurd (no_header bytes p e)
more_within (suc n) bytes p e =
    let w = whole_fits bytes e in
    let v = length-value_at bytes w.1 in
    let d = length-drop (extent bytes) bytes in
    let inner : items_within n (value_at bytes) ≡ items_at (value_at bytes) = enough n (length (value_at bytes)) (value_at bytes) (omega (arith, w.1, v, p)) (omega arith) in
    let others : items_within n (drop (extent bytes) bytes) ≡ items_at (drop (extent bytes) bytes)
    = enough n (length (drop (extent bytes) bytes)) (drop (extent bytes) bytes) (omega (arith, w.0, d, p)) (omega arith) in
    stepped n bytes e ∙ ap (λ (t : Tree). more t (items_within n (drop (extent bytes) bytes))) (same_item (items_within n) items_at (tag_at bytes) (kind_at bytes) (value_at bytes) inner)
    ∙ ap (more (item_at items_at (tag_at bytes) (kind_at bytes) (value_at bytes))) others

pub items_more : (bytes : List ℕ) → is_whole bytes ≡ true
    → items_at bytes ≡ more (item_at items_at (tag_at bytes) (kind_at bytes) (value_at bytes)) (items_at (drop (extent bytes) bytes))
unfolding items_at
items_more bytes e = more_within (length bytes) bytes (omega arith) e

-- ---- what stands is read

nothing_whole : is_whole [] ≡ false
unfolding is_whole
nothing_whole = refl

whole_of : (tag kind : ℕ) (bytes : List ℕ) → Framed tag kind bytes → is_whole bytes ≡ true
unfolding is_whole
whole_of tag kind bytes f =
    both_hold (nat_le 8 (length bytes)) (nat_le (extent bytes) (length bytes)) (le-leb 8 (length bytes) f.header) (le-leb (extent bytes) (length bytes) f.whole)

scalar_item : (children : List ℕ → Trees) (tag kind : ℕ) (s : Scalar) (value : List ℕ) → kind ≡ kind_of s → Means s value → item_at children tag kind value ≡ scalar tag s
scalar_item children tag kind s value e h =
    ap (λ (b : Bool). cond b (structure tag (children value)) (scalar tag (held_at kind value))) (ne_eqb kind 1 (λ one. omega (arith, one, e, two_le_kind s)))
    ∙ ap (scalar tag) (ap (λ (k : ℕ). held_at k value) e ∙ held_is (kind_of s) value (known_scalar s) (allowed_scalar s value h) ∙ scalar_is s value h)

structure_item : (children : List ℕ → Trees) (tag kind : ℕ) (ts : Trees) (value : List ℕ) → kind ≡ 1 → children value ≡ ts → item_at children tag kind value ≡ structure tag ts
structure_item children tag kind ts value e h =
    ap (λ (b : Bool). cond b (structure tag (children value)) (scalar tag (held_at kind value))) (eq-eqb kind 1 e) ∙ ap (structure tag) h

mutual
  pub run_items : (left : ℕ) (ts : Trees) (bytes : List ℕ) → Run left ts bytes [] → items_at bytes ≡ ts
  run_items left none bytes r = items_none bytes (subst (λ (b : List ℕ). is_whole b ≡ false) (sym r) nothing_whole)
  run_items left (more t ts) bytes r =
      let s = stands_item left t bytes r.0 in
      items_more bytes s.0 ∙ ap (λ (u : Tree). more u (items_at (drop (extent bytes) bytes))) s.1 ∙ ap (more t) (run_items left ts (drop (extent bytes) bytes) r.1)

  stands_item : (left : ℕ) (t : Tree) (bytes : List ℕ) → Stands left t bytes → (is_whole bytes ≡ true) × (item_at items_at (tag_at bytes) (kind_at bytes) (value_at bytes) ≡ t)
  stands_item zero t bytes s = absurd s
  stands_item (suc left) (structure tag ts) bytes s = (
    whole_of tag 1 bytes s.0,
    structure_item items_at (tag_at bytes) (kind_at bytes) ts (value_at bytes) s.0.kind_is (run_items left ts (value_at bytes) s.1) ∙ ap (λ (n : ℕ). structure n ts) s.0.tag_is,
  )
  stands_item (suc left) (scalar tag u) bytes s = (
    whole_of tag (kind_of u) bytes s.0,
    scalar_item items_at (tag_at bytes) (kind_at bytes) u (value_at bytes) s.0.kind_is s.1 ∙ ap (λ (n : ℕ). scalar n u) s.0.tag_is,
  )

listed_joined : (items : List Tree) (bytes : List ℕ) → AreItems items bytes → Joined 16 (forest (λ t. t) items) bytes
listed_joined [] bytes is = is
listed_joined (t ∷ ts) bytes is = (is.0, is.1, is.2, record { stands = is.3.stands; all = is.3.all }, listed_joined ts is.1 is.4)

-- so are items one after the other
pub listed_items : (items : List Tree) (bytes : List ℕ) → AreItems items bytes → items_at bytes ≡ forest (λ t. t) items
listed_items items bytes is =
    let ts = forest (λ t. t) items in
    run_items 16 ts bytes ((joined_lem 16 ts bytes).1 (listed_joined items bytes is))

pub holds_item : (left tag kind : ℕ) (t : Tree) (value : List ℕ) → Holds left tag kind t value → item_at items_at tag kind value ≡ t
holds_item left tag kind (structure n ts) value h = structure_item items_at tag kind ts value h.1 (run_items left ts value h.2) ∙ ap (λ (m : ℕ). structure m ts) (sym h.0)
holds_item left tag kind (scalar n s) value h = scalar_item items_at tag kind s value h.1 h.2 ∙ ap (λ (m : ℕ). scalar m s) (sym h.0)

pub items_nothing : items_at [] ≡ none
items_nothing = items_none [] nothing_whole

few_at : (tag n : ℕ) (bytes : List ℕ) → ((rest : List ℕ) → length (every tag (items_within n rest)) ≤ n) → (b : Bool) → is_whole bytes ≡ b → length (every tag (items_within (suc n) bytes)) ≤ suc n
few_at tag n bytes below false e = omega (arith, ap (λ (ts : Trees). length (every tag ts)) (stopped n bytes e), ap length (every_none tag))
few_at tag n bytes below true e =
    omega (
      arith,
      ap (λ (ts : Trees). length (every tag ts)) (stepped n bytes e),
      below (drop (extent bytes) bytes),
      every_more tag (item_at (items_within n) (tag_at bytes) (kind_at bytes) (value_at bytes)) (items_within n (drop (extent bytes) bytes)),
    )

few : (tag n : ℕ) (bytes : List ℕ) → length (every tag (items_within n bytes)) ≤ n
few tag zero bytes = omega (arith, ap length (every_none tag))
few tag (suc n) bytes = few_at tag n bytes (few tag n) (is_whole bytes) refl

-- bytes spell no more items than they are
pub few_items : (tag : ℕ) (bytes : List ℕ) → length (every tag (items_at bytes)) ≤ length bytes
unfolding items_at
few_items tag bytes = few tag (length bytes) bytes

-- ---- values

pub same_header : (tag n kind m : ℕ) (value bytes : List ℕ) → tag ≡ n → kind ≡ m → value ≡ bytes → item_at items_at tag kind value ≡ item_at items_at n m bytes
same_header tag n kind m value bytes p q r = rw (p, q, r) refl

item_tag_at : (children : List ℕ → Trees) (tag kind : ℕ) (value : List ℕ) (b : Bool) → tag_of (cond b (structure tag (children value)) (scalar tag (held_at kind value))) ≡ tag
item_tag_at children tag kind value true = refl
item_tag_at children tag kind value false = refl

pub item_tag : (children : List ℕ → Trees) (tag kind : ℕ) (value : List ℕ) → tag_of (item_at children tag kind value) ≡ tag
item_tag children tag kind value = item_tag_at children tag kind value (kind == 1)

truth_of : (n : ℕ) → n ≤ 1 → n ≡ number_of_bool (n == 1)
truth_of zero h = refl
truth_of (suc zero) h = refl
truth_of (suc (suc n)) h = absurd (omega (arith, h))

pub boolean_right : (k : Kind) (value : List ℕ) → k ≡ Kind.TheVariants.Boolean → IsTrue (allows (number_of_kind k) (length value)) → big_number 8 value ≤ 1 → IsScalarAt (number_of_kind k) value
unfolding scalar_at
boolean_right k value is allowed small =
    let long : length value ≡ 8 = eqb-true (length value) 8 (subst (λ (j : Kind). IsTrue (allows (number_of_kind j) (length value))) is allowed) in
    subst (λ (j : Kind). IsScalarAt (number_of_kind j) value) (sym is) (record { kind_is = refl; means = record { long = long; number = truth_of (big_number 8 value) small } })

pub text_right : (k : Kind) (value : List ℕ) → k ≡ Kind.TheVariants.Text → IsUtf8 value → IsScalarAt (number_of_kind k) value
unfolding scalar_at
text_right k value is utf8 =
    subst (λ (j : Kind). IsScalarAt (number_of_kind j) value) (sym is)
    (record { kind_is = refl; means = record { same = ap (λ (b : Bool). cond b value []) (sym (is_utf8-from_IsUtf8 value utf8)); text = utf8 } })

pub other_right : (k : Kind) (value : List ℕ) → k ≢ Kind.TheVariants.Structure → k ≢ Kind.TheVariants.Boolean → k ≢ Kind.TheVariants.Text → IsTrue (allows (number_of_kind k) (length value)) → IsScalarAt (number_of_kind k) value
unfolding scalar_at
other_right Structure value s b t a = absurd (s refl)
other_right Integer value s b t a = record { kind_is = refl; means = record { long = eqb-true (length value) 4 a; number = refl } }
other_right LongInteger value s b t a = record { kind_is = refl; means = record { long = eqb-true (length value) 8 a; number = refl } }
other_right BigInteger value s b t a =
    let p = both_true (nat_lt 0 (length value)) (length value % 8 == 0) a in
    record { kind_is = refl; means = record { same = refl; some = ltb-true 0 (length value) p.0; eights = eqb-true (length value % 8) 0 p.1 } }
other_right Enumeration value s b t a = record { kind_is = refl; means = record { long = eqb-true (length value) 4 a; number = refl } }
other_right Boolean value s b t a = absurd (b refl)
other_right Text value s b t a = absurd (t refl)
other_right Bytes value s b t a = record { kind_is = refl; means = refl }
other_right DateTime value s b t a = record { kind_is = refl; means = record { long = eqb-true (length value) 8 a; number = refl } }
other_right Interval value s b t a = record { kind_is = refl; means = record { long = eqb-true (length value) 4 a; number = refl } }
other_right DateTimeExtended value s b t a = record { kind_is = refl; means = record { long = eqb-true (length value) 8 a; number = refl } }

-- a value of which no more than the length is tested stands there
pub untested_stands : (left : ℕ) (k : Kind) (tag len : ℕ) (bytes : List ℕ) → left ≢ 0 → Framed tag (number_of_kind k) bytes → len_at bytes ≡ len → IsTrue (allows (number_of_kind k) len)
    → k ≢ Kind.TheVariants.Structure → k ≢ Kind.TheVariants.Boolean → k ≢ Kind.TheVariants.Text → Stands left (scalar tag (scalar_at (number_of_kind k) (value_at bytes))) bytes
untested_stands left k tag len bytes some f e a s b t =
    let value = value_at bytes in
    let long : length value ≡ len = length-value_at bytes f.whole ∙ e in
    let right = other_right k value s b t (subst (λ (n : ℕ). IsTrue (allows (number_of_kind k) n)) (sym long) a) in
    stands_of left tag (number_of_kind k) (scalar tag (scalar_at (number_of_kind k) value)) bytes value some f refl (refl, right.kind_is, right.means)

no_text_at : (value : List ℕ) → ¬ (IsUtf8 value) → (b : Bool) → is_utf8 value ≡ b → is_utf8 value ≡ false
no_text_at value wrong false e = e
no_text_at value wrong true e = absurd (wrong (IsUtf8-from_is_utf8 value e))

pub no_text : (value : List ℕ) → ¬ (IsUtf8 value) → is_utf8 value ≡ false
no_text value wrong = no_text_at value wrong (is_utf8 value) refl

-- ---- items of a kind, with a length of it or without

abbrev pub plain_at : ℕ → ℕ → List ℕ → Tree
plain_at tag kind value = cond (kind == 1) (structure tag (items_at value)) (scalar tag (scalar_at kind value))

pub allowed_item : (k : Kind) (tag : ℕ) (value : List ℕ) → (k ≢ Kind.TheVariants.Structure → IsTrue (allows (number_of_kind k) (length value))) → plain_at tag (number_of_kind k) value ≡ item_at items_at tag (number_of_kind k) value
allowed_item Structure tag value h = refl
allowed_item Integer tag value h = ap (scalar tag) (sym (held_is 2 value refl (h (λ e. absurd cc))))
allowed_item LongInteger tag value h = ap (scalar tag) (sym (held_is 3 value refl (h (λ e. absurd cc))))
allowed_item BigInteger tag value h = ap (scalar tag) (sym (held_is 4 value refl (h (λ e. absurd cc))))
allowed_item Enumeration tag value h = ap (scalar tag) (sym (held_is 5 value refl (h (λ e. absurd cc))))
allowed_item Boolean tag value h = ap (scalar tag) (sym (held_is 6 value refl (h (λ e. absurd cc))))
allowed_item Text tag value h = ap (scalar tag) (sym (held_is 7 value refl (h (λ e. absurd cc))))
allowed_item Bytes tag value h = ap (scalar tag) (sym (held_is 8 value refl (h (λ e. absurd cc))))
allowed_item DateTime tag value h = ap (scalar tag) (sym (held_is 9 value refl (h (λ e. absurd cc))))
allowed_item Interval tag value h = ap (scalar tag) (sym (held_is 10 value refl (h (λ e. absurd cc))))
allowed_item DateTimeExtended tag value h = ap (scalar tag) (sym (held_is 11 value refl (h (λ e. absurd cc))))

not_one : (k : Kind) → k ≢ Kind.TheVariants.Structure → number_of_kind k ≡ 1 → ⊥
not_one Structure s e = s refl
not_one Integer s e = omega (arith, e)
not_one LongInteger s e = omega (arith, e)
not_one BigInteger s e = omega (arith, e)
not_one Enumeration s e = omega (arith, e)
not_one Boolean s e = omega (arith, e)
not_one Text s e = omega (arith, e)
not_one Bytes s e = omega (arith, e)
not_one DateTime s e = omega (arith, e)
not_one Interval s e = omega (arith, e)
not_one DateTimeExtended s e = omega (arith, e)

scalar_only : (tag kind : ℕ) (value : List ℕ) → (kind ≡ 1 → ⊥) → held_at kind value ≡ byte_string value → scalar tag (byte_string value) ≡ item_at items_at tag kind value
scalar_only tag kind value other h =
    sym (ap (λ (b : Bool). cond b (structure tag (items_at value)) (scalar tag (held_at kind value))) (ne_eqb kind 1 other) ∙ ap (scalar tag) h)

pub refused_item : (k : Kind) (tag : ℕ) (value : List ℕ) → k ≢ Kind.TheVariants.Structure → allows (number_of_kind k) (length value) ≡ false → scalar tag (byte_string value) ≡ item_at items_at tag (number_of_kind k) value
refused_item k tag value s h = scalar_only tag (number_of_kind k) value (not_one k s) (held_not (number_of_kind k) value (inr h))

-- the same of a number that is a kind's
pub number_item : (m : Kind) (n tag : ℕ) (value : List ℕ) → n ≡ number_of_kind m → (m ≢ Kind.TheVariants.Structure → IsTrue (allows (number_of_kind m) (length value))) → plain_at tag (number_of_kind m) value ≡ item_at items_at tag n value
number_item m n tag value e h = allowed_item m tag value h ∙ ap (λ (k : ℕ). item_at items_at tag k value) (sym e)

pub refused_number : (m : Kind) (n tag : ℕ) (value : List ℕ) → n ≡ number_of_kind m → m ≢ Kind.TheVariants.Structure → allows (number_of_kind m) (length value) ≡ false → scalar tag (byte_string value) ≡ item_at items_at tag n value
refused_number m n tag value e s h = refused_item m tag value s h ∙ ap (λ (k : ℕ). item_at items_at tag k value) (sym e)

unknown_other : (kind : ℕ) → is_kind kind ≡ false → kind ≡ 1 → ⊥
unknown_other kind h e = false_is_true (sym h ∙ ap is_kind e)

pub unknown_item : (tag kind : ℕ) (value : List ℕ) → is_kind kind ≡ false → scalar tag (byte_string value) ≡ item_at items_at tag kind value
unknown_item tag kind value h = scalar_only tag kind value (unknown_other kind h) (held_not kind value (inl h))

not_kind_at : (n : ℕ) → (is_kind n ≡ true → ⊥) → (b : Bool) → is_kind n ≡ b → is_kind n ≡ false
not_kind_at n wrong false e = e
not_kind_at n wrong true e = absurd (wrong e)

within_kinds : (n : ℕ) → is_kind n ≡ true → (1 ≤ n) × (n ≤ 11)
within_kinds n e = let p = both_true (nat_le 1 n) (nat_le n 11) e in (leb-true 1 n p.0, leb-true n 11 p.1)

-- a number that isn't a kind's
unnumbered : (n tag : ℕ) (value : List ℕ) → ((1 ≤ n) → (n ≤ 11) → ⊥) → scalar tag (byte_string value) ≡ item_at items_at tag n value
unnumbered n tag value wrong = unknown_item tag n value (not_kind_at n (λ e. let w = within_kinds n e in wrong w.0 w.1) (is_kind n) refl)

eight_or_none : (n tag : ℕ) (value : List ℕ) → ((1 ≤ n) → (n ≤ 11) → n ≡ 8) → (b : Bool) → (n == 8) ≡ b → scalar tag (byte_string value) ≡ item_at items_at tag n value
unfolding scalar_at
eight_or_none n tag value only true e = number_item Bytes n tag value (eqb-true n 8 e) (λ s. refl)
eight_or_none n tag value only false e = unnumbered n tag value (λ p q. false_is_true (sym e ∙ eq-eqb n 8 (only p q)))

-- a number of which no more is known than that, if it is a kind's, it is that of byte strings
pub plain_number : (n tag : ℕ) (value : List ℕ) → ((1 ≤ n) → (n ≤ 11) → n ≡ 8) → scalar tag (byte_string value) ≡ item_at items_at tag n value
plain_number n tag value only = eight_or_none n tag value only (n == 8) refl
