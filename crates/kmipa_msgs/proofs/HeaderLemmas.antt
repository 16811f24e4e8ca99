-- What the headers of requests and responses share is read.
use Rattle.std.proofs.Common.{◌≡◌, ◌<◌, ℕ, zero, suc, ℤ, pos, negsuc, nat_abs, Bool, true, false, ◌==◌, ◌&&◌, nat_lt, eqb, Option, Some, None, Result, refl, sym, ap, ◌∙◌, inl, inr, ◌⊎◌, arith, eqb-true, ltb-true, lt-ltb, eq-eqb}
use Rattle.std.proofs.lemmas.Bool.{ne_eqb}
use lib.Signed.{lt_z}
use Rattle.kmipa_ttlv.specs.Tree.{Tree, Trees}
use Rattle.kmipa_ttlv.specs.ViewTree.{view_tree}
use Rattle.kmipa_ttlv.specs.declared.view.View.{View}
use Rattle.kmipa_attrs.specs.Fields.{tag_of, first, at, inside, in_field, or_none, as_structure}
use Rattle.kmipa_attrs.specs.Readings.{Reads, map_ok}
use Rattle.kmipa_attrs.proofs.ReadingLemmas.{reads_as}
use Rattle.kmipa_ttlv.proofs.ViewTreeLemmas.{tag_of-view}
use Rattle.kmipa_msgs.specs.declared.kind.OutsideKind.{OutsideKind}
use Rattle.kmipa_msgs.specs.declared.kind.OutsideKind.TheVariants.{NotAMessage, Version, Count, Operation, ObjectType, IdentifierForm, Wrapped, Format, Missing, Attribute, Pending, Disagree, Unordered}
use Rattle.kmipa_msgs.specs.Kinds.{kind_number}
use Rattle.kmipa_attrs.specs.declared.fields.Field.{Field}
use Rattle.kmipa_attrs.specs.declared.fields.Field.TheVariants.{There}
use Rattle.kmipa_msgs.specs.Tables.{children}
use Rattle.kmipa_msgs.specs.Headers.{is_structure, is_message, counts, gated}

-- no kind is below the first
first_kind : (k : OutsideKind) → kind_number k < 1 → ⊥
first_kind NotAMessage lt = omega arith
first_kind Version lt = omega arith
first_kind Count lt = omega arith
first_kind Operation lt = omega arith
first_kind ObjectType lt = omega arith
first_kind IdentifierForm lt = omega arith
first_kind Wrapped lt = omega arith
first_kind Format lt = omega arith
first_kind Missing lt = omega arith
first_kind Attribute lt = omega arith
first_kind Pending lt = omega arith
first_kind Disagree lt = omega arith
first_kind Unordered lt = omega arith

-- a header that is read only of a message: that it is none is the lowest kind
pub reads_gated : {A B : Type 0} (b : Bool) (Said : A → Type 0) (Fault : OutsideKind → Type 0) (Told : B → Type 0) (Flaw : OutsideKind → Type 0) (make : A → B) (r : Result A OutsideKind)
    → (b ≡ true → (x : A) → Said x → Told (make x)) → ((y : B) → Told y → (x : A) × (b ≡ true) × Said x × (y ≡ make x))
    → ((k : OutsideKind) → ((k ≡ NotAMessage) × (b ≡ false)) ⊎ Fault k → Flaw k) → ((k : OutsideKind) → Flaw k → ((k ≡ NotAMessage) × (b ≡ false)) ⊎ Fault k)
    → Reads kind_number Said Fault r → Reads kind_number Told Flaw (gated b (map_ok make r))
reads_gated true Said Fault Told Flaw make r to from reported back h =
    reads_as kind_number Said Fault Told Flaw make r (to refl) (λ y t. let w = from y t in (w.0, w.2, w.3)) (λ k f. reported k (inr f)) (λ k f. elim (back k f) [ inl w ↦ let e : true ≡ false = w.1 in cc | inr w ↦ w ]) h
reads_gated false Said Fault Told Flaw make r to from reported back h = record {
  here = reported NotAMessage (inl (refl, refl));
  least = λ j lt w. first_kind j lt;
}

and_false : (b : Bool) → (b && false) ≡ false
and_false true = refl
and_false false = refl

and_below : (m n : ℕ) → 0 < m → (b : Bool) → (m == n) ≡ b → b ≡ (b && nat_lt 0 n)
and_below m n lt true e = let h : m ≡ n = eqb-true _ _ e in let q : nat_lt 0 n ≡ true = lt-ltb _ _ (omega arith) in sym q
and_below m n lt false e = refl

-- a count above 0, and one that isn't
pub counts_above : (z : ℤ) (n : ℕ) → lt_z (pos 0) z ≡ true → eqb (nat_abs z) n ≡ counts z n
counts_above (pos m) n lt = and_below m n (ltb-true _ _ lt) (m == n) refl ∙ refl
counts_above (negsuc m) n lt = cc

pub counts_none : (z : ℤ) (n : ℕ) → lt_z (pos 0) z ≡ false → counts z n ≡ false
counts_none (pos zero) zero e = refl
counts_none (pos zero) (suc n) e = ap (λ (b : Bool). b && nat_lt 0 (suc n)) (ne_eqb 0 (suc n) (λ h. omega (arith, h)))
counts_none (pos (suc m)) n e = let q : nat_lt 0 (suc m) ≡ true = lt-ltb _ _ (omega arith) in let h : true ≡ false = sym q ∙ e in cc
counts_none (negsuc m) n e = refl

-- the item is no message, and it is one
pub other_tag : (tag header : ℕ) (v : View) → (v.tag.number ≡ tag → ⊥) → is_message tag header (view_tree v) ≡ false
other_tag tag header v e =
    let s = is_structure (at as_structure header (children (view_tree v))) in
    ap (λ (n : ℕ). (n == tag) && s) (tag_of-view v.tag.number v.value) ∙ ap (λ (b : Bool). b && s) (ne_eqb v.tag.number tag e)

pub no_children : (tag header : ℕ) (t : Tree) → None ≡ as_structure t → is_message tag header t ≡ false
unfolding first
no_children tag header t e =
    ap (λ (o : Option Trees). (tag_of t == tag) && is_structure (at as_structure header (or_none o))) (sym e) ∙ and_false (tag_of t == tag)

pub opens : (tag header : ℕ) (v : View) (ts hs : Trees) → v.tag.number ≡ tag → Some ts ≡ as_structure (view_tree v) → There hs ≡ at as_structure header ts
    → (is_message tag header (view_tree v) ≡ true) × (ts ≡ children (view_tree v)) × (hs ≡ inside header (children (view_tree v)))
opens tag header v ts hs e te he =
    let own : ts ≡ children (view_tree v) = ap or_none te in
    let head : There hs ≡ at as_structure header (children (view_tree v)) = he ∙ ap (at as_structure header) own in
    (ap (λ (g : Field Trees). (tag_of (view_tree v) == tag) && is_structure g) (sym head) ∙ ap (λ (n : ℕ). (n == tag) && true) (tag_of-view v.tag.number v.value) ∙ ap (λ (b : Bool). b && true) (eq-eqb v.tag.number tag e), own, ap in_field head)
