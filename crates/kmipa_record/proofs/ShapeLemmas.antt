-- The shapes of items.
use Rattle.std.proofs.Common.{◌≡◌, ◌≢◌, ℕ, ◌+◌, ℤ, Bool, List, Option, None, Some, MatchOption, sym, ap, ◌∙◌}
use Rattle.std.specs.Option.{option_map}
use Rattle.kmipa_ttlv.specs.Tree.{Tree, Trees, structure, scalar, none, more, integer, enumeration, boolean, date_time, text, byte_string}
use Rattle.kmipa_ttlv.specs.ViewTree.{view_tree}
use Rattle.kmipa_ttlv.specs.declared.view.View.{View}
use Rattle.kmipa_attrs.specs.Fields.{tag_of, as_structure, as_integer, as_enumeration, as_boolean, as_date, as_text, as_bytes}
use Rattle.kmipa_ttlv.proofs.ViewTreeLemmas.{tag_of-view}

-- an item with another tag
pub other_tag : (item : View) (tag : ℕ) (t : Tree) → (item.tag.number ≡ tag → ⊥) → tag_of t ≡ tag → view_tree item ≡ t → ⊥
other_tag item tag t ne is e = ne (sym (tag_of-view item.tag.number item.value) ∙ ap tag_of e ∙ is)

pub tag_is : (item : View) (tag : ℕ) → item.tag.number ≡ tag → tag_of (view_tree item) ≡ tag
tag_is item tag e = tag_of-view item.tag.number item.value ∙ e

-- what an item is by its type
pub match_map : {A B : Type 0} (f : A → B) (o : Option A) (P : Type 0) (Q : B → Type 0) → MatchOption (option_map f o) P Q → MatchOption o P (λ x. Q (f x))
match_map f None P Q h = h
match_map f (Some x) P Q h = h

pub structure_shape : (tag : ℕ) (t : Tree) → tag_of t ≡ tag → MatchOption (as_structure t) ((ts : Trees) → t ≢ structure tag ts) (λ ts. t ≡ structure tag ts)
unfolding as_structure
structure_shape tag (structure n ts) e = ap (λ (k : ℕ). structure k ts) e
structure_shape tag (scalar n s) e = λ ts h. absurd cc

pub integer_shape : (tag : ℕ) (t : Tree) → tag_of t ≡ tag → MatchOption (as_integer t) ((z : ℤ) → t ≢ scalar tag (integer z)) (λ z. t ≡ scalar tag (integer z))
unfolding as_integer
integer_shape tag (scalar n (integer z)) e = ap (λ (k : ℕ). scalar k (integer z)) e
integer_shape tag _ e = λ z h. absurd cc

pub enumeration_shape : (tag : ℕ) (t : Tree) → tag_of t ≡ tag → MatchOption (as_enumeration t) ((x : ℕ) → t ≢ scalar tag (enumeration x)) (λ x. t ≡ scalar tag (enumeration x))
unfolding as_enumeration
enumeration_shape tag (scalar n (enumeration x)) e = ap (λ (k : ℕ). scalar k (enumeration x)) e
enumeration_shape tag _ e = λ x h. absurd cc

pub boolean_shape : (tag : ℕ) (t : Tree) → tag_of t ≡ tag → MatchOption (as_boolean t) ((b : Bool) → t ≢ scalar tag (boolean b)) (λ b. t ≡ scalar tag (boolean b))
unfolding as_boolean
boolean_shape tag (scalar n (boolean b)) e = ap (λ (k : ℕ). scalar k (boolean b)) e
boolean_shape tag _ e = λ b h. absurd cc

pub date_shape : (tag : ℕ) (t : Tree) → tag_of t ≡ tag → MatchOption (as_date t) ((z : ℤ) → t ≢ scalar tag (date_time z)) (λ z. t ≡ scalar tag (date_time z))
unfolding as_date
date_shape tag (scalar n (date_time z)) e = ap (λ (k : ℕ). scalar k (date_time z)) e
date_shape tag _ e = λ z h. absurd cc

pub text_shape : (tag : ℕ) (t : Tree) → tag_of t ≡ tag → MatchOption (as_text t) ((bs : List ℕ) → t ≢ scalar tag (text bs)) (λ bs. t ≡ scalar tag (text bs))
unfolding as_text
text_shape tag (scalar n (text bs)) e = ap (λ (k : ℕ). scalar k (text bs)) e
text_shape tag _ e = λ bs h. absurd cc

pub bytes_shape : (tag : ℕ) (t : Tree) → tag_of t ≡ tag → MatchOption (as_bytes t) ((bs : List ℕ) → t ≢ scalar tag (byte_string bs)) (λ bs. t ≡ scalar tag (byte_string bs))
unfolding as_bytes
bytes_shape tag (scalar n (byte_string bs)) e = ap (λ (k : ℕ). scalar k (byte_string bs)) e
bytes_shape tag _ e = λ bs h. absurd cc

-- how many trees
abbrev pub count : Trees → ℕ
count none = 0
count (more t ts) = 1 + count ts
