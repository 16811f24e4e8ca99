-- Views and the trees that they are, and what is left from a tag on.
use Rattle.std.proofs.Common.{Option, Some, None, MatchOption, IfSome, ◌≡◌, ◌≤◌, ℕ, suc, Bool, true, false, cond, ◌==◌, List, [], ◌∷◌, length, refl, sym, ap, subst, ◌∙◌, arith}
use Rattle.kmipa_ttlv.specs.Tree.{Tree, Trees, structure, scalar, none, more, tag_of, every, push}
use Rattle.kmipa_ttlv.specs.ItemTree.{tree, trees}
use Rattle.kmipa_ttlv.specs.Written.{size}
use Rattle.kmipa_ttlv.proofs.StandsLemmas.{tag_of-value_tree}
use Rattle.kmipa_ttlv.specs.declared.item.Item.{Item}
use Rattle.std.proofs.lemmas.Bool.{eq-eqb, eqb-true, ne_eqb}
use Rattle.kmipa_ttlv.specs.ViewTree.{view_tree, view_value_tree, from_tag}
use Rattle.kmipa_ttlv.specs.declared.view.View.{View}
use Rattle.kmipa_ttlv.specs.declared.view.ViewValue.{ViewValue}
use Rattle.kmipa_ttlv.specs.declared.view.ViewValue.TheVariants.{Structure, Integer, LongInteger, BigInteger, Enumeration, Boolean, Text, Bytes, DateTime, Interval, DateTimeExtended}

pub tag_of-view : (n : ℕ) (v : ViewValue) → tag_of (view_value_tree n v) ≡ n
tag_of-view n (Structure children) = refl
tag_of-view n (Integer z) = refl
tag_of-view n (LongInteger z) = refl
tag_of-view n (BigInteger bs) = refl
tag_of-view n (Enumeration x) = refl
tag_of-view n (Boolean b) = refl
tag_of-view n (Text s) = refl
tag_of-view n (Bytes bs) = refl
tag_of-view n (DateTime z) = refl
tag_of-view n (Interval x) = refl
tag_of-view n (DateTimeExtended z) = refl

pub tag_of-tree : (i : Item) → tag_of (tree i) ≡ i.tag.number
tag_of-tree i = tag_of-value_tree i.tag.number i.value

-- the first that is left has the tag
pub from_there : (tag : ℕ) (t : Tree) (ts : Trees) → tag_of t ≡ tag → from_tag tag (more t ts) ≡ more t ts
unfolding from_tag
from_there tag t ts e = ap (λ (b : Bool). cond b (more t ts) (from_tag tag ts)) (eq-eqb (tag_of t) tag e)

-- or is passed over
pub from_after : (tag : ℕ) (t : Tree) (ts : Trees) → (tag_of t ≡ tag → ⊥) → from_tag tag (more t ts) ≡ from_tag tag ts
unfolding from_tag
from_after tag t ts e = ap (λ (b : Bool). cond b (more t ts) (from_tag tag ts)) (ne_eqb (tag_of t) tag e)

pub from_none : (tag : ℕ) → from_tag tag none ≡ none
unfolding from_tag
from_none tag = refl

false_true : {b : Bool} → b ≡ false → b ≡ true → ⊥
false_true p q = absurd cc

pub no_items : (items : List Item) → length items ≡ 0 → trees items ≡ none
no_items [] e = refl
no_items (i ∷ items) e = absurd (omega (arith, e))

-- a first tree with the tag, or no tree
abbrev pub Begins : ℕ → Trees → Type 0
Begins tag none = Unit {0}
Begins tag (more t ts) = tag_of t ≡ tag

begins_at : (tag : ℕ) (t : Tree) (ts : Trees) → Begins tag (from_tag tag ts) → (b : Bool) → (tag_of t == tag) ≡ b → Begins tag (from_tag tag (more t ts))
begins_at tag t ts below true e = let is = eqb-true (tag_of t) tag e in subst (Begins tag) (sym (from_there tag t ts is)) is
begins_at tag t ts below false e = subst (Begins tag) (sym (from_after tag t ts (λ is. absurd (false_true e (eq-eqb (tag_of t) tag is))))) below

pub from_begins : (tag : ℕ) (ts : Trees) → Begins tag (from_tag tag ts)
from_begins tag none = subst (Begins tag) (sym (from_none tag)) tt
from_begins tag (more t ts) = begins_at tag t ts (from_begins tag ts) (tag_of t == tag) refl

-- the first, and those after it with the tag
abbrev pub with_tag : ℕ → Trees → List Tree
with_tag tag none = []
with_tag tag (more t ts) = t ∷ every tag ts

every_at : (tag : ℕ) (t : Tree) (ts : Trees) → every tag ts ≡ with_tag tag (from_tag tag ts) → (b : Bool) → (tag_of t == tag) ≡ b → every tag (more t ts) ≡ with_tag tag (from_tag tag (more t ts))
unfolding every
every_at tag t ts below true e =
    ap (λ (b : Bool). cond b (t ∷ every tag ts) (every tag ts)) e ∙ ap (with_tag tag) (sym (from_there tag t ts (eqb-true (tag_of t) tag e)))
every_at tag t ts below false e =
    ap (λ (b : Bool). cond b (t ∷ every tag ts) (every tag ts)) e ∙ below ∙ ap (with_tag tag) (sym (from_after tag t ts (λ is. absurd (false_true e (eq-eqb (tag_of t) tag is)))))

pub every_none : (tag : ℕ) → every tag none ≡ []
unfolding every
every_none tag = refl

pub every_from : (tag : ℕ) (ts : Trees) → every tag ts ≡ with_tag tag (from_tag tag ts)
every_from tag none = every_none tag ∙ ap (with_tag tag) (sym (from_none tag))
every_from tag (more t ts) = every_at tag t ts (every_from tag ts) (tag_of t == tag) refl

every_fewer : (tag : ℕ) (t : Tree) (ts : Trees) (b : Bool) → length (cond b (t ∷ every tag ts) (every tag ts)) ≤ suc (length (every tag ts))
every_fewer tag t ts true = omega arith
every_fewer tag t ts false = omega arith

-- one more tree is at most one more with the tag
pub every_more : (tag : ℕ) (t : Tree) (ts : Trees) → length (every tag (more t ts)) ≤ suc (length (every tag ts))
unfolding every
every_more tag t ts = every_fewer tag t ts (tag_of t == tag)

pub every_of_items : (tag : ℕ) (items : List Item) → length (every tag (trees items)) ≤ length items
every_of_items tag [] = omega (arith, ap length (every_none tag))
every_of_items tag (i ∷ items) = omega (arith, every_more tag (tree i) (trees items), every_of_items tag items)

-- ---- trees one after the other

abbrev pub join : Trees → Trees → Trees
join none us = us
join (more t ts) us = more t (join ts us)

pub join-none : (ts : Trees) → join ts none ≡ ts
join-none none = refl
join-none (more t ts) = ap (more t) (join-none ts)

pub join-push : (ts : Trees) (t : Tree) (us : Trees) → join (push ts t) us ≡ join ts (more t us)
join-push none t us = refl
join-push (more u ts) t us = ap (more u) (join-push ts t us)

pub size-some : (t : Tree) → 8 ≤ size t
size-some (structure n ts) = omega arith
size-some (scalar n s) = omega arith

-- a value's size doesn't depend on its tag
pub size-tag : (n m : ℕ) (v : ViewValue) → size (view_value_tree n v) ≡ size (view_value_tree m v)
size-tag n m (Structure children) = refl
size-tag n m (Integer z) = refl
size-tag n m (LongInteger z) = refl
size-tag n m (BigInteger bs) = refl
size-tag n m (Enumeration x) = refl
size-tag n m (Boolean b) = refl
size-tag n m (Text s) = refl
size-tag n m (Bytes bs) = refl
size-tag n m (DateTime z) = refl
size-tag n m (Interval x) = refl
size-tag n m (DateTimeExtended z) = refl

-- ---- the next with a tag: the first of those from the tag on

pub next_none : (tag : ℕ) (ts : Trees) → from_tag tag ts ≡ none → every tag ts ≡ []
next_none tag ts e = every_from tag ts ∙ ap (with_tag tag) e

pub next_with : (tag : ℕ) (ts passed rest : Trees) (r : Option View) → passed ≡ from_tag tag ts → MatchOption r ((passed ≡ none) × (rest ≡ none)) (λ v. passed ≡ more (view_tree v) rest)
    → MatchOption r (every tag ts ≡ []) (λ v. every tag ts ≡ view_tree v ∷ every tag rest)
next_with tag ts passed rest None e h = every_from tag ts ∙ ap (with_tag tag) (sym e ∙ h.0)
next_with tag ts passed rest (Some v) e h = every_from tag ts ∙ ap (with_tag tag) (sym e ∙ h)

pub next_has : (tag : ℕ) (ts passed rest : Trees) (r : Option View) → passed ≡ from_tag tag ts → MatchOption r ((passed ≡ none) × (rest ≡ none)) (λ v. passed ≡ more (view_tree v) rest)
    → IfSome r (λ v. v.tag.number ≡ tag)
next_has tag ts passed rest None e h = tt
next_has tag ts passed rest (Some v) e h = sym (tag_of-view v.tag.number v.value) ∙ subst (Begins tag) (sym e ∙ h) (from_begins tag ts)
