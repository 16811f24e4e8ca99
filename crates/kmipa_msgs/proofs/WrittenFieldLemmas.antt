-- A field that was written is found.
use Rattle.std.proofs.Common.{◌≡◌, ◌==◌, ℕ, Bool, true, false, cond, List, [], ◌∷◌, ◌++◌, Option, Some, None, refl, sym, ap, ◌∙◌, subst}
use Rattle.kmipa_ttlv.specs.Tree.{Tree, Trees, Scalar, structure, scalar, none, more, push}
use Rattle.kmipa_attrs.specs.Fields.{tag_of, first, as_structure, field_of, typed, at, in_field, inside, value_in}
use Rattle.kmipa_attrs.specs.Readings.{Optional}
use Rattle.kmipa_attrs.specs.declared.fields.Field.{Field}
use Rattle.kmipa_attrs.specs.declared.fields.Field.TheVariants.{There}
use Rattle.kmipa_msgs.specs.WrittenFields.{with_field, with_fields, in_order, field}

-- the first of the fields that is there with the tag
abbrev pub find : ℕ → List (Option Tree) → Option Tree
find n [] = None
find n (None ∷ fields) = find n fields
find n (Some t ∷ fields) = cond (tag_of t == n) (Some t) (find n fields)

abbrev or_else : Option Tree → Option Tree → Option Tree
or_else None o = o
or_else (Some t) o = Some t

or_none : (o : Option Tree) → o ≡ or_else o None
or_none None = refl
or_none (Some t) = refl

or_rest : (o : Option Tree) (b : Bool) (t : Tree) (rest : Option Tree) → or_else (or_else o (cond b (Some t) None)) rest ≡ or_else o (cond b (Some t) rest)
or_rest (Some u) b t rest = refl
or_rest None true t rest = refl
or_rest None false t rest = refl

chosen : (b : Bool) (u : Tree) (x y z : Option Tree) → x ≡ or_else y z → cond b (Some u) x ≡ or_else (cond b (Some u) y) z
chosen true u x y z h = refl
chosen false u x y z h = h

first_push : (n : ℕ) (ts : Trees) (t : Tree) → first n (push ts t) ≡ or_else (first n ts) (cond (tag_of t == n) (Some t) None)
unfolding first
first_push n none t = refl
first_push n (more u ts) t = chosen (tag_of u == n) u (first n (push ts t)) (first n ts) (cond (tag_of t == n) (Some t) None) (first_push n ts t)

first_with : (n : ℕ) (ts : Trees) (fields : List (Option Tree)) → first n (with_fields ts fields) ≡ or_else (first n ts) (find n fields)
first_with n ts [] = or_none (first n ts)
first_with n ts (None ∷ fields) = first_with n ts fields
first_with n ts (Some t ∷ fields) =
    first_with n (push ts t) fields
    ∙ ap (λ o. or_else o (find n fields)) (first_push n ts t)
    ∙ or_rest (first n ts) (tag_of t == n) t (find n fields)

pub found : (n : ℕ) (fields : List (Option Tree)) → first n (in_order fields) ≡ find n fields
unfolding first
found n fields = first_with n none fields

-- a field of another tag is passed, there or not
pub skipped : {A : Type 0} (kind : A → Scalar) (m n : ℕ) (o : Option A) (fields : List (Option Tree)) → (m == n) ≡ false → find n (field kind m o ∷ fields) ≡ find n fields
skipped kind m n None fields e = refl
skipped kind m n (Some x) fields e = ap (λ (b : Bool). cond b (Some (scalar m (kind x))) (find n fields)) e

optional_here : {A : Type 0} (how : Tree → Option A) (kind : A → Scalar) (n : ℕ) (o : Option A) (rest : List (Option Tree))
    → ((x : A) → how (scalar n (kind x)) ≡ Some x) → (n == n) ≡ true → find n rest ≡ None → Optional (typed how (find n (field kind n o ∷ rest))) o
optional_here how kind n None rest good same e = ap (typed how) e
optional_here {A} how kind n (Some x) rest good same e =
    ap (λ (b : Bool). typed how (cond b (Some (scalar n (kind x))) (find n rest))) same ∙ ap (λ (v : Option A). field_of (Some v)) (good x)

-- a field that may be absent, after others
pub optional_written : {A : Type 0} (how : Tree → Option A) (kind : A → Scalar) (n : ℕ) (o : Option A) (fields rest : List (Option Tree))
    → find n fields ≡ find n (field kind n o ∷ rest) → find n rest ≡ None → ((x : A) → how (scalar n (kind x)) ≡ Some x) → (n == n) ≡ true
    → Optional (at how n (in_order fields)) o
optional_written how kind n o fields rest e h good same =
    subst (λ (t : Option Tree). Optional (typed how t) o) (sym (found n fields ∙ e)) (optional_here how kind n o rest good same h)

-- a field that is there
pub required_written : {A : Type 0} (how : Tree → Option A) (n : ℕ) (fields : List (Option Tree)) (t : Tree) (x : A) → find n fields ≡ Some t → how t ≡ Some x
    → at how n (in_order fields) ≡ There x
required_written {A} how n fields t x e h = ap (typed how) (found n fields ∙ e) ∙ ap (λ (v : Option A). field_of (Some v)) h

pub inside_written : (n m : ℕ) (fields : List (Option Tree)) (ts : Trees) → find n fields ≡ Some (structure m ts) → inside n (in_order fields) ≡ ts
unfolding as_structure
inside_written n m fields ts e = ap (λ (o : Option Tree). in_field (typed as_structure o)) (found n fields ∙ e)

pub value_written : {A : Type 0} (f : Field A) (o : Option A) → Optional f o → o ≡ value_in f
value_written f None e = sym (ap value_in e)
value_written f (Some x) e = sym (ap value_in e)

-- THE CHILDREN THAT FIELDS ARE, one after the other
abbrev pub rows : List (Option Tree) → Trees
rows [] = none
rows (None ∷ fields) = rows fields
rows (Some t ∷ fields) = more t (rows fields)

abbrev before : Trees → Trees → Trees
before none us = us
before (more t ts) us = more t (before ts us)

before_push : (ts us : Trees) (t : Tree) → before (push ts t) us ≡ before ts (more t us)
before_push none us t = refl
before_push (more u ts) us t = ap (more u) (before_push ts us t)

before_none : (ts : Trees) → ts ≡ before ts none
before_none none = refl
before_none (more t ts) = ap (more t) (before_none ts)

with_rows : (ts : Trees) (fields : List (Option Tree)) → with_fields ts fields ≡ before ts (rows fields)
with_rows ts [] = before_none ts
with_rows ts (None ∷ fields) = with_rows ts fields
with_rows ts (Some t ∷ fields) = with_rows (push ts t) fields ∙ before_push ts (rows fields) t

pub in_order_rows : (fields : List (Option Tree)) → in_order fields ≡ rows fields
in_order_rows fields = with_rows none fields

-- one field more
pub with_one_more : (ts : Trees) (fields : List (Option Tree)) (one : Option Tree) → with_fields ts (fields ++ one ∷ []) ≡ with_field (with_fields ts fields) one
with_one_more ts [] one = refl
with_one_more ts (field ∷ fields) one = with_one_more (with_field ts field) fields one
