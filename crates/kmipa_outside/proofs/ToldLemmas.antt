-- What is told, and what fails.
use Rattle.std.proofs.Common.{◌≡◌, ◌≢◌, ◌⊎◌, ℕ, zero, suc, Bool, true, false, ◌==◌, cond, if◌then◌else◌, is_some, List, [], ◌∷◌, ◌++◌, slice_get, option_map, Option, Some, None, refl, sym, ap, ◌∙◌, subst, inl, inr, eqb-true, eq-eqb}
use Rattle.std.specs.List.{cons_option}
use Rattle.kmipa_ttlv.specs.Tree.{Tree, Trees}
use Rattle.kmipa_msgs.specs.declared.kind.OutsideKind.{OutsideKind}
use Rattle.kmipa_msgs.specs.declared.kind.OutsideKind.TheVariants.{NotAMessage, Version, Count, Operation, ObjectType, IdentifierForm, Wrapped, Format, Missing, Attribute, Pending, Disagree, Unordered}
use Rattle.kmipa_msgs.specs.Kinds.{kind_number}
use Rattle.kmipa_msgs.specs.Outside.{EachFault}
use Rattle.kmipa_outside.specs.Demands.{Fails, fails_in}
use Rattle.kmipa_outside.specs.Laws.{AnyOf, Each, IsBroken}
use Rattle.kmipa_outside.specs.Told.{field_told, fields_told, told_of, within_of}
use Rattle.kmipa_outside.specs.declared.demand.Demand.{Demand}
use Rattle.kmipa_outside.specs.declared.told.FieldTold.{FieldTold}
use Rattle.kmipa_outside.specs.declared.told.Stands.{Stands}

-- ---- kinds of one number are one

abbrev kind_at : ℕ → OutsideKind
kind_at n =
    if n == 1 then NotAMessage
    else if n == 2 then Version
    else if n == 3 then Count
    else if n == 4 then Operation
    else if n == 5 then ObjectType
    else if n == 6 then IdentifierForm
    else if n == 7 then Wrapped
    else if n == 8 then Format
    else if n == 9 then Missing
    else if n == 10 then Attribute
    else if n == 11 then Pending
    else if n == 12 then Disagree
    else Unordered

kind_back : (k : OutsideKind) → kind_at (kind_number k) ≡ k
kind_back NotAMessage = refl
kind_back Version = refl
kind_back Count = refl
kind_back Operation = refl
kind_back ObjectType = refl
kind_back IdentifierForm = refl
kind_back Wrapped = refl
kind_back Format = refl
kind_back Missing = refl
kind_back Attribute = refl
kind_back Pending = refl
kind_back Disagree = refl
kind_back Unordered = refl

one_kind : (j k : OutsideKind) → kind_number j ≡ kind_number k → j ≡ k
one_kind j k e = sym (kind_back j) ∙ ap kind_at e ∙ kind_back k

-- ---- lists that aren't empty

some_of : {A : Type 0} (xs ys : List A) → xs ++ ys ≢ [] → (xs ≢ []) ⊎ (ys ≢ [])
some_of [] ys h = inr h
some_of (x ∷ xs) ys h = inl (λ e. cc)

pub some_left : {A : Type 0} (xs ys : List A) → xs ≢ [] → xs ++ ys ≢ []
some_left [] ys h e = h refl
some_left (x ∷ xs) ys h e = cc

pub some_right : {A : Type 0} (xs ys : List A) → ys ≢ [] → xs ++ ys ≢ []
some_right [] ys h e = h e
some_right (x ∷ xs) ys h e = cc

-- ---- what is told of a table

broken_first : (k : OutsideKind) (within : Option ℕ) (us : Trees) (d : Demand) (ds : List Demand) (rest : List FieldTold) (b : Bool) (r : Option Stands) → (kind_number d.kind == kind_number k) ≡ b → fails_in d us ≡ r
    → (rest ≢ [] → AnyOf (IsBroken k us) ds) → cons_option (cond b (option_map (field_told within d) r) None) rest ≢ [] → IsBroken k us d ⊎ AnyOf (IsBroken k us) ds
broken_first k within us d ds rest true (Some s) e f rests h = inl (one_kind d.kind k (eqb-true _ _ e), ap is_some f)
broken_first k within us d ds rest true None e f rests h = inr (rests h)
broken_first k within us d ds rest false r e f rests h = inr (rests h)

pub told_any : (k : OutsideKind) (within : Option ℕ) (ts : Trees) (ds : List Demand) → fields_told k within ts ds ≢ [] → AnyOf (IsBroken k (within_of within ts)) ds
told_any k within ts [] h = absurd (h refl)
told_any k within ts (d ∷ ds) h =
    broken_first k within (within_of within ts) d ds (fields_told k within ts ds) (kind_number d.kind == kind_number k) (fails_in d (within_of within ts)) refl refl (told_any k within ts ds) h

told_first : (within : Option ℕ) (d : Demand) (rest : List FieldTold) (b : Bool) (r : Option Stands) → b ≡ true → is_some r ≡ true → cons_option (cond b (option_map (field_told within d) r) None) rest ≢ []
told_first within d rest true (Some s) e f h = cc
told_first within d rest true None e f h = let g : false ≡ true = f in cc
told_first within d rest false r e f h = let g : false ≡ true = e in cc

told_rest : (o : Option FieldTold) (rest : List FieldTold) → rest ≢ [] → cons_option o rest ≢ []
told_rest None rest h e = h e
told_rest (Some x) rest h e = cc

pub any_told : (k : OutsideKind) (within : Option ℕ) (ts : Trees) (ds : List Demand) → AnyOf (IsBroken k (within_of within ts)) ds → fields_told k within ts ds ≢ []
any_told k within ts [] h e = absurd h
any_told k within ts (d ∷ ds) h e = elim h [
  | inl p ↦ told_first within d (fields_told k within ts ds) (kind_number d.kind == kind_number k) (fails_in d (within_of within ts)) (eq-eqb (kind_number d.kind) (kind_number k) (ap kind_number p.0)) p.1 e
  | inr q ↦ told_rest (told_of k within ts d) (fields_told k within ts ds) (any_told k within ts ds q) e
]

-- two tables, one behind the other
pub told_both : (k : OutsideKind) (ts : Trees) (v w : Option ℕ) (ds es : List Demand) → fields_told k v ts ds ++ fields_told k w ts es ≢ [] → AnyOf (IsBroken k (within_of v ts)) ds ⊎ AnyOf (IsBroken k (within_of w ts)) es
told_both k ts v w ds es h = elim (some_of (fields_told k v ts ds) (fields_told k w ts es) h) [ inl g ↦ inl (told_any k v ts ds g) | inr g ↦ inr (told_any k w ts es g) ]

pub both_told : (k : OutsideKind) (ts : Trees) (v w : Option ℕ) (ds es : List Demand) → AnyOf (IsBroken k (within_of v ts)) ds ⊎ AnyOf (IsBroken k (within_of w ts)) es → fields_told k v ts ds ++ fields_told k w ts es ≢ []
both_told k ts v w ds es h = elim h [
  | inl g ↦ some_left (fields_told k v ts ds) (fields_told k w ts es) (any_told k v ts ds g)
  | inr g ↦ some_right (fields_told k v ts ds) (fields_told k w ts es) (any_told k w ts es g)
]

-- ---- reasons

-- what is broken is a reason for its kind
pub any_reason : (F : OutsideKind → Type 0) (us : Trees) (k : OutsideKind) (ds : List Demand) → Each (λ (d : Demand). Fails d us → F d.kind) ds → AnyOf (IsBroken k us) ds → F k
any_reason F us k [] e h = absurd h
any_reason F us k (d ∷ ds) e h = elim h [ inl p ↦ subst F p.0 (e.0 p.1) | inr q ↦ any_reason F us k ds e.1 q ]

pub any_left : {A : Type 0} (P : A → Type 0) (xs ys : List A) → AnyOf P xs → AnyOf P (xs ++ ys)
any_left P [] ys h = absurd h
any_left P (x ∷ xs) ys h = elim h [ inl p ↦ inl p | inr q ↦ inr (any_left P xs ys q) ]

pub any_right : {A : Type 0} (P : A → Type 0) (xs ys : List A) → AnyOf P ys → AnyOf P (xs ++ ys)
any_right P [] ys h = h
any_right P (x ∷ xs) ys h = inr (any_right P xs ys h)

pub any_split : {A : Type 0} (P : A → Type 0) (xs ys : List A) → AnyOf P (xs ++ ys) → AnyOf P xs ⊎ AnyOf P ys
any_split P [] ys h = inr h
any_split P (x ∷ xs) ys h = elim h [
  | inl p ↦ inl (inl p)
  | inr q ↦ elim (any_split P xs ys q) [ inl g ↦ inl (inr g) | inr g ↦ inr g ]
]

-- ---- items

pub each_from : (F : ℕ → Tree → OutsideKind → Type 0) (ts : List Tree) (place : ℕ) (k : OutsideKind) → EachFault F ts place k → (t : Tree) × (slice_get ts place ≡ Some t) × F place t k
each_from F [] place k h = absurd h
each_from F (t ∷ ts) zero k h = (t, refl, h)
each_from F (t ∷ ts) (suc place) k h = each_from (λ i. F (suc i)) ts place k h

pub each_to : (F : ℕ → Tree → OutsideKind → Type 0) (ts : List Tree) (place : ℕ) (k : OutsideKind) (t : Tree) → slice_get ts place ≡ Some t → F place t k → EachFault F ts place k
each_to F [] place k t e h = let g : None ≡ Some t = e in cc
each_to F (u ∷ ts) zero k t e h = let same : t ≡ u = cc in subst (λ (v : Tree). F zero v k) same h
each_to F (u ∷ ts) (suc place) k t e h = each_to (λ i. F (suc i)) ts place k t e h
