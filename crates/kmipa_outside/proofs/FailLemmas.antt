-- When a field fails, and when it is at fault.
use Rattle.std.proofs.Common.{◌≡◌, ◌<◌, ℕ, ℤ, Bool, true, false, not, ◌==◌, nat_lt, cond, is_some, List, [], ◌∷◌, length, Option, Some, None, refl, sym, ap, ◌∙◌, inl, inr, ◌⊎◌, option_to_list}
use Rattle.kmipa_ttlv.specs.Tree.{Tree, Trees, structure, scalar}
use Rattle.kmipa_ttlv.specs.Tree
use Rattle.kmipa_attrs.specs.Fields.{first, every, at, typed, field_of, as_structure, as_integer, as_enumeration, as_boolean, as_text, as_bytes, as_date}
use Rattle.kmipa_attrs.specs.Readings.{NeededFault, IsWrong}
use Rattle.kmipa_attrs.specs.declared.fields.Field.{Field}
use Rattle.kmipa_attrs.specs.declared.fields.Field.TheVariants.{Absent, Wrong, There}
use Rattle.kmipa_msgs.specs.Tables.{Unlisted, IsThere}
use Rattle.kmipa_outside.specs.Demands.{first_in, first_fails, fails, is_one_of, unlike}
use Rattle.kmipa_outside.specs.ItemTypes.{item_type, is_of}
use Rattle.kmipa_outside.specs.declared.demand.Numbers.{Numbers}
use Rattle.kmipa_outside.specs.declared.demand.Wanted.{Wanted}
use Rattle.kmipa_outside.specs.declared.demand.Wanted.TheVariants as wanted
use Rattle.kmipa_outside.specs.declared.told.Stands.{Stands}
use Rattle.kmipa_outside.specs.declared.types.ItemType.{ItemType}
use Rattle.kmipa_outside.specs.declared.types.ItemType.TheVariants as type
use Rattle.kmipa_outside.proofs.DemandLemmas.{first_every}

-- what is wanted of the first with a tag fails
abbrev pub Fail : Wanted → ℕ → Trees → Type 0
Fail w n ts = is_some (fails w (every n ts)) ≡ true

abbrev pub FailAt : Wanted → Option Tree → Type 0
FailAt w o = is_some (first_fails w o) ≡ true

-- an item is of the type exactly where it is read so
abbrev pub Decides : {A : Type 0} → (Tree → Option A) → ItemType → Type 0
Decides how ty = (t : Tree) → is_some (how t) ≡ is_of ty t

pub decides_structure : Decides as_structure type.Structure
unfolding as_structure
decides_structure (structure n ts) = refl
decides_structure (scalar n (Tree.integer z)) = refl
decides_structure (scalar n (Tree.long_integer z)) = refl
decides_structure (scalar n (Tree.big_integer bs)) = refl
decides_structure (scalar n (Tree.enumeration x)) = refl
decides_structure (scalar n (Tree.boolean b)) = refl
decides_structure (scalar n (Tree.text bs)) = refl
decides_structure (scalar n (Tree.byte_string bs)) = refl
decides_structure (scalar n (Tree.date_time z)) = refl
decides_structure (scalar n (Tree.interval x)) = refl
decides_structure (scalar n (Tree.date_time_extended z)) = refl

pub decides_integer : Decides as_integer type.Integer
unfolding as_integer
decides_integer (structure n ts) = refl
decides_integer (scalar n (Tree.integer z)) = refl
decides_integer (scalar n (Tree.long_integer z)) = refl
decides_integer (scalar n (Tree.big_integer bs)) = refl
decides_integer (scalar n (Tree.enumeration x)) = refl
decides_integer (scalar n (Tree.boolean b)) = refl
decides_integer (scalar n (Tree.text bs)) = refl
decides_integer (scalar n (Tree.byte_string bs)) = refl
decides_integer (scalar n (Tree.date_time z)) = refl
decides_integer (scalar n (Tree.interval x)) = refl
decides_integer (scalar n (Tree.date_time_extended z)) = refl

pub decides_enumeration : Decides as_enumeration type.Enumeration
unfolding as_enumeration
decides_enumeration (structure n ts) = refl
decides_enumeration (scalar n (Tree.integer z)) = refl
decides_enumeration (scalar n (Tree.long_integer z)) = refl
decides_enumeration (scalar n (Tree.big_integer bs)) = refl
decides_enumeration (scalar n (Tree.enumeration x)) = refl
decides_enumeration (scalar n (Tree.boolean b)) = refl
decides_enumeration (scalar n (Tree.text bs)) = refl
decides_enumeration (scalar n (Tree.byte_string bs)) = refl
decides_enumeration (scalar n (Tree.date_time z)) = refl
decides_enumeration (scalar n (Tree.interval x)) = refl
decides_enumeration (scalar n (Tree.date_time_extended z)) = refl

pub decides_boolean : Decides as_boolean type.Boolean
unfolding as_boolean
decides_boolean (structure n ts) = refl
decides_boolean (scalar n (Tree.integer z)) = refl
decides_boolean (scalar n (Tree.long_integer z)) = refl
decides_boolean (scalar n (Tree.big_integer bs)) = refl
decides_boolean (scalar n (Tree.enumeration x)) = refl
decides_boolean (scalar n (Tree.boolean b)) = refl
decides_boolean (scalar n (Tree.text bs)) = refl
decides_boolean (scalar n (Tree.byte_string bs)) = refl
decides_boolean (scalar n (Tree.date_time z)) = refl
decides_boolean (scalar n (Tree.interval x)) = refl
decides_boolean (scalar n (Tree.date_time_extended z)) = refl

pub decides_text : Decides as_text type.Text
unfolding as_text
decides_text (structure n ts) = refl
decides_text (scalar n (Tree.integer z)) = refl
decides_text (scalar n (Tree.long_integer z)) = refl
decides_text (scalar n (Tree.big_integer bs)) = refl
decides_text (scalar n (Tree.enumeration x)) = refl
decides_text (scalar n (Tree.boolean b)) = refl
decides_text (scalar n (Tree.text bs)) = refl
decides_text (scalar n (Tree.byte_string bs)) = refl
decides_text (scalar n (Tree.date_time z)) = refl
decides_text (scalar n (Tree.interval x)) = refl
decides_text (scalar n (Tree.date_time_extended z)) = refl

pub decides_bytes : Decides as_bytes type.Bytes
unfolding as_bytes
decides_bytes (structure n ts) = refl
decides_bytes (scalar n (Tree.integer z)) = refl
decides_bytes (scalar n (Tree.long_integer z)) = refl
decides_bytes (scalar n (Tree.big_integer bs)) = refl
decides_bytes (scalar n (Tree.enumeration x)) = refl
decides_bytes (scalar n (Tree.boolean b)) = refl
decides_bytes (scalar n (Tree.text bs)) = refl
decides_bytes (scalar n (Tree.byte_string bs)) = refl
decides_bytes (scalar n (Tree.date_time z)) = refl
decides_bytes (scalar n (Tree.interval x)) = refl
decides_bytes (scalar n (Tree.date_time_extended z)) = refl

pub decides_date : Decides as_date type.DateTime
unfolding as_date
decides_date (structure n ts) = refl
decides_date (scalar n (Tree.integer z)) = refl
decides_date (scalar n (Tree.long_integer z)) = refl
decides_date (scalar n (Tree.big_integer bs)) = refl
decides_date (scalar n (Tree.enumeration x)) = refl
decides_date (scalar n (Tree.boolean b)) = refl
decides_date (scalar n (Tree.text bs)) = refl
decides_date (scalar n (Tree.byte_string bs)) = refl
decides_date (scalar n (Tree.date_time z)) = refl
decides_date (scalar n (Tree.interval x)) = refl
decides_date (scalar n (Tree.date_time_extended z)) = refl

-- of the first with a tag, by the first that there is
pub at_first : (w : Wanted) (n : ℕ) (ts : Trees) → is_some (first_fails w (first_in (every n ts))) ≡ true → FailAt w (first n ts)
at_first w n ts e = ap (λ (o : Option Tree). is_some (first_fails w o)) (first_every n ts) ∙ e

pub of_first : (w : Wanted) (n : ℕ) (ts : Trees) → FailAt w (first n ts) → is_some (first_fails w (first_in (every n ts))) ≡ true
of_first w n ts e = sym (ap (λ (o : Option Tree). is_some (first_fails w o)) (first_every n ts)) ∙ e

-- ONE TYPE

-- the field that an item is, by whether it is of the type
wrong_by : {A : Type 0} (r : Option A) (b : Bool) (s : Stands) → is_some r ≡ b → is_some (cond b None (Some s)) ≡ true → IsWrong (field_of (Some r))
wrong_by None b s e f = tt
wrong_by (Some x) true s e f = let h : false ≡ true = f in cc
wrong_by (Some x) false s e f = let h : true ≡ false = e in cc

fails_by : {A : Type 0} (r : Option A) (b : Bool) (s : Stands) → is_some r ≡ b → IsWrong (field_of (Some r)) → is_some (cond b None (Some s)) ≡ true
fails_by None true s e f = let h : false ≡ true = e in cc
fails_by None false s e f = refl
fails_by (Some x) b s e f = absurd f

wrong_at : {A : Type 0} (how : Tree → Option A) (ty : ItemType) → Decides how ty → (o : Option Tree) → FailAt (wanted.MaybeTyped ty) o → IsWrong (typed how o)
wrong_at how ty d None e = let h : false ≡ true = e in cc
wrong_at how ty d (Some t) e = wrong_by (how t) (is_of ty t) _ (d t) e

fails_wrong_at : {A : Type 0} (how : Tree → Option A) (ty : ItemType) → Decides how ty → (o : Option Tree) → IsWrong (typed how o) → FailAt (wanted.MaybeTyped ty) o
fails_wrong_at how ty d None w = absurd w
fails_wrong_at how ty d (Some t) w = fails_by (how t) (is_of ty t) _ (d t) w

pub wrong : {A : Type 0} (how : Tree → Option A) (ty : ItemType) → Decides how ty → (n : ℕ) (ts : Trees) → Fail (wanted.MaybeTyped ty) n ts → IsWrong (at how n ts)
wrong how ty d n ts e = wrong_at how ty d (first n ts) (at_first (wanted.MaybeTyped ty) n ts e)

pub fails_wrong : {A : Type 0} (how : Tree → Option A) (ty : ItemType) → Decides how ty → (n : ℕ) (ts : Trees) → IsWrong (at how n ts) → Fail (wanted.MaybeTyped ty) n ts
fails_wrong how ty d n ts w = of_first (wanted.MaybeTyped ty) n ts (fails_wrong_at how ty d (first n ts) w)

-- A FIELD THAT IS TO BE THERE

absent_at : {A K : Type 0} (how : Tree → Option A) (o : Option Tree) (a w : K) → FailAt wanted.There o → NeededFault (typed how o) a w a
absent_at how None a w e = refl
absent_at how (Some t) a w e = let h : false ≡ true = e in cc

pub absent : {A K : Type 0} (how : Tree → Option A) (n : ℕ) (ts : Trees) (a w : K) → Fail wanted.There n ts → NeededFault (at how n ts) a w a
absent how n ts a w e = absent_at how (first n ts) a w (at_first wanted.There n ts e)

needed_wrong : {A K : Type 0} (f : Field A) (a w : K) → IsWrong f → NeededFault f a w w
needed_wrong Absent a w h = absurd h
needed_wrong Wrong a w h = refl
needed_wrong (There x) a w h = absurd h

-- of another type
pub mistyped : {A K : Type 0} (how : Tree → Option A) (ty : ItemType) → Decides how ty → (n : ℕ) (ts : Trees) (a w : K) → Fail (wanted.MaybeTyped ty) n ts → NeededFault (at how n ts) a w w
mistyped how ty d n ts a w e = needed_wrong (at how n ts) a w (wrong how ty d n ts e)

needed_at : {A K : Type 0} (how : Tree → Option A) (ty : ItemType) → Decides how ty → (o : Option Tree) (k : K) → FailAt (wanted.Typed ty) o → NeededFault (typed how o) k k k
needed_at how ty d None k e = refl
needed_at how ty d (Some t) k e = needed_wrong (typed how (Some t)) k k (wrong_at how ty d (Some t) e)

pub needed : {A K : Type 0} (how : Tree → Option A) (ty : ItemType) → Decides how ty → (n : ℕ) (ts : Trees) (k : K) → Fail (wanted.Typed ty) n ts → NeededFault (at how n ts) k k k
needed how ty d n ts k e = needed_at how ty d (first n ts) k (at_first (wanted.Typed ty) n ts e)

fails_needed_at : {A K : Type 0} (how : Tree → Option A) (ty : ItemType) → Decides how ty → (o : Option Tree) (a k : K) → NeededFault (typed how o) a a k → (a ≡ k) × FailAt (wanted.Typed ty) o
fails_needed_at how ty d None a k h = (sym h, refl)
fails_needed_at {A} {K} how ty d (Some t) a k h = by (how t) refl h
  where
    by : (r : Option A) → how t ≡ r → NeededFault (field_of (Some r)) a a k → (a ≡ k) × FailAt (wanted.Typed ty) (Some t)
    by None e h = (sym h, fails_by {A = A} None (is_of ty t) _ (sym (ap is_some e) ∙ d t) tt)
    by (Some x) e h = absurd h

pub fails_needed : {A K : Type 0} (how : Tree → Option A) (ty : ItemType) → Decides how ty → (n : ℕ) (ts : Trees) (a k : K) → NeededFault (at how n ts) a a k → (a ≡ k) × Fail (wanted.Typed ty) n ts
fails_needed how ty d n ts a k h = let w = fails_needed_at how ty d (first n ts) a k h in (w.0, of_first (wanted.Typed ty) n ts w.1)

-- absent, or of another type
fails_either_at : {A K : Type 0} (how : Tree → Option A) (ty : ItemType) → Decides how ty → (o : Option Tree) (a w k : K) → NeededFault (typed how o) a w k
    → ((a ≡ k) × FailAt wanted.There o) ⊎ ((w ≡ k) × FailAt (wanted.MaybeTyped ty) o)
fails_either_at how ty d None a w k h = inl (sym h, refl)
fails_either_at {A} {K} how ty d (Some t) a w k h = by (how t) refl h
  where
    by : (r : Option A) → how t ≡ r → NeededFault (field_of (Some r)) a w k → ((a ≡ k) × FailAt wanted.There (Some t)) ⊎ ((w ≡ k) × FailAt (wanted.MaybeTyped ty) (Some t))
    by None e h = inr (sym h, fails_by {A = A} None (is_of ty t) _ (sym (ap is_some e) ∙ d t) tt)
    by (Some x) e h = absurd h

pub fails_either : {A K : Type 0} (how : Tree → Option A) (ty : ItemType) → Decides how ty → (n : ℕ) (ts : Trees) (a w k : K) → NeededFault (at how n ts) a w k
    → ((a ≡ k) × Fail wanted.There n ts) ⊎ ((w ≡ k) × Fail (wanted.MaybeTyped ty) n ts)
fails_either how ty d n ts a w k h = elim (fails_either_at how ty d (first n ts) a w k h) [
  | inl g ↦ inl (g.0, of_first wanted.There n ts g.1)
  | inr g ↦ inr (g.0, of_first (wanted.MaybeTyped ty) n ts g.1)
]

-- A CHILD THAT IS THERE, OR ISN'T

there_at : (o : Option Tree) → FailAt wanted.Nothing o → IsThere o
there_at None e = let h : false ≡ true = e in cc
there_at (Some t) e = tt

pub there : (n : ℕ) (ts : Trees) → Fail wanted.Nothing n ts → IsThere (first n ts)
there n ts e = there_at (first n ts) (at_first wanted.Nothing n ts e)

fails_there_at : (o : Option Tree) → IsThere o → FailAt wanted.Nothing o
fails_there_at None w = absurd w
fails_there_at (Some t) w = refl

pub fails_there : (n : ℕ) (ts : Trees) → IsThere (first n ts) → Fail wanted.Nothing n ts
fails_there n ts w = of_first wanted.Nothing n ts (fails_there_at (first n ts) w)

none_at : (o : Option Tree) → FailAt wanted.There o → o ≡ None
none_at None e = refl
none_at (Some t) e = let h : false ≡ true = e in cc

pub none_there : (n : ℕ) (ts : Trees) → Fail wanted.There n ts → first n ts ≡ None
none_there n ts e = none_at (first n ts) (at_first wanted.There n ts e)

pub fails_none : (n : ℕ) (ts : Trees) → first n ts ≡ None → Fail wanted.There n ts
fails_none n ts e = of_first wanted.There n ts (ap (λ (o : Option Tree). is_some (first_fails wanted.There o)) e)

-- A NUMBER

-- an Enumeration, or an item that isn't one
enumeration_or : (t : Tree) → ((n x : ℕ) × (t ≡ scalar n (Tree.enumeration x))) ⊎ (as_enumeration t ≡ None)
unfolding as_enumeration
enumeration_or (scalar n (Tree.enumeration x)) = inl (n, x, refl)
enumeration_or (structure n ts) = inr refl
enumeration_or (scalar n (Tree.integer z)) = inr refl
enumeration_or (scalar n (Tree.long_integer z)) = inr refl
enumeration_or (scalar n (Tree.big_integer bs)) = inr refl
enumeration_or (scalar n (Tree.boolean b)) = inr refl
enumeration_or (scalar n (Tree.text bs)) = inr refl
enumeration_or (scalar n (Tree.byte_string bs)) = inr refl
enumeration_or (scalar n (Tree.date_time z)) = inr refl
enumeration_or (scalar n (Tree.interval x)) = inr refl
enumeration_or (scalar n (Tree.date_time_extended z)) = inr refl
