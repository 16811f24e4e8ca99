-- When a number fails, and when it is at fault.
use Rattle.std.proofs.Common.{◌≡◌, ◌<◌, ◌≤◌, ◌+◌, ℕ, ℤ, Bool, true, false, not, ◌==◌, ◌&&◌, nat_lt, cond, is_some, List, [], ◌∷◌, length, map, Option, Some, None, refl, sym, ap, ◌∙◌, inl, inr, ◌⊎◌, arith, eqb-true, ltb-true, lt-ltb}
use Rattle.std.proofs.lemmas.List.{length-map}
use Rattle.std.specs.Ordering.{int_eq}
use Rattle.kmipa_ttlv.specs.Tree.{Tree, Trees, structure, scalar}
use Rattle.kmipa_ttlv.specs.Tree
use Rattle.kmipa_attrs.specs.Attributes.{each, SomeWrong}
use Rattle.kmipa_attrs.specs.Fields.{first, every, at, typed, as_integer, as_enumeration}
use Rattle.kmipa_attrs.specs.declared.fields.Field.{Field}
use Rattle.kmipa_attrs.specs.declared.fields.Field.TheVariants.{Absent, Wrong, There}
use Rattle.kmipa_msgs.specs.Headers.{is_number, count_is, counts}
use Rattle.kmipa_msgs.specs.Tables.{Unlisted}
use Rattle.kmipa_outside.specs.Demands.{first_in, first_fails, fails, some_fails, many, passes, is_one_of, misfit, lack, other_number}
use Rattle.kmipa_outside.specs.Demands as demands
use Rattle.kmipa_outside.specs.declared.demand.Numbers.{Numbers}
use Rattle.kmipa_outside.specs.declared.demand.Wanted.{Wanted}
use Rattle.kmipa_outside.specs.declared.demand.Wanted.TheVariants as wanted
use Rattle.kmipa_outside.specs.declared.told.Stands
use Rattle.kmipa_outside.specs.declared.types.ItemType.{ItemType}
use Rattle.kmipa_outside.specs.ItemTypes.{item_type}
use Rattle.kmipa_attrs.specs.Names.{as_name}
use Rattle.kmipa_outside.proofs.DemandLemmas.{first_every}
use Rattle.kmipa_outside.proofs.FailLemmas.{Decides, Fail, FailAt, at_first, of_first}

-- AN ENUMERATION

-- a number is wanted, and other types are read over
pub record IsOfNumbers (w : Wanted) : Type 0 where
  pub numbers : (t : Tree) → misfit w t ≡ other_number w t
  pub over : lack w ≡ None

refused : (b : Bool) (s : Stands.Stands) → is_some (cond b None (Some s)) ≡ true → b ≡ false
refused true s e = let h : false ≡ true = e in cc
refused false s e = refl

number_in : (w : Wanted) (t : Tree) → is_some (other_number w t) ≡ true → (x : ℕ) × (typed as_enumeration (Some t) ≡ There x) × (demands.is_number w x ≡ false)
unfolding as_enumeration
number_in w (scalar n (Tree.enumeration x)) e = (x, refl, refused (demands.is_number w x) _ e)
number_in w (structure n ts) e = let h : false ≡ true = e in cc
number_in w (scalar n (Tree.integer z)) e = let h : false ≡ true = e in cc
number_in w (scalar n (Tree.long_integer z)) e = let h : false ≡ true = e in cc
number_in w (scalar n (Tree.big_integer bs)) e = let h : false ≡ true = e in cc
number_in w (scalar n (Tree.boolean b)) e = let h : false ≡ true = e in cc
number_in w (scalar n (Tree.text bs)) e = let h : false ≡ true = e in cc
number_in w (scalar n (Tree.byte_string bs)) e = let h : false ≡ true = e in cc
number_in w (scalar n (Tree.date_time z)) e = let h : false ≡ true = e in cc
number_in w (scalar n (Tree.interval x)) e = let h : false ≡ true = e in cc
number_in w (scalar n (Tree.date_time_extended z)) e = let h : false ≡ true = e in cc

number_at : (w : Wanted) → IsOfNumbers w → (o : Option Tree) → FailAt w o → (x : ℕ) × (typed as_enumeration o ≡ There x) × (demands.is_number w x ≡ false)
number_at w d None e = let h : false ≡ true = sym (ap is_some d.over) ∙ e in cc
number_at w d (Some t) e = number_in w t (sym (ap is_some (d.numbers t)) ∙ e)

-- the number that isn't wanted
pub number : (w : Wanted) → IsOfNumbers w → (n : ℕ) (ts : Trees) → Fail w n ts → is_some (first_fails w (first_in (every n ts))) ≡ is_some (fails w (every n ts))
    → (x : ℕ) × (at as_enumeration n ts ≡ There x) × (demands.is_number w x ≡ false)
number w d n ts e same = number_at w d (first n ts) (at_first w n ts (same ∙ e))

fails_number_in : (w : Wanted) (t : Tree) (x : ℕ) → typed as_enumeration (Some t) ≡ There x → demands.is_number w x ≡ false → is_some (other_number w t) ≡ true
unfolding as_enumeration
fails_number_in w (scalar n (Tree.enumeration y)) x e off =
    let m : y ≡ x = cc in
    ap (λ (b : Bool). is_some (cond b None (Some (Stands.TheVariants.Number y)))) (ap (demands.is_number w) m ∙ off)
fails_number_in w (structure n ts) x e off = cc
fails_number_in w (scalar n (Tree.integer z)) x e off = cc
fails_number_in w (scalar n (Tree.long_integer z)) x e off = cc
fails_number_in w (scalar n (Tree.big_integer bs)) x e off = cc
fails_number_in w (scalar n (Tree.boolean b)) x e off = cc
fails_number_in w (scalar n (Tree.text bs)) x e off = cc
fails_number_in w (scalar n (Tree.byte_string bs)) x e off = cc
fails_number_in w (scalar n (Tree.date_time z)) x e off = cc
fails_number_in w (scalar n (Tree.interval z)) x e off = cc
fails_number_in w (scalar n (Tree.date_time_extended z)) x e off = cc

fails_number_at : (w : Wanted) → IsOfNumbers w → (o : Option Tree) (x : ℕ) → typed as_enumeration o ≡ There x → demands.is_number w x ≡ false → FailAt w o
fails_number_at w d None x e off = cc
fails_number_at w d (Some t) x e off = ap is_some (d.numbers t) ∙ fails_number_in w t x e off

pub fails_number : (w : Wanted) → IsOfNumbers w → (n : ℕ) (ts : Trees) (x : ℕ) → at as_enumeration n ts ≡ There x → demands.is_number w x ≡ false → is_some (first_fails w (first_in (every n ts))) ≡ true
fails_number w d n ts x e off = of_first w n ts (fails_number_at w d (first n ts) x e off)

-- one of a table
pub of_numbers : (numbers : Numbers) → IsOfNumbers (wanted.OneOf numbers)
of_numbers numbers = record { numbers = λ t. refl; over = refl }

off_table : {A : Type 0} (o : Option A) → is_some o ≡ false → o ≡ None
off_table None e = refl
off_table (Some x) e = let h : true ≡ false = e in cc

pub unlisted : {A : Type 0} (numbers : Numbers) (table : ℕ → Option A) → ((m : ℕ) → is_one_of numbers m ≡ is_some (table m)) → (n : ℕ) (ts : Trees) → Fail (wanted.OneOf numbers) n ts
    → Unlisted (at as_enumeration n ts) table
unlisted numbers table d n ts e =
    let w = number (wanted.OneOf numbers) (of_numbers numbers) n ts e refl in
    record { number = w.0; is = w.1; unlisted = off_table (table w.0) (sym (d w.0) ∙ w.2) }

pub fails_unlisted : {A : Type 0} (numbers : Numbers) (table : ℕ → Option A) → ((m : ℕ) → is_one_of numbers m ≡ is_some (table m)) → (n : ℕ) (ts : Trees) → Unlisted (at as_enumeration n ts) table
    → Fail (wanted.OneOf numbers) n ts
fails_unlisted numbers table d n ts u = fails_number (wanted.OneOf numbers) (of_numbers numbers) n ts u.number u.is (d u.number ∙ ap is_some u.unlisted)

-- AN INTEGER

pub refused_is : (b : Bool) (s : Stands.Stands) → is_some (cond b None (Some s)) ≡ not b
refused_is true s = refl
refused_is false s = refl

version_at : (z : ℤ) (o : Option Tree) → is_some (first_fails (wanted.Integer z) o) ≡ not (is_number (typed as_integer o) z)
unfolding as_integer
version_at z None = refl
version_at z (Some (scalar n (Tree.integer m))) = refused_is (int_eq m z) _
version_at z (Some (structure n ts)) = refl
version_at z (Some (scalar n (Tree.enumeration x))) = refl
version_at z (Some (scalar n (Tree.long_integer x))) = refl
version_at z (Some (scalar n (Tree.big_integer bs))) = refl
version_at z (Some (scalar n (Tree.boolean b))) = refl
version_at z (Some (scalar n (Tree.text bs))) = refl
version_at z (Some (scalar n (Tree.byte_string bs))) = refl
version_at z (Some (scalar n (Tree.date_time x))) = refl
version_at z (Some (scalar n (Tree.interval x))) = refl
version_at z (Some (scalar n (Tree.date_time_extended x))) = refl

pub version_is : (z : ℤ) (n : ℕ) (ts : Trees) → is_some (fails (wanted.Integer z) (every n ts)) ≡ not (is_number (at as_integer n ts) z)
version_is z n ts = sym (ap (λ (o : Option Tree). is_some (first_fails (wanted.Integer z) o)) (first_every n ts)) ∙ version_at z (first n ts)

count_at : (items : ℕ) (o : Option Tree) → is_some (first_fails (wanted.Count items) o) ≡ not (count_is (typed as_integer o) items)
unfolding as_integer
count_at items None = refl
count_at items (Some (scalar n (Tree.integer m))) = refused_is (counts m items) _
count_at items (Some (structure n ts)) = refl
count_at items (Some (scalar n (Tree.enumeration x))) = refl
count_at items (Some (scalar n (Tree.long_integer x))) = refl
count_at items (Some (scalar n (Tree.big_integer bs))) = refl
count_at items (Some (scalar n (Tree.boolean b))) = refl
count_at items (Some (scalar n (Tree.text bs))) = refl
count_at items (Some (scalar n (Tree.byte_string bs))) = refl
count_at items (Some (scalar n (Tree.date_time x))) = refl
count_at items (Some (scalar n (Tree.interval x))) = refl
count_at items (Some (scalar n (Tree.date_time_extended x))) = refl

pub count_is_so : (items : ℕ) (n : ℕ) (ts : Trees) → is_some (fails (wanted.Count items) (every n ts)) ≡ not (count_is (at as_integer n ts) items)
count_is_so items n ts = sym (ap (λ (o : Option Tree). is_some (first_fails (wanted.Count items) o)) (first_every n ts)) ∙ count_at items (first n ts)

-- EACH WITH A TAG

-- an item, by whether it passes, before the others
wrong_first : {A : Type 0} (r : Option A) (b : Bool) (place : ℕ) (t : Tree) (ts : List Tree) (rest : Option Stands.Stands) (how : Tree → Option A) → is_some r ≡ b → (is_some rest ≡ true → SomeWrong (map how ts))
    → is_some (cond b rest (Some (Stands.TheVariants.Nth place (item_type t)))) ≡ true → SomeWrong (r ∷ map how ts)
wrong_first None b place t ts rest how f then e = tt
wrong_first (Some x) true place t ts rest how f then e = then e
wrong_first (Some x) false place t ts rest how f then e = let h : true ≡ false = f in cc

some_wrong : {A : Type 0} (w : Wanted) (how : Tree → Option A) → ((t : Tree) → is_some (how t) ≡ passes w t) → (place : ℕ) (ts : List Tree) → is_some (some_fails w place ts) ≡ true → SomeWrong (map how ts)
some_wrong w how d place [] e = let h : false ≡ true = e in cc
some_wrong w how d place (t ∷ ts) e = wrong_first (how t) (passes w t) place t ts (some_fails w (place + 1) ts) how (d t) (some_wrong w how d (place + 1) ts) e

fails_first_of : {A : Type 0} (r : Option A) (b : Bool) (place : ℕ) (t : Tree) (ts : List Tree) (rest : Option Stands.Stands) (how : Tree → Option A) → is_some r ≡ b → (SomeWrong (map how ts) → is_some rest ≡ true)
    → SomeWrong (r ∷ map how ts) → is_some (cond b rest (Some (Stands.TheVariants.Nth place (item_type t)))) ≡ true
fails_first_of None true place t ts rest how f then h = let g : false ≡ true = f in cc
fails_first_of None false place t ts rest how f then h = refl
fails_first_of (Some x) true place t ts rest how f then h = then h
fails_first_of (Some x) false place t ts rest how f then h = let g : true ≡ false = f in cc

fails_some_wrong : {A : Type 0} (w : Wanted) (how : Tree → Option A) → ((t : Tree) → is_some (how t) ≡ passes w t) → (place : ℕ) (ts : List Tree) → SomeWrong (map how ts) → is_some (some_fails w place ts) ≡ true
fails_some_wrong w how d place [] h = absurd h
fails_some_wrong w how d place (t ∷ ts) h = fails_first_of (how t) (passes w t) place t ts (some_fails w (place + 1) ts) how (d t) (fails_some_wrong w how d (place + 1) ts) h

pub each_wrong : {A : Type 0} (how : Tree → Option A) (ty : ItemType) → Decides how ty → (n : ℕ) (ts : Trees) → Fail (wanted.EachTyped ty) n ts → SomeWrong (each how n ts)
unfolding each
each_wrong how ty d n ts e = some_wrong (wanted.EachTyped ty) how d 1 (every n ts) e

pub fails_each : {A : Type 0} (how : Tree → Option A) (ty : ItemType) → Decides how ty → (n : ℕ) (ts : Trees) → SomeWrong (each how n ts) → Fail (wanted.EachTyped ty) n ts
unfolding each
fails_each how ty d n ts h = fails_some_wrong (wanted.EachTyped ty) how d 1 (every n ts) h

pub name_wrong : (n : ℕ) (ts : Trees) → Fail wanted.EachName n ts → SomeWrong (each as_name n ts)
unfolding each
name_wrong n ts e = some_wrong wanted.EachName as_name (λ t. refl) 1 (every n ts) e

pub fails_name : (n : ℕ) (ts : Trees) → SomeWrong (each as_name n ts) → Fail wanted.EachName n ts
unfolding each
fails_name n ts h = fails_some_wrong wanted.EachName as_name (λ t. refl) 1 (every n ts) h

-- two or more
many_by : (n : ℕ) → is_some (many n) ≡ true → 2 ≤ n
many_by n e = by (nat_lt 1 n) refl e
  where
    by : (b : Bool) → nat_lt 1 n ≡ b → is_some (cond b (Some (Stands.TheVariants.Many n)) None) ≡ true → 2 ≤ n
    by true q e = let h : 1 < n = ltb-true _ _ q in omega (arith, h)
    by false q e = let h : false ≡ true = e in cc

pub repeated : {A : Type 0} (how : Tree → Option A) (n : ℕ) (ts : Trees) → Fail wanted.Once n ts → 2 ≤ length (each how n ts)
unfolding each
repeated how n ts e = let h = many_by (length (every n ts)) e in omega (arith, h, length-map (every n ts) how)

pub fails_repeated : {A : Type 0} (how : Tree → Option A) (n : ℕ) (ts : Trees) → 2 ≤ length (each how n ts) → Fail wanted.Once n ts
unfolding each
fails_repeated how n ts h =
    let q : nat_lt 1 (length (every n ts)) ≡ true = lt-ltb _ _ (omega (arith, h, length-map (every n ts) how)) in
    ap (λ (b : Bool). is_some (cond b (Some (Stands.TheVariants.Many (length (every n ts)))) None)) q
