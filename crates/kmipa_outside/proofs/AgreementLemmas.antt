-- Two fields that are to say the same, and when they disagree.
use Rattle.std.proofs.Common.{◌≡◌, ◌⊎◌, ℕ, ℤ, Bool, true, false, not, ◌==◌, ◌&&◌, is_some, if◌then◌else◌, List, [], ◌∷◌, ◌++◌, map, Option, Some, None, option_map, option_to_list, refl, sym, ap, ◌∙◌, subst, inl, inr, eqb-true}
use Rattle.std.specs.Ordering.{int_eq}
use Rattle.kmipa_ttlv.specs.Tree.{Tree, Trees, structure, scalar, none, tag_of}
use Rattle.kmipa_ttlv.specs.Tree
use Rattle.kmipa_attrs.specs.Attributes.{Single, each}
use Rattle.kmipa_attrs.specs.Fields.{first, every, at, inside, in_field, typed, field_of, value_in, as_structure, as_integer, as_enumeration}
use Rattle.kmipa_attrs.specs.ObjectTypes.{type_number, type_of}
use Rattle.kmipa_attrs.specs.Readings.{Optional, Reads}
use Rattle.kmipa_attrs.specs.Sets.{Attributes}
use Rattle.kmipa_attrs.specs.Tags.{attributes_tag, cryptographic_algorithm, cryptographic_length, object_type_tag}
use Rattle.kmipa_attrs.specs.declared.fields.Field.{Field}
use Rattle.kmipa_attrs.specs.declared.fields.Field.TheVariants.{Absent, Wrong, There}
use Rattle.kmipa_attrs.specs.declared.object_type.ObjectType.{ObjectType}
use Rattle.kmipa_attrs.specs.declared.object_type.ObjectType.TheVariants.{SymmetricKey, SecretData}
use Rattle.std.specs.Prelude.{Result, Ok, Err}
use Rattle.kmipa_msgs.specs.declared.kind.OutsideKind.{OutsideKind}
use Rattle.kmipa_msgs.specs.declared.kind.OutsideKind.TheVariants.{Disagree}
use Rattle.kmipa_msgs.specs.declared.operation.Operation.{Operation}
use Rattle.kmipa_msgs.specs.declared.operation.Operation.TheVariants as operation
use Rattle.kmipa_msgs.specs.Asks.{AskedFault}
use Rattle.kmipa_msgs.specs.AttributeFields.{SaysGiven, agree}
use Rattle.kmipa_msgs.specs.Creates.{CreateFault, DisagreeingCreate, SaysCreate, SaysNewKey, create_in, created_of}
use Rattle.kmipa_msgs.specs.Kinds.{kind_number}
use Rattle.kmipa_msgs.specs.Messages.{RegisterOf}
use Rattle.kmipa_msgs.specs.Objects.{as_shape, block_inside, object_in, shape_of}
use Rattle.kmipa_msgs.specs.Registers.{BroughtOf, Disagreeing, RegisterFault, SaysBrought, SaysRegister, agrees, brought_by, register_in}
use Rattle.kmipa_msgs.proofs.CreateLemmas.{reads_create}
use Rattle.kmipa_msgs.proofs.RegisterLemmas.{reads_register}
use Rattle.kmipa_outside.specs.AgreementDemands.{agreement_demands, algorithm_demand, algorithm_wanted, length_demand, length_wanted, object_demand, object_wanted, type_demand, type_wanted}
use Rattle.kmipa_outside.specs.Demands.{Fails, fails, fails_in, first_fails, first_in, other_integer, other_number}
use Rattle.kmipa_outside.specs.Laws.{AgreementsAreReasons, AnyOf, IsBroken}
use Rattle.kmipa_outside.specs.declared.demand.Beside.{Beside}
use Rattle.kmipa_outside.specs.declared.demand.Beside.TheVariants as beside
use Rattle.kmipa_outside.specs.declared.demand.Demand.{Demand}
use Rattle.kmipa_outside.specs.declared.demand.Wanted.TheVariants as wanted
use Rattle.kmipa_outside.proofs.DemandLemmas.{first_every}
use Rattle.kmipa_outside.proofs.HeaderLemmas.{and_either, and_left, and_right, not_true}
use Rattle.kmipa_outside.proofs.NumberLemmas.{refused_is}
use Rattle.kmipa_outside.proofs.ToldLemmas.{any_left, any_right, any_split}

-- ---- what an item says, and what is wanted of it

same_in : (m : ℕ) (b : Beside) (t : Tree) (x : ℕ) → as_enumeration t ≡ Some x → is_some (other_number (wanted.Same m b) t) ≡ not (x == m)
unfolding as_enumeration
same_in m b (scalar n (Tree.enumeration y)) x e = let same : y ≡ x = cc in refused_is (y == m) _ ∙ ap (λ (z : ℕ). not (z == m)) same
same_in m b (structure n ts) x e = cc
same_in m b (scalar n (Tree.integer z)) x e = cc
same_in m b (scalar n (Tree.long_integer z)) x e = cc
same_in m b (scalar n (Tree.big_integer bs)) x e = cc
same_in m b (scalar n (Tree.boolean z)) x e = cc
same_in m b (scalar n (Tree.text bs)) x e = cc
same_in m b (scalar n (Tree.byte_string bs)) x e = cc
same_in m b (scalar n (Tree.date_time z)) x e = cc
same_in m b (scalar n (Tree.interval z)) x e = cc
same_in m b (scalar n (Tree.date_time_extended z)) x e = cc

same_integer_in : (m : ℤ) (b : Beside) (t : Tree) (x : ℤ) → as_integer t ≡ Some x → is_some (other_integer (wanted.SameInteger m b) t) ≡ not (int_eq x m)
unfolding as_integer
same_integer_in m b (scalar n (Tree.integer y)) x e = let same : y ≡ x = cc in refused_is (int_eq y m) _ ∙ ap (λ (z : ℤ). not (int_eq z m)) same
same_integer_in m b (structure n ts) x e = cc
same_integer_in m b (scalar n (Tree.enumeration z)) x e = cc
same_integer_in m b (scalar n (Tree.long_integer z)) x e = cc
same_integer_in m b (scalar n (Tree.big_integer bs)) x e = cc
same_integer_in m b (scalar n (Tree.boolean z)) x e = cc
same_integer_in m b (scalar n (Tree.text bs)) x e = cc
same_integer_in m b (scalar n (Tree.byte_string bs)) x e = cc
same_integer_in m b (scalar n (Tree.date_time z)) x e = cc
same_integer_in m b (scalar n (Tree.interval z)) x e = cc
same_integer_in m b (scalar n (Tree.date_time_extended z)) x e = cc

-- a single-valued attribute, by the items that it is read of
same_each : (m : ℕ) (b : Beside) (xs : List Tree) (held : Option ℕ) → Single (map as_enumeration xs) held → is_some (fails (wanted.Same m b) xs) ≡ not (agree (λ p q. p == q) held (Some m))
same_each m b [] None s = refl
same_each m b [] (Some x) s = cc
same_each m b (t ∷ ts) None s = cc
same_each m b (t ∷ ts) (Some x) s = let here : as_enumeration t ≡ Some x = cc in same_in m b t x here

same_integer_each : (m : ℤ) (b : Beside) (xs : List Tree) (held : Option ℤ) → Single (map as_integer xs) held → is_some (fails (wanted.SameInteger m b) xs) ≡ not (agree int_eq held (Some m))
same_integer_each m b [] None s = refl
same_integer_each m b [] (Some x) s = cc
same_integer_each m b (t ∷ ts) None s = cc
same_integer_each m b (t ∷ ts) (Some x) s = let here : as_integer t ≡ Some x = cc in same_integer_in m b t x here

-- a field that is there
there_is : {A : Type 0} (r : Option A) (x : A) → field_of (Some r) ≡ There x → r ≡ Some x
there_is None x e = cc
there_is (Some y) x e = cc

same_first : (m : ℕ) (b : Beside) (o : Option Tree) (x : ℕ) → typed as_enumeration o ≡ There x → is_some (first_fails (wanted.Same m b) o) ≡ not (x == m)
same_first m b None x e = cc
same_first m b (Some t) x e = same_in m b t x (there_is (as_enumeration t) x e)

-- ---- the attributes that are given

given_type : (f : Field Trees) (a : Attributes) → SaysGiven f a → Single (each as_enumeration object_type_tag (in_field f)) a.object_type
unfolding each every
given_type Absent a s = let P : Attributes → Type 0 = λ b. Single (each as_enumeration object_type_tag none) b.object_type in subst P (sym s) refl
given_type Wrong a s = absurd s
given_type (There us) a s = s.object_type

given_algorithm : (f : Field Trees) (a : Attributes) → SaysGiven f a → Single (each as_enumeration cryptographic_algorithm (in_field f)) a.algorithm
unfolding each every
given_algorithm Absent a s = let P : Attributes → Type 0 = λ b. Single (each as_enumeration cryptographic_algorithm none) b.algorithm in subst P (sym s) refl
given_algorithm Wrong a s = absurd s
given_algorithm (There us) a s = s.algorithm

given_length : (f : Field Trees) (a : Attributes) → SaysGiven f a → Single (each as_integer cryptographic_length (in_field f)) a.length
unfolding each every
given_length Absent a s = let P : Attributes → Type 0 = λ b. Single (each as_integer cryptographic_length none) b.length in subst P (sym s) refl
given_length Wrong a s = absurd s
given_length (There us) a s = s.length

-- ---- when the demands fail

module _ (ts : Trees) (a : Attributes) (given : SaysGiven (at as_structure attributes_tag ts) a) where
  type_agrees : (n : ℕ) → is_some (fails_in (type_wanted n) ts) ≡ not (agree (λ p q. p == q) a.object_type (Some n))
  unfolding each
  type_agrees n = same_each n beside.Payload (every object_type_tag (inside attributes_tag ts)) a.object_type (given_type (at as_structure attributes_tag ts) a given)

  algorithm_agrees : (n : ℕ) → is_some (fails_in (algorithm_wanted n) ts) ≡ not (agree (λ p q. p == q) a.algorithm (Some n))
  unfolding each
  algorithm_agrees n = same_each n beside.Block (every cryptographic_algorithm (inside attributes_tag ts)) a.algorithm (given_algorithm (at as_structure attributes_tag ts) a given)

  length_agrees : (z : ℤ) → is_some (fails_in (length_wanted z) ts) ≡ not (agree int_eq a.length (Some z))
  unfolding each
  length_agrees z = same_integer_each z beside.Block (every cryptographic_length (inside attributes_tag ts)) a.length (given_length (at as_structure attributes_tag ts) a given)

object_agrees : (ts : Trees) (n : ℕ) → at as_enumeration object_type_tag ts ≡ There n → (t : Tree) → is_some (fails_in (object_wanted t) ts) ≡ not (n == type_number (shape_of (tag_of t)))
object_agrees ts n e t =
    sym (ap (λ (o : Option Tree). is_some (first_fails (wanted.Same (type_number (shape_of (tag_of t))) beside.Object) o)) (first_every object_type_tag ts))
    ∙ same_first (type_number (shape_of (tag_of t))) beside.Object (first object_type_tag ts) n e

-- a demand by what stands in the other field
module _ {A : Type 0} (ts : Trees) (d : A → Demand) (c : A → Bool) (of_kind : (x : A) → (d x).kind ≡ Disagree) (decides : (x : A) → is_some (fails_in (d x) ts) ≡ not (c x)) where
  differing_fails : (o : Option A) (x : A) → o ≡ Some x → c x ≡ false → AnyOf (IsBroken Disagree ts) (option_to_list (option_map d o))
  differing_fails None x e f = cc
  differing_fails (Some y) x e f = let same : y ≡ x = cc in inl (of_kind y, decides y ∙ ap (λ (z : A). not (c z)) same ∙ ap not f)

  failing_differs : (o : Option A) (x : A) → o ≡ Some x → AnyOf (λ (e : Demand). Fails e ts) (option_to_list (option_map d o)) → c x ≡ false
  failing_differs None x e h = absurd h
  failing_differs (Some y) x e (inl p) = let same : y ≡ x = cc in ap c (sym same) ∙ not_true (c y) (sym (decides y) ∙ p)
  failing_differs (Some y) x e (inr q) = absurd q

-- all of them are of one kind
one_kind : {A : Type 0} (ts : Trees) (k : OutsideKind) (d : A → Demand) → ((x : A) → (d x).kind ≡ Disagree) → (o : Option A) → AnyOf (IsBroken k ts) (option_to_list (option_map d o))
    → (k ≡ Disagree) × AnyOf (λ (e : Demand). Fails e ts) (option_to_list (option_map d o))
one_kind ts k d of_kind None h = absurd h
one_kind ts k d of_kind (Some x) (inl p) = (sym p.0 ∙ of_kind x, inl p.1)
one_kind ts k d of_kind (Some x) (inr q) = absurd q

both_kinds : (ts : Trees) (k : OutsideKind) (ds es : List Demand) → (AnyOf (IsBroken k ts) ds → (k ≡ Disagree) × AnyOf (λ (e : Demand). Fails e ts) ds)
    → (AnyOf (IsBroken k ts) es → (k ≡ Disagree) × AnyOf (λ (e : Demand). Fails e ts) es) → AnyOf (IsBroken k ts) (ds ++ es) → (k ≡ Disagree) × AnyOf (λ (e : Demand). Fails e ts) (ds ++ es)
both_kinds ts k ds es first second h = elim (any_split (IsBroken k ts) ds es h) [
  | inl g ↦ let w = first g in (w.0, any_left (λ (e : Demand). Fails e ts) ds es w.1)
  | inr g ↦ let w = second g in (w.0, any_right (λ (e : Demand). Fails e ts) ds es w.1)
]

pub of_disagree : (o : Operation) (ts : Trees) (k : OutsideKind) → AnyOf (IsBroken k ts) (agreement_demands o ts) → (k ≡ Disagree) × AnyOf (λ (e : Demand). Fails e ts) (agreement_demands o ts)
of_disagree operation.Create ts k h = one_kind ts k type_wanted (λ x. refl) (value_in (at as_enumeration object_type_tag ts)) h
of_disagree operation.Register ts k h =
    let o = option_to_list (object_demand ts) in
    let y = option_to_list (type_demand ts) in
    let a = option_to_list (algorithm_demand ts) in
    let l = option_to_list (length_demand ts) in
    both_kinds ts k (o ++ y ++ a) l
    (both_kinds ts k (o ++ y) a
    (both_kinds ts k o y
    (one_kind ts k object_wanted (λ x. refl) (object_in ts))
    (one_kind ts k type_wanted (λ x. refl) (value_in (at as_enumeration object_type_tag ts))))
    (one_kind ts k algorithm_wanted (λ x. refl) (value_in (at as_enumeration cryptographic_algorithm (block_inside ts)))))
    (one_kind ts k length_wanted (λ x. refl) (value_in (at as_integer cryptographic_length (block_inside ts))))
    h
of_disagree operation.Locate ts k h = absurd h
of_disagree operation.Get ts k h = absurd h
of_disagree operation.GetAttributes ts k h = absurd h
of_disagree operation.Activate ts k h = absurd h
of_disagree operation.Revoke ts k h = absurd h
of_disagree operation.Destroy ts k h = absurd h
of_disagree (operation.Idle n) ts k h = absurd h
of_disagree (operation.Other n) ts k h = absurd h

-- ---- numbers of types

type_numbered : (n : ℕ) (t : ObjectType) → type_of n ≡ Some t → n ≡ type_number t
type_numbered n t e = by (n == 2) (n == 7) refl refl e
  where
    by : (p q : Bool) → (n == 2) ≡ p → (n == 7) ≡ q → (if p then Some SymmetricKey else if q then Some SecretData else None) ≡ Some t → n ≡ type_number t
    by true q f g h = let same : SymmetricKey ≡ t = cc in eqb-true n 2 f ∙ ap type_number same
    by false true f g h = let same : SecretData ≡ t = cc in eqb-true n 7 g ∙ ap type_number same
    by false false f g h = cc

created_numbered : (n : ℕ) (t : ObjectType) → created_of n ≡ Some t → n ≡ 2
created_numbered n t e = by (n == 2) refl e
  where
    by : (p : Bool) → (n == 2) ≡ p → (if p then Some SymmetricKey else None) ≡ Some t → n ≡ 2
    by true f h = eqb-true n 2 f
    by false f h = cc

-- ---- a Create

module _ (ts : Trees) (a : Attributes) (said : SaysNewKey ts a) where
  created_finds : agree (λ p q. p == q) a.object_type (Some 2) ≡ false → AnyOf (IsBroken Disagree ts) (agreement_demands operation.Create ts)
  created_finds e =
      let n = said.object_type.number in
      let two = created_numbered n SymmetricKey said.object_type.listed in
      differing_fails ts type_wanted (λ (m : ℕ). agree (λ p q. p == q) a.object_type (Some m)) (λ x. refl) (type_agrees ts a said.attributes) (value_in (at as_enumeration object_type_tag ts)) n
      (ap value_in said.object_type.is) (ap (λ (m : ℕ). agree (λ p q. p == q) a.object_type (Some m)) two ∙ e)

  created_differs : AnyOf (λ (d : Demand). Fails d ts) (agreement_demands operation.Create ts) → agree (λ p q. p == q) a.object_type (Some 2) ≡ false
  created_differs h =
      let n = said.object_type.number in
      let two = created_numbered n SymmetricKey said.object_type.listed in
      ap (λ (m : ℕ). agree (λ p q. p == q) a.object_type (Some m)) (sym two)
      ∙ failing_differs ts type_wanted (λ (m : ℕ). agree (λ p q. p == q) a.object_type (Some m)) (λ x. refl) (type_agrees ts a said.attributes) (value_in (at as_enumeration object_type_tag ts)) n
      (ap value_in said.object_type.is) h

pub create_disagrees : (ts : Trees) → DisagreeingCreate ts → AnyOf (IsBroken Disagree ts) (agreement_demands operation.Create ts)
create_disagrees ts d = created_finds ts d.attributes d.said d.differ

create_agrees : (ts : Trees) (a : Attributes) → SaysCreate ts a → AnyOf (λ (d : Demand). Fails d ts) (agreement_demands operation.Create ts) → ⊥
create_agrees ts a says h = let clash : true ≡ false = sym says.agrees ∙ created_differs ts a says.key h in cc

-- ---- a Register

module _ (ts : Trees) (b : BroughtOf) (said : SaysBrought ts b) where
  numbered : said.object_type.number ≡ type_number b.object_type
  numbered = type_numbered said.object_type.number b.object_type said.object_type.listed

  -- the object
  object_here : (o : Option Tree) → typed as_shape o ≡ There b.shape → (t : Tree) × ((o ≡ Some t) × (shape_of (tag_of t) ≡ b.shape))
  object_here None e = cc
  object_here (Some t) e = let says : Some (shape_of (tag_of t)) ≡ Some b.shape = there_is (Some (shape_of (tag_of t))) b.shape e in (t, (refl, cc))

  object_finds : (type_number b.object_type == type_number b.shape) ≡ false → AnyOf (IsBroken Disagree ts) (option_to_list (object_demand ts))
  object_finds e =
      let n = said.object_type.number in
      let w = object_here (object_in ts) said.shape in
      differing_fails ts object_wanted (λ (t : Tree). n == type_number (shape_of (tag_of t))) (λ x. refl) (object_agrees ts n said.object_type.is) (object_in ts) w.0 w.1.0
      (ap (λ (m : ℕ). m == type_number (shape_of (tag_of w.0))) numbered ∙ ap (λ (s : ObjectType). type_number b.object_type == type_number s) w.1.1 ∙ e)

  object_differs : AnyOf (λ (d : Demand). Fails d ts) (option_to_list (object_demand ts)) → (type_number b.object_type == type_number b.shape) ≡ false
  object_differs h =
      let n = said.object_type.number in
      let w = object_here (object_in ts) said.shape in
      ap (λ (s : ObjectType). type_number b.object_type == type_number s) (sym w.1.1) ∙ ap (λ (m : ℕ). m == type_number (shape_of (tag_of w.0))) (sym numbered)
      ∙ failing_differs ts object_wanted (λ (t : Tree). n == type_number (shape_of (tag_of t))) (λ x. refl) (object_agrees ts n said.object_type.is) (object_in ts) w.0 w.1.0 h

  -- the type
  type_finds : agree (λ p q. p == q) b.attributes.object_type (Some (type_number b.object_type)) ≡ false → AnyOf (IsBroken Disagree ts) (option_to_list (type_demand ts))
  type_finds e =
      let n = said.object_type.number in
      differing_fails ts type_wanted (λ (m : ℕ). agree (λ p q. p == q) b.attributes.object_type (Some m)) (λ x. refl) (type_agrees ts b.attributes said.attributes)
      (value_in (at as_enumeration object_type_tag ts)) n (ap value_in said.object_type.is) (ap (λ (m : ℕ). agree (λ p q. p == q) b.attributes.object_type (Some m)) numbered ∙ e)

  type_differs : AnyOf (λ (d : Demand). Fails d ts) (option_to_list (type_demand ts)) → agree (λ p q. p == q) b.attributes.object_type (Some (type_number b.object_type)) ≡ false
  type_differs h =
      let n = said.object_type.number in
      ap (λ (m : ℕ). agree (λ p q. p == q) b.attributes.object_type (Some m)) (sym numbered)
      ∙ failing_differs ts type_wanted (λ (m : ℕ). agree (λ p q. p == q) b.attributes.object_type (Some m)) (λ x. refl) (type_agrees ts b.attributes said.attributes)
      (value_in (at as_enumeration object_type_tag ts)) n (ap value_in said.object_type.is) h

  -- the algorithm and the length, where the Key Block has them
  algorithm_finds : (f : Field ℕ) (held : Option ℕ) → Optional f held → agree (λ p q. p == q) b.attributes.algorithm held ≡ false
      → AnyOf (IsBroken Disagree ts) (option_to_list (option_map algorithm_wanted (value_in f)))
  algorithm_finds f None s e = absurd (never b.attributes.algorithm e)
    where
      never : (x : Option ℕ) → agree (λ p q. p == q) x None ≡ false → ⊥
      never None h = let clash : true ≡ false = h in cc
      never (Some y) h = let clash : true ≡ false = h in cc
  algorithm_finds f (Some n) s e =
      differing_fails ts algorithm_wanted (λ (m : ℕ). agree (λ p q. p == q) b.attributes.algorithm (Some m)) (λ x. refl) (algorithm_agrees ts b.attributes said.attributes) (value_in f) n (ap value_in s) e

  algorithm_differs : (f : Field ℕ) (held : Option ℕ) → Optional f held → AnyOf (λ (d : Demand). Fails d ts) (option_to_list (option_map algorithm_wanted (value_in f)))
      → agree (λ p q. p == q) b.attributes.algorithm held ≡ false
  algorithm_differs f None s h = let P : Field ℕ → Type 0 = λ g. AnyOf (λ (d : Demand). Fails d ts) (option_to_list (option_map algorithm_wanted (value_in g))) in absurd (subst P s h)
  algorithm_differs f (Some n) s h =
      failing_differs ts algorithm_wanted (λ (m : ℕ). agree (λ p q. p == q) b.attributes.algorithm (Some m)) (λ x. refl) (algorithm_agrees ts b.attributes said.attributes) (value_in f) n (ap value_in s) h

  length_finds : (f : Field ℤ) (held : Option ℤ) → Optional f held → agree int_eq b.attributes.length held ≡ false → AnyOf (IsBroken Disagree ts) (option_to_list (option_map length_wanted (value_in f)))
  length_finds f None s e = absurd (never b.attributes.length e)
    where
      never : (x : Option ℤ) → agree int_eq x None ≡ false → ⊥
      never None h = let clash : true ≡ false = h in cc
      never (Some y) h = let clash : true ≡ false = h in cc
  length_finds f (Some z) s e =
      differing_fails ts length_wanted (λ (m : ℤ). agree int_eq b.attributes.length (Some m)) (λ x. refl) (length_agrees ts b.attributes said.attributes) (value_in f) z (ap value_in s) e

  length_differs : (f : Field ℤ) (held : Option ℤ) → Optional f held → AnyOf (λ (d : Demand). Fails d ts) (option_to_list (option_map length_wanted (value_in f)))
      → agree int_eq b.attributes.length held ≡ false
  length_differs f None s h = let P : Field ℤ → Type 0 = λ g. AnyOf (λ (d : Demand). Fails d ts) (option_to_list (option_map length_wanted (value_in g))) in absurd (subst P s h)
  length_differs f (Some z) s h =
      failing_differs ts length_wanted (λ (m : ℤ). agree int_eq b.attributes.length (Some m)) (λ x. refl) (length_agrees ts b.attributes said.attributes) (value_in f) z (ap value_in s) h

  brought_finds : agrees b ≡ false → AnyOf (IsBroken Disagree ts) (agreement_demands operation.Register ts)
  brought_finds e =
      let P : Demand → Type 0 = IsBroken Disagree ts in
      let o = option_to_list (object_demand ts) in
      let y = option_to_list (type_demand ts) in
      let a = option_to_list (algorithm_demand ts) in
      let l = option_to_list (length_demand ts) in
      elim (and_either _ _ e) [
        | inl g ↦ any_left P (o ++ y ++ a) l (elim (and_either _ _ g) [
          | inl h ↦ any_left P (o ++ y) a (elim (and_either _ _ h) [
            | inl m ↦ any_left P o y (object_finds m)
            | inr m ↦ any_right P o y (type_finds m)
          ])
          | inr h ↦ any_right P (o ++ y) a (algorithm_finds (at as_enumeration cryptographic_algorithm (block_inside ts)) b.block.algorithm said.block.algorithm h)
        ])
        | inr g ↦ any_right P (o ++ y ++ a) l (length_finds (at as_integer cryptographic_length (block_inside ts)) b.block.length said.block.length g)
      ]

  brought_differs : AnyOf (λ (d : Demand). Fails d ts) (agreement_demands operation.Register ts) → agrees b ≡ false
  brought_differs e =
      let P : Demand → Type 0 = λ d. Fails d ts in
      let o = option_to_list (object_demand ts) in
      let y = option_to_list (type_demand ts) in
      let a = option_to_list (algorithm_demand ts) in
      let l = option_to_list (length_demand ts) in
      let p = type_number b.object_type == type_number b.shape in
      let q = agree (λ m n. m == n) b.attributes.object_type (Some (type_number b.object_type)) in
      let r = agree (λ m n. m == n) b.attributes.algorithm b.block.algorithm in
      let z = agree int_eq b.attributes.length b.block.length in
      elim (any_split P (o ++ y ++ a) l e) [
        | inl g ↦ and_left (p && q && r) z (elim (any_split P (o ++ y) a g) [
          | inl h ↦ and_left (p && q) r (elim (any_split P o y h) [
            | inl m ↦ and_left p q (object_differs m)
            | inr m ↦ and_right p q (type_differs m)
          ])
          | inr h ↦ and_right (p && q) r (algorithm_differs (at as_enumeration cryptographic_algorithm (block_inside ts)) b.block.algorithm said.block.algorithm h)
        ])
        | inr g ↦ and_right (p && q && r) z (length_differs (at as_integer cryptographic_length (block_inside ts)) b.block.length said.block.length g)
      ]

pub register_disagrees : (ts : Trees) → Disagreeing ts → AnyOf (IsBroken Disagree ts) (agreement_demands operation.Register ts)
register_disagrees ts d = brought_finds ts d.brought d.said d.differ

register_agrees : (ts : Trees) (r : RegisterOf) → SaysRegister ts r → AnyOf (λ (d : Demand). Fails d ts) (agreement_demands operation.Register ts) → ⊥
register_agrees ts r says h = let clash : true ≡ false = sym says.agrees ∙ brought_differs ts (brought_by r) says.brought h in cc

-- ---- where nothing else is at fault

pub agreement_reasons : AgreementsAreReasons
agreement_reasons operation.Create ts only h = by (create_in ts) (reads_create ts)
  where
    by : (r : Result Attributes OutsideKind) → Reads kind_number (SaysCreate ts) (CreateFault ts) r → CreateFault ts Disagree
    by (Ok a) says = absurd (create_agrees ts a says.said h)
    by (Err k) low = let F : OutsideKind → Type 0 = λ j. CreateFault ts j in subst F (only k low.here) low.here
agreement_reasons operation.Register ts only h = by (register_in ts) (reads_register ts)
  where
    by : (r : Result RegisterOf OutsideKind) → Reads kind_number (SaysRegister ts) (RegisterFault ts) r → RegisterFault ts Disagree
    by (Ok a) says = absurd (register_agrees ts a says.said h)
    by (Err k) low = let F : OutsideKind → Type 0 = λ j. RegisterFault ts j in subst F (only k low.here) low.here
agreement_reasons operation.Locate ts only h = absurd h
agreement_reasons operation.Get ts only h = absurd h
agreement_reasons operation.GetAttributes ts only h = absurd h
agreement_reasons operation.Activate ts only h = absurd h
agreement_reasons operation.Revoke ts only h = absurd h
agreement_reasons operation.Destroy ts only h = absurd h
agreement_reasons (operation.Idle n) ts only h = absurd h
agreement_reasons (operation.Other n) ts only h = absurd h
