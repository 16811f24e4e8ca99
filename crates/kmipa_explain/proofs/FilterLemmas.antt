-- The filters of a Locate, one by one.
use Rattle.std.proofs.Common.{◌≡◌, ◌<◌, ◌&&◌, ◌||◌, ◌==◌, ℕ, zero, suc, Bool, true, false, not, cond, List, [], ◌∷◌, find, is_none, slice_get, Option, Some, None, refl, sym, ap, ◌∙◌, subst, arith}
use Rattle.std.specs.Bool.{Decides}
use Rattle.std.specs.Ordering.{int_eq}
use Rattle.std.proofs.lemmas.Bool.{and_parts, and_from}
use Rattle.std.proofs.lemmas.Bool.Decides.{Decides-eqb, Decides-int_eq}
use Rattle.kmipa_attrs.specs.Filters.{FilterOf}
use Rattle.kmipa_attrs.specs.ObjectTypes.{type_number}
use Rattle.kmipa_object.specs.Inventory.{Card}
use Rattle.kmipa_object.specs.Life.{state_number}
use Rattle.kmipa_object.specs.declared.state.State.{State as StateOf}
use Rattle.kmipa_ops.specs.GetAttributes.{has_stranger}
use Rattle.kmipa_ops.specs.Locate.{May, Must, is_doubtful, may_fit, must_fit}
use Rattle.kmipa_ops.specs.Objects.{is_other, clash}
use Rattle.kmipa_ops.specs.declared.judged.Judged.{Judged}
use Rattle.kmipa_ops.specs.declared.judged.Judged.TheVariants.{Name, ObjectType, State, CryptographicAlgorithm, CryptographicLength}
use Rattle.kmipa_check.proofs.PlaceLemmas.{contains_at}
use Rattle.kmipa_explain.specs.Filters.{filters, Fits, IsFirstNo, MayIsEach, refuses}
use Rattle.kmipa_explain.proofs.TestLemmas.{agree_if, agree_not, echoes_if, echoes_not, must_if, must_not, not_true, strangers_if, strangers_not}

-- ---- the first that passes

pub record IsFirst {X : Type 0} (test : X → Bool) (xs : List X) (x : X) : Type 0 where
  pub place : ℕ
  pub there : slice_get xs place ≡ Some x
  pub passes : test x ≡ true
  pub before : (earlier : ℕ) (y : X) → earlier < place → slice_get xs earlier ≡ Some y → test y ≡ false

first_here : {X : Type 0} (test : X → Bool) (x : X) (xs : List X) → test x ≡ true → IsFirst test (x ∷ xs) x
first_here test x xs passes = record { place = 0; there = refl; passes = passes; before = λ earlier y below at. absurd (omega (arith, below)) }

first_behind : {X : Type 0} (test : X → Bool) (x y : X) (xs : List X) → test y ≡ false → IsFirst test xs x → IsFirst test (y ∷ xs) x
first_behind {X} test x y xs fails f = record { place = suc f.place; there = f.there; passes = f.passes; before = before }
  where
    before : (earlier : ℕ) (z : X) → earlier < suc f.place → slice_get (y ∷ xs) earlier ≡ Some z → test z ≡ false
    before zero z below at = let same : y ≡ z = cc in ap test (sym same) ∙ fails
    before (suc earlier) z below at = f.before earlier z (omega (arith, below)) at

pub first_found : {X : Type 0} (test : X → Bool) (xs : List X) (x : X) → find test xs ≡ Some x → IsFirst test xs x
first_found test [] x is = absurd cc
first_found {X} test (y ∷ xs) x is = by (first_found test xs x) (test y) refl is
  where
    by : (find test xs ≡ Some x → IsFirst test xs x) → (b : Bool) → test y ≡ b → cond b (Some y) (find test xs) ≡ Some x → IsFirst test (y ∷ xs) x
    by later true passes e =
        let same : y ≡ x = cc in
        let P : X → Type 0 = λ z. IsFirst test (y ∷ xs) z in
        subst P same (first_here test y xs passes)
    by later false fails e = first_behind test x y xs fails (later e)

fails_first : {X : Type 0} (test : X → Bool) (y : X) (b : Bool) (o : Option X) → test y ≡ b → cond b (Some y) o ≡ None → (test y ≡ false) × (o ≡ None)
fails_first test y true o is none = absurd cc
fails_first test y false o is none = (is, none)

none_passes : {X : Type 0} (test : X → Bool) (xs : List X) (i : ℕ) (x : X) → find test xs ≡ None → slice_get xs i ≡ Some x → test x ≡ false
none_passes test [] i x none at = absurd cc
none_passes {X} test (y ∷ xs) zero x none at = let same : y ≡ x = cc in ap test (sym same) ∙ (fails_first test y (test y) (find test xs) refl none).0
none_passes {X} test (y ∷ xs) (suc i) x none at = none_passes test xs i x (fails_first test y (test y) (find test xs) refl none).1 at

-- ---- each filter

module _ (q : FilterOf) (s : StateOf) (c : Card) where
  fits_if : (attribute : Judged) → refuses q s c attribute ≡ false → Fits q s c attribute
  fits_if Name h = strangers_if c.given.names q.names h
  fits_if ObjectType h = echoes_if (λ (x y : ℕ). x == y) Decides-eqb q.object_type (type_number c.kind) h
  fits_if State h = echoes_if (λ (x y : ℕ). x == y) Decides-eqb q.state (state_number s) h
  fits_if CryptographicAlgorithm h = agree_if (λ (x y : ℕ). x == y) Decides-eqb q.algorithm c.given.algorithm h
  fits_if CryptographicLength h = agree_if int_eq Decides-int_eq q.length c.given.length h
  fits_if other h = tt

  fits_not : (attribute : Judged) → refuses q s c attribute ≡ true → Fits q s c attribute → ⊥
  fits_not Name h f = strangers_not c.given.names q.names h f
  fits_not ObjectType h f = echoes_not (λ (x y : ℕ). x == y) Decides-eqb q.object_type (type_number c.kind) h f
  fits_not State h f = echoes_not (λ (x y : ℕ). x == y) Decides-eqb q.state (state_number s) h f
  fits_not CryptographicAlgorithm h f = agree_not (λ (x y : ℕ). x == y) Decides-eqb q.algorithm c.given.algorithm h f
  fits_not CryptographicLength h f = agree_not int_eq Decides-int_eq q.length c.given.length h f
  fits_not other h f = absurd cc

  -- none says no exactly where an object may be listed
  each_fits : May q s c → (attribute : Judged) → Fits q s c attribute
  each_fits m Name = m.names
  each_fits m ObjectType = m.object_type
  each_fits m State = m.state
  each_fits m CryptographicAlgorithm = m.algorithm
  each_fits m CryptographicLength = m.length
  each_fits m other = tt

  pub may_if_none : find (refuses q s c) filters ≡ None → May q s c
  may_if_none none = record {
    names = fits_if Name (none_passes (refuses q s c) filters 0 Name none refl);
    object_type = fits_if ObjectType (none_passes (refuses q s c) filters 1 ObjectType none refl);
    state = fits_if State (none_passes (refuses q s c) filters 2 State none refl);
    algorithm = fits_if CryptographicAlgorithm (none_passes (refuses q s c) filters 3 CryptographicAlgorithm none refl);
    length = fits_if CryptographicLength (none_passes (refuses q s c) filters 4 CryptographicLength none refl);
  }

  pub first_no : (attribute : Judged) → find (refuses q s c) filters ≡ Some attribute → IsFirstNo q s c attribute
  first_no attribute is =
      let f = first_found (refuses q s c) filters attribute is in
      record {
        place = f.place;
        there = f.there;
        misfit = fits_not attribute f.passes;
        before = λ earlier other below at. fits_if other (f.before earlier other below at);
      }

  -- the first that says no, and the test of all
  none_of_five : (a b d e f : Bool)
      → is_none (cond a (Some Name) (cond b (Some ObjectType) (cond d (Some State) (cond e (Some CryptographicAlgorithm) (cond f (Some CryptographicLength) None))))) ≡ not (a || b || d || e || f)
  none_of_five true b d e f = refl
  none_of_five false true d e f = refl
  none_of_five false false true e f = refl
  none_of_five false false false true f = refl
  none_of_five false false false false true = refl
  none_of_five false false false false false = refl

  none_is_may : is_none (find (refuses q s c) filters) ≡ may_fit q s c
  none_is_may =
      none_of_five (has_stranger c.given.names q.names) (is_other (λ (x y : ℕ). x == y) q.object_type (type_number c.kind)) (is_other (λ (x y : ℕ). x == y) q.state (state_number s))
      (clash (λ (x y : ℕ). x == y) q.algorithm c.given.algorithm) (clash int_eq q.length c.given.length)

  pub must_is : (first : Option Judged) → first ≡ find (refuses q s c) filters → (is_none first && not (is_doubtful q c)) ≡ must_fit q s c
  must_is first is = ap (λ (o : Option Judged). is_none o && not (is_doubtful q c)) is ∙ ap (λ (b : Bool). b && not (is_doubtful q c)) none_is_may

  none_if_may : May q s c → (o : Option Judged) → find (refuses q s c) filters ≡ o → is_none o ≡ true
  none_if_may may None is = refl
  none_if_may may (Some attribute) is = let f = first_no attribute is in absurd (f.misfit (each_fits may attribute))

  none_if_none : (o : Option Judged) → find (refuses q s c) filters ≡ o → is_none o ≡ true → find (refuses q s c) filters ≡ None
  none_if_none None is h = is
  none_if_none (Some attribute) is h = absurd cc

  -- the test of an object that must be listed
  pub must_decides : Decides (must_fit q s c) (Must q s c)
  must_decides = (
    λ h.
        let w = and_parts (may_fit q s c) (not (is_doubtful q c)) h in
        must_if q s c (may_if_none (none_if_none (find (refuses q s c) filters) refl (none_is_may ∙ w.0))) (not_true (is_doubtful q c) w.1),
    λ m.
        and_from (may_fit q s c) (not (is_doubtful q c)) (sym none_is_may ∙ none_if_may m.may (find (refuses q s c) filters) refl) (ap not (must_not q s c m)),
  )

pub may_is_each : MayIsEach
may_is_each q s c = (
  λ m attribute among. each_fits q s c m attribute,
  λ each. record {
    names = each Name (contains_at filters 0 Name refl);
    object_type = each ObjectType (contains_at filters 1 ObjectType refl);
    state = each State (contains_at filters 2 State refl);
    algorithm = each CryptographicAlgorithm (contains_at filters 3 CryptographicAlgorithm refl);
    length = each CryptographicLength (contains_at filters 4 CryptographicLength refl);
  },
)
