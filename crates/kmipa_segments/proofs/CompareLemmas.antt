-- Loops over entries and parts, of which something is said place by place.
use Rattle.std.proofs.Common.{◌≡◌, ◌≢◌, ◌<◌, ◌≤◌, ◌⊎◌, inl, inr, ℕ, zero, suc, ◌+◌, Bool, true, false, List, length, get_or, slice_get, Option, Some, None, refl, sym, ap, ◌∙◌, subst, arith}
use Rattle.std.proofs.Common.{◌∷◌, ◌++◌, [], ◌||◌, IsTrue, map, not}
use Rattle.std.proofs.lemmas.List.{append-nil}
use Rattle.std.specs.List.{list_any}
use Rattle.std.specs.String.{string_bytes}
use Rattle.kmipa_ttlv.specs.Input.{came_of, is_ended, IsFileOf}
use Rattle.kmipa_ttlv.specs.declared.input.Input.{Input}
use Rattle.kmipa_attrs.specs.Sets.{NameOf, name_of}
use Rattle.kmipa_attrs.specs.declared.name.Name.{Name}
use Rattle.kmipa_record.specs.Entries.{EntryOf}
use Rattle.kmipa_check.proofs.PlaceLemmas.{at_within, below_suc}
use Rattle.kmipa_ops.specs.GetAttributes.{has_stranger}
use Rattle.kmipa_ops.specs.Objects.{same_name}
use Rattle.std.specs.Prelude.{IfOk, MatchOption, Result, Ok, Err}
use Rattle.std.specs.declared.alloc.AllocError.{AllocError}
use Rattle.kmipa_segments.specs.Comparing.{AreKnown, AreTold, ComparesAmong, DiffersAmong, HasAlike, HasNone, HasObject, IsAlike, IsFound, IsLive, IsMisfit, is_apart}
use Rattle.kmipa_segments.specs.declared.parts.Part.{Part}
use Rattle.kmipa_segments.specs.declared.parts.Part.TheVariants as part
use Rattle.kmipa_segments.specs.declared.comparing.Difference.{Difference}
use Rattle.kmipa_segments.specs.declared.comparing.Difference.TheVariants.{Untold, Unleft, Other}

-- ---- what is said of each element so far

abbrev pub EachBefore : {X : Type 0} → (X → Type 0) → List X → ℕ → Type 0
EachBefore {X} P xs n = (place : ℕ) (x : X) → place < n → slice_get xs place ≡ Some x → P x

pub each_none : {X : Type 0} (P : X → Type 0) (xs : List X) → EachBefore P xs 0
each_none P xs place x below at = absurd (omega (arith, below))

pub each_more : {X : Type 0} (P : X → Type 0) (xs : List X) (n : ℕ) (x : X) → slice_get xs n ≡ Some x → P x → EachBefore P xs n → EachBefore P xs (n + 1)
each_more {X} P xs n x at here before place y below there = by (below_suc place n (omega (arith, below)))
  where
    by : (place < n) ⊎ (place ≡ n) → P y
    by (inl lower) = before place y lower there
    by (inr same) =
        let Q : ℕ → Type 0 = λ i. slice_get xs i ≡ Some y in
        let again : slice_get xs n ≡ Some y = subst Q same there in
        let equal : x ≡ y = cc in
        subst P equal here

pub each_all : {X : Type 0} (P : X → Type 0) (xs : List X) (n : ℕ) → length xs ≤ n → EachBefore P xs n → (place : ℕ) (x : X) → slice_get xs place ≡ Some x → P x
each_all P xs n all before place x at = let within = at_within xs place x at in before place x (omega (arith, all, within)) at

-- ---- a difference of an object that is told is one of the declarations

pub misfit_differs : (left told : List EntryOf) (place : ℕ) (b : EntryOf) (d : Difference) → slice_get told place ≡ Some b → IsMisfit left b d → DiffersAmong left told d
misfit_differs left told place b (Untold id) at m = absurd m
misfit_differs left told place b (Unleft id) at m = record {
  here = (place, b, at, sym m.0);
  nowhere = let P : List ℕ → Type 0 = λ i. HasNone left i in subst P (sym m.0) m.1;
}
misfit_differs left told place b (Other id p) at m = record {
  at = m.1.0;
  a = m.1.1;
  left_there = m.1.2;
  left_its = m.1.3 ∙ sym m.0;
  place = place;
  b = b;
  told_there = at;
  told_its = sym m.0;
  apart = m.1.4;
}

-- ---- names, seen as what they mean

any_of_map : {X Y : Type 0} (p : Y → Bool) (f : X → Y) (xs : List X) → list_any p (map f xs) ≡ list_any (λ (x : X). p (f x)) xs
any_of_map p f [] = refl
any_of_map p f (x ∷ xs) = ap (λ (b : Bool). p (f x) || b) (any_of_map p f xs)

any_alike : {X : Type 0} (p q : X → Bool) → ((x : X) → p x ≡ q x) → (xs : List X) → list_any p xs ≡ list_any q xs
any_alike p q e [] = refl
any_alike p q e (x ∷ xs) = ap (λ (b : Bool). b || list_any p xs) (e x) ∙ ap (λ (b : Bool). q x || b) (any_alike p q e xs)

pub strangers_are : (known names : List Name) → list_any (λ (n : Name). not (list_any (λ (k : Name). same_name (name_of k) (name_of n)) known)) names ≡ has_stranger (map name_of known) (map name_of names)
strangers_are known names =
    let is_known : NameOf → Bool = λ n. list_any (λ (k : NameOf). same_name k n) (map name_of known) in
    any_alike (λ (n : Name). not (list_any (λ (k : Name). same_name (name_of k) (name_of n)) known)) (λ (n : Name). not (is_known (name_of n)))
    (λ n. ap not (sym (any_of_map (λ (k : NameOf). same_name k (name_of n)) name_of known))) names
    ∙ sym (any_of_map (λ (n : NameOf). not (is_known n)) name_of names)

-- ---- each part is one of those that are compared

abbrev pub parts : List Part
parts = part.ObjectType ∷ part.Name ∷ part.CryptographicAlgorithm ∷ part.CryptographicLength ∷ part.CryptographicUsageMask ∷ part.InitialDate
    ∷ part.ActivationDate ∷ part.DeactivationDate ∷ part.DestroyDate ∷ part.CompromiseDate ∷ part.KeyMaterial ∷ []

pub read_there : {X : Type 0} (xs : List X) (n : ℕ) (other : X) → n < length xs → slice_get xs n ≡ Some (get_or xs n other)
read_there [] n other below = absurd (omega (arith, below))
read_there (x ∷ xs) zero other below = refl
read_there (x ∷ xs) (suc n) other below = read_there xs n other (omega (arith, below))

pub each_part : (P : Part → Type 0) (n : ℕ) → 11 ≤ n → EachBefore P parts n → (p : Part) → P p
each_part P n all before part.ObjectType = before 0 part.ObjectType (omega (arith, all)) refl
each_part P n all before part.Name = before 1 part.Name (omega (arith, all)) refl
each_part P n all before part.CryptographicAlgorithm = before 2 part.CryptographicAlgorithm (omega (arith, all)) refl
each_part P n all before part.CryptographicLength = before 3 part.CryptographicLength (omega (arith, all)) refl
each_part P n all before part.CryptographicUsageMask = before 4 part.CryptographicUsageMask (omega (arith, all)) refl
each_part P n all before part.InitialDate = before 5 part.InitialDate (omega (arith, all)) refl
each_part P n all before part.ActivationDate = before 6 part.ActivationDate (omega (arith, all)) refl
each_part P n all before part.DeactivationDate = before 7 part.DeactivationDate (omega (arith, all)) refl
each_part P n all before part.DestroyDate = before 8 part.DestroyDate (omega (arith, all)) refl
each_part P n all before part.CompromiseDate = before 9 part.CompromiseDate (omega (arith, all)) refl
each_part P n all before part.KeyMaterial = before 10 part.KeyMaterial (omega (arith, all)) refl

-- ---- the two comparisons together

pub compared_all : (left told : List EntryOf) (r : Result (Option Difference) AllocError) → AreKnown left told
    → IfOk r (λ difference. MatchOption difference (AreTold left told) (DiffersAmong left told)) → IfOk r (ComparesAmong left told)
compared_all left told (Ok None) known ok = record { known = known; live = ok }
compared_all left told (Ok (Some difference)) known ok = ok
compared_all left told (Err fault) known ok = ok

-- ---- a file to its end

-- where the end was seen the file is what came
pub whole_file : {R : Type 0} (file : List ℕ) (i : Input R) → IsFileOf file i → IsTrue (is_ended i) → file ≡ came_of i
whole_file file i f ended = f.1 ∙ ap (λ (l : List ℕ). came_of i ++ l) (f.2 ended) ∙ append-nil (came_of i)
