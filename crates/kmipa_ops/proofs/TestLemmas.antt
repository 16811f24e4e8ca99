-- Tests of fields that may be absent, and the lowest of the reasons that hold.
use Rattle.std.proofs.Common.{◌≡◌, ℕ, slice_get, ◌||◌, ◌⊎◌, Bool, true, false, not, List, find, is_none, is_some, Option, Some, None, refl, ap, sym, ◌∙◌, inl, inr}
use Rattle.std.specs.Bool.{Decides}
use Rattle.std.specs.List.{Contains, list_any}
use Rattle.std.proofs.lemmas.List.Folds.{Any-from_list_any, list_any_at}
use Rattle.std.proofs.lemmas.Bool.{or_parts}
use Rattle.kmipa_ops.specs.declared.why.Why.{Why}
use Rattle.kmipa_ops.specs.declared.why.Why.TheVariants.{EarlierCallLate, StampRunsBack, BatchShape, OperationDiffers, NoSuchObject, WrongState, IdentifierTaken, NameTaken, BytesDiffer, LengthImpossible, AttributeDiffers, AttributeMissing, ListedWrongly, ListedTooFew, ReasonUnfounded, EchoDiffers, NotVisible}
use Rattle.kmipa_ops.specs.Whys.{whys, why_number}
use Rattle.kmipa_ops.proofs.FirstLemmas.{find-none}
use Rattle.kmipa_ops.specs.Objects.{Echoes, Agree, is_other, clash}

pub not_false : (b : Bool) → not b ≡ false → b ≡ true
not_false true h = refl
not_false false h = cc

pub or_cases : (x y : Bool) → (x || y) ≡ true → (x ≡ true) ⊎ (y ≡ true)
or_cases true y h = inl refl
or_cases false y h = inr h

pub or_right : (x y : Bool) → y ≡ true → (x || y) ≡ true
or_right true y h = refl
or_right false y h = h

pub not_none : {A : Type 0} (o : Option A) → is_none o ≡ false → (x : A) × (o ≡ Some x)
not_none None h = let bad : ⊥ = cc in absurd bad
not_none (Some x) h = (x, refl)

pub not_some : {A : Type 0} (o : Option A) → is_some o ≡ false → o ≡ None
not_some None h = refl
not_some (Some x) h = cc

module _ {A : Type 0} (same : A → A → Bool) (decides : (x y : A) → Decides (same x y) (x ≡ y)) where
  pub echoes_if : (o : Option A) (x : A) → is_other same o x ≡ false → Echoes o x
  echoes_if None x h = tt
  echoes_if (Some y) x h = (decides y x).0 (not_false (same y x) h)

  pub echoes_not : (o : Option A) (x : A) → is_other same o x ≡ true → Echoes o x → ⊥
  echoes_not None x h e = cc
  echoes_not (Some y) x h e = let f : not (same y x) ≡ false = ap not ((decides y x).1 e) in cc

  pub agree_if : (a b : Option A) → clash same a b ≡ false → Agree a b
  agree_if None b h = tt
  agree_if (Some x) b h = echoes_if b x h

  pub agree_not : (a b : Option A) → clash same a b ≡ true → Agree a b → ⊥
  agree_not None b h e = cc
  agree_not (Some x) b h e = echoes_not b x h e

-- tests of several parts
pub five_parts : (a b c d e : Bool) → (a || b || c || d || e) ≡ false → (a ≡ false) × (b ≡ false) × (c ≡ false) × (d ≡ false) × (e ≡ false)
five_parts a b c d e h =
    let w = or_parts (a || b || c || d) e h in
    let x = or_parts (a || b || c) d w.0 in
    let y = or_parts (a || b) c x.0 in
    let z = or_parts a b y.0 in
    (z.0, z.1, y.1, x.1, w.1)

pub five_cases : (a b c d e : Bool) → (a || b || c || d || e) ≡ true → (a ≡ true → ⊥) → (b ≡ true → ⊥) → (c ≡ true → ⊥) → (d ≡ true → ⊥) → (e ≡ true → ⊥) → ⊥
five_cases true b c d e h p q r s t = p refl
five_cases false true c d e h p q r s t = q refl
five_cases false false true d e h p q r s t = r refl
five_cases false false false true e h p q r s t = s refl
five_cases false false false false e h p q r s t = t h

pub three_cases : (a b c : Bool) → (a || b || c) ≡ true → (a ≡ true → ⊥) → (b ≡ true → ⊥) → (c ≡ true → ⊥) → ⊥
three_cases true b c h p q r = p refl
three_cases false true c h p q r = q refl
three_cases false false c h p q r = r h

pub true_not : (b : Bool) → b ≡ true → b ≡ false → ⊥
true_not b h q = cc

pub false_if : (b : Bool) → (b ≡ true → ⊥) → b ≡ false
false_if true h = absurd (h refl)
false_if false h = refl

pub not_true : (b : Bool) → not b ≡ true → b ≡ false
not_true true h = cc
not_true false h = refl

-- each element passes a test, or one doesn't
module _ {X : Type 0} (p : X → Bool) (P : X → Type 0) (decides : (x : X) → Decides (p x) (P x)) where
  pub each_if : (xs : List X) → list_any (λ (x : X). not (p x)) xs ≡ false → (x : X) → Contains xs x → P x
  each_if xs h x at =
      (decides x).0 (not_false (p x) (false_if (not (p x)) (λ e.
      let found : list_any (λ (y : X). not (p y)) xs ≡ true = list_any_at (λ (y : X). not (p y)) xs at.0 x at.1 (ap (λ (y : X). not (p y)) at.2 ∙ e) in
      let bad : true ≡ false = sym found ∙ h in
      cc)))

  pub each_not : (xs : List X) → list_any (λ (x : X). not (p x)) xs ≡ true → ((x : X) → Contains xs x → P x) → ⊥
  each_not xs h f =
      let a = Any-from_list_any (λ (x : X). not (p x)) xs h in
      let is : not (p a.1) ≡ false = ap not ((decides a.1).1 (f a.1 (a.0, a.2, a.3))) in
      let out : not (p a.1) ≡ true = a.4 in
      cc

  -- some element passes a test
  pub some_if : (xs : List X) → list_any p xs ≡ true → (x : X) × Contains xs x × P x
  some_if xs h = let a = Any-from_list_any p xs h in (a.1, (a.0, a.2, a.3), (decides a.1).0 a.4)

  pub some_not : (xs : List X) (x : X) → Contains xs x → P x → list_any p xs ≡ true
  some_not xs x at y = list_any_at p xs at.0 x at.1 (ap p at.2 ∙ (decides x).1 y)

-- where each reason stands in the list
abbrev place_of_why : Why → ℕ
place_of_why NotVisible = 0
place_of_why w = why_number w

all_whys : (w : Why) → slice_get whys (place_of_why w) ≡ Some w
all_whys =
    elim [
      | EarlierCallLate ↦ refl
      | StampRunsBack ↦ refl
      | BatchShape ↦ refl
      | OperationDiffers ↦ refl
      | NoSuchObject ↦ refl
      | WrongState ↦ refl
      | IdentifierTaken ↦ refl
      | NameTaken ↦ refl
      | BytesDiffer ↦ refl
      | LengthImpossible ↦ refl
      | AttributeDiffers ↦ refl
      | AttributeMissing ↦ refl
      | ListedWrongly ↦ refl
      | ListedTooFew ↦ refl
      | ReasonUnfounded ↦ refl
      | EchoDiffers ↦ refl
      | NotVisible ↦ refl
    ]

-- where none is found none does
pub none_holds : (p : Why → Bool) → find p whys ≡ None → (w : Why) → p w ≡ false
none_holds p e w = find-none p whys (place_of_why w) w e (all_whys w)

-- two tests that each follow from the other
pub same_truth : (a b : Bool) → (a ≡ true → b ≡ true) → (b ≡ true → a ≡ true) → a ≡ b
same_truth true b f g = sym (f refl)
same_truth false true f g = let bad : false ≡ true = g refl in cc
same_truth false false f g = refl

-- a test turned round, and a test that fails exactly where something holds
pub not_decides : (b : Bool) {B : Type 0} → Decides b B → Decides (not b) (B → ⊥)
not_decides true d = (λ h. let bad : ⊥ = cc in absurd bad, λ f. absurd (f (d.0 refl)))
not_decides false d = (λ h x. true_not false (d.1 x) refl, λ f. refl)

pub refuted : (b : Bool) {P : Type 0} → (b ≡ false → P) → (P → b ≡ false) → Decides b (P → ⊥)
refuted true f g = (λ h x. true_not true refl (g x), λ n. refl)
refuted false f g = (λ h. let bad : ⊥ = cc in absurd bad, λ n. absurd (n (f refl)))
