-- What is told in JSON of each of a list.
use Rattle.std.proofs.Common.{◌≡◌, ◌∙◌, ◌≤◌, ap, refl, subst, List, [], ◌∷◌, ℕ, length, map, take}
use Rattle.std.proofs.lemmas.List.{take_all}
use Rattle.serde_json.specs.Data.{Items, Members, item, object}
use Rattle.kmipa_findings.specs.Told.{finding_of}
use Rattle.kmipa_findings.specs.declared.finding.Finding.{Finding}
use Rattle.kmipa_telling.specs.Lists.{AreObjects, objects}
use Rattle.kmipa_judge.specs.Lines.{Meaning}
use Rattle.kmipa_judge.specs.Object.{TellsFinding}

-- objects of what each means are those of each
objects_meant : {A B : Type 0} (meaning : A → B) (Tells : B → Members → Type 0) (xs : List A) (told : Items) → AreObjects (λ x. Tells (meaning x)) xs told
    → AreObjects Tells (map meaning xs) told
objects_meant meaning Tells [] told none = none
objects_meant meaning Tells (x ∷ xs) told (first, rest, tells, others, is) = (first, rest, tells, objects_meant meaning Tells xs rest others, is)

pub told_meant : {A B : Type 0} (meaning : A → B) (members : B → Members) (xs : List A) → objects (λ x. members (meaning x)) xs ≡ objects members (map meaning xs)
told_meant meaning members [] = refl
told_meant meaning members (x ∷ xs) = ap (item (object (members (meaning x)))) (told_meant meaning members xs)

-- an object of each finding, as far as the loop came
abbrev pub AreFoundSoFar : Meaning → List Finding → ℕ → Items → Type 0
AreFoundSoFar Means fs i told = AreObjects (λ f. TellsFinding Means (finding_of f)) (take i fs) told

pub found_all : (Means : Meaning) (fs : List Finding) (i : ℕ) (told : Items) → length fs ≤ i → AreFoundSoFar Means fs i told → AreObjects (TellsFinding Means) (map finding_of fs) told
found_all Means fs i told all so =
    let P : List Finding → Type 0 = λ xs. AreObjects (λ f. TellsFinding Means (finding_of f)) xs told in
    objects_meant finding_of (TellsFinding Means) fs told (subst P (take_all i fs all) so)

-- an object of each
pub told_all : {A : Type 0} (members : A → Members) (xs : List A) (i : ℕ) (told : Items) → length xs ≤ i → told ≡ objects members (take i xs) → told ≡ objects members xs
told_all members xs i told all so = so ∙ ap (objects members) (take_all i xs all)
