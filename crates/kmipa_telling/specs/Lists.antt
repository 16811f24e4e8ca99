-- What is printed or told of each of a list, one after the other.
use Rattle.std.specs.Prelude.{◌≡◌, ℕ, List, [], ◌∷◌, ◌++◌}
use Rattle.serde_json.specs.Data.{Items, Members, item, no_items, object}

-- the lines of each
abbrev pub AreLines : {A : Type 0} → (A → List ℕ → Type 0) → List A → List ℕ → Type 0
AreLines Prints [] lines = lines ≡ []
AreLines Prints (x ∷ xs) lines = (first rest : List ℕ) × Prints x first × AreLines Prints xs rest × (lines ≡ first ++ rest)

-- an object of each, which has these members
abbrev pub objects : {A : Type 0} → (A → Members) → List A → Items
objects members [] = no_items
objects members (x ∷ xs) = item (object (members x)) (objects members xs)

-- the same, where the members of each are said by a relation
abbrev pub AreObjects : {A : Type 0} → (A → Members → Type 0) → List A → Items → Type 0
AreObjects Tells [] told = told ≡ no_items
AreObjects Tells (x ∷ xs) told = (first : Members) × (rest : Items) × Tells x first × AreObjects Tells xs rest × (told ≡ item (object first) rest)
