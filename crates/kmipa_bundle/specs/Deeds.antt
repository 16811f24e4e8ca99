-- Deeds, one after the other, whatever they are.
use Rattle.std.specs.Prelude.{◌≡◌, ◌⊎◌, ℕ, List, [], ◌∷◌}
use Rattle.kmipa_passed.specs.Leaving.{HeldOf}
use Rattle.kmipa_aside.specs.Explains.{Deed}
use Rattle.kmipa_aside.specs.Worlds.{WorldOf}

-- each goes on from the world and the ID Placeholder that the one before it leaves
abbrev pub ChainOf : {A : Type 0} → (A → Deed) → List A → WorldOf → HeldOf → WorldOf → HeldOf → Type 0
ChainOf does [] w before w' after = (w' ≡ w) × (after ≡ before)
ChainOf does (x ∷ xs) w before w' after = (v : WorldOf) × (between : HeldOf) × does x w before v between × ChainOf does xs v between w' after

-- one of them tells these bytes
abbrev pub TellsSome : {A : Type 0} → (A → List ℕ → Type 0) → List A → List ℕ → Type 0
TellsSome tells [] bytes = ⊥
TellsSome tells (x ∷ xs) bytes = tells x bytes ⊎ TellsSome tells xs bytes
