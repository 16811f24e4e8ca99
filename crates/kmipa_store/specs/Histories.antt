-- A value with the changes that led to it, and the values at earlier places.
use Rattle.std.specs.Prelude.{◌≡◌, ◌++◌, ◌∷◌, ◌-◌, ◌&&◌, ℕ, Bool, true, nat_le, List, [], length, take, drop, reverse, Result, Ok, Err}
use Rattle.kmipa_store.specs.declared.fault.StoreFault.{StoreFault}
use Rattle.kmipa_store.specs.declared.fault.StoreFault.TheVariants.{Memory}

-- the changes taken back, the newest first
abbrev pub rolled : {X C : Type 0} → (X → C → X) → X → List C → X
rolled unmade x [] = x
rolled unmade x (c ∷ cs) = rolled unmade (unmade x c) cs

-- the values at these places, the newest first; a place is how many changes there were. The changes stand the newest first
abbrev pub history : {X C : Type 0} → (X → C → X) → X → List C → List ℕ → List X
history unmade x cs [] = []
history unmade x cs (p ∷ ps) =
    rolled unmade x (take (length cs - p) cs) ∷ history unmade (rolled unmade x (take (length cs - p) cs)) (drop (length cs - p) cs) ps

-- each place is within, and none is after a newer one
abbrev pub fits : ℕ → List ℕ → Bool
fits n [] = true
fits n (p ∷ ps) = nat_le p n && fits p ps

-- what stays written down: nothing where no mark stands
abbrev pub while_marked : {P C : Type 0} → List P → List C → List C
while_marked [] cs = []
while_marked (p ∷ ps) cs = cs

-- one change was made, and written down while a mark stands so that it can be taken back
pub record Logged {X C P : Type 0} (unmade : X → C → X) (ps : List P) (x : X) (cs : List C) (y : X) (ds : List C) : Type 0 where
  pub change : C
  pub written : ds ≡ while_marked ps (cs ++ change ∷ [])
  pub back : unmade y change ≡ x

-- the wanted change was made and written down, or want of memory and nothing changed
abbrev pub Logs : {X C P : Type 0} → (X → C → X) → List P → X → List C → X → Result (Unit {0}) StoreFault → X → List C → Type 0
Logs unmade ps x cs wanted (Ok u) y ds = (y ≡ wanted) × Logged unmade ps x cs y ds
Logs unmade ps x cs wanted (Err fault) y ds = (fault ≡ Memory) × (y ≡ x) × (ds ≡ cs)

-- the newest changes were taken back, so that this many are left
pub record RolledTo {X C : Type 0} (unmade : X → C → X) (x : X) (cs : List C) (count : ℕ) (y : X) (ds : List C) : Type 0 where
  pub value : y ≡ rolled unmade x (take (length cs - count) (reverse cs))
  pub left : reverse ds ≡ drop (length cs - count) (reverse cs)
