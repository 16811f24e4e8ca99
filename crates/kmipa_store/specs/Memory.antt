-- Want of memory: it changes nothing.
use Rattle.std.specs.Prelude.{◌≡◌, ◌++◌, ◌∷◌, [], List, Result, Ok, Err}
use Rattle.kmipa_store.specs.declared.fault.StoreFault.{StoreFault}
use Rattle.kmipa_store.specs.declared.fault.StoreFault.TheVariants.{IdentifierTaken, BytesDiffer, LengthImpossible, Memory}

-- where want of memory is the only fault
abbrev pub RefusedForMemory : {X : Type 0} → StoreFault → X → X → Type 0
RefusedForMemory IdentifierTaken x y = ⊥
RefusedForMemory BytesDiffer x y = ⊥
RefusedForMemory LengthImpossible x y = ⊥
RefusedForMemory Memory x y = y ≡ x

-- an element after the others, or want of memory
abbrev pub Pushes : {X : Type 0} → List X → X → Result (Unit {0}) StoreFault → List X → Type 0
Pushes xs x (Ok u) ys = ys ≡ xs ++ x ∷ []
Pushes xs x (Err fault) ys = (fault ≡ Memory) × (ys ≡ xs)
