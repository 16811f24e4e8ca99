-- What the answer of a test says.
use Rattle.std.specs.Prelude.{Bool, true, false}

-- a test that decides
abbrev pub Decided : Bool → Type 0 → Type 0
Decided true P = P
Decided false P = P → ⊥
