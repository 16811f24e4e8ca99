-- The filters of a Locate, one by one.
use Rattle.std.specs.Prelude.{◌≡◌, ◌<◌, ◌==◌, ◌↔◌, ℕ, Bool, false, List, [], ◌∷◌, Some, slice_get}
use Rattle.std.specs.List.{Contains}
use Rattle.std.specs.Ordering.{int_eq}
use Rattle.kmipa_attrs.specs.Filters.{FilterOf}
use Rattle.kmipa_attrs.specs.ObjectTypes.{type_number}
use Rattle.kmipa_object.specs.Inventory.{Card}
use Rattle.kmipa_object.specs.Life.{state_number}
use Rattle.kmipa_object.specs.declared.state.State.{State as StateOf}
use Rattle.kmipa_ops.specs.GetAttributes.{AreAmong, has_stranger}
use Rattle.kmipa_ops.specs.Locate.{May}
use Rattle.kmipa_ops.specs.Objects.{Echoes, Agree, is_other, clash}
use Rattle.kmipa_ops.specs.declared.judged.Judged.{Judged}
use Rattle.kmipa_ops.specs.declared.judged.Judged.TheVariants.{Name, ObjectType, State, CryptographicAlgorithm, CryptographicLength}

-- the attributes that a filter may ask for, in the order in which one is blamed
abbrev pub filters : List Judged
filters = Name ∷ ObjectType ∷ State ∷ CryptographicAlgorithm ∷ CryptographicLength ∷ []

-- what a filter asks for of an attribute doesn't say no of an object in this state
abbrev pub Fits : FilterOf → StateOf → Card → Judged → Type 0
Fits q s c Name = AreAmong c.given.names q.names
Fits q s c ObjectType = Echoes q.object_type (type_number c.kind)
Fits q s c State = Echoes q.state (state_number s)
Fits q s c CryptographicAlgorithm = Agree q.algorithm c.given.algorithm
Fits q s c CryptographicLength = Agree q.length c.given.length
Fits q s c other = Unit {0}

-- it is the first attribute of which the filter says no
pub record IsFirstNo (q : FilterOf) (s : StateOf) (c : Card) (attribute : Judged) : Type 0 where
  pub place : ℕ
  pub there : slice_get filters place ≡ Some attribute
  pub misfit : Fits q s c attribute → ⊥
  pub before : (earlier : ℕ) (other : Judged) → earlier < place → slice_get filters earlier ≡ Some other → Fits q s c other

-- an object may be listed exactly where the filter says no of none of them
abbrev pub MayIsEach : Type 0
MayIsEach = (q : FilterOf) (s : StateOf) (c : Card) → May q s c ↔ ((attribute : Judged) → Contains filters attribute → Fits q s c attribute)

-- the test of each. Not promised.
abbrev pub refuses : FilterOf → StateOf → Card → Judged → Bool
refuses q s c Name = has_stranger c.given.names q.names
refuses q s c ObjectType = is_other (λ (x y : ℕ). x == y) q.object_type (type_number c.kind)
refuses q s c State = is_other (λ (x y : ℕ). x == y) q.state (state_number s)
refuses q s c CryptographicAlgorithm = clash (λ (x y : ℕ). x == y) q.algorithm c.given.algorithm
refuses q s c CryptographicLength = clash int_eq q.length c.given.length
refuses q s c other = false
