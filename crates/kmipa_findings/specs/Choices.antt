-- WHERE A RECORDING LEAVES A SEARCH NO CHOICE, beside what is set aside (profile).
use Rattle.std.specs.Prelude.{◌≡◌, ◌<◌, ◌≤◌, ◌⊎◌, ◌+ℤ◌, ◌<ℤ◌, ℕ, ℤ, Bool, IsTrue, false, List, map, Option, Some, None, IsSome, slice_get}
use Rattle.kmipa_record.specs.Declarations.{DeclarationOf}
use Rattle.kmipa_record.specs.Marks.{MarkOf}
use Rattle.kmipa_record.specs.Witnesses.{TurnOf, bare_turn}
use Rattle.kmipa_bundle.specs.Shapes.{is_unordered}
use Rattle.kmipa_check.specs.Grants.{grants_declared}
use Rattle.kmipa_turns.specs.Recorded.{RecordedOf, AreRecorded}
use Rattle.kmipa_turns.specs.Steps.{StepOf, TakenOf, leaves, takes}
use Rattle.kmipa_trail.specs.Orders.{IsOrder}
use Rattle.kmipa_trail.specs.Placing.{Before}

-- the turn that names this call and gives nothing else
abbrev pub bare_of : RecordedOf → TurnOf
bare_of c = bare_turn c.number

-- two Time Stamps are farther apart than twice the tolerance; a call that can't be read has none, and that equals every one
abbrev pub AreFar : ℤ → Option ℤ → Option ℤ → Type 0
AreFar tolerance (Some a) (Some b) = (((a +ℤ tolerance) +ℤ tolerance) <ℤ b) ⊎ (((b +ℤ tolerance) +ℤ tolerance) <ℤ a)
AreFar tolerance (Some a) None = ⊥
AreFar tolerance None stamp = ⊥

-- so are those of two calls; or one ended before the other began
abbrev pub AreApart : ℤ → StepOf → StepOf → Type 0
AreApart tolerance a b = AreFar tolerance a.stamp b.stamp ⊎ (Before a b ⊎ Before b a)

-- the items of a call have their order, or it can't be read
abbrev pub HasOrder : TakenOf → Type 0
HasOrder (leaves left counts) = Unit {0}
HasOrder (takes c places) = is_unordered c ≡ false

abbrev pub HaveOrder : List StepOf → Type 0
HaveOrder steps = (place : ℕ) (s : StepOf) → slice_get steps place ≡ Some s → HasOrder s.taken

-- each two calls are apart
abbrev pub AreAllApart : ℤ → List StepOf → Type 0
AreAllApart tolerance steps = (place later : ℕ) (a b : StepOf) → place < later → slice_get steps place ≡ Some a → slice_get steps later ≡ Some b → AreApart tolerance a b

-- no call is open
abbrev pub HaveEnded : List RecordedOf → Type 0
HaveEnded calls = (place : ℕ) (c : RecordedOf) → slice_get calls place ≡ Some c → IsSome c.end

-- Each call has ended, and is taken in one way alone: by its bare turn, so that it waits for no payload, and by place.
pub record IsPlainBeside (marks : List MarkOf) (declared : DeclarationOf) : Type 0 where
  pub calls : List RecordedOf
  pub are : AreRecorded marks calls
  pub ended : HaveEnded calls
  pub steps : List StepOf
  pub bare : IsOrder (grants_declared declared) calls (map bare_of calls) steps
  pub ordered : HaveOrder steps

-- THE DEFINITION. The recording is plain so, and each two calls are apart.
pub record IsForcedBeside (marks : List MarkOf) (declared : DeclarationOf) : Type 0 where
  pub plain : IsPlainBeside marks declared
  pub apart : AreAllApart declared.settings.tolerance plain.steps

-- ---- on the way; not promised

-- it is plain so, and where that is asked, each two calls are apart
pub record IsPlainAnd (marks : List MarkOf) (declared : DeclarationOf) (asked : Bool) : Type 0 where
  pub plain : IsPlainBeside marks declared
  pub apart : IsTrue asked → AreAllApart declared.settings.tolerance plain.steps

-- the calls stand in the order of their begin marks
abbrev pub AreRising : List StepOf → Type 0
AreRising steps = (place later : ℕ) (a b : StepOf) → place < later → slice_get steps place ≡ Some a → slice_get steps later ≡ Some b → a.begin ≤ b.begin

-- a call is apart from those behind its place, up to another
abbrev pub IsApartUpTo : ℤ → List StepOf → ℕ → ℕ → StepOf → Type 0
IsApartUpTo tolerance steps place count a = (later : ℕ) (b : StepOf) → place < later → later < count → slice_get steps later ≡ Some b → AreApart tolerance a b

abbrev pub IsApartBehind : ℤ → List StepOf → ℕ → StepOf → Type 0
IsApartBehind tolerance steps place a = (later : ℕ) (b : StepOf) → place < later → slice_get steps later ≡ Some b → AreApart tolerance a b
