-- What the places of a call come to, one after the other. Not promised.
use Rattle.std.specs.Prelude.{◌≡◌, ◌≤◌, ℕ, ◌+◌, ℤ, List, length, take, Option, Some, None, Result, Ok, Err, slice_get}
use Rattle.kmipa_store.specs.Ledger.{Meaning, LedgerState}
use Rattle.kmipa_store.specs.Choices.{IsSound}
use Rattle.kmipa_msgs.specs.Messages.{RulesOf}
use Rattle.kmipa_ops.specs.declared.why.Why.{Why}
use Rattle.kmipa_ops.specs.declared.why.Refusal.{Refusal}
use Rattle.kmipa_ops.specs.declared.why.Refusal.TheVariants as item
use Rattle.kmipa_passed.specs.Leaving.{HeldOf, empty, held_of}
use Rattle.kmipa_passed.specs.declared.leaving.Held.{Held}
use Rattle.kmipa_batch.specs.Orders.{one_of, along}
use Rattle.kmipa_batch.specs.declared.refusal.CallRefusal.{CallRefusal}
use Rattle.kmipa_batch.specs.declared.refusal.CallRefusal.TheVariants.{Impossible, Memory}
use Rattle.kmipa_aside.specs.Becoming.{stand_in}
use Rattle.kmipa_aside.specs.Explains.{Explains, Took}
use Rattle.kmipa_aside.specs.Sights.{SightOf}
use Rattle.kmipa_places.specs.Calls.{ReadOf}
use Rattle.kmipa_places.specs.Places.{PlaceOf}
use Rattle.kmipa_bundle.specs.Deeds.{ChainOf, TellsSome}
use Rattle.kmipa_bundle.specs.Shapes.{IsShaped, IsFirstUnshaped}
use Rattle.kmipa_bundle.specs.Bundles.{DoesPlace, places_taken, sight_on}
use Rattle.kmipa_bundle.specs.Counts.{Counted, CountsOf, counted_there, counts_of, no_counts}
use Rattle.kmipa_bundle.specs.declared.counts.Counts.{Counts}
use Rattle.kmipa_bundle.specs.declared.progress.Progress.{Progress}
use Rattle.kmipa_bundle.specs.Refusals.{CallRefuted, Refuted, TellsPlace}

-- the ledger was led along these places
abbrev pub Led : SightOf → ℤ → Meaning → HeldOf → List PlaceOf → Meaning → HeldOf → Type 0
Led sight t m before places n after = Explains (ChainOf (DoesPlace sight t) places) (TellsSome TellsPlace places) m before n after

-- what one place comes to
abbrev pub TakenPlace : SightOf → LedgerState → HeldOf → ℤ → PlaceOf → Result Held Refusal → LedgerState → Type 0
TakenPlace sight s before t place (Ok after) u = Took (DoesPlace sight t place) (TellsPlace place) s before u (held_of after)
TakenPlace sight s before t place (Err (item.Impossible why)) u = Refuted sight t s.now before place why × (u ≡ s)
TakenPlace sight s before t place (Err item.Memory) u = u.marks ≡ s.marks

-- against the one that is there speaks this reason
pub record ThereRefuted (sight : SightOf) (t : ℤ) (m : Meaning) (before : HeldOf) (o : Option PlaceOf) (why : Why) : Type 0 where
  pub place : PlaceOf
  pub there : o ≡ Some place
  pub refuted : Refuted sight t m before place why

-- what the one that is there comes to, if there is one
abbrev pub TakenThere : SightOf → LedgerState → HeldOf → ℤ → Option PlaceOf → Result Held Refusal → LedgerState → Type 0
TakenThere sight s before t o (Ok after) u = Led sight t s.now before (one_of o) u.now (held_of after) × IsSound u.now × (u.marks ≡ s.marks)
TakenThere sight s before t o (Err (item.Impossible why)) u = ThereRefuted sight t s.now before o why × (u.marks ≡ s.marks)
TakenThere sight s before t o (Err item.Memory) u = u.marks ≡ s.marks

-- and it is counted
abbrev pub GoesThere : SightOf → LedgerState → Progress → ℤ → Option PlaceOf → Result Progress Refusal → LedgerState → Type 0
GoesThere sight s p t o (Ok q) u =
    TakenThere sight s (held_of p.held) t o (Ok q.held) u × (counts_of q.counts ≡ counted_there sight.rules (stand_in s.now) (held_of p.held) o (counts_of p.counts))
GoesThere sight s p t o (Err refusal) u = TakenThere sight s (held_of p.held) t o (Err refusal) u

-- how many places are taken: as many as were handed in, or else all
abbrev pub TakesCount : ReadOf → Option (List ℕ) → ℕ → Type 0
TakesCount c None count = length c.places ≤ count
TakesCount c (Some places) count = count ≡ length places

-- all places along this order were taken
pub record AlongDone (sight : SightOf) (t : ℤ) (m : Meaning) (places : List PlaceOf) (order : List ℕ) (k : CountsOf) (n : Meaning) : Type 0 where
  pub held : HeldOf
  pub led : Led sight t m empty (along places order) n held
  pub sound : IsSound n
  pub counted : Counted sight t m empty no_counts (along places order) n held k

-- those before a position of this order were taken, and against the place there speaks this reason. It is reported from 1
pub record AlongRefuted (sight : SightOf) (t : ℤ) (m : Meaning) (places : List PlaceOf) (order : List ℕ) (item : ℕ) (why : Why) : Type 0 where
  pub position : ℕ
  pub place : ℕ
  pub there : slice_get order position ≡ Some place
  pub reported : item ≡ place + 1
  pub between : Meaning
  pub held : HeldOf
  pub led : Led sight t m empty (along places (take position order)) between held
  pub sound : IsSound between
  pub refuted : ThereRefuted sight t between held (slice_get places place) why

-- what the places along this order come to
abbrev pub AlongCame : SightOf → ℤ → Meaning → List PlaceOf → List ℕ → Result Counts CallRefusal → Meaning → Type 0
AlongCame sight t m places order (Ok k) n = AlongDone sight t m places order (counts_of k) n
AlongCame sight t m places order (Err (Impossible item why)) n = AlongRefuted sight t m places order item why
AlongCame sight t m places order (Err Memory) n = Unit {0}

-- and they leave the marks
abbrev pub AlongTaken : SightOf → ℤ → LedgerState → List PlaceOf → List ℕ → Result Counts CallRefusal → LedgerState → Type 0
AlongTaken sight t s places order result u = AlongCame sight t s.now places order result u.now × (u.marks ≡ s.marks)

-- the lowest place without its shape, if there is one
abbrev pub LowestUnshaped : ReadOf → Option ℕ → Type 0
LowestUnshaped c None = IsShaped c
LowestUnshaped c (Some place) = IsFirstUnshaped c place

-- all places were taken in this order, in their shape
pub record AllTaken (rules : RulesOf) (m : Meaning) (c : ReadOf) (order : Option (List ℕ)) (k : CountsOf) (n : Meaning) : Type 0 where
  pub shaped : IsShaped c
  pub held : HeldOf
  pub led : Led (sight_on rules c) c.stamp m empty (places_taken c order) n held
  pub sound : IsSound n
  pub counted : Counted (sight_on rules c) c.stamp m empty no_counts (places_taken c order) n held k

-- what the places of a call come to
abbrev pub Came : RulesOf → Meaning → ReadOf → Option (List ℕ) → Result Counts CallRefusal → Meaning → Type 0
Came rules m c order (Ok k) n = AllTaken rules m c order (counts_of k) n
Came rules m c order (Err (Impossible item why)) n = CallRefuted rules m c order item why
Came rules m c order (Err Memory) n = Unit {0}

-- and they leave the marks
abbrev pub Ran : RulesOf → LedgerState → ReadOf → Option (List ℕ) → Result Counts CallRefusal → LedgerState → Type 0
Ran rules s c order result u = Came rules s.now c order result u.now × (u.marks ≡ s.marks)
