-- The calls of the marks that have come, and what is held of them. Not promised.
use Rattle.std.specs.Prelude.{◌≡◌, ◌⊎◌, ℕ, ℤ, Bool, true, List, map, length, Option, Some, None, slice_get, slice_set}
use Rattle.kmipa_record.specs.Marks.{MarkOf, begun}
use Rattle.kmipa_record.specs.NumberMaps.{value_at}
use Rattle.kmipa_check.specs.Calls.{HasBegin, HasEnd}
use Rattle.kmipa_stream.specs.declared.seen.SeenCall.{SeenCall}
use Rattle.kmipa_stream.specs.declared.seen.Held.{Held}
use Rattle.kmipa_stream.specs.declared.seen.Held.TheVariants.{Released, Open, Whole}
use Rattle.kmipa_stream.specs.declared.seen.Seen.{Seen}

-- the place that is noted of a call's end mark: it stands there; or there is none
abbrev pub EndsSo : List MarkOf → ℤ → Option ℕ → Type 0
EndsSo marks number None = (end : ℕ) (answered : List ℕ) → HasEnd marks number end answered → ⊥
EndsSo marks number (Some end) = (answered : List ℕ) × HasEnd marks number end answered

-- this is the message of its begin mark
pub record HoldsBegin (marks : List MarkOf) (s : SeenCall) (asked : List ℕ) : Type 0 where
  pub at : HasBegin marks s.number s.begin asked

-- and this that of its end mark
pub record HoldsEnd (marks : List MarkOf) (s : SeenCall) (answered : List ℕ) : Type 0 where
  pub place : ℕ
  pub noted : s.end ≡ Some place
  pub at : HasEnd marks s.number place answered

-- what is held of a call is its own
abbrev pub HoldsSo : List MarkOf → SeenCall → Held → Type 0
HoldsSo marks s Released = Unit {0}
HoldsSo marks s (Open asked) = HoldsBegin marks s asked.items × (s.end ≡ None)
HoldsSo marks s (Whole asked answered) = HoldsBegin marks s asked.items × HoldsEnd marks s answered.items

-- a call that these marks begin is noted so
pub record IsSeen (marks : List MarkOf) (s : SeenCall) : Type 0 where
  pub asked : List ℕ
  pub begun : HasBegin marks s.number s.begin asked
  pub ended : EndsSo marks s.number s.end
  pub held : HoldsSo marks s s.held

-- the call is there, with its number
abbrev pub IsAt : List SeenCall → ℕ → ℤ → Type 0
IsAt calls place number = (s : SeenCall) × (slice_get calls place ≡ Some s) × (s.number ≡ number)

-- the call that the mark at this place begins is there
abbrev pub IsNotedAt : List SeenCall → ℤ → ℕ → Type 0
IsNotedAt calls number begin = (place : ℕ) × ((s : SeenCall) × (slice_get calls place ≡ Some s) × (s.number ≡ number) × (s.begin ≡ begin))

-- all calls that these marks begin are noted, in their order, and no others
pub record AreSeen (marks : List MarkOf) (seen : Seen) : Type 0 where
  pub count : seen.count ≡ length marks
  pub numbers : map (λ (s : SeenCall). s.number) seen.calls.items ≡ begun marks
  pub each : (place : ℕ) (s : SeenCall) → slice_get seen.calls.items place ≡ Some s → IsSeen marks s
  pub all : (number : ℤ) (begin : ℕ) (asked : List ℕ) → HasBegin marks number begin asked → IsNotedAt seen.calls.items number begin
  -- the places are those of the numbers
  pub known : (number : ℤ) (place : ℕ) → value_at seen.places number ≡ Some place → IsAt seen.calls.items place number
  pub noted : (place : ℕ) (s : SeenCall) → slice_get seen.calls.items place ≡ Some s → value_at seen.places s.number ≡ Some place

-- ---- what is let go

abbrev pub released : SeenCall → SeenCall
released s = record { number = s.number; begin = s.begin; end = s.end; held = Released }

-- the call at a place, if there is one, is handed out, and nothing more is held of it
abbrev pub HasLetGo : Seen → Seen → ℕ → Option SeenCall → Type 0
HasLetGo old new place None = (new ≡ old) × (slice_get old.calls.items place ≡ None)
HasLetGo old new place (Some s) =
    (slice_get old.calls.items place ≡ Some s) × (new.calls.items ≡ slice_set old.calls.items place (released s))
    × (new.places ≡ old.places) × (new.count ≡ old.count)

-- both messages of the call are held
abbrev pub AreHeld : Held → Type 0
AreHeld Released = ⊥
AreHeld (Open asked) = ⊥
AreHeld (Whole asked answered) = Unit {0}

-- all that is to come of the call has come: its end mark; or the transcript is at its end
abbrev pub HasCome : Bool → Held → Type 0
HasCome closed held = (closed ≡ true) ⊎ AreHeld held

-- the same of a call of which all has come; at the end of the transcript of any of which something is held
abbrev pub LetsGo : Bool → Seen → Seen → ℕ → Option SeenCall → Type 0
LetsGo closed old new place None =
    (new ≡ old) × (closed ≡ true → (s : SeenCall) → slice_get old.calls.items place ≡ Some s → s.held ≡ Released)
LetsGo closed old new place (Some s) = HasLetGo old new place (Some s) × HasCome closed s.held

-- a call of which nothing is held now is one of which nothing was held
abbrev pub KeepReleased : List SeenCall → List SeenCall → Type 0
KeepReleased old new =
    (place : ℕ) (s : SeenCall) → slice_get new place ≡ Some s → s.held ≡ Released
    → (t : SeenCall) × (slice_get old place ≡ Some t) × (t.held ≡ Released) × (t.begin ≡ s.begin)
