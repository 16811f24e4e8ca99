-- The calls of some marks: where each stands.
use Rattle.std.specs.Prelude.{◌≡◌, ◌≤◌, ◌<◌, ℕ, ◌+◌, ℤ, pos, ◌≤ℤ◌, ◌<ℤ◌, List, length, Contains, Option, None, Some, IsSome}
use Rattle.kmipa_record.specs.NumberMaps.{value_at, Sets}
use Rattle.kmipa_record.specs.NumberMaps as numbers
use Rattle.kmipa_record.specs.Marks.{MarkOf, begins, ends, begun, ended, IsCallNumber}
use Rattle.kmipa_record.specs.declared.calls.Calls.{Calls}
use Rattle.kmipa_record.specs.declared.calls.Progress.{Progress}
use Rattle.kmipa_record.specs.declared.calls.Progress.TheVariants.{Open, Ended}
use Rattle.kmipa_record.specs.declared.fault.RecordKind.{RecordKind}
use Rattle.kmipa_record.specs.declared.fault.RecordKind.TheVariants.{Number, EndWithoutBegin, SecondEnd, Memory}
use Rattle.kmipa_record.specs.declared.fault.RecordKind.TheVariants

-- where a call stands
abbrev pub progress_of : Calls → ℤ → Option Progress
progress_of calls call = value_at calls.progress call

-- how many calls were begun
abbrev pub count_of : Calls → ℕ
count_of calls = numbers.count_of calls.progress

-- a call stands so after these marks
abbrev pub StandsSo : List MarkOf → ℤ → Option Progress → Type 0
StandsSo marks call None = ¬ (Contains (begun marks) call) × ¬ (Contains (ended marks) call)
StandsSo marks call (Some Open) = Contains (begun marks) call × ¬ (Contains (ended marks) call)
StandsSo marks call (Some Ended) = Contains (begun marks) call × Contains (ended marks) call

-- each call stands as these marks leave it, and so many were begun
pub record Follow (marks : List MarkOf) (calls : Calls) : Type 0 where
  pub each : (call : ℤ) → StandsSo marks call (progress_of calls call)
  pub count : count_of calls ≡ length (begun marks)

-- ---- what a mark does, not promised: `Marks` says what a transcript is

-- this call stands so now, and the others as before
abbrev pub Puts : Calls → Calls → ℤ → Progress → Type 0
Puts old new call progress = Sets old.progress new.progress call progress

pub record HasNone (calls : Calls) : Type 0 where
  pub each : (call : ℤ) → progress_of calls call ≡ None
  pub count : count_of calls ≡ 0

pub record BeginsCall (old new : Calls) (call : ℤ) : Type 0 where
  pub number : IsCallNumber call
  pub unused : progress_of old call ≡ None
  pub few : count_of old < 100_000
  pub puts : Puts old new call Open
  pub count : count_of new ≡ count_of old + 1

pub data RefusesBegin (old : Calls) (call : ℤ) (kind : RecordKind) : Type 0 where
  no_memory : kind ≡ Memory → RefusesBegin old call kind
  low : call <ℤ pos 1 → kind ≡ Number → RefusesBegin old call kind
  used : IsSome (progress_of old call) → kind ≡ Number → RefusesBegin old call kind
  many : pos 1 ≤ℤ call → progress_of old call ≡ None → 100_000 ≤ count_of old → kind ≡ TheVariants.Calls → RefusesBegin old call kind

pub record EndsCall (old new : Calls) (call : ℤ) : Type 0 where
  pub number : IsCallNumber call
  pub is_open : progress_of old call ≡ Some Open
  pub puts : Puts old new call Ended
  pub count : count_of new ≡ count_of old

pub data RefusesEnd (old : Calls) (call : ℤ) (kind : RecordKind) : Type 0 where
  end_low : call <ℤ pos 1 → kind ≡ Number → RefusesEnd old call kind
  unknown : pos 1 ≤ℤ call → progress_of old call ≡ None → kind ≡ EndWithoutBegin → RefusesEnd old call kind
  second : pos 1 ≤ℤ call → progress_of old call ≡ Some Ended → kind ≡ SecondEnd → RefusesEnd old call kind

abbrev pub Takes : Calls → Calls → MarkOf → Type 0
Takes old new (begins call client message) = BeginsCall old new call
Takes old new (ends call message) = EndsCall old new call

abbrev pub Refuses : Calls → MarkOf → RecordKind → Type 0
Refuses old (begins call client message) kind = RefusesBegin old call kind
Refuses old (ends call message) kind = RefusesEnd old call kind
