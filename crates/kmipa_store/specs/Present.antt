-- Not promised. The present of a journal: its objects with the dates that they wait for, and the moment of their states.
use Rattle.std.specs.Prelude.{◌≡◌, ◌-◌, ℕ, ℤ, List, [], ◌∷◌, ◌++◌, length, take, slice_get, Some, Result, Ok, Err}
use Rattle.kmipa_store.specs.Clock.{Awaits, Dues, without}
use Rattle.kmipa_store.specs.Histories.{Logged, while_marked}
use Rattle.kmipa_store.specs.Ledger.{Held, held, relived}
use Rattle.kmipa_store.specs.Objects.{exchanged}
use Rattle.kmipa_store.specs.declared.changes.ObjectChange.{ObjectChange}
use Rattle.kmipa_store.specs.declared.changes.ObjectChange.TheVariants.{Added, Replaced, Renewed}
use Rattle.kmipa_store.specs.declared.changes.Place.{Place}
use Rattle.kmipa_store.specs.declared.fault.StoreFault.{StoreFault}
use Rattle.kmipa_store.specs.declared.fault.StoreFault.TheVariants.{Memory}

-- what goes back to a mark
pub record Dated : Type 0 where
  pub objects : List Held
  pub due : Dues

pub record Standing : Type 0 where
  pub dated : Dated
  pub moment : ℤ

-- a change taken back, with the dates that it brought
abbrev pub dated_unmade : Dated → ObjectChange → Dated
dated_unmade d (Added brought) = record { objects = take (length d.objects - 1) d.objects; due = without d.due (length d.objects - 1) brought }
dated_unmade d (Replaced place life brought) = record { objects = relived d.objects place life; due = without d.due place brought }
dated_unmade d (Renewed place former brought) = record { objects = exchanged d.objects place (held former.value); due = without d.due place brought }

-- the moment stays
abbrev pub standing_unmade : Standing → ObjectChange → Standing
standing_unmade s c = record { dated = dated_unmade s.dated c; moment = s.moment }

abbrev pub AreAwaited : Dated → Type 0
AreAwaited d = Awaits d.objects d.due

pub record EachAwaited (ds : List Dated) : Type 0 where
  pub each : (i : ℕ) (d : Dated) → slice_get ds i ≡ Some d → AreAwaited d

-- the wanted change, which can be taken back, or want of memory and nothing changed
abbrev pub Makes : Standing → List Held → Result ObjectChange StoreFault → Standing → Type 0
Makes old wanted (Ok change) new = (new.dated.objects ≡ wanted) × (new.moment ≡ old.moment) × (standing_unmade new change ≡ old) × (AreAwaited old.dated → AreAwaited new.dated)
Makes old wanted (Err fault) new = (fault ≡ Memory) × (new ≡ old)

-- the same, and it was written down
abbrev pub LogsObjects : List Place → Standing → List ObjectChange → List Held → Result (Unit {0}) StoreFault → Standing → List ObjectChange → Type 0
LogsObjects ps x cs wanted (Ok u) y ds = (y.dated.objects ≡ wanted) × (y.moment ≡ x.moment) × Logged dated_unmade ps x.dated cs y.dated ds × (AreAwaited x.dated → AreAwaited y.dated)
LogsObjects ps x cs wanted (Err fault) y ds = (fault ≡ Memory) × (y ≡ x) × (ds ≡ cs)

-- a change that was made is written down while a mark stands, or taken back for want of memory
abbrev pub WritesDown : List Place → Standing → List ObjectChange → ObjectChange → Result (Unit {0}) StoreFault → Standing → List ObjectChange → Type 0
WritesDown ps x cs change (Ok u) y ds = (y ≡ x) × (ds ≡ while_marked ps (cs ++ change ∷ []))
WritesDown ps x cs change (Err fault) y ds = (fault ≡ Memory) × (y ≡ standing_unmade x change) × (ds ≡ cs)
