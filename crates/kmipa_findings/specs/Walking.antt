-- Where a search stands over its ledger. Not promised.
use Rattle.std.specs.Prelude.{◌≡◌, ◌<◌, ℕ, length, vec_len}
use Rattle.kmipa_store.specs.Ledger.{LedgerState}
use Rattle.kmipa_store.specs.Choices.{IsSound}
use Rattle.kmipa_findings.specs.Trying.{AreSoundMarks}
use Rattle.kmipa_findings.specs.declared.walking.Ended.{Ended}
use Rattle.kmipa_findings.specs.declared.walking.Ended.TheVariants.{Whole, Stuck, Spent, Over}
use Rattle.kmipa_findings.specs.declared.walking.Stretch.{Stretch}

-- so many calls are taken, each after a mark at which the ledger was sound, and this is the depth of the newest mark
pub record IsWalkedBy (count depth : ℕ) (s : LedgerState) : Type 0 where
  pub sound : IsSound s.now
  pub after : AreSoundMarks count s.marks
  pub deep : 0 < count → depth ≡ length s.marks

abbrev pub IsWalked : Stretch → LedgerState → Type 0
IsWalked w s = IsWalkedBy (vec_len w.path) w.depth s

-- where a search has so many seconds, these are all that may be over
abbrev pub EndsIn : ℕ → Ended → Type 0
EndsIn seconds (Whole path) = Unit {0}
EndsIn seconds Stuck = Unit {0}
EndsIn seconds Spent = Unit {0}
EndsIn seconds (Over after) = after ≡ seconds
