-- Items one after the other: what is shown and written of them, and the first fault after them.
use Rattle.std.proofs.Common.{◌≡◌, ◌≢◌, ◌⊎◌, inl, inr, ◌≤◌, ◌<◌, ◌+◌, ◌-◌, ◌^◌, ℕ, zero, suc, Bool, false, IsTrue, List, [], ◌∷◌, ◌++◌, length, drop, Err, refl, sym, ap, subst, ◌∙◌, arith, append_assoc, length-append}
use Rattle.std.proofs.lemmas.List.{append-nil}
use Rattle.std.specs.Io.{StartsWith, appended_bytes}
use Rattle.hex.specs.declared.error.FromHexError.{FromHexError}
use Rattle.hex.specs.declared.error.FromHexError.TheVariants.{OutOfMemory}
use Rattle.kmipa_ttlv.specs.Tree.{Tree, Trees, structure, scalar, none, more}
use Rattle.kmipa_ttlv.specs.Spelling.{value_at, extent, Stands, Run, Spells}
use Rattle.kmipa_ttlv.specs.Stream.{Begins, capped}
use Rattle.kmipa_ttlv.specs.Items.{AreItems}
use Rattle.kmipa_ttlv.specs.Flaw.{ByKind, OuterFlaw}
use Rattle.kmipa_ttlv.specs.Reading.{ReadTells, TellsKnown}
use Rattle.kmipa_ttlv.specs.Written.{depth, depths, spelling}
use Rattle.kmipa_ttlv.specs.declared.fault.FaultKind.{FaultKind}
use Rattle.kmipa_ttlv.specs.declared.fault.FaultKind.TheVariants.{Truncated, UnknownType, BadLength, BadBoolean, BadText, Overrun, TooDeep, TooLong, Device, Memory}
use Rattle.kmipa_ttlv.specs.declared.fault.TtlvFault.{TtlvFault}
use Rattle.kmipa_ttlv.proofs.StreamLemmas.{Begins-more}
use Rattle.kmipa_ttlv.proofs.ReadLemmas.{known_flaw_lem, outer_flaw_own}
use Rattle.kmipa_runs.specs.Inputs.{bytes_of, joined, refused_line, TellsFirst, Writes, no_digits, no_memory}
use Rattle.kmipa_jobs.specs.Statuses.{IsSilent}
use Rattle.kmipa_jobs.specs.declared.status.Status.{Status}
use Rattle.kmipa_jobs.specs.declared.status.Status.TheVariants as status
use Rattle.kmipa_runs.proofs.AppendLemmas.{split}

-- ---- an item that is spelled has few levels

mutual
  pub levels : (left : ℕ) (t : Tree) (bytes : List ℕ) → Stands left t bytes → depth t ≤ left
  levels zero t bytes s = absurd s
  levels (suc left) (structure tag ts) bytes s = omega (arith, levels_of_run left ts (value_at bytes) [] s.1)
  levels (suc left) (scalar tag v) bytes s = omega arith

  levels_of_run : (left : ℕ) (ts : Trees) (bytes rest : List ℕ) → Run left ts bytes rest → depths ts ≤ left
  levels_of_run left none bytes rest r = omega arith
  levels_of_run left (more t ts) bytes rest r =
      omega (arith, levels left t bytes r.0, levels_of_run left ts (drop (extent bytes) bytes) rest r.1)

-- ---- one item more

pub begins_last : (ts : List Tree) (t : Tree) (bytes rest front after : List ℕ) → rest ≡ front ++ after → Spells t front → Begins ts bytes rest → Begins (ts ++ t ∷ []) bytes after
begins_last [] t bytes rest front after e s b = (front, after, b ∙ e, s, refl)
begins_last (u ∷ us) t bytes rest front after e s b = (b.0, b.1, b.2, b.3, begins_last us t b.1 rest front after e s b.4)

pub joined_last : (ts : List Tree) (t : Tree) → joined (ts ++ t ∷ []) ≡ joined ts ++ spelling t
joined_last [] t = append-nil (spelling t)
joined_last (u ∷ us) t = ap (λ (l : List ℕ). spelling u ++ l) (joined_last us t) ∙ sym (append_assoc (spelling u) (joined us) (spelling t))

-- ---- the first fault

pub first_fault : (old new file after : List ℕ) (items : List Tree) (ended failed : Bool) (f : TtlvFault) → AreItems items old → StartsWith new old → file ≡ new ++ after
    → (IsTrue ended → after ≡ []) → ReadTells (length old) (appended_bytes old new) ended failed f → TellsFirst file failed f
first_fault old new file after items ended failed f are starts e end tells =
    let came = appended_bytes old new in
    let rest = came ++ after in
    let whole : file ≡ old ++ rest = e ∙ ap (λ (l : List ℕ). l ++ after) (split old new starts) ∙ append_assoc old came after in
    let place : length old ≡ length file - length rest = omega (arith, ap length whole, length-append old rest) in
    let B : List ℕ → Type 0 = λ l. Begins items l rest in
    let K : ℕ → Type 0 = λ n. TellsKnown n rest failed f in
    record {
      given = items;
      rest = rest;
      begins = subst B (sym whole) (Begins-more items old [] rest are);
      tells = subst K place (known_flaw_lem (length old) came after ended failed f end tells);
    }

abbrev fault_at : ℕ → FaultKind → TtlvFault
fault_at o k = record { offset = o; kind = k }

-- the fault of bytes that stand at this place
pub fault_of_bytes : (k : FaultKind) (place o n : ℕ) (bytes : List ℕ) → 0 < length bytes → place < 2 ^ 64 → o ≡ capped (place + n)
    → ByKind k (n ≡ 0) (OuterFlaw bytes n k) → TellsKnown place bytes false (fault_at o k)
fault_of_bytes Memory place o n bytes some fits e h = omega (arith, e, h)
fault_of_bytes Device place o n bytes some fits e h = absurd (outer_flaw_own bytes n Device h)
fault_of_bytes Truncated place o n bytes some fits e h = (some, record { from = n; flaw = h; placed = e })
fault_of_bytes UnknownType place o n bytes some fits e h = (some, record { from = n; flaw = h; placed = e })
fault_of_bytes BadLength place o n bytes some fits e h = (some, record { from = n; flaw = h; placed = e })
fault_of_bytes BadBoolean place o n bytes some fits e h = (some, record { from = n; flaw = h; placed = e })
fault_of_bytes BadText place o n bytes some fits e h = (some, record { from = n; flaw = h; placed = e })
fault_of_bytes Overrun place o n bytes some fits e h = (some, record { from = n; flaw = h; placed = e })
fault_of_bytes TooDeep place o n bytes some fits e h = (some, record { from = n; flaw = h; placed = e })
fault_of_bytes TooLong place o n bytes some fits e h = (some, record { from = n; flaw = h; placed = e })

-- ---- digits

-- what was read into an empty text is what came
pub all_read : (old new before text : List ℕ) → old ≡ [] → before ≡ [] → new ≡ old ++ appended_bytes before text → new ≡ text
all_read old new before text eo eb e =
    e ∙ ap (λ (l : List ℕ). l ++ appended_bytes before text) eo ∙ ap (λ (l : List ℕ). appended_bytes l text) eb

pub digits_reported : (came text : List ℕ) (failed : Bool) (e : FromHexError) (said : Status) (lines made : List ℕ) → came ≡ text → made ≡ []
    → (e ≡ OutOfMemory) ⊎ (bytes_of text ≡ Err e)
    → IsSilent said lines ⊎ ((e ≢ OutOfMemory) × (said ≡ status.Refused) × (lines ≡ refused_line)) → Writes came failed said lines made
digits_reported came text failed e said lines made same nothing err (inl silent) = no_memory silent nothing
digits_reported came text failed e said lines made same nothing (inl memory) (inr reported) = absurd (reported.0 memory)
digits_reported came text failed e said lines made same nothing (inr bad) (inr reported) = no_digits e (ap bytes_of same ∙ bad) reported.1 reported.2 nothing
