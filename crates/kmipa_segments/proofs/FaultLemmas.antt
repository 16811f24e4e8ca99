-- What is made and printed where a fault ends a run.
use Rattle.std.proofs.Common.{◌≡◌, ◌⊎◌, inl, inr, ℕ, List, [], Bool, Result, Ok, Err, ◌∙◌}
use Rattle.std.specs.Prelude.{IfOk, IsOkAnd, string_bytes}
use Rattle.std.specs.declared.alloc.AllocError.{AllocError}
use Rattle.kmipa_check.specs.declared.auditing.AuditFault.{AuditFault}
use Rattle.kmipa_runs.specs.Lines.{PrintsFault}
use Rattle.kmipa_jobs.specs.Statuses.{IsSilent}
use Rattle.kmipa_runs.specs.declared.lines.Lines.{Lines}
use Rattle.kmipa_jobs.specs.declared.status.Status.{Status}
use Rattle.kmipa_segments.specs.Leaving.{PrintsSegment}
use Rattle.kmipa_segments.specs.SegmentSearches.{PrintsSegmentSearch}

-- its line alone is printed, or nothing, where memory ran out
printed : (told : Result Lines AllocError) (fault : AuditFault) (said : Status) (lines : List ℕ) → IfOk told (λ l. PrintsFault fault l.status (string_bytes l.text))
    → IsOkAnd told (λ l. (said ≡ l.status) × (lines ≡ string_bytes l.text)) ⊎ IsSilent said lines → PrintsFault fault said lines ⊎ IsSilent said lines
printed told fault said lines reported (inr silent) = inr silent
printed (Ok l) fault said lines reported (inl p) = inl (p.0 ∙ reported.0, p.1 ∙ reported.1)
printed (Err e) fault said lines reported (inl p) = absurd p

-- of a check
pub fault_ends_check : (leaves : Bool) (told : Result Lines AllocError) (fault : AuditFault) (said : Status) (lines made : List ℕ) → made ≡ []
    → IfOk told (λ l. PrintsFault fault l.status (string_bytes l.text)) → IsOkAnd told (λ l. (said ≡ l.status) × (lines ≡ string_bytes l.text)) ⊎ IsSilent said lines
    → PrintsSegment leaves (Err fault) said lines made ⊎ (IsSilent said lines × (made ≡ []))
fault_ends_check leaves told fault said lines made none reported p = elim (printed told fault said lines reported p) [
  | inl prints ↦ inl (prints, none)
  | inr silent ↦ inr (silent, none)
]

-- and of a search
pub fault_ends_search : (leaves : Bool) (told : Result Lines AllocError) (fault : AuditFault) (said : Status) (lines made left : List ℕ) → made ≡ [] → left ≡ []
    → IfOk told (λ l. PrintsFault fault l.status (string_bytes l.text)) → IsOkAnd told (λ l. (said ≡ l.status) × (lines ≡ string_bytes l.text)) ⊎ IsSilent said lines
    → PrintsSegmentSearch leaves (Err fault) said lines made left ⊎ (IsSilent said lines × (made ≡ []) × (left ≡ []))
fault_ends_search leaves told fault said lines made left none no_left reported p = elim (printed told fault said lines reported p) [
  | inl prints ↦ inl (prints, none, no_left)
  | inr silent ↦ inr (silent, none, no_left)
]
