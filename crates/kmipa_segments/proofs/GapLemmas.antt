-- The lines of gaps, and of the seals of a whole.
use Rattle.std.proofs.Common.{◌≡◌, ◌⊎◌, inl, inr, ℕ, ℤ, List, [], Option, Some, None, Result, Ok, Err, refl, sym, ap, subst, ◌∙◌}
use Rattle.std.specs.Prelude.{IfSome, IfOk, IsOkAnd, string_bytes}
use Rattle.std.specs.declared.alloc.AllocError.{AllocError}
use Rattle.kmipa_record.specs.Heads.{head_of, label_of}
use Rattle.kmipa_record.specs.Seals.{HeadOf, LabelOf}
use Rattle.kmipa_record.specs.declared.head.Head.{Head}
use Rattle.kmipa_links.specs.Links.{SealsOf, SegmentOf, Linked, first_seals, last_seals}
use Rattle.kmipa_links.specs.Linking.{HasSeals}
use Rattle.kmipa_links.proofs.LinkLemmas.{sealed_from_first}
use Rattle.kmipa_links.specs.declared.gap.Gap.{Gap}
use Rattle.kmipa_jobs.specs.Statuses.{IsSilent}
use Rattle.kmipa_runs.specs.declared.lines.Lines.{Lines}
use Rattle.kmipa_jobs.specs.declared.status.Status.{Status}
use Rattle.kmipa_segments.specs.Gaps.{PrintsGap, head_text, sealed_text}

-- by the number of the first and the head of the last
by_ends : (first last : Option SealsOf) (number : ℤ) (head : Head) → (s : SealsOf) × (first ≡ Some s) → IfSome first (λ (seals : SealsOf). seals.label.segment ≡ number) → HasSeals (Some head) last
    → head_text number (label_of head.label) (head_of head) ≡ sealed_text first last
by_ends None last number head some is has = let clash : None ≡ Some some.0 = some.1 in absurd cc
by_ends (Some a) None number head some is has = absurd has
by_ends (Some a) (Some b) number head some is has =
    ap (λ (n : ℤ). head_text n (label_of head.label) (head_of head)) (sym is)
    ∙ ap (λ (l : LabelOf). head_text a.label.segment l (head_of head)) (sym has.label)
    ∙ ap (λ (h : HeadOf). head_text a.label.segment b.label h) (sym has.head_is)

pub sealed_whole : (segments : List SegmentOf) (number : ℤ) (head : Head) → Linked segments → IfSome (first_seals segments) (λ (seals : SealsOf). seals.label.segment ≡ number)
    → HasSeals (Some head) (last_seals segments) → head_text number (label_of head.label) (head_of head) ≡ sealed_text (first_seals segments) (last_seals segments)
sealed_whole segments number head linked is has = by_ends (first_seals segments) (last_seals segments) number head (sealed_from_first segments linked.run_on (some (last_seals segments) has)) is has
  where
    some : (last : Option SealsOf) → HasSeals (Some head) last → (s : SealsOf) × (last ≡ Some s)
    some None h = absurd h
    some (Some s) h = (s, refl)

pub unsealed_whole : (segments : List SegmentOf) → HasSeals None (last_seals segments) → [] ≡ sealed_text (first_seals segments) (last_seals segments)
unsealed_whole segments has = by (first_seals segments) (last_seals segments) has
  where
    by : (first last : Option SealsOf) → HasSeals None last → [] ≡ sealed_text first last
    by None last h = refl
    by (Some a) None h = refl
    by (Some a) (Some b) h = absurd h

-- what is printed of a gap, all or nothing
pub gap_printed : (made : Result Lines AllocError) (name : List ℕ) (gap : Gap) (said : Status) (lines : List ℕ) → IfOk made (λ l. PrintsGap name gap l.status (string_bytes l.text))
    → IsOkAnd made (λ l. (said ≡ l.status) × (lines ≡ string_bytes l.text)) ⊎ IsSilent said lines → PrintsGap name gap said lines ⊎ IsSilent said lines
gap_printed made name gap said lines reported (inr silent) = inr silent
gap_printed (Ok l) name gap said lines reported (inl p) = inl (p.0 ∙ reported.0, p.1 ∙ reported.1)
gap_printed (Err e) name gap said lines reported (inl p) = absurd p
