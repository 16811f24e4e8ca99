-- What is said of the seals behind a verdict.
use Rattle.std.proofs.Common.{◌≡◌, ◌⊎◌, inl, inr, ◌++◌, ◌↔◌, ◌∙◌, ℕ, Bool, true, false, IsTrue, List, Option, None, Some, refl, sym, ap, subst}
use Rattle.kmipa_record.specs.Heads.{head_of, label_of}
use Rattle.kmipa_record.specs.Torn.{SealedAhead}
use Rattle.kmipa_record.specs.TranscriptReading.{without_seals, by_head}
use Rattle.kmipa_record.specs.declared.head.Head.{Head}
use Rattle.kmipa_record.specs.declared.label.Label.{Label}
use Rattle.kmipa_record.specs.declared.torn.Torn.{Torn}
use Rattle.kmipa_record.proofs.TornLemmas.{sealed_ahead_lem}
use Rattle.kmipa_runs.specs.Knowing.{Known, KnowsSeals}
use Rattle.kmipa_runs.specs.Sealing.{HasSeal}
use Rattle.kmipa_jobs.specs.Statuses.{IsSilent}
use Rattle.kmipa_jobs.specs.declared.status.Status.{Status}
use Rattle.kmipa_jobs.specs.declared.status.Status.TheVariants as status
use Rattle.kmipa_session.specs.Sealing.{IsKnownAsExpected, IsWithoutClose, KnownAhead, KnownAsTold, KnowsTold, SaysSeals, no_verdict, as_expected, other_head, no_memory, is_verdict, other_head_text, sealed_line}
use Rattle.kmipa_session.specs.declared.voice.Voice.{Voice}

module _ (voice : Voice) (seal : List ℕ) (torn : Option Torn) (head : Option Head) (ran : Status) (told : List ℕ) (said : Status) (lines : List ℕ) (verdict : is_verdict ran ≡ true) where
  -- of a head that is the expected one
  pub expected_said : (has : Bool) → IsTrue has ↔ HasSeal head seal → has ≡ true → IsSilent said lines ⊎ ((said ≡ ran) × (lines ≡ told ++ sealed_line voice torn head))
      → SaysSeals voice (Some seal) torn head ran told said lines
  expected_said true is e (inl silent) = no_memory silent
  expected_said true is e (inr p) = as_expected verdict (is.0 refl) p.0 p.1
  expected_said false is e p = absurd cc

  -- and of another one
  pub other_said : (has : Bool) → IsTrue has ↔ HasSeal head seal → has ≡ false → IsSilent said lines ⊎ ((said ≡ status.Refused) × (lines ≡ other_head_text voice head seal))
      → SaysSeals voice (Some seal) torn head ran told said lines
  other_said false is e (inl silent) = no_memory silent
  other_said false is e (inr p) = other_head verdict seal refl (λ h. let clash : false ≡ true = is.1 h in absurd cc) p.0 p.1
  other_said true is e p = absurd cc

-- ---- what is told of a torn one

-- the bytes that are known by a head are known ahead of their close by the one that is told
known_ahead : (bytes : List ℕ) (head told : Option Head) → IsWithoutClose head told → Known bytes head → KnownAhead bytes told
known_ahead bytes None None w known = known
known_ahead bytes None (Some told) w known = absurd cc
known_ahead bytes (Some head) None w known = absurd w
known_ahead bytes (Some head) (Some told) w (marks, without_seals none plain) = absurd cc
known_ahead bytes (Some head) (Some told) w (marks, by_head own records is closed sealed are) =
    let same : own ≡ head = cc in
    let label : own.label ≡ told.label = ap (λ (h : Head). h.label) same ∙ sym w.0 in
    let seal : own.ahead ≡ told.seal = ap (λ (h : Head). h.ahead) same ∙ sym w.1 in
    let ahead = sealed_ahead_lem bytes (label_of own.label) records (head_of own) sealed closed in
    (subst (λ (s : List ℕ). SealedAhead bytes (label_of told.label) s) seal (subst (λ (l : Label). SealedAhead bytes (label_of l) own.ahead) label ahead), w.2)

-- and so it is told behind each verdict
pub torn_told : (bytes : List ℕ) (said : Status) (torn : Torn) (head told : Option Head) → IsWithoutClose head told → KnowsSeals bytes said head → KnowsTold (Some torn) bytes said told
torn_told bytes status.Done torn head told w known = known_ahead bytes head told w known
torn_told bytes status.No torn head told w known = known_ahead bytes head told w known
torn_told bytes status.GaveUp torn head told w known = known_ahead bytes head told w known
torn_told bytes status.Refused torn head told w known = tt
torn_told bytes status.Failed torn head told w known = tt
torn_told bytes status.Usage torn head told w known = tt

-- what is known at status 0
known_at_done : (torn : Option Torn) (bytes : List ℕ) (head : Option Head) → KnowsTold torn bytes status.Done head → KnownAsTold torn bytes head
known_at_done None bytes head known = known
known_at_done (Some torn) bytes head known = known

-- what status 0 says
pub done_tells_its_head_lem : (voice : Voice) (bytes told lines : List ℕ) (expected : Option (List ℕ)) (torn : Option Torn) (head : Option Head) (ran : Status) → KnowsTold torn bytes ran head
    → SaysSeals voice expected torn head ran told status.Done lines
    → (ran ≡ status.Done) × KnownAsTold torn bytes head × IsKnownAsExpected expected head × (lines ≡ told ++ sealed_line voice torn head)
done_tells_its_head_lem voice bytes told lines expected torn head ran known (no_verdict none same is) = let clash : true ≡ false = ap is_verdict same ∙ none in absurd cc
done_tells_its_head_lem voice bytes told lines expected torn head ran known (as_expected verdict expects same is) =
    let P : Status → Type 0 = λ s. KnowsTold torn bytes s head in
    (sym same, known_at_done torn bytes head (subst P (sym same) known), expects, is)
done_tells_its_head_lem voice bytes told lines expected torn head ran known (other_head verdict seal wanted other same is) = let clash : status.Done ≡ status.Refused = same in absurd cc
done_tells_its_head_lem voice bytes told lines expected torn head ran known (no_memory silent) = let clash : status.Done ≡ status.Failed = silent.0 in absurd cc
