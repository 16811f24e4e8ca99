-- The tests of headers, in terms of those that outermost items and children share.
use Rattle.std.proofs.Common.{◌≡◌, ◌≤◌, ◌<◌, ℕ, ◌+◌, List, length, Bool, true, false, cond, not, ltb, Option, None, Some, refl, sym, ◌∙◌}
use Rattle.std.proofs.lemmas.Bool.{le-ltb, lt-ltb}
use Rattle.kmipa_ttlv.specs.Spelling.{kind_at, len_at, extent}
use Rattle.kmipa_ttlv.specs.Flaw.{is_kind, allows, child_flaw, outer_flaw, head_flaw, IsLasting}
use Rattle.kmipa_ttlv.specs.Head.{shared_flaw}
use Rattle.kmipa_ttlv.specs.declared.fault.FaultKind.{FaultKind}
use Rattle.kmipa_ttlv.specs.declared.fault.FaultKind.TheVariants.{Truncated, UnknownType, BadLength, Overrun, TooLong}

abbrev some : ℕ → FaultKind → Option (ℕ × FaultKind)
some n k = Some (n, k)

-- the two tests, and then another one
abbrev shared : Bool → Bool → ℕ → Option (ℕ × FaultKind) → Option (ℕ × FaultKind)
shared b c place next = cond b (Some (place + 3, UnknownType)) (cond c (Some (place + 4, BadLength)) next)

as_shared : (place : ℕ) (bytes : List ℕ) → shared_flaw place bytes ≡ shared (not (is_kind (kind_at bytes))) (not (allows (kind_at bytes) (len_at bytes))) place None
unfolding shared_flaw
as_shared place bytes = refl

as_child : (place : ℕ) (bytes : List ℕ) → child_flaw place bytes ≡ cond (ltb (length bytes) 8) (Some (place, Overrun))
    (shared (not (is_kind (kind_at bytes))) (not (allows (kind_at bytes) (len_at bytes))) place (cond (ltb (length bytes) (extent bytes)) (Some (place + 4, Overrun)) None))
unfolding child_flaw
as_child place bytes = refl

as_head : (bytes : List ℕ) → head_flaw bytes ≡ shared (not (is_kind (kind_at bytes))) (not (allows (kind_at bytes) (len_at bytes))) 0 (cond (ltb 0x10_0000 (extent bytes)) (Some (4, TooLong)) None)
unfolding head_flaw
as_head bytes = refl

shared_fails : (b c : Bool) (place o : ℕ) (k : FaultKind) (next : Option (ℕ × FaultKind)) → shared b c place None ≡ some o k → shared b c place next ≡ some o k
shared_fails true c place o k next h = h
shared_fails false true place o k next h = h
shared_fails false false place o k next h = absurd cc

shared_passes : (b c : Bool) (place : ℕ) (next : Option (ℕ × FaultKind)) → shared b c place None ≡ None → shared b c place next ≡ next
shared_passes true c place next h = absurd cc
shared_passes false true place next h = absurd cc
shared_passes false false place next h = refl

pub child_fails : (place : ℕ) (bytes : List ℕ) (o : ℕ) (k : FaultKind) → 8 ≤ length bytes → shared_flaw place bytes ≡ Some (o, k) → child_flaw place bytes ≡ Some (o, k)
child_fails place bytes o k long h =
    as_child place bytes ∙ rw (le-ltb (length bytes) 8 long) (shared_fails _ _ place o k _ (sym (as_shared place bytes) ∙ h))

pub head_fails_shared : (bytes : List ℕ) (o : ℕ) (k : FaultKind) → shared_flaw 0 bytes ≡ Some (o, k) → head_flaw bytes ≡ Some (o, k)
head_fails_shared bytes o k h = as_head bytes ∙ shared_fails _ _ 0 o k _ (sym (as_shared 0 bytes) ∙ h)

pub head_too_long : (bytes : List ℕ) → shared_flaw 0 bytes ≡ None → 0x10_0000 < extent bytes → head_flaw bytes ≡ Some (4, TooLong)
head_too_long bytes h long =
    as_head bytes ∙ rw (lt-ltb 0x10_0000 (extent bytes) long) (shared_passes _ _ 0 (some 4 TooLong) (sym (as_shared 0 bytes) ∙ h))

pub head_passes_all : (bytes : List ℕ) → shared_flaw 0 bytes ≡ None → extent bytes ≤ 0x10_0000 → head_flaw bytes ≡ None
head_passes_all bytes h small =
    as_head bytes ∙ rw (le-ltb 0x10_0000 (extent bytes) small) (shared_passes _ _ 0 None (sym (as_shared 0 bytes) ∙ h))

-- ---- outermost items

abbrev pub head_tests : Bool → Bool → Bool → Option (ℕ × FaultKind)
head_tests b c d = cond b (Some (3, UnknownType)) (cond c (Some (4, BadLength)) (cond d (Some (4, TooLong)) None))

abbrev pub tests : Bool → Bool → Bool → Bool → Bool → ℕ → Option (ℕ × FaultKind)
tests a b c d e n = cond a (Some (n, Truncated)) (cond b (Some (3, UnknownType)) (cond c (Some (4, BadLength)) (cond d (Some (4, TooLong)) (cond e (Some (n, Truncated)) None))))

pub as_tests : (bytes : List ℕ) → outer_flaw bytes ≡ tests (ltb (length bytes) 8) (not (is_kind (kind_at bytes))) (not (allows (kind_at bytes) (len_at bytes))) (ltb 0x10_0000 (extent bytes)) (ltb (length bytes) (extent bytes)) (length bytes)
unfolding outer_flaw
as_tests bytes = refl

pub as_head_tests : (bytes : List ℕ) → head_flaw bytes ≡ head_tests (not (is_kind (kind_at bytes))) (not (allows (kind_at bytes) (len_at bytes))) (ltb 0x10_0000 (extent bytes))
unfolding head_flaw
as_head_tests bytes = refl

tests_fail : (b c d e : Bool) (n o : ℕ) (k : FaultKind) → head_tests b c d ≡ some o k → tests false b c d e n ≡ some o k
tests_fail true c d e n o k h = h
tests_fail false true d e n o k h = h
tests_fail false false true e n o k h = h
tests_fail false false false e n o k h = absurd cc

tests_pass : (b c d e : Bool) (n : ℕ) → head_tests b c d ≡ None → tests false b c d e n ≡ cond e (some n Truncated) None
tests_pass true c d e n h = absurd cc
tests_pass false true d e n h = absurd cc
tests_pass false false true e n h = absurd cc
tests_pass false false false e n h = refl

pub outer_no_header : (bytes : List ℕ) → length bytes < 8 → outer_flaw bytes ≡ Some (length bytes, Truncated)
outer_no_header bytes short = as_tests bytes ∙ rw (lt-ltb (length bytes) 8 short) refl

pub outer_fails : (bytes : List ℕ) (o : ℕ) (k : FaultKind) → 8 ≤ length bytes → head_flaw bytes ≡ Some (o, k) → outer_flaw bytes ≡ Some (o, k)
outer_fails bytes o k long h = as_tests bytes ∙ rw (le-ltb (length bytes) 8 long) (tests_fail _ _ _ _ (length bytes) o k (sym (as_head_tests bytes) ∙ h))

pub outer_short : (bytes : List ℕ) → 8 ≤ length bytes → head_flaw bytes ≡ None → length bytes < extent bytes → outer_flaw bytes ≡ Some (length bytes, Truncated)
outer_short bytes long h short =
    as_tests bytes ∙ rw (le-ltb (length bytes) 8 long, lt-ltb (length bytes) (extent bytes) short) (tests_pass _ _ _ true (length bytes) (sym (as_head_tests bytes) ∙ h))

pub outer_passes_whole : (bytes : List ℕ) → 8 ≤ length bytes → head_flaw bytes ≡ None → extent bytes ≤ length bytes → outer_flaw bytes ≡ None
outer_passes_whole bytes long h whole =
    as_tests bytes ∙ rw (le-ltb (length bytes) 8 long, le-ltb (length bytes) (extent bytes) whole) (tests_pass _ _ _ false (length bytes) (sym (as_head_tests bytes) ∙ h))
