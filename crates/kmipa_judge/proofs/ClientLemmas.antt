-- Whether all calls came from clients of one identity.
use Rattle.std.proofs.Common.{◌≡◌, List, [], ◌∷◌, ℕ, ◌<◌, ◌↔◌, Bool, IsTrue, All, map, slice_get, Option, Some, None, refl, sym, subst, ◌∙◌, arith}
use Rattle.kmipa_record.specs.Marks.{AreRecorded, MarkOf, begins, ends, mark_of}
use Rattle.kmipa_record.specs.declared.transcript.Mark.{Mark}
use Rattle.kmipa_judge.specs.Clients.{AreOfOne, IsBy, IsIdentityOf}

-- it is that of the first
same_identity : (m : MarkOf) (ms : List MarkOf) (id other : List ℕ) → AreRecorded (m ∷ ms) → IsIdentityOf m id → All (IsBy other) (m ∷ ms) → id ≡ other
same_identity (begins call client message) ms id other recorded is all = is ∙ all 0 (begins call client message) (omega arith)
same_identity (ends call message) ms id other recorded is all =
    let begun = (recorded.answered [] ms call message refl).0 in
    let less : begun.0 < 0 = begun.1 in
    absurd (omega arith)

pub of_first : (m : MarkOf) (ms : List MarkOf) (id : List ℕ) (r : Bool) → IsIdentityOf m id → (IsTrue r ↔ All (IsBy id) (m ∷ ms)) → AreRecorded (m ∷ ms)
    → IsTrue r ↔ AreOfOne (m ∷ ms)
of_first m ms id r is by recorded =
    let P : List ℕ → Type 0 = λ x. All (IsBy x) (m ∷ ms) in
    (λ t. (id, by.0 t), λ one. by.1 (subst P (sym (same_identity m ms id one.0 recorded is one.1)) one.1))

pub of_some : (ms : List Mark) (m : Mark) (id : List ℕ) (r : Bool) → Some m ≡ slice_get ms 0 → IsIdentityOf (mark_of m) id → (IsTrue r ↔ All (IsBy id) (map mark_of ms))
    → AreRecorded (map mark_of ms) → IsTrue r ↔ AreOfOne (map mark_of ms)
of_some [] m id r e is by recorded = absurd cc
of_some (x ∷ xs) m id r e is by recorded =
    let same : m ≡ x = cc in
    of_first (mark_of x) (map mark_of xs) id r (subst (λ (y : Mark). IsIdentityOf (mark_of y) id) same is) by recorded
