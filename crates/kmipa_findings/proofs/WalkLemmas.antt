-- Where a search stands over its ledger, step by step.
use Rattle.std.proofs.Common.{◌≡◌, ℕ, suc, ◌+◌, ◌-◌, List, [], ◌∷◌, length, refl, sym, ap, ◌∙◌, subst, arith}
use Rattle.kmipa_store.specs.Ledger.{Meaning, LedgerState, gone_back, back_from}
use Rattle.kmipa_store.specs.Choices.{IsSound}
use Rattle.kmipa_findings.specs.Trying.{AreSoundMarks}
use Rattle.kmipa_findings.specs.Walking.{IsWalkedBy}

-- a call more is taken, after a mark
pub walked_more : (count depth more mark : ℕ) (s u : LedgerState) → IsWalkedBy count depth s → IsSound u.now → u.marks ≡ s.now ∷ s.marks → mark ≡ length u.marks → more ≡ count + 1 → IsWalkedBy more mark u
walked_more count depth more mark s u w sound marks deep is =
    let S : List Meaning → Type 0 = λ ms. AreSoundMarks (suc count) ms in
    let N : ℕ → Type 0 = λ n. AreSoundMarks n u.marks in
    let one : suc count ≡ more = omega (arith, is) in
    record { sound = sound; after = subst N one (subst S (sym marks) (w.sound, w.after)); deep = λ some. deep }

-- the call that was taken last is given back
pub walked_less : (count depth fewer : ℕ) (s u : LedgerState) → IsWalkedBy count depth s → count ≡ fewer + 1 → u ≡ gone_back s → IsWalkedBy fewer (depth - 1) u
walked_less count depth fewer s u w is back = (let N : ℕ → Type 0 = λ n. AreSoundMarks n s.marks in by s.marks refl (subst N one w.after))
  where
    one : count ≡ suc fewer
    one = omega (arith, is)

    by : (marks : List Meaning) → s.marks ≡ marks → AreSoundMarks (suc fewer) marks → IsWalkedBy fewer (depth - 1) u
    by [] same sound = absurd sound
    by (m ∷ marks) same sound =
        let e : u ≡ record { now = m; marks = marks } = back ∙ ap (back_from s.now) same in
        let P : LedgerState → Type 0 = λ x. IsWalkedBy fewer (depth - 1) x in
        subst P (sym e) (record {
          sound = sound.0;
          after = sound.1;
          deep = λ some. omega (arith, w.deep (omega (arith, one)), ap length same);
        })
