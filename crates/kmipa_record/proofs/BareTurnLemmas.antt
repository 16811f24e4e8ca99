-- A turn that gives only the number of its call, as it is written.
use Rattle.std.proofs.Common.{◌≡◌, ℤ, List, [], ◌∷◌, ◌++◌, ℕ, get_or, refl, sym, ap, ◌∙◌, subst, arith}
use Rattle.std.specs.Prelude.{FitsSigned}
use Rattle.std.specs.Int.{w32, cast_unsigned, to_be_bytes}
use Rattle.kmipa_ttlv.specs.Written.{spelling, header, framed, Legal}
use Rattle.kmipa_ttlv.proofs.SpellLemmas.{spelling_spells}
use Rattle.kmipa_record.specs.Witnesses.{bare_turn, turn_item}
use Rattle.kmipa_record.specs.Writing.{Adds}

bare_legal : (z : ℤ) → Legal 16 (turn_item (bare_turn z))
bare_legal z = record { levels = omega arith; sound = (tt, tt); small = omega arith }

bare_spelling : (z : ℤ) → spelling (turn_item (bare_turn z))
    ≡ 0x54 ∷ 0 ∷ 0x41 ∷ 1 ∷ 0 ∷ 0 ∷ 0 ∷ 16 ∷ 0x54 ∷ 0 ∷ 0x11 ∷ 2 ∷ 0 ∷ 0 ∷ 0 ∷ 4 ∷ (to_be_bytes w32 (cast_unsigned w32 z) ++ 0 ∷ 0 ∷ 0 ∷ 0 ∷ [])
unfolding header framed
bare_spelling z = refl

pub bare_added : (z : ℤ) (n : ℕ) (bs old new : List ℕ) → FitsSigned w32 z → n ≡ cast_unsigned w32 z → bs ≡ to_be_bytes w32 n
    → new ≡ old ++ 0x54 ∷ 0 ∷ 0x41 ∷ 1 ∷ 0 ∷ 0 ∷ 0 ∷ 16 ∷ 0x54 ∷ 0 ∷ 0x11 ∷ 2 ∷ 0 ∷ 0 ∷ 0 ∷ 4 ∷ get_or bs 0 0 ∷ get_or bs 1 0 ∷ get_or bs 2 0 ∷ get_or bs 3 0 ∷ 0 ∷ 0 ∷ 0 ∷ 0 ∷ []
    → Adds (turn_item (bare_turn z)) old new
bare_added z n bs old new fits number digits after =
    let P : List ℕ → Type 0 = λ ds.
    new ≡ old ++ 0x54 ∷ 0 ∷ 0x41 ∷ 1 ∷ 0 ∷ 0 ∷ 0 ∷ 16 ∷ 0x54 ∷ 0 ∷ 0x11 ∷ 2 ∷ 0 ∷ 0 ∷ 0 ∷ 4 ∷ get_or ds 0 0 ∷ get_or ds 1 0 ∷ get_or ds 2 0 ∷ get_or ds 3 0 ∷ 0 ∷ 0 ∷ 0 ∷ 0 ∷ [] in
    let own = subst P (digits ∙ ap (λ (m : ℕ). to_be_bytes w32 m) number) after in
    record {
      after = own ∙ ap (λ (xs : List ℕ). old ++ xs) (sym (bare_spelling z));
      spelled = spelling_spells (turn_item (bare_turn z)) (bare_legal z) (omega arith, ((omega arith, fits), tt));
    }
