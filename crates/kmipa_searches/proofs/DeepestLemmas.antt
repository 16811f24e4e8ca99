-- What is printed of the deepest place of a search.
use Rattle.std.proofs.Common.{◌≡◌, ◌∙◌, ap, sym, refl, ℕ, ℤ, ◌-◌, List, [], ◌∷◌, ◌++◌, codes, drop, length, take}
use Rattle.std.specs.List.{flat_map}
use Rattle.std.specs.Fmt.{decimal}
use Rattle.std.proofs.lemmas.List.{length-drop}
use Rattle.std.proofs.Math.Seq.{take-length}
use Rattle.kmipa_orders.specs.declared.stuck.NextCall.{NextCall}
use Rattle.kmipa_searches.specs.Deepest.{next_line, next_lines, taken_lines}
use Rattle.kmipa_telling.specs.Phrases.{calls_text, more_line}

-- the calls that were taken last
pub taken_told : (numbers : List ℤ) (from count : ℕ) (more calls text : List ℕ) → from ≡ length numbers - 20 → count ≡ length numbers → more ≡ more_line (codes "taken") count
    → calls ≡ calls_text (take (length numbers - from) (drop from numbers))
    → text ≡ codes "deepest: " ++ (decimal count ++ (codes " calls taken" ++ 10 ∷ (more ++ (codes "taken: " ++ (calls ++ 10 ∷ []))))) → text ≡ taken_lines numbers
taken_told numbers from count more calls text ef ec em el et =
    let all : take (length numbers - from) (drop from numbers) ≡ drop from numbers = ap (λ n. take n (drop from numbers)) (sym (length-drop from numbers)) ∙ take-length (drop from numbers) in
    let last : calls ≡ calls_text (drop (length numbers - 20) numbers) = el ∙ ap calls_text all ∙ ap (λ n. calls_text (drop n numbers)) ef in
    et
    ∙ ap (λ (t : List ℕ). codes "deepest: " ++ (decimal count ++ (codes " calls taken" ++ 10 ∷ (t ++ (codes "taken: " ++ (calls ++ 10 ∷ [])))))) em
    ∙ ap (λ (t : List ℕ). codes "deepest: " ++ (decimal count ++ (codes " calls taken" ++ 10 ∷ (more_line (codes "taken") count ++ (codes "taken: " ++ (t ++ 10 ∷ [])))))) last
    ∙ ap (λ (n : ℕ). codes "deepest: " ++ (decimal n ++ (codes " calls taken" ++ 10 ∷ (more_line (codes "taken") n ++ (codes "taken: " ++ (calls_text (drop (length numbers - 20) numbers) ++ 10 ∷ [])))))) ec

-- calls that may be next, where there are some
pub next_told : (next : List NextCall) (told more text : List ℕ) → (next ≡ [] → ⊥) → told ≡ flat_map next_line (take 20 next) → more ≡ more_line (codes "next") (length next)
    → text ≡ told ++ more → text ≡ next_lines next
next_told [] told more text some en em et = absurd (some refl)
next_told (n ∷ next) told more text some en em et =
    et ∙ ap (λ (t : List ℕ). t ++ more) en ∙ ap (λ (t : List ℕ). flat_map next_line (take 20 (n ∷ next)) ++ t) em
