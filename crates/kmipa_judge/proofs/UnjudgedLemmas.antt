-- The lines of what isn't judged.
use Rattle.std.proofs.Common.{◌≡◌, ◌∙◌, ap, sym, ℕ, List, ◌++◌, map, take, length, drop, ◌+◌, ◌<◌, get_or, ◌∷◌}
use Rattle.std.proofs.lemmas.List.{length-map, take-map}
use Rattle.std.specs.List.{flat_map}
use Rattle.kmipa_unjudged.specs.Told.{NamedOf, named_of}
use Rattle.kmipa_unjudged.specs.declared.named.Named.{Named}
use Rattle.kmipa_judge.specs.Unjudged.{aside_line, aside_lines, more_line}

-- of identifiers that are some the first twenty are told, and how many more there are
pub aside_told : (told : List Named) (first more text : List ℕ) → first ≡ flat_map aside_line (map named_of (take 20 told)) → more ≡ more_line (length told)
    → text ≡ first ++ more → text ≡ aside_lines (map named_of told)
aside_told told first more text ef em et =
    let these : flat_map aside_line (map named_of (take 20 told)) ≡ flat_map aside_line (take 20 (map named_of told)) = ap (λ (l : List NamedOf). flat_map aside_line l) (sym (take-map named_of 20 told)) in
    let count : more_line (length told) ≡ more_line (length (map named_of told)) = ap more_line (sym (length-map told named_of)) in
    et ∙ ap (λ (t : List ℕ). t ++ more) (ef ∙ these) ∙ ap (λ (t : List ℕ). flat_map aside_line (take 20 (map named_of told)) ++ t) (em ∙ count)
