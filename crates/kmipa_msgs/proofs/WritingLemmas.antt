-- The items of a message, as they are written one after the other.
use Rattle.std.proofs.Common.{◌≡◌, ◌+◌, ℕ, List, [], ◌∷◌, ◌++◌, map, take, sym, ap, ◌∙◌}
use Rattle.std.proofs.lemmas.List.{map-append}
use Rattle.kmipa_ttlv.specs.Tree.{Tree, Trees, more, push, forest}
use Rattle.kmipa_ttlv.proofs.StandsLemmas.{forest-push}

-- one item more after a header
pub one_more : {X Y : Type 0} (seen : X → Y) (made : Y → Tree) (header : Tree) (i : ℕ) (xs : List X) (x : X) (fields next : Trees) (t : Tree)
    → take (i + 1) xs ≡ take i xs ++ x ∷ [] → fields ≡ more header (forest made (map seen (take i xs))) → t ≡ made (seen x) → next ≡ push fields t
    → next ≡ more header (forest made (map seen (take (i + 1) xs)))
one_more {X} seen made header i xs x fields next t last h is e =
    e
    ∙ (λ j. push (h j) (is j))
    ∙ ap (more header) (sym (ap (λ (ys : List X). forest made (map seen ys)) last ∙ ap (forest made) (map-append seen (take i xs) (x ∷ [])) ∙ forest-push made (map seen (take i xs)) (seen x)))
