-- What is left, item by item.
use Rattle.std.proofs.Common.{◌≡◌, ℕ, List, [], ◌∷◌, ◌++◌, map, Option, Some, None, MatchOption, refl, sym, ap, ◌∙◌, append_assoc}
use Rattle.std.specs.Option.{option_map}
use Rattle.std.proofs.lemmas.List.{map-append}
use denote.Bor.{Bor}
use Rattle.kmipa_ttlv.specs.Tree.{Tree, none, every}
use Rattle.kmipa_ttlv.specs.ViewTree.{view_tree}
use Rattle.kmipa_ttlv.specs.declared.view.View.{View}
use Rattle.kmipa_msgs.specs.Messages.{lent}
use Rattle.kmipa_passed.specs.Identifiers.{AskedOf}
use Rattle.kmipa_places.specs.Unread.{shown_first, together, touched, touched_in}

-- the items so far, and one more
pub together_one : (xs names ys : List (List ℕ)) (rest : Option (List (List ℕ))) → ys ≡ xs ++ names → together (Some xs) (together (Some names) rest) ≡ together (Some ys) rest
together_one xs names ys None e = refl
together_one xs names ys (Some zs) e = ap (λ (vs : List (List ℕ)). some vs) (sym (append_assoc xs names zs)) ∙ ap (λ (vs : List (List ℕ)). some (vs ++ zs)) (sym e)
  where
    some : List (List ℕ) → Option (List (List ℕ))
    some vs = Some vs

pub touched_next : (asks answers ts us : List Tree) (t : Tree) (o : Option View) → asks ≡ t ∷ ts → MatchOption o (answers ≡ []) (λ v. answers ≡ view_tree v ∷ us) → (o ≡ None → us ≡ [])
    → touched_in asks answers ≡ together (touched t (shown_first (option_map view_tree o))) (touched_in ts us)
touched_next asks answers ts us t None e f g =
    (λ i. touched_in (e i) (f i)) ∙ ap (λ (vs : List Tree). together (touched t (shown_first None)) (touched_in ts vs)) (sym (g refl))
touched_next asks answers ts us t (Some v) e f g = (λ i. touched_in (e i) (f i))

-- an item that is read
pub touched_step : (xs ys names : List (Bor (List ℕ))) (asks answers ts us : List Tree) (t : Tree) (o : Option View) (shown : AskedOf) → asks ≡ t ∷ ts
    → MatchOption o (answers ≡ []) (λ v. answers ≡ view_tree v ∷ us) → (o ≡ None → us ≡ []) → shown ≡ shown_first (option_map view_tree o) → Some (map lent names) ≡ touched t shown
    → ys ≡ xs ++ names → together (Some (map lent xs)) (touched_in asks answers) ≡ together (Some (map lent ys)) (touched_in ts us)
touched_step xs ys names asks answers ts us t o shown ae f g se ne ye =
    let rest = touched_in ts us in
    ap (λ (q : Option (List (List ℕ))). together (Some (map lent xs)) q)
    (touched_next asks answers ts us t o ae f g ∙ ap (λ (s : AskedOf). together (touched t s) rest) (sym se) ∙ ap (λ (q : Option (List (List ℕ))). together q rest) (sym ne))
    ∙ together_one (map lent xs) (map lent names) (map lent ys) rest (ap (map lent) ye ∙ map-append lent xs names)

-- no children have no items
pub no_items : (n : ℕ) → every n none ≡ []
unfolding every
no_items n = refl
