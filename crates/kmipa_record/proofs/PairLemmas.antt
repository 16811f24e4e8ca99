-- Lists in which each two elements are in a relation.
use Rattle.std.proofs.Common.{◌≡◌, ◌≢◌, ◌<◌, ℕ, zero, suc, List, [], ◌∷◌, ◌++◌, length, map, take, drop, ◌+◌, get_or, append_assoc, sym, ap, subst, ◌∙◌, arith}
use Rattle.std.specs.Prelude.{All, AllPairs}
use Rattle.std.proofs.lemmas.List.{append-nil, get_or_append_left, get_or_default, length-append, take_more}
use Rattle.std.proofs.lemmas.List.Elements.{All-push, All-nil, All-cons, All-tail, All-append}
use Rattle.std.proofs.lemmas.List.Quantifiers.{all_pairs_push}
use Rattle.kmipa_record.proofs.TurnLemmas.{cut_here}

module _ {X : Type 0} where
  pub all_right : (P : X → Type 0) (xs ys : List X) → All P (xs ++ ys) → All P ys
  all_right P [] ys all = all
  all_right P (x ∷ xs) ys all = all_right P xs ys (All-tail P x (xs ++ ys) all)

  pub all_left : (P : X → Type 0) (xs ys : List X) → All P (xs ++ ys) → All P xs
  all_left P xs ys all = λ k d lt. subst P (get_or_append_left xs ys d k lt) (all k d (omega (arith, lt, length-append xs ys)))

  module _ (R : X → X → Type 0) where
    pub no_pairs : AllPairs R []
    no_pairs = λ i j d before lt. absurd (omega (arith, before, lt))

    pub pairs_tail : (x : X) (xs : List X) → AllPairs R (x ∷ xs) → AllPairs R xs
    pairs_tail x xs p = λ i j d before lt. p (suc i) (suc j) d (omega (arith, before)) (omega (arith, lt))

    pub pairs_head : (x : X) (xs : List X) → AllPairs R (x ∷ xs) → All (R x) xs
    pairs_head x xs p = λ k d lt. p 0 (suc k) d (omega arith) (omega (arith, lt))

    pub pairs_append : (xs ys : List X) → AllPairs R xs → AllPairs R ys → All (λ x. All (R x) ys) xs → AllPairs R (xs ++ ys)
    pairs_append xs [] p q all = subst (AllPairs R) (sym (append-nil xs)) p
    pairs_append xs (y ∷ ys) p q all =
        let behind : All (λ x. All (R x) ys) xs = λ k d lt. All-tail (R (get_or xs k d)) y ys (all k d lt) in
        let first : All (λ x. R x y) xs = λ k d lt. all k d lt 0 y (omega arith) in
        subst (AllPairs R) (append_assoc xs (y ∷ []) ys)
        (pairs_append (xs ++ y ∷ []) ys (all_pairs_push R xs y p first) (pairs_tail y ys q) (All-push (λ x. All (R x) ys) xs y behind (pairs_head y ys q)))

    pub pairs_left : (xs ys : List X) → AllPairs R (xs ++ ys) → AllPairs R xs
    pairs_left xs ys p = λ i j d before lt.
        let long = length-append xs ys in
        subst (R (get_or xs i d)) (get_or_append_left xs ys d j lt) (subst (λ x. R x (get_or (xs ++ ys) j d)) (get_or_append_left xs ys d i (omega (arith, before, lt))) (p i j d before (omega (arith, lt, long))))

    pub pairs_right : (xs ys : List X) → AllPairs R (xs ++ ys) → AllPairs R ys
    pairs_right [] ys p = p
    pairs_right (x ∷ xs) ys p = pairs_right xs ys (pairs_tail x (xs ++ ys) p)

    pub pairs_across : (xs ys : List X) → AllPairs R (xs ++ ys) → All (λ x. All (R x) ys) xs
    pairs_across [] ys p = All-nil (λ x. All (R x) ys)
    pairs_across (x ∷ xs) ys p = All-cons (λ z. All (R z) ys) x xs (all_right (R x) xs ys (pairs_head x (xs ++ ys) p)) (pairs_across xs ys (pairs_tail x (xs ++ ys) p))

    -- each element is in the relation with one that stands behind it
    pub pairs_with : (xs ys : List X) (y : X) → AllPairs R (xs ++ y ∷ ys) → All (λ x. R x y) xs
    pairs_with xs ys y p = λ k d lt. pairs_across xs (y ∷ ys) p k d lt 0 y (omega arith)

    -- each element ahead is in the relation with the next one
    pub pairs_ahead : (xs : List X) (i : ℕ) (d : X) → i < length xs → AllPairs R xs → All (λ x. R x (get_or xs i d)) (take i xs)
    pairs_ahead xs i d h p =
        let x = get_or xs i d in
        pairs_with (take i xs) (drop (suc i) xs) x (subst (AllPairs R) (cut_here xs i x h (get_or_default xs i d x h)) p)

    -- one element more
    pub pairs_at : (xs : List X) (i : ℕ) (d : X) → i < length xs → AllPairs R (take i xs) → All (λ x. R x (get_or xs i d)) (take i xs) → AllPairs R (take (i + 1) xs)
    pairs_at xs i d h p all = subst (AllPairs R) (sym (take_more xs i d h)) (all_pairs_push R (take i xs) (get_or xs i d) p all)

module _ {X Y : Type 0} (f : X → Y) where
  pub mapped_all : (P : Y → Type 0) (xs : List X) → All (λ x. P (f x)) xs → All P (map f xs)
  mapped_all P [] all = All-nil P
  mapped_all P (x ∷ xs) all = All-cons P (f x) (map f xs) (all 0 x (omega arith)) (mapped_all P xs (All-tail (λ y. P (f y)) x xs all))

  pub unmapped_all : (P : Y → Type 0) (xs : List X) → All P (map f xs) → All (λ x. P (f x)) xs
  unmapped_all P [] all = All-nil (λ x. P (f x))
  unmapped_all P (x ∷ xs) all = All-cons (λ y. P (f y)) x xs (all 0 (f x) (omega arith)) (unmapped_all P xs (All-tail P (f x) (map f xs) all))

  module _ (R : Y → Y → Type 0) where
    cons_pairs : (y : Y) (ys : List Y) → All (R y) ys → AllPairs R ys → AllPairs R (y ∷ ys)
    cons_pairs y ys all p = pairs_append R (y ∷ []) ys (all_pairs_push R [] y (no_pairs R) (λ k d lt. absurd (omega (arith, lt)))) p (All-cons (λ z. All (R z) ys) y [] all (All-nil (λ z. All (R z) ys)))

    cons_pairs_of : (x : X) (xs : List X) → All (λ z. R (f x) (f z)) xs → AllPairs (λ a b. R (f a) (f b)) xs → AllPairs (λ a b. R (f a) (f b)) (x ∷ xs)
    cons_pairs_of x xs all p =
        let Q : X → X → Type 0 = λ a b. R (f a) (f b) in
        pairs_append Q (x ∷ []) xs (all_pairs_push Q [] x (no_pairs Q) (λ k d lt. absurd (omega (arith, lt)))) p (All-cons (λ z. All (Q z) xs) x [] all (All-nil (λ z. All (Q z) xs)))

    pub mapped_pairs : (xs : List X) → AllPairs (λ a b. R (f a) (f b)) xs → AllPairs R (map f xs)
    mapped_pairs [] p = no_pairs R
    mapped_pairs (x ∷ xs) p =
        let Q : X → X → Type 0 = λ a b. R (f a) (f b) in
        cons_pairs (f x) (map f xs) (mapped_all (R (f x)) xs (pairs_head Q x xs p)) (mapped_pairs xs (pairs_tail Q x xs p))

    pub unmapped_pairs : (xs : List X) → AllPairs R (map f xs) → AllPairs (λ a b. R (f a) (f b)) xs
    unmapped_pairs [] p = no_pairs (λ a b. R (f a) (f b))
    unmapped_pairs (x ∷ xs) p = cons_pairs_of x xs (unmapped_all (R (f x)) xs (pairs_head R (f x) (map f xs) p)) (unmapped_pairs xs (pairs_tail R (f x) (map f xs) p))
