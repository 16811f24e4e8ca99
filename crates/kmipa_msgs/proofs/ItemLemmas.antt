-- Items, one after the other.
use Rattle.std.proofs.Common.{◌≡◌, ◌+◌, ℕ, suc, List, [], ◌∷◌, ◌++◌, map, length, Result, Ok, Err, refl, sym, ap, ◌∙◌, arith, append_assoc, length-append}
use Rattle.kmipa_ttlv.specs.Tree.{Tree}
use Rattle.kmipa_msgs.specs.declared.kind.OutsideKind.{OutsideKind}
use Rattle.kmipa_msgs.specs.Outside.{before, each_in, from_one}

-- what is read after other items
abbrev pub prefixed : {X : Type 0} → List X → Result (List X) (ℕ × OutsideKind) → Result (List X) (ℕ × OutsideKind)
prefixed xs (Ok ys) = Ok (xs ++ ys)
prefixed xs (Err p) = Err (length xs + p.0, p.1)

-- the places after those of a list
abbrev pub behind : {X A : Type 0} → List X → (ℕ → A) → ℕ → A
behind [] f = f
behind (x ∷ xs) f = behind xs (λ i. f (suc i))

pub behind_more : {X A : Type 0} (xs : List X) (x : X) (f : ℕ → A) → behind (xs ++ x ∷ []) f ≡ (λ i. behind xs f (suc i))
behind_more [] x f = refl
behind_more (y ∷ ys) x f = behind_more ys x (λ i. f (suc i))

pub behind_first : {X A : Type 0} (xs : List X) (f : ℕ → A) (i : ℕ) → behind xs f i ≡ f (length xs + i)
behind_first [] f i = ap f (omega arith)
behind_first (x ∷ xs) f i = behind_first xs (λ j. f (suc j)) i ∙ ap f (omega arith)

prefixed_before : {X : Type 0} (xs : List X) (x : X) (r : Result (List X) (ℕ × OutsideKind)) → prefixed xs (before (Ok x) r) ≡ prefixed (xs ++ x ∷ []) r
prefixed_before {X} xs x (Ok ys) = ap (λ (zs : List X). ok zs) (sym (append_assoc xs (x ∷ []) ys))
  where
    ok : List X → Result (List X) (ℕ × OutsideKind)
    ok zs = Ok zs
prefixed_before {X} xs x (Err p) = ap (λ (n : ℕ). err n) (omega (arith, length-append xs (x ∷ [])))
  where
    err : ℕ → Result (List X) (ℕ × OutsideKind)
    err n = Err (n, p.1)

-- the items so far, and those that are left after them
abbrev pub split_items : {X : Type 0} → (ℕ → Tree → Result X OutsideKind) → List X → List Tree → Result (List X) (ℕ × OutsideKind)
split_items read xs ts = prefixed xs (each_in (behind xs read) ts)

-- an item that is met
items_met : {X : Type 0} (read : ℕ → Tree → Result X OutsideKind) (xs : List X) (r : Result X OutsideKind) (ts us : List Tree) (t : Tree) → ts ≡ t ∷ us
    → r ≡ read (length xs) t → split_items read xs ts ≡ prefixed xs (before r (each_in (λ j. behind xs read (suc j)) us))
items_met {X} read xs r ts us t is re =
    let rest = each_in (λ j. behind xs read (suc j)) us in
    ap (λ (vs : List Tree). split_items read xs vs) is
    ∙ ap (λ (f : Tree → Result X OutsideKind). prefixed xs (before (f t) rest)) (behind_first xs read 0)
    ∙ ap (λ (n : ℕ). prefixed xs (before (read n t) rest)) (omega arith)
    ∙ ap (λ (q : Result X OutsideKind). prefixed xs (before q rest)) (sym re)

pub items_found : {X : Type 0} (read : ℕ → Tree → Result X OutsideKind) (xs ys : List X) (x : X) (ts us : List Tree) (t : Tree) → ts ≡ t ∷ us
    → Ok x ≡ read (length xs) t → ys ≡ xs ++ x ∷ [] → split_items read xs ts ≡ split_items read ys us
items_found {X} read xs ys x ts us t is xe ye =
    items_met read xs (Ok x) ts us t is xe
    ∙ prefixed_before xs x (each_in (λ j. behind xs read (suc j)) us)
    ∙ ap (λ (f : ℕ → Tree → Result X OutsideKind). prefixed (xs ++ x ∷ []) (each_in f us)) (sym (behind_more xs x read))
    ∙ ap (λ (zs : List X). split_items read zs us) (sym ye)

pub items_faulty : {X : Type 0} (read : ℕ → Tree → Result X OutsideKind) (xs : List X) (n : ℕ) (k : OutsideKind) (ts us : List Tree) (t : Tree) → ts ≡ t ∷ us
    → Err k ≡ read (length xs) t → n ≡ length xs → from_one (split_items read xs ts) ≡ Err (n + 1, k)
items_faulty {X} read xs n k ts us t is ke ne =
    ap (λ (r : Result (List X) (ℕ × OutsideKind)). from_one r) (items_met read xs (Err k) ts us t is ke) ∙ ap (λ (m : ℕ). err m) (omega (arith, ne))
  where
    err : ℕ → Result (List X) (ℕ × OutsideKind)
    err m = Err (m, k)

pub items_done : {X : Type 0} (read : ℕ → Tree → Result X OutsideKind) (xs : List X) (ts : List Tree) → ts ≡ [] → from_one (split_items read xs ts) ≡ Ok xs
items_done {X} read xs ts is = ap (λ (us : List Tree). from_one (split_items read xs us)) is ∙ ap (λ (zs : List X). ok zs) (append_nil xs)
  where
    ok : List X → Result (List X) (ℕ × OutsideKind)
    ok zs = Ok zs

    append_nil : (zs : List X) → zs ++ [] ≡ zs
    append_nil [] = refl
    append_nil (z ∷ zs) = ap (λ (ws : List X). z ∷ ws) (append_nil zs)

-- the meanings of a list with one more
pub meaning_more : {Y X : Type 0} (meaning : Y → X) (xs ys : List Y) (y : Y) → ys ≡ xs ++ y ∷ [] → map meaning ys ≡ map meaning xs ++ meaning y ∷ []
meaning_more {Y} {X} meaning xs ys y e = ap (map meaning) e ∙ by xs
  where
    by : (zs : List Y) → map meaning (zs ++ y ∷ []) ≡ map meaning zs ++ meaning y ∷ []
    by [] = refl
    by (z ∷ zs) = ap (λ (ws : List X). meaning z ∷ ws) (by zs)

pub length_more : {X : Type 0} (xs ys : List X) (x : X) (n : ℕ) → ys ≡ xs ++ x ∷ [] → n ≡ length xs → n + 1 ≡ length ys
length_more xs ys x n e h = let l : length ys ≡ length (xs ++ x ∷ []) = ap length e in omega (arith, length-append xs (x ∷ []), l, h)
