-- A set of names that are lent, one more at a time.
use Rattle.std.proofs.Common.{◌≡◌, ◌<◌, ◌+◌, ℕ, zero, suc, length, take, get_or, arith, ◌||◌, ◌&&◌, ◌==◌, ◌++◌, ◌∷◌, [], ◌∙◌, Bool, true, false, List, map, not, bytes_eq, refl, ap, sym}
use Rattle.std.specs.List.{list_any}
use Rattle.std.specs.Ordering.{is_eq, nat_cmp, match_ordering}
use Rattle.std.specs.Cmp.{both_tied, unsigned_ties}
use Rattle.std.specs.Cmp.Lexicographic.{slice_cmp}
use Rattle.std.specs.declared.cmp.Ordering.{Ordering}
use Rattle.std.specs.declared.cmp.Ordering.TheVariants.{Less, Equal, Greater}
use Rattle.std.specs.BTreeSet.{BTreeSet, insert_key}
use Rattle.std.proofs.lemmas.Map.Text.{is_eq-slice_cmp}
use Rattle.std.proofs.lemmas.List.Folds.{list_any-append}
use Rattle.kmipa_attrs.specs.Sets.{NameOf, name_of}
use Rattle.kmipa_attrs.specs.declared.name.Name.{Name}
use Rattle.kmipa_ops.specs.Objects.{same_name}
use Rattle.kmipa_ops.specs.KnownNames.{lent_name_of, name_cmp, is_in, HasNames}
use Rattle.kmipa_ops.specs.declared.lent_name.LentName.{LentName}
use Rattle.kmipa_ops.proofs.NameLemmas.{same_both, same_name-Decides}
use Rattle.kmipa_ops.specs.GetAttributes.{has_stranger}
use Rattle.kmipa_ops.proofs.ScanLemmas.{any_map, any_same}

abbrev pub lent_cmp : LentName → LentName → Ordering
lent_cmp m n = name_cmp (lent_name_of m) (lent_name_of n)

and_swap : (a b : Bool) → (a && b) ≡ (b && a)
and_swap true true = refl
and_swap true false = refl
and_swap false true = refl
and_swap false false = refl

or_swap : (a b : Bool) → (a || b) ≡ (b || a)
or_swap true true = refl
or_swap true false = refl
or_swap false true = refl
or_swap false false = refl

or_again : (a b : Bool) → (a || b) ≡ ((a || b) || a)
or_again true b = refl
or_again false true = refl
or_again false false = refl

or_inside : (a b c : Bool) → (a || (b || c)) ≡ ((a || b) || c)
or_inside true b c = refl
or_inside false b c = refl

-- two names compare as equal exactly where they are the same
cmp_same : (m n : NameOf) → is_eq (name_cmp m n) ≡ same_name m n
cmp_same m n =
    sym (both_tied (bytes_eq m.value n.value) (m.kind == n.kind) (slice_cmp nat_cmp m.value n.value) (nat_cmp m.kind n.kind) (sym (is_eq-slice_cmp m.value n.value)) (unsigned_ties m.kind n.kind))
    ∙ and_swap (bytes_eq m.value n.value) (m.kind == n.kind)

cmp_equal : (m n : NameOf) → name_cmp m n ≡ Equal → m ≡ n
cmp_equal m n e = (same_name-Decides m n).0 (sym (cmp_same m n) ∙ ap is_eq e)

-- one element more of a list
pub take_more : {X Y : Type 0} (f : X → Y) (xs : List X) (i : ℕ) (d : X) → i < length xs → map f (take (i + 1) xs) ≡ map f (take i xs) ++ f (get_or xs i d) ∷ []
take_more f [] i d h = absurd (omega arith)
take_more f (x ∷ xs) zero d h = refl
take_more f (x ∷ xs) (suc i) d h =
    let more : suc i + 1 ≡ suc (i + 1) = omega arith in
    ap (λ (n : ℕ). map f (take n (x ∷ xs))) more ∙ ap (λ ys. f x ∷ ys) (take_more f xs i d (omega arith))

-- a test of keys after one more came
inserted : (p : LentName → Bool) (k : LentName) → ((x : LentName) → lent_cmp k x ≡ Equal → p k ≡ p x) → (ks : List LentName) → list_any p (insert_key lent_cmp ks k) ≡ (list_any p ks || p k)
inserted p k same [] = or_swap (p k) false
inserted p k same (x ∷ xs) = by (inserted p k same xs) (lent_cmp k x) refl
  where
    by : list_any p (insert_key lent_cmp xs k) ≡ (list_any p xs || p k) → (o : Ordering) → lent_cmp k x ≡ o
        → list_any p (match_ordering o (k ∷ x ∷ xs) (x ∷ xs) (x ∷ insert_key lent_cmp xs k)) ≡ ((p x || list_any p xs) || p k)
    by rest Less e = or_swap (p k) (p x || list_any p xs)
    by rest Equal e = or_again (p x) (list_any p xs) ∙ ap (λ (b : Bool). (p x || list_any p xs) || b) (sym (same x e))
    by rest Greater e = ap (λ (b : Bool). p x || b) rest ∙ or_inside (p x) (list_any p xs) (p k)

pub known_none : (set : BTreeSet LentName) → set.keys ≡ [] → HasNames [] set
known_none set e n = ap (list_any (λ (k : LentName). is_eq (name_cmp n (lent_name_of k)))) e

pub known_more : (names : List NameOf) (n : NameOf) (k : LentName) (s t : BTreeSet LentName) → lent_name_of k ≡ n → t.keys ≡ insert_key lent_cmp s.keys k → HasNames names s → HasNames (names ++ n ∷ []) t
known_more names n k s t is e h m =
    let p : LentName → Bool = λ x. is_eq (name_cmp m (lent_name_of x)) in
    let here : p k ≡ (same_name n m || false) =
    cmp_same m (lent_name_of k) ∙ same_both m (lent_name_of k) ∙ ap (λ (x : NameOf). same_name x m) is ∙ or_swap false (same_name n m) in
    ap (list_any p) e
    ∙ inserted p k (λ x o. ap (λ (y : NameOf). is_eq (name_cmp m y)) (cmp_equal (lent_name_of k) (lent_name_of x) o)) s.keys
    ∙ ap (λ (b : Bool). b || p k) (h m)
    ∙ ap (λ (b : Bool). list_any (λ (x : NameOf). same_name x m) names || b) here
    ∙ sym (list_any-append (λ (x : NameOf). same_name x m) names (n ∷ []))

pub unknown_is : (known : List NameOf) (set : BTreeSet LentName) (names : List Name) → HasNames known set
    → list_any (λ (n : Name). not (is_in set (name_of n))) names ≡ has_stranger known (map name_of names)
unknown_is known set names h =
    any_same (λ (n : Name). not (is_in set (name_of n))) (λ (n : Name). not (list_any (λ (k : NameOf). same_name k (name_of n)) known)) (λ n. ap not (h (name_of n))) names
    ∙ sym (any_map (λ (n : NameOf). not (list_any (λ (k : NameOf). same_name k n) known)) name_of names)
