-- Keys in order: what was put among them, and what was taken away.
use Rattle.std.proofs.Common.{◌≡◌, Bool, true, false, ◌||◌, cond, List, [], ◌∷◌, refl, ap, ◌∙◌}
use Rattle.std.specs.declared.cmp.Ordering.{Ordering}
use Rattle.std.specs.declared.cmp.Ordering.TheVariants.{Less, Equal, Greater}
use Rattle.std.specs.Ordering.{is_eq, match_ordering}
use Rattle.std.specs.List.{list_any}
use Rattle.std.specs.BTreeMap.{is_at}
use Rattle.std.specs.BTreeSet.{insert_key}
use Rattle.std.specs.Set.{remove_key}

pub equal_at : (o : Ordering) → is_eq o ≡ true → o ≡ Equal
equal_at Less e = cc
equal_at Equal e = refl
equal_at Greater e = cc

pub or_true : (b : Bool) → (b || true) ≡ true
or_true true = refl
or_true false = refl

module _ {K : Type 0} (cmp : K → K → Ordering) (k : K) (own : cmp k k ≡ Equal) where
  pub removed_again : (ks : List K) → list_any (is_at (cmp k)) ks ≡ false → remove_key (is_at (cmp k)) (insert_key cmp ks k) ≡ ks
  removed_again [] h = ap (λ o. cond (is_eq o) [] (k ∷ [])) own
  removed_again (x ∷ xs) h = (elim (cmp k x) as (λ o. cmp k x ≡ o → (is_eq o || list_any (is_at (cmp k)) xs) ≡ false
      → remove_key (is_at (cmp k)) (match_ordering o (k ∷ x ∷ xs) (x ∷ xs) (x ∷ insert_key cmp xs k)) ≡ x ∷ xs) [
        | Less ↦ λ e g. ap (λ o. cond (is_eq o) (x ∷ xs) (k ∷ remove_key (is_at (cmp k)) (x ∷ xs))) own
        | Equal ↦ λ e g. cc
        | Greater ↦ λ e g. ap (λ o. cond (is_eq o) (insert_key cmp xs k) (x ∷ remove_key (is_at (cmp k)) (insert_key cmp xs k))) e ∙ ap (λ ys. x ∷ ys) (removed_again xs g)
      ]) refl h

  pub found_inserted : (ks : List K) → list_any (is_at (cmp k)) (insert_key cmp ks k) ≡ true
  found_inserted [] = ap (λ o. is_eq o || false) own
  found_inserted (x ∷ xs) = (elim (cmp k x) as (λ o. cmp k x ≡ o → list_any (is_at (cmp k)) (match_ordering o (k ∷ x ∷ xs) (x ∷ xs) (x ∷ insert_key cmp xs k)) ≡ true) [
    | Less ↦ λ e. ap (λ o. is_eq o || list_any (is_at (cmp k)) (x ∷ xs)) own
    | Equal ↦ λ e. ap (λ o. is_eq o || list_any (is_at (cmp k)) xs) e
    | Greater ↦ λ e. ap (λ (b : Bool). is_eq (cmp k x) || b) (found_inserted xs) ∙ or_true (is_eq (cmp k x))
  ]) refl

  pub still_found : (test : K → Bool) (ks : List K) → list_any test ks ≡ true → list_any test (insert_key cmp ks k) ≡ true
  still_found test [] h = cc
  still_found test (x ∷ xs) h = (elim (cmp k x) as (λ o. list_any test (match_ordering o (k ∷ x ∷ xs) (x ∷ xs) (x ∷ insert_key cmp xs k)) ≡ true) [
    | Less ↦ ap (λ (b : Bool). test k || b) h ∙ or_true (test k)
    | Equal ↦ h
    | Greater ↦ (elim (test x) as (λ t. (t || list_any test xs) ≡ true → (t || list_any test (insert_key cmp xs k)) ≡ true) [
      | true ↦ λ g. refl
      | false ↦ λ g. still_found test xs g
    ]) h
  ])

-- what passes another test is still there
pub still_there : {K : Type 0} (test other : K → Bool) → ((k : K) → test k ≡ true → other k ≡ false) → (ks : List K) → list_any test ks ≡ true → list_any test (remove_key other ks) ≡ true
still_there test other apart [] h = h
still_there test other apart (k ∷ ks) h = (elim (test k) as (λ t. test k ≡ t → (t || list_any test ks) ≡ true → list_any test (remove_key other (k ∷ ks)) ≡ true) [
  | true ↦ λ e g. ap (λ (b : Bool). list_any test (cond b ks (k ∷ remove_key other ks))) (apart k e) ∙ ap (λ (b : Bool). b || list_any test (remove_key other ks)) e
  | false ↦ λ e g. (elim (other k) as (λ o. list_any test (cond o ks (k ∷ remove_key other ks)) ≡ true) [
    | true ↦ g
    | false ↦ ap (λ (b : Bool). test k || b) (still_there test other apart ks g) ∙ or_true (test k)
  ])
]) refl h
