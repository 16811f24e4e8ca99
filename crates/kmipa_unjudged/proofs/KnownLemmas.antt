-- The identifiers of what is told, where one more is, or one is no more.
use Rattle.std.proofs.Common.{◌≡◌, ◌∙◌, ◌||◌, ◌++◌, cond, not, refl, ap, sym, ℕ, Bool, true, false, List, [], ◌∷◌, filter, bytes_eq}
use Rattle.std.specs.BTreeSet.{BTreeSet}
use Rattle.std.specs.Cmp.Lexicographic.{slice_cmp}
use Rattle.std.specs.List.{list_any}
use Rattle.std.specs.Ordering.{is_eq, nat_cmp}
use Rattle.std.proofs.lemmas.Map.Text.{is_eq-slice_cmp}
use Rattle.std.proofs.lemmas.Slice.Eq.{bytes_eq-Decides}
use denote.Bor.{Bor}
use Rattle.kmipa_unjudged.specs.Asides.{has_id, is_of, is_of_another}
use Rattle.kmipa_unjudged.specs.Known.{AreIds, is_in}
use Rattle.kmipa_unjudged.specs.Told.{NamedOf}

-- a reference to these bytes
abbrev lend : List ℕ → Bor (List ℕ)
lend id = record { ref_ptr = (0, 0); now = id }

or_false : (b : Bool) → (b || false) ≡ b
or_false true = refl
or_false false = refl

or_true : (b : Bool) → (b || true) ≡ true
or_true true = refl
or_true false = refl

or_assoc : (a b c : Bool) → (a || b) || c ≡ a || (b || c)
or_assoc true b c = refl
or_assoc false b c = refl

-- one behind the others
any_push : (p : NamedOf → Bool) (ns : List NamedOf) (n : NamedOf) → list_any p (ns ++ n ∷ []) ≡ (list_any p ns || p n)
any_push p [] n = or_false (p n)
any_push p (m ∷ ns) n = ap (λ (b : Bool). p m || b) (any_push p ns n) ∙ sym (or_assoc (p m) (list_any p ns) (p n))

as_or : (b c : Bool) → cond b true c ≡ (c || b)
as_or true c = sym (or_true c)
as_or false c = sym (or_false c)

-- one more is told
pub ids_more : (told : List NamedOf) (n : NamedOf) (old new : BTreeSet (Bor (List ℕ))) → AreIds told old
    → ((q : Bor (List ℕ)) → is_in new q.now ≡ cond (is_eq (slice_cmp nat_cmp n.id q.now)) true (is_in old q.now)) → AreIds (told ++ n ∷ []) new
ids_more told n old new are u = λ id.
    u (lend id) ∙ ap (λ (b : Bool). cond b true (is_in old id)) (is_eq-slice_cmp n.id id) ∙ ap (λ (c : Bool). cond (bytes_eq n.id id) true c) (are id)
    ∙ as_or (bytes_eq n.id id) (has_id told id) ∙ sym (any_push (is_of id) told n)

-- whether what is left without an identifier has another
abbrev left : List ℕ → List NamedOf → List ℕ → Bool
left id ns x = has_id (filter (is_of_another id) ns) x

-- it has each other one
left_has : (id x : List ℕ) (ns : List NamedOf) → has_id (filter (is_of_another id) ns) x ≡ cond (bytes_eq id x) false (has_id ns x)
left_has id x [] = by (bytes_eq id x)
  where
    by : (b : Bool) → false ≡ cond b false false
    by true = refl
    by false = refl
left_has id x (n ∷ ns) = by (bytes_eq n.id id) (bytes_eq id x) refl refl (left_has id x ns)
  where
    by : (b c : Bool) → bytes_eq n.id id ≡ b → bytes_eq id x ≡ c → left id ns x ≡ cond (bytes_eq id x) false (has_id ns x)
        → list_any (is_of x) (cond (not b) (n ∷ filter (is_of_another id) ns) (filter (is_of_another id) ns)) ≡ cond c false (bytes_eq n.id x || has_id ns x)
    by true true e f h = h ∙ ap (λ (c : Bool). cond c false (has_id ns x)) f
    by true false e f h =
        let other : bytes_eq n.id x ≡ false = ap (λ (y : List ℕ). bytes_eq y x) ((bytes_eq-Decides n.id id).0 e) ∙ f in
        h ∙ ap (λ (c : Bool). cond c false (has_id ns x)) f ∙ sym (ap (λ (b : Bool). b || has_id ns x) other)
    by false true e f h =
        let other : bytes_eq n.id x ≡ false = ap (bytes_eq n.id) (sym ((bytes_eq-Decides id x).0 f)) ∙ e in
        ap (λ (b : Bool). b || left id ns x) other ∙ h ∙ ap (λ (c : Bool). cond c false (has_id ns x)) f
    by false false e f h =
        ap (λ (c : Bool). bytes_eq n.id x || c) (h ∙ ap (λ (c : Bool). cond c false (has_id ns x)) f)

-- one is told no more
pub ids_less : (told : List NamedOf) (id : List ℕ) (old new : BTreeSet (Bor (List ℕ))) → AreIds told old
    → ((q : Bor (List ℕ)) → is_in new q.now ≡ cond (is_eq (slice_cmp nat_cmp id q.now)) false (is_in old q.now)) → AreIds (filter (is_of_another id) told) new
ids_less told id old new are u = λ x.
    u (lend x) ∙ ap (λ (b : Bool). cond b false (is_in old x)) (is_eq-slice_cmp id x) ∙ ap (λ (c : Bool). cond (bytes_eq id x) false c) (are x)
    ∙ sym (left_has id x told)
