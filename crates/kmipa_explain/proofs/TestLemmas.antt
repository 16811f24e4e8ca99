-- The tests of a Locate's filters say what the filters mean.
use Rattle.std.proofs.Common.{◌≡◌, ◌||◌, ◌==◌, Bool, true, false, not, List, [], ◌∷◌, map, bytes_eq, get_or, is_some, Option, Some, None, refl, sym, ap, ◌∙◌, subst}
use Rattle.std.specs.Bool.{Decides}
use Rattle.std.specs.List.{Contains, list_any}
use Rattle.std.proofs.lemmas.Bool.{and_parts, and_from}
use Rattle.std.proofs.lemmas.Bool.Decides.{Decides-eqb}
use Rattle.std.proofs.lemmas.List.Folds.{Any-from_list_any, list_any_at}
use Rattle.std.proofs.lemmas.Slice.Eq.{bytes_eq-Decides}
use Rattle.kmipa_attrs.specs.Filters.{FilterOf}
use Rattle.kmipa_attrs.specs.Sets.{NameOf, name_of}
use Rattle.kmipa_attrs.specs.declared.name.Name.{Name}
use Rattle.kmipa_object.specs.Inventory.{Card, live}
use Rattle.kmipa_object.specs.declared.state.State.{State}
use Rattle.kmipa_ops.specs.GetAttributes.{AreAmong, has_stranger}
use Rattle.kmipa_ops.specs.Locate.{May, Must, is_doubtful, is_unsure}
use Rattle.kmipa_ops.specs.Objects.{Echoes, Agree, is_other, clash, same_name}

-- ---- of Bools

pub not_true : (b : Bool) → not b ≡ true → b ≡ false
not_true true h = absurd cc
not_true false h = refl

pub not_false : (b : Bool) → not b ≡ false → b ≡ true
not_false true h = refl
not_false false h = absurd cc

pub false_if : (b : Bool) → (b ≡ true → ⊥) → b ≡ false
false_if true h = absurd (h refl)
false_if false h = refl

pub both_ways : (b : Bool) → b ≡ true → b ≡ false → ⊥
both_ways b h q = let bad : true ≡ false = sym h ∙ q in absurd cc

-- ---- of fields that may be absent

module _ {A : Type 0} (same : A → A → Bool) (decides : (x y : A) → Decides (same x y) (x ≡ y)) where
  pub echoes_if : (o : Option A) (x : A) → is_other same o x ≡ false → Echoes o x
  echoes_if None x h = tt
  echoes_if (Some y) x h = (decides y x).0 (not_false (same y x) h)

  pub echoes_not : (o : Option A) (x : A) → is_other same o x ≡ true → Echoes o x → ⊥
  echoes_not None x h e = absurd cc
  echoes_not (Some y) x h e = both_ways (same y x) ((decides y x).1 e) (not_true (same y x) h)

  pub agree_if : (a b : Option A) → clash same a b ≡ false → Agree a b
  agree_if None b h = tt
  agree_if (Some x) b h = echoes_if b x h

  pub agree_not : (a b : Option A) → clash same a b ≡ true → Agree a b → ⊥
  agree_not None b h e = absurd cc
  agree_not (Some x) b h e = echoes_not b x h e

-- ---- of names

same_name-Decides : (m n : NameOf) → Decides (same_name m n) (m ≡ n)
same_name-Decides m n = (
  λ h.
      let w = and_parts (m.kind == n.kind) (bytes_eq m.value n.value) h in
      let p : m.value ≡ n.value = (bytes_eq-Decides m.value n.value).0 w.1 in
      let q : m.kind ≡ n.kind = (Decides-eqb m.kind n.kind).0 w.0 in
      λ i. record { value = p i; kind = q i },
  λ e.
      and_from (m.kind == n.kind) (bytes_eq m.value n.value) ((Decides-eqb m.kind n.kind).1 (ap (λ (x : NameOf). x.kind) e))
      ((bytes_eq-Decides m.value n.value).1 (ap (λ (x : NameOf). x.value) e)),
)

abbrev is_known : List NameOf → NameOf → Bool
is_known known n = list_any (λ (k : NameOf). same_name k n) known

known_if : (known : List NameOf) (n : NameOf) → is_known known n ≡ true → Contains known n
known_if known n h =
    let a = Any-from_list_any (λ (k : NameOf). same_name k n) known h in
    let P : NameOf → Type 0 = λ x. Contains known x in
    subst P ((same_name-Decides a.1 n).0 a.4) (a.0, a.2, a.3)

known_not : (known : List NameOf) (n : NameOf) → Contains known n → is_known known n ≡ true
known_not known n at = list_any_at (λ (k : NameOf). same_name k n) known at.0 n at.1 ((same_name-Decides (get_or known at.0 n) n).1 at.2)

pub strangers_if : (known names : List NameOf) → has_stranger known names ≡ false → AreAmong known names
strangers_if known names h n at = by (is_known known n) refl
  where
    by : (b : Bool) → is_known known n ≡ b → Contains known n
    by true e = known_if known n e
    by false e = absurd (both_ways (has_stranger known names) (list_any_at (λ (m : NameOf). not (is_known known m)) names at.0 n at.1 (ap (λ (m : NameOf). not (is_known known m)) at.2 ∙ ap not e)) h)

pub strangers_not : (known names : List NameOf) → has_stranger known names ≡ true → AreAmong known names → ⊥
strangers_not known names h among =
    let a = Any-from_list_any (λ (m : NameOf). not (is_known known m)) names h in
    both_ways (is_known known a.1) (known_not known a.1 (among a.1 (a.0, a.2, a.3))) (not_true (is_known known a.1) a.4)

any_map : {X Y : Type 0} (p : Y → Bool) (f : X → Y) (xs : List X) → list_any p (map f xs) ≡ list_any (λ (x : X). p (f x)) xs
any_map p f [] = refl
any_map p f (x ∷ xs) = ap (λ (b : Bool). p (f x) || b) (any_map p f xs)

any_same : {X : Type 0} (p q : X → Bool) → ((x : X) → p x ≡ q x) → (xs : List X) → list_any p xs ≡ list_any q xs
any_same p q e [] = refl
any_same p q e (x ∷ xs) = ap (λ (b : Bool). b || list_any p xs) (e x) ∙ ap (λ (b : Bool). q x || b) (any_same p q e xs)

pub stranger_is : (known names : List Name) → list_any (λ (n : Name). not (list_any (λ (k : Name). same_name (name_of k) (name_of n)) known)) names ≡ has_stranger (map name_of known) (map name_of names)
stranger_is known names =
    any_same (λ (n : Name). not (list_any (λ (k : Name). same_name (name_of k) (name_of n)) known)) (λ (n : Name). not (is_known (map name_of known) (name_of n)))
    (λ n. ap not (sym (any_map (λ (k : NameOf). same_name k (name_of n)) name_of known))) names
    ∙ sym (any_map (λ (n : NameOf). not (is_known (map name_of known) n)) name_of names)

-- ---- of what must be listed

four_false : (a b c d : Bool) → (not a || b || c || d) ≡ false → (a ≡ true) × (b ≡ false) × (c ≡ false) × (d ≡ false)
four_false true false false d h = (refl, refl, refl, h)
four_false true false true d h = absurd cc
four_false true true c d h = absurd cc
four_false false b c d h = absurd cc

all_four : (a b c d : Bool) → a ≡ true → b ≡ false → c ≡ false → d ≡ false → (not a || b || c || d) ≡ false
all_four true false false false h i j k = refl
all_four true false false true h i j k = absurd cc
all_four true false true d h i j k = absurd cc
all_four true true c d h i j k = absurd cc
all_four false b c d h i j k = absurd cc

sure_if : {A : Type 0} (asked own : Option A) → is_unsure asked own ≡ false → is_some asked ≡ true → is_some own ≡ true
sure_if None own h a = absurd cc
sure_if (Some y) None h a = absurd cc
sure_if (Some y) (Some x) h a = refl

sure_not : {A : Type 0} (asked own : Option A) → (is_some asked ≡ true → is_some own ≡ true) → is_unsure asked own ≡ false
sure_not None own f = refl
sure_not (Some y) None f = let bad : false ≡ true = f refl in absurd cc
sure_not (Some y) (Some x) f = refl

pub must_if : (q : FilterOf) (s : State) (c : Card) → May q s c → is_doubtful q c ≡ false → Must q s c
must_if q s c may h =
    let x = four_false (live c) q.is_loose (is_unsure q.algorithm c.given.algorithm) (is_unsure q.length c.given.length) h in
    record { may = may; alive = x.0; strict = x.1; algorithm = sure_if q.algorithm c.given.algorithm x.2; length = sure_if q.length c.given.length x.3 }

pub must_not : (q : FilterOf) (s : State) (c : Card) → Must q s c → is_doubtful q c ≡ false
must_not q s c m =
    all_four (live c) q.is_loose (is_unsure q.algorithm c.given.algorithm) (is_unsure q.length c.given.length) m.alive m.strict (sure_not q.algorithm c.given.algorithm m.algorithm) (sure_not q.length c.given.length m.length)
