-- A declaration that describes some inventory declares objects.
use Rattle.std.proofs.Common.{◌≡◌, ◌≢◌, ◌<◌, ◌*◌, ◌==◌, ℕ, zero, suc, ℤ, pos, negsuc, Bool, true, false, nat_lt, List, [], ◌∷◌, length, get_or, is_none, is_some, IfSome, Option, Some, None, slice_get, All, AllPairs, refl, sym, ap, ◌∙◌, subst, arith}
use Rattle.std.specs.List.{AllZip}
use Rattle.std.proofs.lemmas.Bool.{and_parts}
use Rattle.std.proofs.lemmas.Bool.Decides.{Decides-eqb}
use Rattle.std.proofs.lemmas.Option.{slice_get-get_or}
use Rattle.kmipa_object.specs.Inventory.{Card, Thing, Admitted, HasBytes, admits, live, rule_of}
use Rattle.kmipa_object.specs.declared.rule.Rule.{Rule}
use Rattle.kmipa_record.specs.Entries.{EntryOf, IsDeclarable, AreWholeBytes, key_bits}
use Rattle.kmipa_record.specs.Declarations.{DeclarationOf, AreDeclared}
use Rattle.kmipa_check.specs.Described.{Describes, IsDescribed, card_declared}
use Rattle.kmipa_check.proofs.DescribedLemmas.{dead_bytes, live_bytes}
use Rattle.kmipa_check.proofs.DeclarableLemmas.{rule_bits, rule_declared}

-- what stands beside an element
pub zipped : {A B : Type 0} (R : A → B → Type 0) (xs : List A) (ys : List B) → AllZip R xs ys → (i : ℕ) (x : A) → slice_get xs i ≡ Some x → (y : B) × (slice_get ys i ≡ Some y) × R x y
zipped R [] ys h i x at = absurd cc
zipped R (z ∷ xs) [] h i x at = absurd h
zipped R (z ∷ xs) (w ∷ ys) h zero x at = let e : z ≡ x = cc in (w, refl, subst (λ (a : _). R a w) e h.0)
zipped R (z ∷ xs) (w ∷ ys) h (suc i) x at = zipped R xs ys h.1 i x at

whole_of : (bits : Option ℤ) (bytes : List ℕ) → admits (rule_bits bits) bytes ≡ true → IfSome bits AreWholeBytes
whole_of None bytes h = tt
whole_of (Some (negsuc n)) bytes h = absurd cc
whole_of (Some (pos n)) bytes h =
    let p = and_parts (nat_lt 0 n) (n == 8 * length bytes) h in
    let e : n ≡ 8 * length bytes = (Decides-eqb n (8 * length bytes)).0 p.1 in
    record { count = length bytes; some = some n (length bytes) p.0 e; filled = ap pos e }
  where
    some : (n count : ℕ) → nat_lt 0 n ≡ true → n ≡ 8 * count → 0 < count
    some n zero h e = let z : n ≡ 0 = omega (arith, e) in let P : ℕ → Type 0 = λ x. nat_lt 0 x ≡ true in let bad = subst P z h in absurd cc
    some n (suc count) h e = omega arith

fits_of : (bits : Option ℤ) (bytes : List ℕ) → admits (rule_bits bits) bytes ≡ true → IfSome bits (λ b. b ≡ pos (8 * length bytes))
fits_of None bytes h = tt
fits_of (Some (negsuc n)) bytes h = absurd cc
fits_of (Some (pos n)) bytes h = let p = and_parts (nat_lt 0 n) (n == 8 * length bytes) h in ap pos ((Decides-eqb n (8 * length bytes)).0 p.1)

if_some : {X : Type 0} (P : X → Type 0) (o : Option X) → ((x : X) → o ≡ Some x → P x) → IfSome o P
if_some P None f = tt
if_some P (Some x) f = f x refl

some_not_none : {X : Type 0} (o : Option X) → is_some o ≡ true → is_none o ≡ false
some_not_none None e = cc
some_not_none (Some x) e = refl

none_if : {X : Type 0} (o : Option X) → ((x : X) → o ≡ Some x → ⊥) → o ≡ None
none_if None f = refl
none_if (Some x) f = absurd (f x refl)

module _ (e : EntryOf) (t : Thing) (d : IsDescribed e t) (h : HasBytes (live t.card) (rule_of t.card) t.bytes) where
  its_bytes : HasBytes (live (card_declared e)) (rule_of (card_declared e)) t.bytes
  its_bytes = let P : Card → Type 0 = λ c. HasBytes (live c) (rule_of c) t.bytes in subst P d.card h

  admitted_bits : (b : List ℕ) → Admitted (rule_of (card_declared e)) b → admits (rule_bits (key_bits e.kind e.attributes)) b ≡ true
  admitted_bits b a = ap (λ (r : Rule). admits r b) (sym (rule_declared e.kind e.attributes)) ∙ a.admitted

  some_bytes : e.attributes.destroy ≡ None → (b : List ℕ) × (t.bytes ≡ Some b) × Admitted (rule_of (card_declared e)) b
  some_bytes alive = live_bytes (live (card_declared e)) (rule_of (card_declared e)) t.bytes (ap is_none alive) its_bytes

  no_bytes : is_some e.attributes.destroy ≡ true → (b : List ℕ) → e.bytes ≡ Some b → ⊥
  no_bytes dead b has =
      let none : t.bytes ≡ None = dead_bytes (live (card_declared e)) (rule_of (card_declared e)) t.bytes (some_not_none e.attributes.destroy dead) its_bytes in
      let some : t.bytes ≡ Some b = d.bytes b has in
      let bad : ⊥ = cc in bad

  own_bytes : (alive : Bool) → HasBytes alive (rule_of (card_declared e)) t.bytes → (b : List ℕ) → e.bytes ≡ Some b → Admitted (rule_of (card_declared e)) b
  own_bytes true lives b has =
      let x = live_bytes true (rule_of (card_declared e)) t.bytes refl lives in
      let some : t.bytes ≡ Some b = d.bytes b has in
      let same : x.0 ≡ b = (let p = x.1 in cc) in
      subst (λ (c : List ℕ). Admitted (rule_of (card_declared e)) c) same x.2
  own_bytes false dead b has =
      let none : t.bytes ≡ None = dead_bytes false (rule_of (card_declared e)) t.bytes refl dead in
      let some : t.bytes ≡ Some b = d.bytes b has in
      let bad : ⊥ = cc in absurd bad

  pub declarable : IsDeclarable e
  declarable = record {
    gone = λ some. none_if e.bytes (no_bytes some);
    whole = λ alive. let b = some_bytes alive in whole_of (key_bits e.kind e.attributes) b.0 (admitted_bits b.0 b.2);
    fitting = λ alive. if_some (λ bytes. IfSome (key_bits e.kind e.attributes) (λ n. n ≡ pos (8 * length bytes))) e.bytes
        (λ b has. fits_of (key_bits e.kind e.attributes) b (admitted_bits b (own_bytes (live (card_declared e)) its_bytes b has)));
    small = if_some (λ bytes. All (λ x. x < 256) bytes) e.bytes (λ b has. (own_bytes (live (card_declared e)) its_bytes b has).small);
  }

pub are_declared : (declared : DeclarationOf) (things : List Thing) → Describes declared things → AreDeclared declared
are_declared declared things d = record { each = each; distinct = distinct }
  where
    each : All IsDeclarable declared.entries
    each k e below =
        let x = get_or declared.entries k e in
        let z = zipped IsDescribed declared.entries things d.objects k x (slice_get-get_or declared.entries k e below) in
        declarable x z.0 z.2 (d.inventory.bytes k z.0 z.1)

    distinct : AllPairs (λ (a b : EntryOf). a.id ≢ b.id) declared.entries
    distinct i j e below within same =
        let a = get_or declared.entries i e in
        let b = get_or declared.entries j e in
        let x = zipped IsDescribed declared.entries things d.objects i a (slice_get-get_or declared.entries i e (omega (arith, below, within))) in
        let y = zipped IsDescribed declared.entries things d.objects j b (slice_get-get_or declared.entries j e within) in
        let id : Card → List ℕ = λ c. c.id in
        let one : i ≡ j = d.inventory.distinct i j x.0 y.0 x.1 y.1 (ap id x.2.card ∙ same ∙ sym (ap id y.2.card)) in
        omega (arith, below, one)
