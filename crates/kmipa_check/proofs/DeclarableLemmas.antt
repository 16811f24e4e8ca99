-- What may be declared of an object's bytes is what its rule admits.
use Rattle.std.proofs.Common.{◌≡◌, ◌<◌, ◌*◌, ◌%◌, ◌==◌, ℕ, ℤ, pos, Bool, true, false, nat_lt, List, length, All, Option, Some, None, refl, sym, ap, ◌∙◌, subst, arith, eq-eqb}
use Rattle.std.specs.Prelude.{if◌then◌else◌, IfSome, is_some}
use Rattle.std.proofs.lemmas.Bool.{and_from, lt-ltb}
use Rattle.kmipa_attrs.specs.Sets.{Attributes}
use Rattle.kmipa_attrs.specs.declared.object_type.ObjectType.{ObjectType}
use Rattle.kmipa_attrs.specs.declared.object_type.ObjectType.TheVariants.{SymmetricKey, SecretData}
use Rattle.kmipa_object.specs.Inventory.{given_of, Admitted, admits, possible, key_rule, rule_for, rule_of}
use Rattle.kmipa_object.specs.declared.rule.Rule.{Rule}
use Rattle.kmipa_object.specs.declared.rule.Rule.TheVariants.{Any, Bits}
use Rattle.kmipa_object.proofs.RuleLemmas.{possible_admits}
use Rattle.kmipa_store.specs.Choices.{Suits}
use Rattle.kmipa_record.specs.Entries.{EntryOf, IsDeclarable, AreWholeBytes, algorithm_bits, key_bits}
use Rattle.kmipa_check.specs.Described.{card_declared}
use Rattle.kmipa_check.specs.Opening.{known_declared}

-- the rule of bits that may be laid down
abbrev pub rule_bits : Option ℤ → Rule
rule_bits None = Any
rule_bits (Some bits) = Bits bits

by_algorithm : (aes : Bool) (bits : ℤ) → (if aes then Bits bits else Any) ≡ rule_bits (if aes then Some bits else None)
by_algorithm true bits = refl
by_algorithm false bits = refl

key_rule_bits : (algorithm : Option ℕ) (bits : Option ℤ) → key_rule algorithm bits ≡ rule_bits (algorithm_bits algorithm bits)
key_rule_bits None bits = refl
key_rule_bits (Some algorithm) None = refl
key_rule_bits (Some algorithm) (Some bits) = by_algorithm (algorithm == 3) bits

pub rule_declared : (kind : ObjectType) (a : Attributes) → rule_for kind (given_of a) ≡ rule_bits (key_bits kind a)
rule_declared SymmetricKey a = key_rule_bits a.algorithm a.length
rule_declared SecretData a = refl

whole_possible : (bits : Option ℤ) → IfSome bits AreWholeBytes → possible (rule_bits bits) ≡ true
whole_possible None h = refl
whole_possible (Some bits) h =
    let some : 0 < h.count = h.some in
    let P : ℤ → Type 0 = λ b. possible (Bits b) ≡ true in
    subst P (sym h.filled)
    (and_from (nat_lt 0 (8 * h.count)) ((8 * h.count) % 8 == 0) (lt-ltb 0 (8 * h.count) (omega arith)) (eq-eqb ((8 * h.count) % 8) 0 (omega arith)))

fitting_admits : (bits : Option ℤ) (bytes : List ℕ) → IfSome bits AreWholeBytes → IfSome bits (λ b. b ≡ pos (8 * length bytes)) → admits (rule_bits bits) bytes ≡ true
fitting_admits None bytes h f = refl
fitting_admits (Some bits) bytes h f =
    let some : 0 < h.count = h.some in
    let same : pos (8 * h.count) ≡ pos (8 * length bytes) = sym h.filled ∙ f in
    let long : 8 * h.count ≡ 8 * length bytes = cc in
    let P : ℤ → Type 0 = λ b. admits (Bits b) bytes ≡ true in
    subst P (sym f)
    (and_from (nat_lt 0 (8 * length bytes)) (8 * length bytes == 8 * length bytes) (lt-ltb 0 (8 * length bytes) (omega arith)) (eq-eqb (8 * length bytes) (8 * length bytes) refl))

-- where the object is destroyed
pub gone_undeclared : (e : EntryOf) (date : ℤ) → IsDeclarable e → e.attributes.destroy ≡ Some date → e.bytes ≡ None
gone_undeclared e date d dead = d.gone (ap is_some dead)

-- where it is live
module _ (e : EntryOf) (d : IsDeclarable e) (alive : e.attributes.destroy ≡ None) where
  pub declared_possible : possible (rule_of (card_declared e)) ≡ true
  declared_possible = ap possible (rule_declared e.kind e.attributes) ∙ whole_possible (key_bits e.kind e.attributes) (d.whole alive)

  pub declared_admits : (bytes : List ℕ) → e.bytes ≡ Some bytes → admits (rule_of (card_declared e)) bytes ≡ true
  declared_admits bytes is =
      let P : Option (List ℕ) → Type 0 = λ o. IfSome o (λ b. IfSome (key_bits e.kind e.attributes) (λ bits. bits ≡ pos (8 * length b))) in
      ap (λ (r : Rule). admits r bytes) (rule_declared e.kind e.attributes)
      ∙ fitting_admits (key_bits e.kind e.attributes) bytes (d.whole alive) (subst P is (d.fitting alive))

  declared_small : (bytes : List ℕ) → e.bytes ≡ Some bytes → All (λ b. b < 256) bytes
  declared_small bytes is = let P : Option (List ℕ) → Type 0 = λ o. IfSome o (λ bytes. All (λ b. b < 256) bytes) in subst P is d.small

  suited : (known : Option (List ℕ)) → ((b : List ℕ) → known ≡ Some b → Admitted (rule_of (card_declared e)) b)
      → (b : List ℕ) × Suits (record { rule = rule_of (card_declared e); bytes = known }) b
  suited None admitted =
      let p = possible_admits (rule_of (card_declared e)) declared_possible in
      (p.0, record { admitted = p.1; known = λ k q. let bad : ⊥ = cc in absurd bad })
  suited (Some b) admitted = (b, record { admitted = admitted b refl; known = λ k q. cc })

  -- some bytes suit its secret
  pub declared_suits : (b : List ℕ) × Suits (known_declared e) b
  declared_suits = suited e.bytes (λ b is. record { admitted = declared_admits b is; small = declared_small b is })
