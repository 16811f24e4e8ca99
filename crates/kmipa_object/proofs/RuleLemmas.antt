-- What rules admit.
use Rattle.std.proofs.Common.{◌≡◌, ◌<◌, ◌*◌, ◌/◌, ◌%◌, ◌&&◌, ◌==◌, ℕ, pos, negsuc, true, nat_lt, List, [], length, replicate, refl, ap, ◌∙◌, arith, lit<, eq-eqb}
use Rattle.std.proofs.lemmas.Bool.{and_parts, and_from, eqb-true}
use Rattle.std.proofs.lemmas.List.Elements.{All-nil, All-replicate}
use Rattle.std.proofs.Math.ListN.{length-replicate}
use Rattle.kmipa_object.specs.Inventory.{admits, possible, Admitted}
use Rattle.kmipa_object.specs.declared.rule.Rule.{Rule}
use Rattle.kmipa_object.specs.declared.rule.Rule.TheVariants.{Any, Bits}

whole_bytes : (bits : ℕ) → (nat_lt 0 bits && (bits % 8 == 0)) ≡ true → (bits == 8 * (bits / 8)) ≡ true
whole_bytes bits h =
    let parts = and_parts (nat_lt 0 bits) (bits % 8 == 0) h in
    let none : bits % 8 ≡ 0 = eqb-true (bits % 8) 0 parts.1 in
    let whole : bits ≡ 8 * (bits / 8) = omega (arith, none) in
    eq-eqb bits (8 * (bits / 8)) whole

-- zeros, as many as the rule's bits ask for
pub possible_admits : (rule : Rule) → possible rule ≡ true → (bytes : List ℕ) × Admitted rule bytes
possible_admits Any h = ([], record { admitted = refl; small = All-nil (λ (b : ℕ). b < 256) })
possible_admits (Bits (pos bits)) h =
    let parts = and_parts (nat_lt 0 bits) (bits % 8 == 0) h in (
      replicate (bits / 8) 0,
      record {
        admitted = and_from (nat_lt 0 bits) (bits == 8 * length (replicate (bits / 8) 0)) parts.0
            (ap (λ (n : ℕ). bits == 8 * n) (length-replicate (bits / 8) 0) ∙ whole_bytes bits h);
        small = All-replicate (λ (b : ℕ). b < 256) (bits / 8) 0 (lit< tt);
      },
    )
possible_admits (Bits (negsuc n)) h = cc

pub admits_possible : (rule : Rule) (bytes : List ℕ) → admits rule bytes ≡ true → possible rule ≡ true
admits_possible Any bytes h = refl
admits_possible (Bits (pos bits)) bytes h =
    let parts = and_parts (nat_lt 0 bits) (bits == 8 * length bytes) h in
    let whole : bits ≡ 8 * length bytes = eqb-true bits (8 * length bytes) parts.1 in
    let none : bits % 8 ≡ 0 = omega (arith, whole) in
    and_from (nat_lt 0 bits) (bits % 8 == 0) parts.0 (eq-eqb (bits % 8) 0 none)
admits_possible (Bits (negsuc n)) bytes h = cc
