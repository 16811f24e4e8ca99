-- A witness that only names calls has bytes.
use Rattle.std.proofs.Common.{◌≡◌, ◌≤◌, ◌<◌, ◌^◌, ℕ, suc, ◌+◌, ℤ, pos, negsuc, List, [], ◌∷◌, ◌++◌, map, drop, get_or, ◌/◌, ◌%◌, All, Contains, refl, sym, ap, ◌∙◌, subst, arith}
use Rattle.std.specs.Prelude.{FitsSigned}
use Rattle.std.specs.Int.{w32, cast_signed, cast_unsigned}
use Rattle.std.proofs.lemmas.Int.{to_z-of_z}
use Rattle.std.proofs.lemmas.Option.{slice_get-get_or}
use Rattle.std.proofs.lemmas.List.Elements.{All-contains}
use Rattle.std.proofs.Math.Facts.{leb_yes}
use Rattle.kmipa_ttlv.specs.Tree.{Tree, structure, scalar, none, more, integer}
use Rattle.kmipa_ttlv.specs.Spelling.{tag_at, kind_at, len_at, value_at, padded, Framed, Signed32, Stands, Run, Spells}
use Rattle.kmipa_ttlv.specs.Stream.{Begins}
use Rattle.kmipa_record.specs.Marks.{MarkOf, begins, call_of, IsCallNumber, AreRecorded}
use Rattle.kmipa_record.specs.Tags.{version_tag, call_tag, witness_header_tag, turn_tag}
use Rattle.kmipa_record.specs.Witnesses.{TurnOf, bare_turn, turn_item, Admits, IsWitness}
use Rattle.kmipa_record.specs.declared.version.Version.TheVariants.{First}
use Rattle.kmipa_check.specs.Calls.{CallOf, IsRecorded}
use Rattle.kmipa_check.proofs.PlaceLemmas.{contains_at, mapped_from}

-- a structure with one number in it
abbrev tree : ℕ → ℕ → ℤ → Tree
tree a b z = structure a (more (scalar b (integer z)) none)

abbrev tag_digits : ℕ → List ℕ
tag_digits tag = tag / 65_536 % 256 ∷ tag / 256 % 256 ∷ tag % 256 ∷ []

abbrev digits : ℕ → List ℕ
digits n = n / 16_777_216 % 256 ∷ n / 65_536 % 256 ∷ n / 256 % 256 ∷ n % 256 ∷ []

-- the number's item
abbrev child : ℕ → ℤ → List ℕ
child b z = tag_digits b ++ 2 ∷ 0 ∷ 0 ∷ 0 ∷ 4 ∷ digits (cast_unsigned w32 z) ++ 0 ∷ 0 ∷ 0 ∷ 0 ∷ []

abbrev whole : ℕ → ℕ → ℤ → List ℕ
whole a b z = tag_digits a ++ 1 ∷ 0 ∷ 0 ∷ 0 ∷ 16 ∷ child b z

unsigned : (z : ℤ) → FitsSigned w32 z → cast_unsigned w32 z < 2 ^ 32
unsigned (pos n) h = omega (arith, h)
unsigned (negsuc n) h = omega arith

signed : (z : ℤ) (m : ℕ) → FitsSigned w32 z → m ≡ cast_unsigned w32 z → cast_signed w32 m ≡ z
signed z m fits is = ap (cast_signed w32) is ∙ to_z-of_z w32 z fits

digits_number : (z : ℤ) → FitsSigned w32 z → Signed32 z (digits (cast_unsigned w32 z))
digits_number z fits = record { long = refl; number = signed z _ fits (omega (arith, unsigned z fits)) }

child_frame : (b : ℕ) (z : ℤ) → b < 2 ^ 24 → Framed b 2 (child b z)
unfolding tag_at kind_at len_at
child_frame b z lt = record { header = omega arith; tag_is = omega (arith, lt); kind_is = refl; whole = omega arith }

child_value : (b : ℕ) (z : ℤ) → value_at (child b z) ≡ digits (cast_unsigned w32 z)
unfolding value_at len_at
child_value b z = refl

child_len : (b : ℕ) (z : ℤ) → len_at (child b z) ≡ 4
unfolding len_at
child_len b z = refl

whole_frame : (a b : ℕ) (z : ℤ) → a < 2 ^ 24 → Framed a 1 (whole a b z)
unfolding tag_at kind_at len_at
whole_frame a b z lt = record { header = omega arith; tag_is = omega (arith, lt); kind_is = refl; whole = omega arith }

whole_value : (a b : ℕ) (z : ℤ) → value_at (whole a b z) ≡ child b z
unfolding value_at len_at
whole_value a b z = refl

whole_len : (a b : ℕ) (z : ℤ) → len_at (whole a b z) ≡ 16
unfolding len_at
whole_len a b z = refl

child_stands : (b : ℕ) (z : ℤ) → b < 2 ^ 24 → FitsSigned w32 z → Stands 15 (scalar b (integer z)) (child b z)
child_stands b z lt fits = (child_frame b z lt, let P : List ℕ → Type 0 = λ v. Signed32 z v in subst P (sym (child_value b z)) (digits_number z fits))

child_runs : (b : ℕ) (z : ℤ) → b < 2 ^ 24 → FitsSigned w32 z → Run 15 (more (scalar b (integer z)) none) (child b z) []
child_runs b z lt fits =
    let P : ℕ → Type 0 = λ n. drop (8 + padded n) (child b z) ≡ [] in
    (child_stands b z lt fits, subst P (sym (child_len b z)) refl)

spelled : (a b : ℕ) (z : ℤ) → a < 2 ^ 24 → b < 2 ^ 24 → FitsSigned w32 z → Spells (tree a b z) (whole a b z)
spelled a b z p q fits =
    let P : List ℕ → Type 0 = λ v. Run 15 (more (scalar b (integer z)) none) v [] in
    let E : ℕ → Type 0 = λ n. 24 ≡ 8 + padded n in
    record {
      stands = (whole_frame a b z p, subst P (sym (whole_value a b z)) (child_runs b z q fits));
      all = subst E (sym (whole_len a b z)) refl;
      limit = omega arith;
    }

-- ---- turns that only name calls

number_fits : (z : ℤ) → IsCallNumber z → FitsSigned w32 z
number_fits (pos n) h = let most : n ≤ 2_147_483_647 = leb_yes h.greatest.le in omega (arith, most)
number_fits (negsuc n) h = absurd h.least.le

turns_begin : (numbers : List ℤ) → ((z : ℤ) → Contains numbers z → IsCallNumber z) → (bytes : List ℕ) × Begins (map turn_item (map bare_turn numbers)) bytes []
turns_begin [] numbered = ([], refl)
turns_begin (z ∷ numbers) numbered =
    let rest = turns_begin numbers (λ x has. numbered x (suc has.0, omega (arith, has.1), has.2)) in
    let front = whole turn_tag call_tag z in
    (front ++ rest.0, (front, rest.0, refl, spelled turn_tag call_tag z (omega arith) (omega arith) (number_fits z (numbered z (0, omega arith, refl))), rest.1))

turns_admitted : (numbers : List ℤ) → All (Admits First) (map bare_turn numbers)
turns_admitted numbers i d below =
    let p = mapped_from bare_turn numbers i (get_or (map bare_turn numbers) i d) (slice_get-get_or (map bare_turn numbers) i d below) in
    let P : TurnOf → Type 0 = λ t. Admits First t in
    subst P p.2 (record {
      answered = λ some. absurd cc;
      ordered = λ some. absurd (some refl);
      timed = λ some. absurd cc;
      born = λ some. absurd (some refl);
      aside = λ some. absurd (some refl);
      payloads = λ k e within. absurd (omega (arith, within));
      attributes = λ k e within. absurd (omega (arith, within));
    })

turns_numbered : (numbers : List ℤ) → ((z : ℤ) → Contains numbers z → IsCallNumber z) → All (λ turn. IsCallNumber turn.call) (map bare_turn numbers)
turns_numbered numbers numbered i d below =
    let p = mapped_from bare_turn numbers i (get_or (map bare_turn numbers) i d) (slice_get-get_or (map bare_turn numbers) i d below) in
    let P : TurnOf → Type 0 = λ t. IsCallNumber t.call in
    subst P p.2 (numbered p.0 (contains_at numbers i p.0 p.1))

pub bare_written : (numbers : List ℤ) → ((z : ℤ) → Contains numbers z → IsCallNumber z) → (bytes : List ℕ) × IsWitness bytes (map bare_turn numbers)
bare_written numbers numbered =
    let rest = turns_begin numbers numbered in
    let front = whole witness_header_tag version_tag (pos 1) in (
      front ++ rest.0,
      record {
        version = First;
        spelled = (front, rest.0, refl, spelled witness_header_tag version_tag (pos 1) (omega arith) (omega arith) (omega arith), rest.1);
        admitted = turns_admitted numbers;
        numbered = turns_numbered numbers numbered;
      },
    )

-- a recorded call has a number
pub recorded_number : (marks : List MarkOf) (c : CallOf) → AreRecorded marks → IsRecorded marks c → IsCallNumber c.number
recorded_number marks c r x =
    let mark : MarkOf = begins c.number x.carried.client x.asked in
    All-contains (λ (m : MarkOf). IsCallNumber (call_of m)) marks mark r.numbered (contains_at marks c.begin mark x.carried.there)
