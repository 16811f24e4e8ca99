-- Bytes are one witness, or have one first fault.
use Rattle.std.proofs.Common.{◌≡◌, ℕ, pos, ◌<ℤ◌, List, [], ◌∷◌, ◌++◌, map, refl, sym, subst, ◌∙◌, arith}
use Rattle.std.specs.Prelude.{All}
use Rattle.std.proofs.lemmas.List.Elements.{Contains-append_right, All-contains}
use Rattle.kmipa_ttlv.specs.Tree.{Tree}
use Rattle.kmipa_record.specs.Marks.{IsCallNumber}
use Rattle.kmipa_record.specs.Witnesses.{TurnOf, turn_item, witness_header, version_number, Admits, IsWitness, AreTurns, AreRightInWitness, WitnessItemFault, WitnessEndFault, TurnItemFault, no_turn, below_one, WitnessFault}
use Rattle.kmipa_record.specs.declared.version.Version.{Version}
use Rattle.kmipa_record.specs.declared.version.Version.TheVariants.{First, Second, Third, Fourth}
use Rattle.kmipa_record.specs.declared.fault.RecordKind.{RecordKind}
use Rattle.kmipa_record.proofs.FirstFaultLemmas.{no_fault, one_fault, nothing_more, cut_values, values_once, compare, same, shorter, longer}
use Rattle.kmipa_record.proofs.TranscriptLawLemmas.{not_below}
use Rattle.kmipa_record.proofs.TurnLemmas.{turn_item_once}

items_once : (xs ys : List TurnOf) → map turn_item xs ≡ map turn_item ys → xs ≡ ys
items_once = values_once turn_item turn_item_once

-- what holds of each turn holds of this one
value_at : (P : TurnOf → Type 0) (turns before after : List TurnOf) (turn : TurnOf) → turns ≡ before ++ turn ∷ after → All P turns → P turn
value_at P turns before after turn e all =
    All-contains P (before ++ turn ∷ after) turn (subst (All P) e all) (Contains-append_right before (turn ∷ after) turn (0, omega arith, refl))

no_turn_fault : (version : Version) (records more : List Tree) (item : Tree) (kind : RecordKind) → AreTurns version (records ++ item ∷ more) → TurnItemFault version item kind → ⊥
no_turn_fault version records more item kind right (no_turn none k) =
    let cut = cut_values turn_item right.turns records more item right.are in
    none cut.value (value_at (Admits version) right.turns cut.before cut.after cut.value cut.are right.admitted) cut.item_is
no_turn_fault version records more item kind right (below_one turn admitted e low k) =
    let cut = cut_values turn_item right.turns records more item right.are in
    let one : cut.value ≡ turn = turn_item_once cut.value turn (sym cut.item_is ∙ e) in
    let number = value_at (λ t. IsCallNumber t.call) right.turns cut.before cut.after cut.value cut.are right.numbered in
    not_below cut.value.call number.least (subst (λ (t : TurnOf). t.call <ℤ pos 1) (sym one) low)

-- a number has one version
numbered_once : (a b : Version) → version_number a ≡ version_number b → a ≡ b
numbered_once First First e = refl
numbered_once Second Second e = refl
numbered_once Third Third e = refl
numbered_once Fourth Fourth e = refl
numbered_once _ _ e = absurd cc

version_once : (a b : Version) → witness_header a ≡ witness_header b → a ≡ b
version_once a b e = numbered_once a b (let same : version_number a ≡ version_number b = cc in same)

no_faulty : (items more : List Tree) (item : Tree) (kind : RecordKind) → AreRightInWitness (items ++ item ∷ more) → WitnessItemFault items item kind → ⊥
no_faulty [] more item kind right f = f.0 right.0 right.1
no_faulty (header ∷ records) more item kind right f =
    let one : f.0 ≡ right.0 = version_once f.0 right.0 (sym f.1 ∙ right.1) in
    no_turn_fault right.0 records more item kind right.2 (subst (λ (v : Version). TurnItemFault v item kind) one f.2)

one_turn_fault : (version : Version) (item : Tree) (j k : RecordKind) → TurnItemFault version item j → TurnItemFault version item k → j ≡ k
one_turn_fault version item j k (no_turn n e) (no_turn n' e') = e ∙ sym e'
one_turn_fault version item j k (no_turn n e) (below_one turn p i low e') = absurd (n turn p i)
one_turn_fault version item j k (below_one turn p i low e) (no_turn n e') = absurd (n turn p i)
one_turn_fault version item j k (below_one turn p i low e) (below_one turn' p' i' low' e') = e ∙ sym e'

one_item : (items : List Tree) (item : Tree) (j k : RecordKind) → WitnessItemFault items item j → WitnessItemFault items item k → j ≡ k
one_item [] item j k f g = f.1 ∙ sym g.1
one_item (header ∷ records) item j k f g =
    let one : f.0 ≡ g.0 = version_once f.0 g.0 (sym f.1 ∙ g.1) in
    one_turn_fault g.0 item j k (subst (λ (v : Version). TurnItemFault v item j) one f.2) g.2

one_end : (bytes : List ℕ) (items : List Tree) (o p : ℕ) (j k : RecordKind) → WitnessEndFault bytes items o j → WitnessEndFault bytes items p k → (o ≡ p) × (j ≡ k)
one_end bytes [] o p j k f g = (f.0 ∙ sym g.0, f.1 ∙ sym g.1)
one_end bytes (header ∷ records) o p j k f g = absurd f

pub one_witness_fault_lem : (bytes : List ℕ) (o p : ℕ) (j k : RecordKind) → WitnessFault bytes o j → WitnessFault bytes p k → (o ≡ p) × (j ≡ k)
one_witness_fault_lem = one_fault AreRightInWitness WitnessItemFault WitnessEndFault no_faulty one_item one_end

pub no_fault_of_witness_lem : (bytes : List ℕ) (turns : List TurnOf) (offset : ℕ) (kind : RecordKind) → IsWitness bytes turns → ¬ (WitnessFault bytes offset kind)
no_fault_of_witness_lem bytes turns offset kind t =
    no_fault AreRightInWitness WitnessItemFault WitnessEndFault no_faulty bytes (witness_header t.version ∷ map turn_item turns) offset kind
    (record { right = (t.version, refl, record { turns = turns; are = refl; admitted = t.admitted; numbered = t.numbered }); begins = t.spelled }) (λ f. f)

pub one_witness_lem : (bytes : List ℕ) (turns others : List TurnOf) → IsWitness bytes turns → IsWitness bytes others → turns ≡ others
one_witness_lem bytes turns others t u =
    elim (compare (witness_header t.version ∷ map turn_item turns) (witness_header u.version ∷ map turn_item others) bytes [] [] t.spelled u.spelled) [
      | same e r ↦ items_once turns others (let tail : map turn_item turns ≡ map turn_item others = cc in tail)
      | shorter y more e b ↦ absurd (nothing_more y more [] b)
      | longer x more e b ↦ absurd (nothing_more x more [] b)
    ]
