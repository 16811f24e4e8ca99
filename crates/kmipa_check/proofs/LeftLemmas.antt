-- What a ledger's declaration describes is what the ledger stands for.
use Rattle.std.proofs.Common.{◌≡◌, ◌≢◌, ◌<◌, ◌≤◌, ◌*◌, ◌==◌, ℕ, zero, suc, ℤ, pos, negsuc, Bool, true, false, nat_lt, List, [], ◌∷◌, map, length, get_or, is_none, is_some, IfSome, Option, Some, None, option_map, slice_get, All, AllPairs, refl, sym, ap, ◌∙◌, subst, arith}
use Rattle.std.specs.Prelude.{unwrap_or}
use Rattle.std.specs.List.{AllZip}
use Rattle.std.proofs.lemmas.Bool.{and_parts}
use Rattle.std.proofs.lemmas.Bool.Decides.{Decides-eqb}
use Rattle.std.proofs.lemmas.Option.{slice_get-get_or}
use Rattle.kmipa_object.specs.Inventory.{Card, Thing, Admitted, HasBytes, admits, live, rule_of}
use Rattle.kmipa_object.specs.declared.life.Material.{Material}
use Rattle.kmipa_object.specs.declared.life.Material.TheVariants.{Gone, Secret}
use Rattle.kmipa_object.specs.declared.life.SecretNo.{SecretNo}
use Rattle.kmipa_object.specs.declared.rule.Rule.{Rule}
use Rattle.kmipa_store.specs.Ledger.{Held, Known, Meaning, bytes_at}
use Rattle.kmipa_store.specs.Choices.{Choice, Chooses, Suits, Agrees, InRange, GoneIfDestroyed, IsSound, bytes_of, inv, thing}
use Rattle.kmipa_store.proofs.ChoiceLemmas.{override, override_same, override_agrees, agrees_same, Chooses-override}
use Rattle.kmipa_store.proofs.SoundLemmas.{inventory_of}
use Rattle.kmipa_record.specs.Entries.{EntryOf, IsDeclarable, AreWholeBytes, key_bits}
use Rattle.kmipa_record.specs.Declarations.{DeclarationOf, AreDeclared}
use Rattle.kmipa_check.specs.Described.{Describes, IsDescribed}
use Rattle.std.proofs.lemmas.List.{take_all}
use Rattle.kmipa_record.specs.Marks.{MarkOf}
use Rattle.kmipa_record.specs.Witnesses.{TurnOf}
use Rattle.kmipa_check.specs.Calls.{CallOf, AreCalls}
use Rattle.kmipa_check.specs.Grants.{grants_declared}
use Rattle.kmipa_check.specs.Orders.{IsOrder}
use Rattle.kmipa_check.specs.Replays.{Replayed}
use Rattle.kmipa_check.proofs.ReplayLemmas.{is_placed}
use Rattle.kmipa_check.specs.declared.verdict.Verdict.TheVariants.{Yes}
use Rattle.kmipa_ops.specs.Ascending.{SecretsAscend}
use Rattle.kmipa_check.specs.declared.verdict.Verdict.{Verdict}
use Rattle.kmipa_check.specs.declared.verdict.Verdict.TheVariants.{No}
use Rattle.kmipa_check.specs.Left.{LeavesAtYes, IsLeft, LeavesDeclaration, attributes_left, bytes_left, entry_left, declaration_left}
use Rattle.kmipa_check.specs.Runs.{Linked, rules_declared}
use Rattle.kmipa_check.specs.Steps.{StepOf}
use Rattle.kmipa_check.specs.Verdicts.{AreKnown}
use Rattle.kmipa_check.proofs.DescribedLemmas.{dead_bytes, live_bytes, thing_is}
use Rattle.kmipa_check.proofs.DeclarableLemmas.{rule_bits, rule_declared}
use Rattle.kmipa_check.proofs.PlaceLemmas.{mapped_from}

-- ---- one object

-- a secret that is there is told by its number
pub told_at : (ss : List Known) (n : ℕ) (k : Known) → slice_get ss n ≡ Some k → unwrap_or (bytes_at ss n) None ≡ k.bytes
told_at ss n k at = ap (λ (o : Option Known). unwrap_or (option_map (λ (x : Known). x.bytes) o) None) at

-- a destroyed object's bytes are gone, and a live one's are in a secret
gone_is : (material : Material) (alive : Bool) → alive ≡ false → GoneIfDestroyed alive material → material ≡ Gone
gone_is Gone alive e g = refl
gone_is (Secret s) alive e g = let P : Bool → Type 0 = λ b. GoneIfDestroyed b (Secret s) in absurd (subst P e g)

pub dead_is : (alive : Bool) → GoneIfDestroyed alive Gone → alive ≡ false
dead_is true g = absurd g
dead_is false g = refl

pub live_is : (alive : Bool) (s : SecretNo) → GoneIfDestroyed alive (Secret s) → alive ≡ true
live_is true s g = refl
live_is false s g = absurd g

-- the object under a choice is the one that its entry declares
module _ (ss : List Known) (h : Held) where
  described_by : (material : Material) → h.material ≡ material
      → ((s : SecretNo) → material ≡ Secret s → (known : Option (List ℕ)) × (slice_get ss s.number ≡ Some (record { rule = rule_of h.card; bytes = known })))
      → (c : Choice) → Chooses ss c → (b : List ℕ) → bytes_left ss material ≡ Some b → bytes_of c material ≡ Some b
  described_by Gone is there c ch b e = absurd cc
  described_by (Secret s) is there c ch b e =
      let k = there s refl in
      let known : k.0 ≡ Some b = sym (told_at ss s.number (record { rule = rule_of h.card; bytes = k.0 }) k.1) ∙ e in
      ap Some ((ch.suits s.number (record { rule = rule_of h.card; bytes = k.0 }) k.1).known b known)

  is_described : ((s : SecretNo) → h.material ≡ Secret s → (known : Option (List ℕ)) × (slice_get ss s.number ≡ Some (record { rule = rule_of h.card; bytes = known })))
      → (c : Choice) → Chooses ss c → IsDescribed (entry_left ss h) (thing c h)
  is_described there c ch = record { card = refl; bytes = λ b e. described_by h.material refl there c ch b e }

-- ---- all objects, from a choice

all_described : (ss : List Known) (hs : List Held) → InRange hs ss → (c : Choice) → Chooses ss c → AllZip IsDescribed (map (entry_left ss) hs) (inv c hs)
all_described ss [] r c ch = tt
all_described ss (h ∷ hs) r c ch =
    (is_described ss h (λ s e. r.there 0 h s refl e) c ch, all_described ss hs (record { there = λ p g s at e. r.there (suc p) g s at e }) c ch)

-- ---- a choice, from all objects

-- a choice whose first secrets are those of another, and that gives these things
record ChosenFrom (ss : List Known) (hs : List Held) (things : List Thing) (n : ℕ) (c : Choice) : Type 0 where
  choice : Choice
  chooses : Chooses ss choice
  agrees : Agrees n c choice
  same : things ≡ inv choice hs

abbrev AllHaveBytes : List Thing → Type 0
AllHaveBytes things = (i : ℕ) (t : Thing) → slice_get things i ≡ Some t → HasBytes (live t.card) (rule_of t.card) t.bytes

abbrev AllFrom : ℕ → List Held → Type 0
AllFrom n hs = (p : ℕ) (h : Held) (s : SecretNo) → slice_get hs p ≡ Some h → h.material ≡ Secret s → n ≤ s.number

abbrev AllGone : List Held → Type 0
AllGone hs = (p : ℕ) (h : Held) → slice_get hs p ≡ Some h → GoneIfDestroyed (live h.card) h.material

ascend_rest : (h : Held) (hs : List Held) → SecretsAscend (h ∷ hs) → SecretsAscend hs
ascend_rest h hs a = record { ascend = λ p q f g s t below x y u v. a.ascend (suc p) (suc q) f g s t (omega (arith, below)) x y u v }

module _ (ss : List Known) where
  -- with an object that is destroyed
  with_dead : (h : Held) (hs : List Held) (t : Thing) (things : List Thing) (n : ℕ) (c : Choice) → h.material ≡ Gone → t.card ≡ h.card → t.bytes ≡ None
      → ChosenFrom ss hs things n c → ChosenFrom ss (h ∷ hs) (t ∷ things) n c
  with_dead h hs t things n c gone card none f =
      let own : t ≡ thing f.choice h = thing_is t h.card (bytes_of f.choice h.material) card (none ∙ ap (bytes_of f.choice) (sym gone)) in
      record { choice = f.choice; chooses = f.chooses; agrees = f.agrees; same = ap (λ (x : Thing). x ∷ things) own ∙ ap (λ (x : List Thing). thing f.choice h ∷ x) f.same }

  -- with one that is live
  with_live : (h : Held) (hs : List Held) (t : Thing) (things : List Thing) (n : ℕ) (c : Choice) (s : SecretNo) (b : List ℕ) → h.material ≡ Secret s → t.card ≡ h.card → t.bytes ≡ Some b
      → n ≤ s.number → ChosenFrom ss hs things (suc s.number) (override c s.number b) → ChosenFrom ss (h ∷ hs) (t ∷ things) n c
  with_live h hs t things n c s b is card has from f =
      let here : f.choice s.number ≡ b = f.agrees s.number (omega arith) ∙ override_same c s.number b in
      let own : t ≡ thing f.choice h = thing_is t h.card (bytes_of f.choice h.material) card (has ∙ ap Some (sym here) ∙ ap (bytes_of f.choice) (sym is)) in
      record {
        choice = f.choice;
        chooses = f.chooses;
        agrees = λ k below. f.agrees k (omega (arith, below, from)) ∙ override_agrees c s.number b k (omega (arith, below, from));
        same = ap (λ (x : Thing). x ∷ things) own ∙ ap (λ (x : List Thing). thing f.choice h ∷ x) f.same;
      }

  choose : (hs : List Held) (things : List Thing) (n : ℕ) (c : Choice) → InRange hs ss → AllGone hs → SecretsAscend hs → AllFrom n hs → Chooses ss c → AllHaveBytes things
      → AllZip IsDescribed (map (entry_left ss) hs) things → ChosenFrom ss hs things n c
  choose [] [] n c r g a from ch has z = record { choice = c; chooses = ch; agrees = agrees_same n c; same = refl }
  choose [] (t ∷ things) n c r g a from ch has z = absurd z
  choose (h ∷ hs) [] n c r g a from ch has z = absurd z
  choose (h ∷ hs) (t ∷ things) n c r g a from ch has z =
      by (λ m d more chosen. choose hs things m d (record { there = λ p x s at e. r.there (suc p) x s at e }) (λ p x at. g (suc p) x at) (ascend_rest h hs a) more chosen (λ i x at. has (suc i) x at) z.1)
      h.material refl
    where
      by : ((m : ℕ) (d : Choice) → AllFrom m hs → Chooses ss d → ChosenFrom ss hs things m d) → (material : Material) → h.material ≡ material → ChosenFrom ss (h ∷ hs) (t ∷ things) n c
      by rest Gone is =
          let P : Material → Type 0 = λ m. GoneIfDestroyed (live h.card) m in
          let dead : live t.card ≡ false = ap live z.0.card ∙ dead_is (live h.card) (subst P is (g 0 h refl)) in
          with_dead h hs t things n c is z.0.card (dead_bytes (live t.card) (rule_of t.card) t.bytes dead (has 0 t refl)) (rest n c (λ p x s at e. from (suc p) x s at e) ch)
      by rest (Secret s) is =
          let P : Material → Type 0 = λ m. GoneIfDestroyed (live h.card) m in
          let alive : live t.card ≡ true = ap live z.0.card ∙ live_is (live h.card) s (subst P is (g 0 h refl)) in
          let b = live_bytes (live t.card) (rule_of t.card) t.bytes alive (has 0 t refl) in
          let k = r.there 0 h s refl is in
          let suits : Suits (record { rule = rule_of h.card; bytes = k.0 }) b.0 = record {
            admitted = subst (λ (x : Card). Admitted (rule_of x) b.0) z.0.card b.2;
            known = λ v e.
                let told : bytes_left ss h.material ≡ Some v = ap (bytes_left ss) is ∙ told_at ss s.number (record { rule = rule_of h.card; bytes = k.0 }) k.1 ∙ e in
                let same : Some b.0 ≡ Some v = sym b.1 ∙ z.0.bytes v told in
                cc;
          } in
          with_live h hs t things n c s b.0 is z.0.card b.1 (from 0 h s refl is)
          (rest (suc s.number) (override c s.number b.0) (λ p x u at e. a.ascend 0 (suc p) h x s u (omega arith) refl at is e)
          (Chooses-override ss s.number (record { rule = rule_of h.card; bytes = k.0 }) b.0 c k.1 suits ch))

-- ---- each entry may be declared

whole_of : (bits : Option ℤ) (bytes : List ℕ) → admits (rule_bits bits) bytes ≡ true → IfSome bits AreWholeBytes
whole_of None bytes h = tt
whole_of (Some (negsuc n)) bytes h = absurd cc
whole_of (Some (pos n)) bytes h =
    let p = and_parts (nat_lt 0 n) (n == 8 * length bytes) h in
    let e : n ≡ 8 * length bytes = (Decides-eqb n (8 * length bytes)).0 p.1 in
    record { count = length bytes; some = some n (length bytes) p.0 e; filled = ap pos e }
  where
    some : (n count : ℕ) → nat_lt 0 n ≡ true → n ≡ 8 * count → 0 < count
    some n zero h e = let z : n ≡ 0 = omega (arith, e) in let P : ℕ → Type 0 = λ x. nat_lt 0 x ≡ true in let bad = subst P z h in absurd cc
    some n (suc count) h e = omega arith

fits_of : (bits : Option ℤ) (bytes : List ℕ) → admits (rule_bits bits) bytes ≡ true → IfSome bits (λ b. b ≡ pos (8 * length bytes))
fits_of None bytes h = tt
fits_of (Some (negsuc n)) bytes h = absurd cc
fits_of (Some (pos n)) bytes h = let p = and_parts (nat_lt 0 n) (n == 8 * length bytes) h in ap pos ((Decides-eqb n (8 * length bytes)).0 p.1)

module _ (ss : List Known) (h : Held) (c : Choice) (ch : Chooses ss c) (g : GoneIfDestroyed (live h.card) h.material)
    (there : (s : SecretNo) → h.material ≡ Secret s → (known : Option (List ℕ)) × (slice_get ss s.number ≡ Some (record { rule = rule_of h.card; bytes = known }))) where
  abbrev bits : Option ℤ
  bits = key_bits h.card.kind (attributes_left h.card)

  admitted_bits : (b : List ℕ) → Admitted (rule_of h.card) b → admits (rule_bits bits) b ≡ true
  admitted_bits b a = ap (λ (r : Rule). admits r b) (sym (rule_declared h.card.kind (attributes_left h.card))) ∙ a.admitted

  its_bytes : (material : Material) → h.material ≡ material → (b : List ℕ) → bytes_left ss material ≡ Some b → Admitted (rule_of h.card) b
  its_bytes Gone is b e = absurd cc
  its_bytes (Secret s) is b e =
      let k = there s is in
      let known : k.0 ≡ Some b = sym (told_at ss s.number (record { rule = rule_of h.card; bytes = k.0 }) k.1) ∙ e in
      let u = ch.suits s.number (record { rule = rule_of h.card; bytes = k.0 }) k.1 in
      subst (λ (x : List ℕ). Admitted (rule_of h.card) x) (u.known b known) u.admitted

  -- a live object has some bytes that its rule admits
  some_bytes : (material : Material) → h.material ≡ material → h.card.dates.destroy ≡ None → (b : List ℕ) × Admitted (rule_of h.card) b
  some_bytes Gone is alive =
      let P : Material → Type 0 = λ m. GoneIfDestroyed (live h.card) m in
      let dead = dead_is (live h.card) (subst P is g) in
      let lives : live h.card ≡ true = ap is_none alive in
      absurd cc
  some_bytes (Secret s) is alive = let k = there s is in (c s.number, (ch.suits s.number (record { rule = rule_of h.card; bytes = k.0 }) k.1).admitted)

  if_some : {X : Type 0} (P : X → Type 0) (o : Option X) → ((x : X) → o ≡ Some x → P x) → IfSome o P
  if_some P None f = tt
  if_some P (Some x) f = f x refl

  some_not_none : {X : Type 0} (o : Option X) → is_some o ≡ true → is_none o ≡ false
  some_not_none None e = cc
  some_not_none (Some x) e = refl

  declarable : IsDeclarable (entry_left ss h)
  declarable = record {
    gone = λ some. ap (bytes_left ss) (gone_is h.material (live h.card) (some_not_none h.card.dates.destroy some) g);
    whole = λ alive. let b = some_bytes h.material refl alive in whole_of bits b.0 (admitted_bits b.0 b.1);
    fitting = λ alive. if_some (λ bytes. IfSome bits (λ n. n ≡ pos (8 * length bytes))) (bytes_left ss h.material) (λ b e. fits_of bits b (admitted_bits b (its_bytes h.material refl b e)));
    small = if_some (λ bytes. All (λ x. x < 256) bytes) (bytes_left ss h.material) (λ b e. (its_bytes h.material refl b e).small);
  }

-- ---- all together

module _ (declared : DeclarationOf) (m : Meaning) (sound : IsSound m) where
  abbrev made : DeclarationOf
  made = declaration_left declared m

  entry_at : (k : ℕ) (d : EntryOf) → k < length made.entries → (h : Held) × (slice_get m.objects k ≡ Some h) × (entry_left m.secrets h ≡ get_or made.entries k d)
  entry_at k d below = mapped_from (entry_left m.secrets) m.objects k (get_or made.entries k d) (slice_get-get_or made.entries k d below)

  pub left_declared : AreDeclared made
  left_declared = record { each = each; distinct = distinct }
    where
      each : All IsDeclarable made.entries
      each k d below =
          let h = entry_at k d below in
          let P : EntryOf → Type 0 = λ e. IsDeclarable e in
          subst P h.2 (declarable m.secrets h.0 sound.choice.0 sound.choice.1 (sound.gone k h.0 h.1) (λ s e. sound.in_range.there k h.0 s h.1 e))

      distinct : AllPairs (λ (a b : EntryOf). a.id ≢ b.id) made.entries
      distinct i j d below within same =
          let g = entry_at i d (omega (arith, below, within)) in
          let h = entry_at j d within in
          let id : EntryOf → List ℕ = λ e. e.id in
          let e : i ≡ j = sound.distinct i j g.0 h.0 g.1 h.1 (ap id g.2 ∙ same ∙ sym (ap id h.2)) in
          omega (arith, below, e)

  pub left_describes : SecretsAscend m.objects → (V : List Thing) → Describes made V → (c : Choice) × Chooses m.secrets c × (V ≡ inv c m.objects)
  left_describes a V d =
      let f = choose m.secrets m.objects V 0 sound.choice.0 sound.in_range sound.gone a (λ p h s at e. omega arith) sound.choice.1 (λ i t at. d.inventory.bytes i t at) d.objects in
      (f.choice, f.chooses, f.same)

  pub describes_left : (c : Choice) → Chooses m.secrets c → Describes made (inv c m.objects)
  describes_left c ch = record { inventory = inventory_of m c sound ch; objects = all_described m.secrets m.objects sound.in_range c ch }

  -- so that it is what the steps leave by which the ledger knows what it knows
  pub is_left_lem : (steps : List StepOf) → AreKnown declared steps m → IsLeft declared steps made
  is_left_lem steps k = record {
    objects = left_declared;
    rules = refl;
    grants = refl;
    exactly = λ V. (
      (λ d.
          let q = left_describes k.ascends V d in
          let f = k.sound q.0 q.1 in
          let P : List Thing → Type 0 = λ X. Linked (rules_declared declared) f.0 steps X in
          (f.0, f.1, subst P (sym q.2) f.2)),
      (λ e.
          let q = k.complete e.0 V e.1 e.2 in
          let P : List Thing → Type 0 = λ X. Describes made X in
          subst P (sym q.2) (describes_left q.0 q.1)),
    );
  }

-- a replay to the end leaves what the declaration of its ledger describes
pub replayed_leaves : (marks : List MarkOf) (declared : DeclarationOf) (turns : List TurnOf) (calls : List CallOf) (order : List StepOf) (m : Meaning) (left : DeclarationOf) → AreCalls marks calls
    → IsOrder (grants_declared declared) calls turns order → Replayed declared order (length order) m → left ≡ declaration_left declared m → (l : LeavesDeclaration marks declared turns left) × (l.steps ≡ order)
replayed_leaves marks declared turns calls order m left are o r is =
    let P : List StepOf → Type 0 = λ steps. AreKnown declared steps m in
    let Q : DeclarationOf → Type 0 = λ d. IsLeft declared order d in (
      record {
        calls = calls;
        are = are;
        steps = order;
        order = o;
        placed = is_placed order r.placed;
        leaves = subst Q (sym is) (is_left_lem declared m r.sound order (subst P (take_all (length order) order (omega arith)) r.known));
      },
      refl,
    )

pub at_yes_map : {D : Type 0} (P Q : D → Type 0) (v : Verdict) (o : Option D) → ((x : D) → P x → Q x) → LeavesAtYes v o P → LeavesAtYes v o Q
at_yes_map P Q Yes (Some x) f h = f x h
at_yes_map P Q Yes None f h = h
at_yes_map P Q (No r) (Some x) f h = h
at_yes_map P Q (No r) None f h = h
