-- Create and Register: what a ledger leaves that added their object; they keep the laws of operations.
use Rattle.std.proofs.Common.{◌≡◌, ◌<◌, ℕ, ℤ, Bool, true, false, not, List, [], ◌∷◌, ◌++◌, length, All, is_some, ◌==◌, Option, Some, None, refl, ap, sym, ◌∙◌, subst, arith, length-append, slice_get, find, option_map, inl, inr, bytes_eq, ◌&&◌}
use Rattle.std.proofs.lemmas.Bool.Decides.{Decides-eqb}
use Rattle.kmipa_attrs.specs.Sets.{Attributes, NameOf}
use Rattle.kmipa_attrs.specs.ObjectTypes.{type_number}
use Rattle.kmipa_attrs.specs.declared.object_type.ObjectType.{ObjectType}
use Rattle.kmipa_attrs.specs.declared.object_type.ObjectType.TheVariants.{SymmetricKey}
use Rattle.kmipa_object.specs.Inventory.{given_of, Card, Thing, Admitted, place_of, rule_for, rule_of, admits, possible, live}
use Rattle.kmipa_object.specs.declared.life.Material.TheVariants.{Secret}
use Rattle.kmipa_object.proofs.RuleLemmas.{possible_admits, admits_possible}
use Rattle.kmipa_store.specs.Ledger.{Held, Known, Meaning, cards_of}
use Rattle.kmipa_store.specs.Choices.{Choice, Suits, Chooses, Agrees, inv, thing, IsSound}
use Rattle.kmipa_store.proofs.ChoiceLemmas.{override, override_same, override_agrees, Chooses-fewer, Chooses-last, Chooses-more, extends_push}
use Rattle.kmipa_store.proofs.InventoryLemmas.{cards-inv, inv-append, inv-same}
use Rattle.kmipa_msgs.specs.Messages.{RulesOf, RegisterOf, RegisteredOf, created, registered}
use Rattle.kmipa_ops.specs.declared.why.Why.{Why}
use Rattle.kmipa_ops.specs.declared.why.Why.TheVariants.{IdentifierTaken, NameTaken, LengthImpossible, EchoDiffers}
use Rattle.kmipa_ops.specs.Objects.{Echoes, is_named, HasNameOf}
use Rattle.kmipa_ops.specs.Register.{brought, Registers, register_speaks, register_says, register_leaves, register_deed, register_judging, RegisterReason}
use Rattle.kmipa_ops.specs.Adding.{newborn, name_taken, AddsObject, adding_speaks, with_own, AddingReason}
use Rattle.kmipa_ops.specs.Create.{Creates, create_speaks, create_says, create_leaves, create_deed, create_judging, CreateReason}
use Rattle.kmipa_ops.proofs.TestLemmas.{not_false, not_some, echoes_if, echoes_not, some_if, some_not, not_decides}
use Rattle.kmipa_ops.proofs.AddLemmas.{own_sound}
use Rattle.kmipa_ops.proofs.StepLemmas.{Step, step_as}
use Rattle.kmipa_object.proofs.ListLemmas.{get-append_cases}
use Rattle.kmipa_ops.specs.Explains.{shows}
use Rattle.kmipa_ops.proofs.LearnLemmas.{known_at}
use Rattle.kmipa_ops.proofs.DeedLaws.{Learns, outer_whys, IsDeed}
use Rattle.std.specs.Bool.{Decides}
use Rattle.std.specs.List.{Contains, list_any}
use Rattle.std.proofs.lemmas.Bool.{and_parts, and_from}
use Rattle.std.proofs.lemmas.Slice.Eq.{bytes_eq-Decides}
use Rattle.kmipa_object.specs.declared.rule.Rule.{Rule}
use Rattle.kmipa_ops.proofs.ConditionLemmas.{never_decides, differs_decides}
use Rattle.kmipa_ops.proofs.NameLemmas.{named_decides}
use Rattle.kmipa_ops.proofs.ScanLemmas.{found_any}
use Rattle.kmipa_msgs.specs.Creates.{AnswersCreate}
use Rattle.kmipa_msgs.specs.Registers.{AnswersRegister}
use Rattle.kmipa_msgs.specs.Sayable.{SaysNew}

module _ (rules : RulesOf) (m : Meaning) (t : ℤ) (kind : ObjectType) (a : Attributes) (known : Option (List ℕ)) (x : RegisteredOf) where
  abbrev card : Card
  card = newborn t x.id kind a

  abbrev secret : Known
  secret = record { rule = rule_of card; bytes = known }

  abbrev object : Held
  object = record { card = card; material = Secret (record { number = length m.secrets }) }

  abbrev n : Meaning
  n = with_own m card known

  -- the object is added with some bytes, the known ones where they are known
  abbrev pub Born : List Thing → List Thing → Option (List ℕ) → Type 0
  Born V V' p = (bytes : List ℕ) × ((k : List ℕ) → known ≡ Some k → bytes ≡ k) × AddsObject rules V t kind a bytes x V' p

  links : place_of x.id (cards_of m.objects) ≡ None → name_taken rules (cards_of m.objects) a.names ≡ false → Echoes x.object_type (type_number kind)
      → (c : Choice) → Chooses n.secrets c → Born (inv c m.objects) (inv c n.objects) (Some x.id)
  links free names echo c h =
      let u : Suits secret (c (length m.secrets)) = Chooses-last m.secrets secret c h in (
        c (length m.secrets),
        u.known,
        record {
          free = ap (place_of x.id) (cards-inv c m.objects) ∙ free;
          names = ap (λ (cs : List Card). name_taken rules cs a.names) (cards-inv c m.objects) ∙ names;
          admitted = u.admitted;
          echo = echo;
          leaves = inv-append c m.objects object;
          placeholder = refl;
        },
      )

  reaches : IsSound m → (c : Choice) → Chooses m.secrets c → (V : List Thing) (p : Option (List ℕ)) → Born (inv c m.objects) V p
      → (d : Choice) × Chooses n.secrets d × Agrees (length m.secrets) c d × (V ≡ inv d n.objects) × (p ≡ Some x.id)
  reaches sound c h V p y =
      let b : List ℕ = y.0 in
      let d : Choice = override c (length m.secrets) b in
      let one : inv c m.objects ++ record { card = card; bytes = Some b } ∷ [] ≡ inv d m.objects ++ thing d object ∷ [] =
      ap (λ (z : List ℕ). inv c m.objects ++ record { card = card; bytes = Some z } ∷ []) (sym (override_same c (length m.secrets) b))
      ∙ ap (λ (vs : List Thing). vs ++ thing d object ∷ []) (sym (inv-same m.objects m.secrets c d sound.in_range (override_agrees c (length m.secrets) b))) in (
        d,
        Chooses-more m.secrets secret c b h (record { admitted = y.2.admitted; known = y.1 }),
        override_agrees c (length m.secrets) b,
        y.2.leaves ∙ one ∙ sym (inv-append d m.objects object),
        y.2.placeholder,
      )

  newborn_step : (b : List ℕ) (has_bytes : Bool) → IsSound m → Suits secret b → ((w : Why) → adding_speaks rules (cards_of m.objects) kind a.names has_bytes x w ≡ false) → Step Born m n (Some x.id)
  newborn_step b has_bytes sound suits silent =
      let free = not_some (place_of x.id (cards_of m.objects)) (silent IdentifierTaken) in
      let echo = echoes_if (λ (i j : ℕ). i == j) Decides-eqb x.object_type (type_number kind) (silent EchoDiffers) in
      record {
        sound = λ c h. (Chooses-fewer m.secrets secret c h, links free (silent NameTaken) echo c h);
        complete = reaches sound;
        grows = omega (arith, length-append m.secrets (secret ∷ []));
        extends = extends_push m.secrets secret;
        kept = own_sound m card known b sound free refl suits;
      }

  -- what speaks against it allows no choice
  newborn_never : (b : List ℕ) (has_bytes : Bool) (w : Why) → adding_speaks rules (cards_of m.objects) kind a.names has_bytes x w ≡ true → has_bytes ≡ true
      → (c : Choice) (V : List Thing) (p : Option (List ℕ)) → AddsObject rules (inv c m.objects) t kind a b x V p → ⊥
  newborn_never b has_bytes IdentifierTaken h can c V p y =
      let e : is_some (place_of x.id (cards_of m.objects)) ≡ false = ap is_some (ap (place_of x.id) (sym (cards-inv c m.objects)) ∙ y.free) in
      cc
  newborn_never b has_bytes NameTaken h can c V p y =
      let e : name_taken rules (cards_of m.objects) a.names ≡ false = ap (λ (cs : List Card). name_taken rules cs a.names) (sym (cards-inv c m.objects)) ∙ y.names in
      cc
  newborn_never b has_bytes LengthImpossible h can c V p y = let e : not has_bytes ≡ false = ap not can in cc
  newborn_never b has_bytes EchoDiffers h can c V p y = echoes_not (λ (i j : ℕ). i == j) Decides-eqb x.object_type (type_number kind) h y.echo
  newborn_never b has_bytes w h can c V p y = cc

module _ (rules : RulesOf) (m : Meaning) (t : ℤ) (a : Attributes) (x : RegisteredOf) where
  -- a Create, whose bytes nobody knows
  pub create_step : IsSound m → ((w : Why) → create_speaks rules (cards_of m.objects) a x w ≡ false)
      → Step (λ V V' p. Creates rules V t a x V' p) m (with_own m (newborn t x.id SymmetricKey a) None) (Some x.id)
  create_step sound silent =
      let rule = rule_for SymmetricKey (given_of a) in
      let can = possible_admits rule (not_false (possible rule) (silent LengthImpossible)) in
      let suits : Suits (record { rule = rule; bytes = None }) can.0 = record { admitted = can.1; known = λ k q. let bad : ⊥ = cc in absurd bad } in
      step_as (Born rules m t SymmetricKey a None x) (λ V V' p. Creates rules V t a x V' p) m (with_own m (newborn t x.id SymmetricKey a) None) (Some x.id)
      (λ V V' p y. (y.0, y.2))
      (λ V V' p y. (y.0, (λ k q. let bad : ⊥ = cc in absurd bad), y.1))
      (newborn_step rules m t SymmetricKey a None x can.0 (possible rule) sound suits silent)

  pub create_never : (w : Why) → create_speaks rules (cards_of m.objects) a x w ≡ true → (c : Choice) (V : List Thing) (p : Option (List ℕ)) → Creates rules (inv c m.objects) t a x V p → ⊥
  create_never w h c V p y =
      let rule = rule_for SymmetricKey (given_of a) in
      newborn_never rules m t SymmetricKey a None x y.0 (possible rule) w h (admits_possible rule y.0 y.1.admitted.admitted) c V p y.1

module _ (rules : RulesOf) (m : Meaning) (t : ℤ) (r : RegisterOf) (x : RegisteredOf) where
  -- a Register, which brings the bytes
  pub register_step : IsSound m → All (λ b. b < 256) r.block.material → ((w : Why) → register_speaks rules (cards_of m.objects) r x w ≡ false)
      → Step (λ V V' p. Registers rules V t r x V' p) m (with_own m (newborn t x.id r.object_type (brought r)) (Some r.block.material)) (Some x.id)
  register_step sound small silent =
      let b : List ℕ = r.block.material in
      let rule = rule_for r.object_type (given_of (brought r)) in
      let admitted : Admitted rule b = record { admitted = not_false (admits rule b) (silent LengthImpossible); small = small } in
      let suits : Suits (record { rule = rule; bytes = Some b }) b = record { admitted = admitted; known = λ k q. cc } in
      step_as (Born rules m t r.object_type (brought r) (Some b) x) (λ V V' p. Registers rules V t r x V' p) m (with_own m (newborn t x.id r.object_type (brought r)) (Some b)) (Some x.id)
      (λ V V' p y. let P : List ℕ → Type 0 = λ z. AddsObject rules V t r.object_type (brought r) z x V' p in subst P (y.1 b refl) y.2)
      (λ V V' p y. (b, (λ k q. cc), y))
      (newborn_step rules m t r.object_type (brought r) (Some b) x b (admits rule b) sound suits silent)

  pub register_never : (w : Why) → register_speaks rules (cards_of m.objects) r x w ≡ true → (c : Choice) (V : List Thing) (p : Option (List ℕ)) → Registers rules (inv c m.objects) t r x V p → ⊥
  register_never w h c V p y =
      let b : List ℕ = r.block.material in
      newborn_never rules m t r.object_type (brought r) (Some b) x b (admits (rule_for r.object_type (given_of (brought r))) b) w h y.admitted.admitted c V p y

-- a new object of known bytes or unknown ones
learns_own : (m : Meaning) (card : Card) (known brought : Option (List ℕ)) → ((b : List ℕ) → known ≡ Some b → brought ≡ Some b) → Learns m (with_own m card known) brought None
learns_own m card known brought from number bytes e =
    let new : Known = record { rule = rule_of card; bytes = known } in
    let k = known_at (slice_get (m.secrets ++ new ∷ []) number) bytes e in
    elim (get-append_cases m.secrets new number k.0 k.1) [
      | inl q ↦ inl (ap (option_map (λ (y : Known). y.bytes)) q ∙ ap Some k.2)
      | inr q ↦ inr (inl (from bytes (ap (λ (y : Known). y.bytes) (sym q.1) ∙ k.2)))
    ]

quiet_create : (rules : RulesOf) (m : Meaning) (a : Attributes) (shown : Option RegisteredOf) → find (create_says rules m a shown) outer_whys ≡ None
quiet_create rules m a None = refl
quiet_create rules m a (Some x) = refl

quiet_register : (rules : RulesOf) (m : Meaning) (r : RegisterOf) (shown : Option RegisteredOf) → find (register_says rules m r shown) outer_whys ≡ None
quiet_register rules m r None = refl
quiet_register rules m r (Some x) = refl

learns_create : (m : Meaning) (t : ℤ) (a : Attributes) (shown : Option RegisteredOf) → Learns m (create_leaves m t a shown) None (shows (option_map created shown))
learns_create m t a None = λ number bytes e. inl e
learns_create m t a (Some x) = learns_own m (newborn t x.id SymmetricKey a) None None (λ b q. q)

learns_register : (m : Meaning) (t : ℤ) (r : RegisterOf) (shown : Option RegisteredOf) → Learns m (register_leaves m t r shown) (Some r.block.material) (shows (option_map registered shown))
learns_register m t r None = λ number bytes e. inl e
learns_register m t r (Some x) = learns_own m (newborn t x.id r.object_type (brought r)) (Some r.block.material) (Some r.block.material) (λ b q. q)

-- THEIR TESTS SAY WHAT THEIR REASONS MEAN

taken_decides : (cs : List Card) (id : List ℕ) → Decides (is_some (place_of id cs)) ((c : Card) × Contains cs c × (id ≡ c.id))
taken_decides cs id =
    let p : Card → Bool = λ c. bytes_eq id c.id in
    let dec : (c : Card) → Decides (p c) (id ≡ c.id) = λ c. bytes_eq-Decides id c.id in (
      λ h. some_if p (λ c. id ≡ c.id) dec cs (sym (found_any p 0 cs) ∙ h),
      λ x. found_any p 0 cs ∙ some_not p (λ c. id ≡ c.id) dec cs x.0 x.1 x.2,
    )

names_decides : (rules : RulesOf) (cs : List Card) (names : List NameOf) → Decides (name_taken rules cs names) ((rules.unique_names ≡ true) × (c : Card) × Contains cs c × (live c ≡ true) × HasNameOf names c)
names_decides rules cs names =
    let p : Card → Bool = λ c. live c && is_named names c in
    let P : Card → Type 0 = λ c. (live c ≡ true) × HasNameOf names c in
    let dec : (c : Card) → Decides (p c) (P c) =
    λ c. (
      λ h. let w = and_parts (live c) (is_named names c) h in (w.0, (named_decides names c).0 w.1),
      λ x. and_from (live c) (is_named names c) x.0 ((named_decides names c).1 x.1),
    ) in (
      λ h.
          let w = and_parts rules.unique_names (list_any p cs) h in
          let s = some_if p P dec cs w.1 in
          let both : P s.0 = s.2 in
          (w.0, s.0, s.1, both.0, both.1),
      λ x. and_from rules.unique_names (list_any p cs) x.0 (some_not p P dec cs x.1 x.2 (x.3, x.4)),
    )

possible_decides : (rule : Rule) → Decides (possible rule) ((bytes : List ℕ) × Admitted rule bytes)
possible_decides rule = (possible_admits rule, λ x. admits_possible rule x.0 x.1.admitted)

adding_decides : (rules : RulesOf) (cs : List Card) (kind : ObjectType) (names : List NameOf) (has_bytes : Bool) (HasBytes : Type 0) (x : RegisteredOf) → Decides has_bytes HasBytes
    → (why : Why) → Decides (adding_speaks rules cs kind names has_bytes x why) (AddingReason rules cs kind names HasBytes x why)
adding_decides rules cs kind names has_bytes HasBytes x dec IdentifierTaken = taken_decides cs x.id
adding_decides rules cs kind names has_bytes HasBytes x dec NameTaken = names_decides rules cs names
adding_decides rules cs kind names has_bytes HasBytes x dec LengthImpossible = not_decides has_bytes dec
adding_decides rules cs kind names has_bytes HasBytes x dec EchoDiffers = differs_decides (λ (a b : ℕ). a == b) Decides-eqb x.object_type (type_number kind)
adding_decides rules cs kind names has_bytes HasBytes x dec why = never_decides

create_decides : (rules : RulesOf) (m : Meaning) (a : Attributes) (shown : Option RegisteredOf) (why : Why) → Decides (create_says rules m a shown why) (CreateReason rules (cards_of m.objects) a shown why)
create_decides rules m a None why = never_decides
create_decides rules m a (Some x) why =
    adding_decides rules (cards_of m.objects) SymmetricKey a.names (possible (rule_for SymmetricKey (given_of a))) ((bytes : List ℕ) × Admitted (rule_for SymmetricKey (given_of a)) bytes) x (possible_decides (rule_for SymmetricKey (given_of a))) why

register_decides : (rules : RulesOf) (m : Meaning) (r : RegisterOf) (shown : Option RegisteredOf) (why : Why)
    → Decides (register_says rules m r shown why) (RegisterReason rules (cards_of m.objects) r shown why)
register_decides rules m r None why = never_decides
register_decides rules m r (Some x) why =
    adding_decides rules (cards_of m.objects) r.object_type r.attributes.names (admits (rule_for r.object_type (given_of (brought r))) r.block.material)
    (admits (rule_for r.object_type (given_of (brought r))) r.block.material ≡ true) x (λ h. h, λ h. h) why

-- and the same over ledgers with the same objects
create_same : (rules : RulesOf) (m n : Meaning) → cards_of m.objects ≡ cards_of n.objects → (a : Attributes) (shown : Option RegisteredOf) (why : Why) → create_says rules m a shown why ≡ create_says rules n a shown why
create_same rules m n same a None why = refl
create_same rules m n same a (Some x) why = ap (λ (cs : List Card). create_speaks rules cs a x why) same

register_same : (rules : RulesOf) (m n : Meaning) → cards_of m.objects ≡ cards_of n.objects → (r : RegisterOf) (shown : Option RegisteredOf) (why : Why) → register_says rules m r shown why ≡ register_says rules n r shown why
register_same rules m n same r None why = refl
register_same rules m n same r (Some x) why = ap (λ (cs : List Card). register_speaks rules cs r x why) same

pub is_create : (a : Attributes) → IsDeed (create_deed a) (create_judging a) AnswersCreate SaysNew
is_create a = record {
  back = λ x. refl;
  each = elim [ created x ↦ inl (x, refl) | _ ↦ inr (refl, λ ts s. s) ];
  carries = λ x. (λ h. (h, tt), λ h. h.0);
  quiet = λ rules m before t shown. quiet_create rules m a shown;
  covers = λ rules m before t x w h. cc;
  step = λ rules m before t x sound brought shown silent. create_step rules m t a x sound silent;
  never = λ rules m before t x w h c ch V p y. create_never rules m t a x w h c V p y;
  hidden = λ rules m before t may sound silent. let bad : ⊥ = cc in absurd bad;
  learns = λ m before t shown. learns_create m t a shown;
  decides = λ rules m before t shown w. create_decides rules m a shown w;
  same = λ rules m n same before t shown w. create_same rules m n same.0 a shown w;
}

pub is_register : (r : RegisterOf) → IsDeed (register_deed r) (register_judging r) AnswersRegister SaysNew
is_register r = record {
  back = λ x. refl;
  each = elim [ registered x ↦ inl (x, refl) | _ ↦ inr (refl, λ ts s. s) ];
  carries = λ x. (λ h. (h, tt), λ h. h.0);
  quiet = λ rules m before t shown. quiet_register rules m r shown;
  covers = λ rules m before t x w h. cc;
  step = λ rules m before t x sound brought shown silent. register_step rules m t r x sound brought silent;
  never = λ rules m before t x w h c ch V p y. register_never rules m t r x w h c V p y;
  hidden = λ rules m before t may sound silent. let bad : ⊥ = cc in absurd bad;
  learns = λ m before t shown. learns_register m t r shown;
  decides = λ rules m before t shown w. register_decides rules m r shown w;
  same = λ rules m n same before t shown w. register_same rules m n same.0 r shown w;
}
