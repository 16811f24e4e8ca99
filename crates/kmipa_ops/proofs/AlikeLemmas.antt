-- Over ledgers that stand for the same inventories the same reasons speak.
use Rattle.std.proofs.Common.{◌≡◌, ◌≢◌, ◌<◌, ◌||◌, ◌*◌, ◌==◌, ℕ, zero, suc, ℤ, pos, negsuc, Bool, true, false, not, nat_lt, List, [], ◌∷◌, slice_get, find, option_map, Option, Some, None, refl, ap, sym, ◌∙◌, subst, arith}
use Rattle.std.specs.Option.{option_and_then}
use Rattle.std.proofs.lemmas.Bool.{and_parts}
use Rattle.std.proofs.lemmas.Bool.Decides.{Decides-eqb}
use Rattle.std.proofs.lemmas.List.Elements.{All-cons, All-tail}
use Rattle.kmipa_object.specs.Inventory.{Card, Thing, cards, place_of, live, admits, rule_of, Admitted}
use Rattle.kmipa_object.specs.declared.life.Material.{Material}
use Rattle.kmipa_object.specs.declared.life.Material.TheVariants.{Gone, Secret}
use Rattle.kmipa_object.specs.declared.life.SecretNo.{SecretNo}
use Rattle.kmipa_object.specs.declared.rule.Rule.{Rule}
use Rattle.kmipa_object.specs.declared.rule.Rule.TheVariants.{Any, Bits}
use Rattle.kmipa_store.specs.Ledger.{Held, Known, Meaning, cards_of}
use Rattle.kmipa_store.specs.Choices.{Choice, Suits, Chooses, bytes_of, thing, inv, GoneIfDestroyed, IsSound}
use Rattle.kmipa_store.proofs.ChoiceLemmas.{override, override_same, Chooses-override}
use Rattle.kmipa_store.proofs.InventoryLemmas.{cards-inv, get-inv, get-cards_of}
use Rattle.kmipa_msgs.specs.declared.response.Status.{Status}
use Rattle.kmipa_msgs.specs.declared.response.Status.TheVariants.{Success, Failed, Undone}
use Rattle.kmipa_msgs.specs.Messages.{RulesOf, AskedOf, AskOf, PayloadOf, AnswerOf, operation_asked}
use Rattle.kmipa_ops.specs.declared.why.Why.{Why}
use Rattle.kmipa_ops.specs.declared.why.Why.TheVariants.{ReasonUnfounded}
use Rattle.kmipa_ops.specs.Alike.{StandAlike, AlikeSpeakAlike, AlikeGoAlike}
use Rattle.kmipa_ops.specs.Blame.{failure_speaks, outcome_speaks, frame_speaks, speaks}
use Rattle.kmipa_ops.specs.Explains.{Explains}
use Rattle.kmipa_ops.specs.Chains.{ChainSome}
use Rattle.kmipa_ops.specs.Founded.{founded}
use Rattle.kmipa_ops.specs.Meant.{place_meant, secret_at, secret_meant}
use Rattle.kmipa_ops.specs.OneInventory.{StandsFor}
use Rattle.kmipa_ops.specs.Judging.{RowJudging, row_speaks}
use Rattle.kmipa_ops.specs.Row.{Row, deed, idle, unknown, seen_in}
use Rattle.kmipa_ops.specs.Rows.{asked_judging, asked_row}
use Rattle.kmipa_ops.specs.Whys.{whys}
use Rattle.kmipa_ops.proofs.DeedLaws.{IsRow}
use Rattle.kmipa_ops.proofs.RowLemmas.{is_row}
use Rattle.kmipa_msgs.specs.declared.operation.Operation.{Operation}

-- A RULE ADMITS NO BYTES ALONE

same_length : (rule : Rule) (x y : ℕ) (xs : List ℕ) → admits rule (x ∷ xs) ≡ true → admits rule (y ∷ xs) ≡ true
same_length Any x y xs h = refl
same_length (Bits (pos bits)) x y xs h = h
same_length (Bits (negsuc n)) x y xs h = h

some_bits : (bits : ℕ) → admits (Bits (pos bits)) [] ≡ true → ⊥
some_bits zero h = cc
some_bits (suc bits) h = let e = (Decides-eqb (suc bits) (8 * 0)).0 (and_parts (nat_lt 0 (suc bits)) (suc bits == 8 * 0) h).1 in cc

others : (rule : Rule) (b : List ℕ) → Admitted rule b → (d : List ℕ) × Admitted rule d × (d ≢ b)
others Any [] a = (0 ∷ [], record { admitted = refl; small = All-cons (λ (x : ℕ). x < 256) 0 [] (omega arith) a.small }, λ e. cc)
others (Bits (pos bits)) [] a = absurd (some_bits bits a.admitted)
others (Bits (negsuc n)) [] a = let h = a.admitted in let bad : ⊥ = cc in absurd bad
others rule (zero ∷ xs) a =
    (1 ∷ xs, record { admitted = same_length rule 0 1 xs a.admitted; small = All-cons (λ (x : ℕ). x < 256) 1 xs (omega arith) (All-tail (λ (x : ℕ). x < 256) 0 xs a.small) }, λ e. cc)
others rule (suc x ∷ xs) a =
    (0 ∷ xs, record { admitted = same_length rule (suc x) 0 xs a.admitted; small = All-cons (λ (y : ℕ). y < 256) 0 xs (omega arith) (All-tail (λ (y : ℕ). y < 256) (suc x) xs a.small) }, λ e. cc)

-- WHAT IS KNOWN OF AN OBJECT'S BYTES

-- an object of a ledger with its secret
record HasSecret (m : Meaning) (p : ℕ) (rule : Rule) (bytes : Option (List ℕ)) : Type 0 where
  held : Held
  secret : SecretNo
  stands : slice_get m.objects p ≡ Some held
  material : held.material ≡ Secret secret
  there : slice_get m.secrets secret.number ≡ Some (record { rule = rule; bytes = bytes })

-- its bytes in an inventory
shown_bytes : (m : Meaning) (p : ℕ) (rule : Rule) (bytes : Option (List ℕ)) (h : HasSecret m p rule bytes) (c : Choice)
    → option_map (λ (x : Thing). x.bytes) (slice_get (inv c m.objects) p) ≡ Some (Some (c h.secret.number))
shown_bytes m p rule bytes h c =
    ap (option_map (λ (x : Thing). x.bytes)) (get-inv c m.objects p ∙ ap (option_map (thing c)) h.stands) ∙ ap (λ (x : Material). Some (bytes_of c x)) h.material

module _ (m n : Meaning) (alike : StandAlike m n) where
  -- bytes that are known in one ledger are those of each inventory of the other
  each_has : (p : ℕ) (rule kind : Rule) (b : List ℕ) (o : Option (List ℕ)) → HasSecret m p rule (Some b) → (h : HasSecret n p kind o) → (d : Choice) → Chooses n.secrets d → d h.secret.number ≡ b
  each_has p rule kind b o x h d ch =
      let s = (alike (inv d n.objects)).1 (d, ch, refl) in
      let e : Some (Some (d h.secret.number)) ≡ Some (Some (s.0 x.secret.number)) =
      sym (shown_bytes n p kind o h d) ∙ ap (λ (V : List Thing). option_map (λ (y : Thing). y.bytes) (slice_get V p)) s.2 ∙ shown_bytes m p rule (Some b) x s.0 in
      let known : s.0 x.secret.number ≡ b = (s.1.suits x.secret.number (record { rule = rule; bytes = Some b }) x.there).known b refl in
      let same : d h.secret.number ≡ s.0 x.secret.number = cc in
      same ∙ known

  -- so that they are known there too
  known_too : (p : ℕ) (rule kind : Rule) (b : List ℕ) (o : Option (List ℕ)) → IsSound n → HasSecret m p rule (Some b) → HasSecret n p kind o → o ≡ Some b
  known_too p rule kind b (Some k) sound x h =
      let d = sound.choice in
      ap Some (sym ((d.1.suits h.secret.number (record { rule = kind; bytes = Some k }) h.there).known k refl) ∙ each_has p rule kind b (Some k) x h d.0 d.1)
  known_too p rule kind b None sound x h =
      let d = sound.choice in
      let number = h.secret.number in
      let secret : Known = record { rule = kind; bytes = None } in
      let other = others kind (d.0 number) (d.1.suits number secret h.there).admitted in
      let suits : Suits secret other.0 = record { admitted = other.1; known = λ k e. let bad : ⊥ = cc in absurd bad } in
      let there = each_has p rule kind b None x h (override d.0 number other.0) (Chooses-override n.secrets number secret other.0 d.0 h.there suits d.1) in
      absurd (other.2 (sym (override_same d.0 number other.0) ∙ there ∙ sym (each_has p rule kind b None x h d.0 d.1)))

back : (m n : Meaning) → StandAlike m n → StandAlike n m
back m n alike = λ V. ((alike V).1, (alike V).0)

gone_apart : (b : Bool) (s : SecretNo) → GoneIfDestroyed b Gone → GoneIfDestroyed b (Secret s) → ⊥
gone_apart true s g h = g
gone_apart false s g h = h

-- OF BOTH LEDGERS

module _ (m n : Meaning) (sound : IsSound m) (sound_too : IsSound n) (alike : StandAlike m n) where
  -- the objects but for their bytes
  cards_same : cards_of m.objects ≡ cards_of n.objects
  cards_same =
      let c = sound.choice in
      let d = (alike (inv c.0 m.objects)).0 (c.0, c.1, refl) in
      sym (cards-inv c.0 m.objects) ∙ ap cards d.2 ∙ cards-inv d.0 n.objects

  known_same : (p : ℕ) (rule kind : Rule) (k l : Option (List ℕ)) → HasSecret m p rule k → HasSecret n p kind l → k ≡ l
  known_same p rule kind None None x y = refl
  known_same p rule kind (Some b) l x y = sym (known_too m n alike p rule kind b l sound_too x y)
  known_same p rule kind None (Some b) x y = known_too n m (back m n alike) p kind rule b None sound y x

  -- the object at a place
  card_at : (p : ℕ) (x y : Option Held) → slice_get m.objects p ≡ x → slice_get n.objects p ≡ y → option_map (λ (h : Held). h.card) x ≡ option_map (λ (h : Held). h.card) y
  card_at p x y e f =
      ap (option_map (λ (h : Held). h.card)) (sym e) ∙ sym (get-cards_of m.objects p) ∙ ap (λ (cs : List Card). slice_get cs p) cards_same ∙ get-cards_of n.objects p
      ∙ ap (option_map (λ (h : Held). h.card)) f

  secret_of : (p : ℕ) (h g : Held) → slice_get m.objects p ≡ Some h → slice_get n.objects p ≡ Some g → h.card ≡ g.card → (x y : Material) → h.material ≡ x → g.material ≡ y
      → secret_at m.secrets x ≡ secret_at n.secrets y
  secret_of p h g at here same Gone Gone x y = refl
  secret_of p h g at here same Gone (Secret s) x y =
      let a = subst (GoneIfDestroyed (live h.card)) x (sound.gone p h at) in
      let b = subst (GoneIfDestroyed (live g.card)) y (sound_too.gone p g here) in
      absurd (gone_apart (live g.card) s (subst (λ (c : Card). GoneIfDestroyed (live c) Gone) same a) b)
  secret_of p h g at here same (Secret s) Gone x y =
      let a = subst (GoneIfDestroyed (live h.card)) x (sound.gone p h at) in
      let b = subst (GoneIfDestroyed (live g.card)) y (sound_too.gone p g here) in
      absurd (gone_apart (live g.card) s b (subst (λ (c : Card). GoneIfDestroyed (live c) (Secret s)) same a))
  secret_of p h g at here same (Secret s) (Secret r) x y =
      let a = sound.in_range.there p h s at x in
      let b = sound_too.in_range.there p g r here y in
      let k = known_same p (rule_of h.card) (rule_of g.card) a.0 b.0
      (record { held = h; secret = s; stands = at; material = x; there = a.1 }) (record { held = g; secret = r; stands = here; material = y; there = b.1 }) in
      a.1 ∙ (λ i. Some (record { rule = rule_of (same i); bytes = k i })) ∙ sym b.1

  some_secret : (p : ℕ) (x y : Option Held) → slice_get m.objects p ≡ x → slice_get n.objects p ≡ y
      → option_and_then (λ (h : Held). secret_at m.secrets h.material) x ≡ option_and_then (λ (h : Held). secret_at n.secrets h.material) y
  some_secret p None None e f = refl
  some_secret p None (Some g) e f = let bad = card_at p None (Some g) e f in cc
  some_secret p (Some h) None e f = let bad = card_at p (Some h) None e f in cc
  some_secret p (Some h) (Some g) e f =
      let c = card_at p (Some h) (Some g) e f in
      let same : h.card ≡ g.card = cc in
      secret_of p h g e f same h.material g.material refl refl

  secret_place : (o : Option ℕ)
      → option_and_then (λ (h : Held). secret_at m.secrets h.material) (option_and_then (slice_get m.objects) o)
      ≡ option_and_then (λ (h : Held). secret_at n.secrets h.material) (option_and_then (slice_get n.objects) o)
  secret_place None = refl
  secret_place (Some p) = some_secret p (slice_get m.objects p) (slice_get n.objects p) refl refl

  place_same : (about : Option (List ℕ)) → place_meant m.objects about ≡ place_meant n.objects about
  place_same None = refl
  place_same (Some id) = ap (place_of id) cards_same

  -- what is known of the bytes of the object that is meant
  secret_same : (about : Option (List ℕ)) → secret_meant m about ≡ secret_meant n about
  secret_same about =
      secret_place (place_meant m.objects about)
      ∙ ap (λ (o : Option ℕ). option_and_then (λ (h : Held). secret_at n.secrets h.material) (option_and_then (slice_get n.objects) o)) (place_same about)

  -- ANY OPERATION

  row_same : (operation : Operation) (row : Row) (j : RowJudging row) → IsRow operation row j → (rules : RulesOf) (before : Option (List ℕ)) (t : ℤ) (payload : Option PayloadOf) (why : Why)
      → row_speaks row j rules m before t payload why ≡ row_speaks row j rules n before t payload why
  row_same operation (deed d) j is rules before t payload why = is.same rules m n (cards_same, secret_same) before t (seen_in d payload) why
  row_same operation idle j is rules before t payload why = refl
  row_same operation unknown j is rules before t payload why = refl

  failure_same : (rules : RulesOf) (before : Option (List ℕ)) (t : ℤ) (asked : AskedOf) (reason : Option ℕ) (why : Why)
      → failure_speaks rules m before t asked reason why ≡ failure_speaks rules n before t asked reason why
  failure_same rules before t asked reason ReasonUnfounded = ap (λ (cs : List Card). not (founded rules cs before t asked reason)) cards_same
  failure_same rules before t asked reason why = refl

  outcome_same : (status : Status) (rules : RulesOf) (before : Option (List ℕ)) (t : ℤ) (asked : AskedOf) (reason : Option ℕ) (payload : Option PayloadOf) (why : Why)
      → outcome_speaks status rules m before t asked reason payload why ≡ outcome_speaks status rules n before t asked reason payload why
  outcome_same Success rules before t asked reason payload why = row_same (operation_asked asked) (asked_row asked) (asked_judging asked) (is_row asked) rules before t payload why
  outcome_same Undone rules before t asked reason payload why = row_same (operation_asked asked) (asked_row asked) (asked_judging asked) (is_row asked) rules before t payload why
  outcome_same Failed rules before t asked reason payload why = failure_same rules before t asked reason why

  speaks_same : (rules : RulesOf) (before : Option (List ℕ)) (t : ℤ) (ask : AskOf) (answer : AnswerOf) (why : Why)
      → speaks rules m before t ask answer why ≡ speaks rules n before t ask answer why
  speaks_same rules before t ask answer why =
      ap (λ (b : Bool). frame_speaks ask answer why || b) (outcome_same answer.status rules before t ask.asked answer.reason answer.payload why)

pub alike_speak_alike : AlikeSpeakAlike
alike_speak_alike rules m n before t ask answer sound sound_too alike =
    let same = speaks_same m n sound sound_too alike rules before t ask answer in
    (same, λ i. find (λ (why : Why). same why i) whys)

-- ALONG THE SAME PAIRS

pub goes_alike : (rules : RulesOf) (t : ℤ) (m n : Meaning) (before : Option (List ℕ)) (pairs : List (AskOf × AnswerOf)) (k l : Meaning) (after last : Option (List ℕ))
    → StandAlike m n → Explains rules t m before pairs k after → Explains rules t n before pairs l last → (V : List Thing) → StandsFor k V → StandsFor l V × (after ≡ last)
goes_alike rules t m n before pairs k l after last alike e f V x =
    let a = e.sound x.0 x.1 in
    let b = (alike (inv x.0 m.objects)).0 (x.0, a.0, refl) in
    let P : List Thing → Type 0 = λ W. ChainSome rules t W before pairs (inv x.0 k.objects) after in
    let d = f.complete b.0 b.1 (inv x.0 k.objects) after (subst P b.2 a.1) in
    ((d.0, d.1, x.2 ∙ d.3), d.4)

pub alike_go_alike : AlikeGoAlike
alike_go_alike rules t m n before pairs k l after last alike sound e f =
    let c = sound.choice in (
      λ V. (
        λ x. (goes_alike rules t m n before pairs k l after last alike e f V x).0,
        λ y. (goes_alike rules t n m before pairs l k last after (back m n alike) f e V y).0,
      ),
      (goes_alike rules t m n before pairs k l after last alike e f (inv c.0 k.objects) (c.0, c.1, refl)).1,
    )
