-- Equal is equal, and what a search remembers.
use Rattle.std.proofs.Common.{◌≡◌, ◌≢◌, ◌<◌, ◌≤◌, ◌⊎◌, inl, inr, ◌==◌, ℕ, zero, suc, ◌≤ℤ◌, Bool, true, false, List, [], ◌∷◌, ◌++◌, Option, Some, None, slice_get, Contains, refl, sym, ap, ◌∙◌, subst, arith, rules}
use Rattle.std.specs.Prelude.{AllPairs, IsPermutation, option_map, unwrap_or}
use Rattle.std.proofs.lemmas.List.{length-append}
use Rattle.std.proofs.lemmas.List.Elements.{Contains-append_cases, Contains-append_left, Contains-append_right}
use Rattle.std.proofs.lemmas.List.Sorted.{Contains-permutation, IsPermutation-sym, length_permutation}
use Rattle.kmipa_object.specs.Inventory.{Card, Thing, live, rule_of}
use Rattle.kmipa_object.specs.declared.life.Material.{Material}
use Rattle.kmipa_object.specs.declared.life.Material.TheVariants.{Gone, Secret}
use Rattle.kmipa_object.specs.declared.life.SecretNo.{SecretNo}
use Rattle.kmipa_object.specs.declared.rule.Rule.{Rule}
use Rattle.kmipa_store.specs.Ledger.{Held, Known, Meaning, bytes_at}
use Rattle.kmipa_store.specs.Choices.{Choice, Chooses, GoneIfDestroyed, Suits, IsSound, bytes_of, inv, thing}
use Rattle.kmipa_store.proofs.SoundLemmas.{inventory_of}
use Rattle.kmipa_ops.specs.Ascending.{SecretsAscend}
use Rattle.kmipa_check.specs.Steps.{StepOf}
use Rattle.kmipa_check.specs.Left.{bytes_left}
use Rattle.kmipa_record.specs.Declarations.{DeclarationOf}
use Rattle.kmipa_check.specs.Described.{Describes}
use Rattle.kmipa_check.specs.Runs.{Before, Linked, rules_declared}
use Rattle.kmipa_check.proofs.RunLemmas.{linked_join, linked_split}
use Rattle.kmipa_orders.specs.Taken.{so_far, TakesAll, IsDead, AreNext, AreSame}
use Rattle.kmipa_orders.specs.Laws.{EqualIsEqual}
use Rattle.kmipa_orders.specs.Stills.{StillOf, still, stills}
use Rattle.kmipa_check.proofs.PlaceLemmas.{at_contains, contains_at, get_at, mapped_from}
use Rattle.kmipa_orders.proofs.LinksLemmas.{same_or}
use Rattle.kmipa_orders.proofs.PermutationLemmas.{once_pairs, permuted}
use Rattle.kmipa_orders.proofs.PickLemmas.{lower}
use Rattle.kmipa_orders.proofs.PlaceLemmas.{one_cases, has_head}
use Rattle.kmipa_orders.proofs.NextLemmas.{length_so_far, place_taken, call_taken, placed_so_far}
use Rattle.kmipa_orders.proofs.IdleLemmas.{Pairwise, pairwise, all_pairs}
use Rattle.kmipa_orders.proofs.ShuffleLemmas.{Shuffled, linked_shuffled}

-- ---- ledgers whose objects stand alike

-- an object has the secret of this number
record Bears (objects : List Held) (number : ℕ) : Type 0 where
  place : ℕ
  bearer : Held
  secret : SecretNo
  stands : slice_get objects place ≡ Some bearer
  material : bearer.material ≡ Secret secret
  is : secret.number ≡ number

equal_of : (a b : ℕ) → (a == b) ≡ true → a ≡ b
equal_of a b h = search rules

unequal_of : (a b : ℕ) → (a == b) ≡ false → a ≡ b → ⊥
unequal_of a b h e = let d : a ≢ b = search rules in d e

bears : (objects : List Held) (number : ℕ) → Bears objects number ⊎ (Bears objects number → ⊥)
bears [] number = inr (λ b. let bad = b.stands in absurd cc)
bears (h ∷ objects) number = by h.material refl (bears objects number)
  where
    more : Bears objects number → Bears (h ∷ objects) number
    more b = record { place = suc b.place; bearer = b.bearer; secret = b.secret; stands = b.stands; material = b.material; is = b.is }

    less : ((secret : SecretNo) → h.material ≡ Secret secret → secret.number ≡ number → ⊥) → (Bears objects number → ⊥) → Bears (h ∷ objects) number → ⊥
    less here none b = at b.place b.bearer b.secret b.stands b.material b.is
      where
        at : (place : ℕ) (bearer : Held) (secret : SecretNo) → slice_get (h ∷ objects) place ≡ Some bearer → bearer.material ≡ Secret secret → secret.number ≡ number → ⊥
        at zero bearer secret stands material is = let e : h ≡ bearer = cc in here secret (ap (λ (x : Held). x.material) e ∙ material) is
        at (suc place) bearer secret stands material is = none (record { place = place; bearer = bearer; secret = secret; stands = stands; material = material; is = is })

    by : (m : Material) → h.material ≡ m → Bears objects number ⊎ (Bears objects number → ⊥) → Bears (h ∷ objects) number ⊎ (Bears (h ∷ objects) number → ⊥)
    by m is (inl b) = inl (more b)
    by Gone is (inr none) = inr (less (λ secret e same. let clash : Gone ≡ Secret secret = sym is ∙ e in absurd cc) none)
    by (Secret s) is (inr none) = own (s.number == number) refl
      where
        own : (b : Bool) → (s.number == number) ≡ b → Bears (h ∷ objects) number ⊎ (Bears (h ∷ objects) number → ⊥)
        own true e = inl (record { place = 0; bearer = h; secret = s; stands = refl; material = is; is = equal_of s.number number e })
        own false e = inr (less (λ secret f same. let one : Secret s ≡ Secret secret = sym is ∙ f in let two : s ≡ secret = cc in unequal_of s.number number e (ap (λ (x : SecretNo). x.number) two ∙ same)) none)

abbrev known_with : Rule → Option (List ℕ) → Known
known_with rule bytes = record { rule = rule; bytes = bytes }

-- a secret that is there is told by its number
told_at : (ss : List Known) (n : ℕ) (k : Known) → slice_get ss n ≡ Some k → unwrap_or (bytes_at ss n) None ≡ k.bytes
told_at ss n k at = ap (λ (o : Option Known). unwrap_or (option_map (λ (x : Known). x.bytes) o) None) at

-- of two objects that are both destroyed or both live, the one has a secret where the other has
gone_too : (alive : Bool) (a b : Material) → GoneIfDestroyed alive a → GoneIfDestroyed alive b → a ≡ Gone → b ≡ Gone
gone_too true Gone b h k is = absurd h
gone_too false a Gone h k is = refl
gone_too false a (Secret t) h k is = absurd k
gone_too true (Secret s) b h k is = let clash : Secret s ≡ Gone = is in absurd cc

secret_too : (alive : Bool) (a b : Material) (s : SecretNo) → GoneIfDestroyed alive a → GoneIfDestroyed alive b → a ≡ Secret s → (t : SecretNo) × (b ≡ Secret t)
secret_too true a (Secret t) s h k is = (t, refl)
secret_too true a Gone s h k is = absurd k
secret_too false Gone b s h k is = let clash : Gone ≡ Secret s = is in absurd cc
secret_too false (Secret u) b s h k is = absurd h

module _ (m n : Meaning) (sound : IsSound m) (other : IsSound n) (ascends : SecretsAscend m.objects) (same : IsPermutation (stills m) (stills n)) where
  -- an object of the other ledger stands as this one does
  record Counterpart (h : Held) : Type 0 where
    place : ℕ
    held : Held
    stands : slice_get n.objects place ≡ Some held
    alike : still m.secrets h ≡ still n.secrets held

  counterpart : (place : ℕ) (h : Held) → slice_get m.objects place ≡ Some h → Counterpart h
  counterpart place h at =
      let i = at_contains (stills n) (still m.secrets h) (Contains-permutation (stills m) (stills n) (still m.secrets h) same (contains_at (stills m) place (still m.secrets h) (get_at (still m.secrets) m.objects place h at))) in
      let g = mapped_from (still n.secrets) n.objects i.0 (still m.secrets h) i.1 in
      record { place = i.0; held = g.0; stands = g.1; alike = sym g.2 }

  -- there is but one
  one_counterpart : (h : Held) (a b : Counterpart h) → a.held ≡ b.held
  one_counterpart h a b =
      let cards : a.held.card ≡ b.held.card = ap (λ (s : StillOf). s.card) (sym a.alike ∙ b.alike) in
      let places : a.place ≡ b.place = other.distinct a.place b.place a.held b.held a.stands b.stands (ap (λ (c : Card). c.id) cards) in
      let both : Some a.held ≡ Some b.held = sym a.stands ∙ ap (slice_get n.objects) places ∙ b.stands in
      cc

  -- and no two objects have one secret
  one_bearer : (a b : ℕ) (g h : Held) (s t : SecretNo) → slice_get m.objects a ≡ Some g → slice_get m.objects b ≡ Some h → g.material ≡ Secret s → h.material ≡ Secret t → s.number ≡ t.number → g ≡ h
  one_bearer a b g h s t at there is its e = by (lower b a) (same_or a b)
    where
      by : (a < b) ⊎ (b ≤ a) → (a ≡ b) ⊎ (a ≢ b) → g ≡ h
      by l (inl p) = let both : Some g ≡ Some h = sym at ∙ ap (slice_get m.objects) p ∙ there in cc
      by (inl below) (inr d) = absurd (let w = ascends.ascend a b g h s t below at there is its in omega (arith, w, e))
      by (inr past) (inr d) = absurd (let w = ascends.ascend b a h g t s (omega (arith, past, d)) there at its is in omega (arith, w, e))

  gone_of : (place : ℕ) (h : Held) (c : Counterpart h) → slice_get m.objects place ≡ Some h → GoneIfDestroyed (live c.held.card) h.material × GoneIfDestroyed (live c.held.card) c.held.material
  gone_of place h c at =
      let P : Card → Type 0 = λ x. GoneIfDestroyed (live x) h.material in
      (subst P (ap (λ (s : StillOf). s.card) c.alike) (sound.gone place h at), other.gone c.place c.held c.stands)

  module _ (c : Choice) (chooses : Chooses n.secrets c) where
    -- the bytes of a secret that an object has are those that its counterpart has
    record Picked (number : ℕ) : Type 0 where
      bytes : List ℕ
      borne : (place : ℕ) (h : Held) (s : SecretNo) → slice_get m.objects place ≡ Some h → h.material ≡ Secret s → s.number ≡ number → (a : Counterpart h) (t : SecretNo) → a.held.material ≡ Secret t → bytes ≡ c t.number
      free : (Bears m.objects number → ⊥) → bytes ≡ sound.choice.0 number

    picked : (number : ℕ) → Picked number
    picked number = by (bears m.objects number)
      where
        by : Bears m.objects number ⊎ (Bears m.objects number → ⊥) → Picked number
        by (inr none) = record {
          bytes = sound.choice.0 number;
          borne = λ place h s at is e a t its. absurd (none (record { place = place; bearer = h; secret = s; stands = at; material = is; is = e }));
          free = λ x. refl;
        }
        by (inl b) = record {
          bytes = c u.0.number;
          borne = λ place h s at is e a t its. agree place h s at is e a t its;
          free = λ none. absurd (none b);
        }
          where
            own : Counterpart b.bearer
            own = counterpart b.place b.bearer b.stands

            u : (t : SecretNo) × (own.held.material ≡ Secret t)
            u = let w = gone_of b.place b.bearer own b.stands in secret_too (live own.held.card) b.bearer.material own.held.material b.secret w.0 w.1 b.material

            agree : (place : ℕ) (h : Held) (s : SecretNo) → slice_get m.objects place ≡ Some h → h.material ≡ Secret s → s.number ≡ number → (a : Counterpart h) (t : SecretNo) → a.held.material ≡ Secret t → c u.0.number ≡ c t.number
            agree place h s at is e a t its =
                let bearers : b.bearer ≡ h = one_bearer b.place place b.bearer h b.secret s b.stands at b.material is (b.is ∙ sym e) in
                let Q : Held → Type 0 = λ x. (d : Counterpart x) → own.held ≡ d.held in
                let mine : own.held ≡ a.held = subst Q bearers (one_counterpart b.bearer own) a in
                let secrets : Secret u.0 ≡ Secret t = sym u.1 ∙ ap (λ (x : Held). x.material) mine ∙ its in
                let one : u.0 ≡ t = cc in
                ap (λ (x : SecretNo). c x.number) one

    borne_suits : (number : ℕ) (secret : Known) → slice_get m.secrets number ≡ Some secret → (b : Bears m.objects number) → Suits secret (picked number).bytes
    borne_suits number secret at b =
        let a = counterpart b.place b.bearer b.stands in
        let w = gone_of b.place b.bearer a b.stands in
        let t = secret_too (live a.held.card) b.bearer.material a.held.material b.secret w.0 w.1 b.material in
        let cards : b.bearer.card ≡ a.held.card = ap (λ (s : StillOf). s.card) a.alike in
        let mine = sound.in_range.there b.place b.bearer b.secret b.stands b.material in
        let its = other.in_range.there a.place a.held t.0 a.stands t.1 in
        let e : unwrap_or (bytes_at m.secrets b.secret.number) None ≡ unwrap_or (bytes_at n.secrets t.0.number) None
        = ap (bytes_left m.secrets) (sym b.material) ∙ ap (λ (s : StillOf). s.bytes) a.alike ∙ ap (bytes_left n.secrets) t.1 in
        let known : mine.0 ≡ its.0 = sym (told_at m.secrets b.secret.number (record { rule = rule_of b.bearer.card; bytes = mine.0 }) mine.1) ∙ e ∙ told_at n.secrets t.0.number (record { rule = rule_of a.held.card; bytes = its.0 }) its.1 in
        let suits : Suits (known_with (rule_of a.held.card) its.0) (c t.0.number) = chooses.suits t.0.number (known_with (rule_of a.held.card) its.0) its.1 in
        let Q : Option (List ℕ) → Type 0 = λ o. Suits (known_with (rule_of a.held.card) o) (c t.0.number) in
        let R : Card → Type 0 = λ x. Suits (known_with (rule_of x) mine.0) (c t.0.number) in
        let S : List ℕ → Type 0 = λ v. Suits (known_with (rule_of b.bearer.card) mine.0) v in
        let T : Known → Type 0 = λ k. Suits k (picked number).bytes in
        let here : slice_get m.secrets number ≡ Some (known_with (rule_of b.bearer.card) mine.0) = ap (slice_get m.secrets) (sym b.is) ∙ mine.1 in
        let some : Some (known_with (rule_of b.bearer.card) mine.0) ≡ Some secret = sym here ∙ at in
        let one : known_with (rule_of b.bearer.card) mine.0 ≡ secret = cc in
        subst T one (subst S (sym ((picked number).borne b.place b.bearer b.secret b.stands b.material b.is a t.0 t.1)) (subst R (sym cards) (subst Q (sym known) suits)))

    picked_suits : (number : ℕ) (secret : Known) → slice_get m.secrets number ≡ Some secret → Suits secret (picked number).bytes
    picked_suits number secret at = by (bears m.objects number)
      where
        by : Bears m.objects number ⊎ (Bears m.objects number → ⊥) → Suits secret (picked number).bytes
        by (inl b) = borne_suits number secret at b
        by (inr none) = let S : List ℕ → Type 0 = λ v. Suits secret v in subst S (sym ((picked number).free none)) (sound.choice.1.suits number secret at)

    abbrev chosen : Choice
    chosen number = (picked number).bytes

    -- under it an object has the bytes of its counterpart
    same_bytes : (place : ℕ) (h : Held) (a : Counterpart h) → slice_get m.objects place ≡ Some h → (mine its : Material) → h.material ≡ mine → a.held.material ≡ its → bytes_of chosen mine ≡ bytes_of c its
    same_bytes place h a at Gone Gone is e = refl
    same_bytes place h a at (Secret s) (Secret t) is e = ap Some ((picked s.number).borne place h s at is refl a t e)
    same_bytes place h a at Gone (Secret t) is e =
        let w = gone_of place h a at in
        let clash : Secret t ≡ Gone = sym e ∙ gone_too (live a.held.card) h.material a.held.material w.0 w.1 is in
        absurd cc
    same_bytes place h a at (Secret s) Gone is e =
        let w = gone_of place h a at in
        let t = secret_too (live a.held.card) h.material a.held.material s w.0 w.1 is in
        let clash : Gone ≡ Secret t.0 = sym e ∙ t.1 in
        absurd cc

    same_thing : (place : ℕ) (h : Held) (a : Counterpart h) → slice_get m.objects place ≡ Some h → thing chosen h ≡ thing c a.held
    same_thing place h a at =
        let cards : h.card ≡ a.held.card = ap (λ (s : StillOf). s.card) a.alike in
        let bytes : bytes_of chosen h.material ≡ bytes_of c a.held.material = same_bytes place h a at h.material a.held.material refl refl in
        λ i. record { card = cards i; bytes = bytes i }

    -- what one ledger stands for, the other does too, in another order
    pub stands_too : (d : Choice) × Chooses m.secrets d × Shuffled (inv c n.objects) (inv d m.objects)
    stands_too = (
      chosen,
      record { suits = picked_suits },
      record {
        each = each;
        back = back;
        distinct = (inventory_of n c other chooses).distinct;
        other = (inventory_of m chosen sound (record { suits = picked_suits })).distinct;
      },
    )
      where
        back : (o : Thing) → Contains (inv chosen m.objects) o → Contains (inv c n.objects) o
        back o has =
            let i = at_contains (inv chosen m.objects) o has in
            let h = mapped_from (thing chosen) m.objects i.0 o i.1 in
            let a = counterpart i.0 h.0 h.1 in
            let P : Thing → Type 0 = λ x. Contains (inv c n.objects) x in
            subst P (sym (same_thing i.0 h.0 a h.1) ∙ h.2) (contains_at (inv c n.objects) a.place (thing c a.held) (get_at (thing c) n.objects a.place a.held a.stands))

        each : (o : Thing) → Contains (inv c n.objects) o → Contains (inv chosen m.objects) o
        each o has =
            let i = at_contains (inv c n.objects) o has in
            let g = mapped_from (thing c) n.objects i.0 o i.1 in
            let j = at_contains (stills m) (still n.secrets g.0) (Contains-permutation (stills n) (stills m) (still n.secrets g.0) (IsPermutation-sym (stills m) (stills n) same)
            (contains_at (stills n) i.0 (still n.secrets g.0) (get_at (still n.secrets) n.objects i.0 g.0 g.1))) in
            let h = mapped_from (still m.secrets) m.objects j.0 (still n.secrets g.0) j.1 in
            let a : Counterpart h.0 = record { place = i.0; held = g.0; stands = g.1; alike = h.2 } in
            let P : Thing → Type 0 = λ x. Contains (inv chosen m.objects) x in
            subst P (same_thing j.0 h.0 a h.1 ∙ g.2) (contains_at (inv chosen m.objects) j.0 (thing chosen h.0) (get_at (thing chosen) m.objects j.0 h.0 h.1))

-- ---- pairs

module _ {X : Type 0} (R : X → X → Type 0) (rest : List X) where
  pairs_last : (xs : List X) → Pairwise R (xs ++ rest) → Pairwise R rest
  pairs_last [] h = h
  pairs_last (x ∷ xs) h = pairs_last xs h.1

  pairs_cross : (xs : List X) (y z : X) → Pairwise R (xs ++ rest) → Contains xs y → Contains rest z → R y z
  pairs_cross [] y z h has more = absurd (omega (arith, has.1))
  pairs_cross (x ∷ xs) y z h has more = elim (one_cases x y xs has) [
    | inl e ↦ let P : X → Type 0 = λ v. R v z in subst P e (h.0 z (Contains-append_right xs rest z more))
    | inr t ↦ pairs_cross xs y z h.1 t more
  ]

  pub pairs_join : (ys : List X) → Pairwise R ys → ((y z : X) → Contains ys y → Contains rest z → R y z) → Pairwise R rest → Pairwise R (ys ++ rest)
  pairs_join [] h cross last = last
  pairs_join (y ∷ ys) h cross last = (
    (λ z has. elim (Contains-append_cases ys rest z has) [ inl l ↦ h.0 z l | inr r ↦ cross y z (has_head y ys) r ]),
    pairs_join ys h.1 (λ u z has more. cross u z (Contains-append_right (y ∷ []) ys u has) more) last,
  )

  -- in place of the first elements others that are among them
  pub pairs_other : (xs ys : List X) → AllPairs R (xs ++ rest) → AllPairs R ys → ((y : X) → Contains ys y → Contains xs y) → AllPairs R (ys ++ rest)
  pairs_other xs ys h own inside =
      let p = pairwise R (xs ++ rest) h in
      all_pairs R (ys ++ rest) (pairs_join ys (pairwise R ys own) (λ y z has more. pairs_cross xs y z p (inside y has) more) (pairs_last xs p))

-- ---- the law

-- the same calls taken in another order lead to no run, where behind whatever they leave goes on what goes on behind the dead order too
pub dead_again : (declared : DeclarationOf) (calls : List StepOf) (taken others : List ℕ) → AllPairs (λ (a b : StepOf). a ≢ b) calls → AreNext calls taken → AreNext calls others → AreSame taken others
    → ((start V W : List Thing) (rest : List StepOf) → Describes declared start → Linked (rules_declared declared) start (so_far calls others) V → Linked (rules_declared declared) V rest W
    → (from U X : List Thing) × Describes declared from × Linked (rules_declared declared) from (so_far calls taken) U × Linked (rules_declared declared) U rest X)
    → IsDead declared calls taken → IsDead declared calls others
dead_again declared calls taken others apart nexts other_nexts same again dead start order rest described run is =
    let rules_are = rules_declared declared in
    let P : List StepOf → Type 0 = λ o. TakesAll (rules_declared declared) calls start o in
    let r = subst P is run in
    let a = linked_split rules_are start (so_far calls others) rest r.last r.linked in
    let b = again start a.0 r.last rest described a.1 a.2 in
    let before = placed_so_far calls taken nexts in
    dead b.0 (so_far calls taken ++ rest) rest b.3
    (record {
      once =
          permuted calls (so_far calls taken ++ rest) (once_pairs calls apart)
          (λ y has. to_taken y (Contains-permutation calls (so_far calls others ++ rest) y r.once has))
          (omega (
            arith,
            length_permutation calls (so_far calls others ++ rest) r.once,
            length-append (so_far calls others) rest,
            length-append (so_far calls taken) rest,
            length_so_far calls taken,
            length_so_far calls others,
            same.long,
          ));
      placed = record {
        kept = pairs_other (λ (x y : StepOf). ¬ (Before y x)) rest (so_far calls others) (so_far calls taken) r.placed.kept before.kept to_others;
        stamped = pairs_other (λ (x y : StepOf). x.response.stamp ≤ℤ y.response.stamp) rest (so_far calls others) (so_far calls taken) r.placed.stamped before.stamped to_others;
      };
      last = b.2;
      linked = linked_join rules_are b.0 (so_far calls taken) rest b.1 b.2 b.4 b.5;
    }) refl
  where
    to_others : (y : StepOf) → Contains (so_far calls taken) y → Contains (so_far calls others) y
    to_others y has = let q = place_taken calls taken y nexts has in call_taken calls others q.0 y (same.each q.0 q.1) q.2

    to_taken : (y : StepOf) → Contains (so_far calls others ++ rest) y → Contains (so_far calls taken ++ rest) y
    to_taken y has = elim (Contains-append_cases (so_far calls others) rest y has) [
      | inl l ↦ let q = place_taken calls others y other_nexts l in Contains-append_left (so_far calls taken) rest y (call_taken calls taken q.0 y (same.back q.0 q.1) q.2)
      | inr more ↦ Contains-append_right (so_far calls taken) rest y more
    ]

pub equal_is_equal : EqualIsEqual
equal_is_equal declared calls taken others m n apart nexts other_nexts same known sound other_known other_sound alike dead = dead_again declared calls taken others apart nexts other_nexts same again dead
  where
    again : (start V W : List Thing) (rest : List StepOf) → Describes declared start → Linked (rules_declared declared) start (so_far calls others) V → Linked (rules_declared declared) V rest W
        → (from U X : List Thing) × Describes declared from × Linked (rules_declared declared) from (so_far calls taken) U × Linked (rules_declared declared) U rest X
    again start V W rest described linked behind =
        let rules = rules_declared declared in
        let g = other_known.complete start V described linked in
        let o = stands_too m n sound other_sound known.ascends alike g.0 g.1 in
        let b = known.sound o.0 o.1 in
        let L : List Thing → Type 0 = λ X. Linked (rules_declared declared) X rest W in
        let on = linked_shuffled rules (inv g.0 n.objects) (inv o.0 m.objects) rest W o.2 (subst L g.2 behind) in
        (b.0, inv o.0 m.objects, on.0, b.1, b.2, on.1)
