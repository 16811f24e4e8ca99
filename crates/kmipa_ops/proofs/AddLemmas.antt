-- A new object with a secret of its own.
use Rattle.std.proofs.Common.{◌≡◌, ℕ, Bool, true, false, List, [], ◌∷◌, ◌++◌, length, slice_get, bytes_eq, option_map, Option, Some, None, ap, sym, ◌∙◌, subst, inl, inr}
use Rattle.std.proofs.lemmas.Slice.Eq.{bytes_eq-Decides}
use Rattle.kmipa_object.specs.Inventory.{Admitted, Card, place_of, rule_of, live, possible}
use Rattle.kmipa_object.specs.declared.life.Material.{Material}
use Rattle.kmipa_object.specs.declared.life.Material.TheVariants.{Gone, Secret}
use Rattle.kmipa_object.specs.declared.life.SecretNo.{SecretNo}
use Rattle.kmipa_object.specs.declared.rule.Rule.{Rule}
use Rattle.kmipa_object.proofs.ListLemmas.{get-append_old, get-append_last, get-append_cases}
use Rattle.kmipa_object.proofs.RuleLemmas.{possible_admits}
use Rattle.kmipa_store.specs.Aside.{nothing_aside}
use Rattle.kmipa_store.specs.Ledger.{Held, Known, Meaning, LedgerState, cards_of, with_secret, added}
use Rattle.kmipa_store.specs.Calls.{is_taken}
use Rattle.kmipa_store.specs.Choices.{Suits, IsSound, GoneIfDestroyed}
use Rattle.kmipa_store.proofs.ChoiceLemmas.{override, Chooses-more, Chooses-none}
use Rattle.kmipa_store.proofs.InventoryLemmas.{place_none, get-cards_of}
use Rattle.kmipa_ops.specs.Adding.{with_own}
use Rattle.kmipa_ops.proofs.TestLemmas.{not_some}

-- no object has the new identifier
is_new : (m : Meaning) (id : List ℕ) → place_of id (cards_of m.objects) ≡ None → (p : ℕ) (h : Held) → slice_get m.objects p ≡ Some h → id ≡ h.card.id → ⊥
is_new m id free p h at same =
    let e : bytes_eq id h.card.id ≡ false = place_none (cards_of m.objects) id free p h.card (get-cards_of m.objects p ∙ ap (option_map (λ (g : Held). g.card)) at) in
    let f : bytes_eq id h.card.id ≡ true = (bytes_eq-Decides id h.card.id).1 same in
    cc

still_distinct : (m : Meaning) (o : Held) → IsSound m → place_of o.card.id (cards_of m.objects) ≡ None
    → (p q : ℕ) (g h : Held) → slice_get (m.objects ++ o ∷ []) p ≡ Some g → slice_get (m.objects ++ o ∷ []) q ≡ Some h → g.card.id ≡ h.card.id → p ≡ q
still_distinct m o sound free p q g h x y same = elim (get-append_cases m.objects o p g x) [
  | inl old ↦ (elim (get-append_cases m.objects o q h y) [
    | inl too ↦ sound.distinct p q g h old too same
    | inr new ↦ absurd (is_new m o.card.id free p g old (sym (same ∙ ap (λ (z : Held). z.card.id) new.1)))
  ])
  | inr new ↦ (elim (get-append_cases m.objects o q h y) [
    | inl old ↦ absurd (is_new m o.card.id free q h old (sym (ap (λ (z : Held). z.card.id) new.1) ∙ same))
    | inr too ↦ new.0 ∙ sym too.0
  ])
]

-- the ledger with a destroyed object
pub destroyed_sound : (m : Meaning) (o : Held) → IsSound m → place_of o.card.id (cards_of m.objects) ≡ None → live o.card ≡ false → o.material ≡ Gone
    → IsSound (record { objects = m.objects ++ o ∷ []; secrets = m.secrets; aside = m.aside })
destroyed_sound m o sound free dead gone = record {
  in_range = record {
    there = λ p h n at mat. elim (get-append_cases m.objects o p h at) [
      | inl old ↦ sound.in_range.there p h n old mat
      | inr new ↦ let clash : Gone ≡ Secret n = sym gone ∙ ap (λ (x : Held). x.material) (sym new.1) ∙ mat in let bad : ⊥ = cc in absurd bad
    ];
  };
  gone = λ p h at. elim (get-append_cases m.objects o p h at) [
    | inl old ↦ sound.gone p h old
    | inr new ↦
        let P : Bool → Type 0 = λ x. GoneIfDestroyed x Gone in
        let Q : Material → Type 0 = λ x. GoneIfDestroyed (live o.card) x in
        subst (λ (x : Held). GoneIfDestroyed (live x.card) x.material) (sym new.1) (subst Q (sym gone) (subst P (sym dead) tt))
  ];
  distinct = still_distinct m o sound free;
  choice = sound.choice;
}

pub own_sound : (m : Meaning) (card : Card) (known : Option (List ℕ)) (b : List ℕ) → IsSound m → place_of card.id (cards_of m.objects) ≡ None → live card ≡ true
    → Suits (record { rule = rule_of card; bytes = known }) b → IsSound (with_own m card known)
own_sound m card known b sound free alive suits =
    let s : Known = record { rule = rule_of card; bytes = known } in
    let o : Held = record { card = card; material = Secret (record { number = length m.secrets }) } in
    record {
      in_range = record {
        there = λ p h n at mat. elim (get-append_cases m.objects o p h at) [
          | inl old ↦ let q = sound.in_range.there p h n old mat in (q.0, get-append_old m.secrets s n.number _ q.1)
          | inr new ↦
              let same : Secret n ≡ Secret (record { number = length m.secrets }) = sym mat ∙ ap (λ (x : Held). x.material) new.1 in
              let number : n.number ≡ length m.secrets = cc in
              let rule : rule_of card ≡ rule_of h.card = ap (λ (x : Held). rule_of x.card) (sym new.1) in
              (known, ap (slice_get (m.secrets ++ s ∷ [])) number ∙ get-append_last m.secrets s ∙ ap (λ (x : Rule). Some (record { rule = x; bytes = known })) rule)
        ];
      };
      gone = λ p h at. elim (get-append_cases m.objects o p h at) [
        | inl old ↦ sound.gone p h old
        | inr new ↦
            let P : Bool → Type 0 = λ x. GoneIfDestroyed x (Secret (record { number = length m.secrets })) in
            subst (λ (x : Held). GoneIfDestroyed (live x.card) x.material) (sym new.1) (subst P (sym alive) tt)
      ];
      distinct = still_distinct m o sound free;
      choice = (override sound.choice.0 (length m.secrets) b, Chooses-more m.secrets s sound.choice.0 b sound.choice.1 suits);
    }

-- a ledger without objects and secrets
pub empty_sound : IsSound (record { objects = []; secrets = []; aside = nothing_aside })
empty_sound = record {
  in_range = record { there = λ p h n at mat. let bad : ⊥ = cc in absurd bad };
  gone = λ p h at. let bad : ⊥ = cc in absurd bad;
  distinct = λ p q g h x y same. let bad : ⊥ = cc in absurd bad;
  choice = ((λ n. []), Chooses-none (λ n. []));
}

-- an object whose bytes aren't known, added by the calls of a ledger
pub declared_sound : (s u v : LedgerState) (rule : Rule) (n : SecretNo) (h : Held) → IsSound s.now → possible rule ≡ true → n.number ≡ length s.now.secrets → u ≡ with_secret s rule
    → is_taken u h.card.id ≡ false → v ≡ added u h → h.material ≡ Secret n → rule_of h.card ≡ rule → live h.card ≡ true → IsSound v.now
declared_sound s u v rule n h sound can number made free put mat is alive =
    let b = possible_admits rule can in
    let suits : Suits (record { rule = rule_of h.card; bytes = None }) b.0 = record {
      admitted = subst (λ (r : Rule). Admitted r b.0) (sym is) b.1;
      known = λ k q. let bad : ⊥ = cc in absurd bad;
    } in
    let fresh : place_of h.card.id (cards_of s.now.objects) ≡ None =
    not_some (place_of h.card.id (cards_of s.now.objects)) (ap (λ (x : LedgerState). is_taken x h.card.id) (sym made) ∙ free) in
    let held_is : record { card = h.card; material = Secret (record { number = length s.now.secrets }) } ≡ h =
    ap (λ (k : ℕ). record { card = h.card; material = Secret (record { number = k }) }) (sym number) ∙ ap (λ (x : Material). record { card = h.card; material = x }) (sym mat) in
    let rules_is : with_own s.now h.card None ≡ v.now =
    ap (λ (x : Held). record { objects = s.now.objects ++ x ∷ []; secrets = s.now.secrets ++ record { rule = rule_of h.card; bytes = None } ∷ []; aside = s.now.aside }) held_is
    ∙ ap (λ (r : Rule). record { objects = s.now.objects ++ h ∷ []; secrets = s.now.secrets ++ record { rule = r; bytes = None } ∷ []; aside = s.now.aside }) is
    ∙ ap (λ (x : LedgerState). (added x h).now) (sym made) ∙ ap (λ (x : LedgerState). x.now) (sym put) in
    subst (λ (m : Meaning). IsSound m) rules_is (own_sound s.now h.card None b.0 sound fresh alive suits)

-- a destroyed object, added by a call of a ledger
pub buried_sound : (s v : LedgerState) (h : Held) → IsSound s.now → is_taken s h.card.id ≡ false → v ≡ added s h → h.material ≡ Gone → live h.card ≡ false → IsSound v.now
buried_sound s v h sound free put gone dead =
    subst (λ (x : LedgerState). IsSound x.now) (sym put) (destroyed_sound s.now h sound (not_some (place_of h.card.id (cards_of s.now.objects)) free) dead gone)
