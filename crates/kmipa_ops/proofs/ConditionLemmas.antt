-- The conditions that reasons share: each test says what its condition means, and the same over ledgers with the same objects.
use Rattle.std.proofs.Common.{◌≡◌, ◌⊎◌, ◌||◌, ℕ, ℤ, Bool, true, false, not, is_none, bytes_eq, slice_get, List, option_map, Option, Some, None, refl, ap, sym, ◌∙◌, subst, inl, inr}
use Rattle.std.specs.Bool.{Decides}
use Rattle.std.specs.Option.{option_and_then}
use Rattle.std.proofs.lemmas.Slice.Eq.{bytes_eq-Decides}
use Rattle.kmipa_object.specs.Inventory.{Card, place_of}
use Rattle.kmipa_object.specs.Allowances.{by_line}
use Rattle.kmipa_object.specs.Life.{state}
use Rattle.kmipa_object.specs.Table.{allowed}
use Rattle.kmipa_object.specs.declared.allow.Act.{Act}
use Rattle.kmipa_object.specs.declared.allow.Allow.{Allow}
use Rattle.kmipa_object.specs.declared.allow.AllowLine.{AllowLine}
use Rattle.kmipa_object.specs.declared.allow.Allow.TheVariants.{Must, May, Not}
use Rattle.kmipa_store.specs.Ledger.{Held, cards_of}
use Rattle.kmipa_store.proofs.InventoryLemmas.{get-cards_of}
use Rattle.kmipa_msgs.specs.Messages.{RulesOf}
use Rattle.kmipa_ops.specs.Allowance.{allowance}
use Rattle.kmipa_ops.specs.Meant.{object_meant, is_excluded, is_not, IsExcluded}
use Rattle.kmipa_ops.specs.Objects.{card_meant, clash, is_other, is_other_id, Differs, Clashes}
use Rattle.kmipa_ops.proofs.TestLemmas.{false_if, not_true, true_not}

pub never_decides : Decides false ⊥
never_decides = (λ h. let bad : ⊥ = cc in absurd bad, λ b. absurd b)

pub or_decides : (a b : Bool) {A B : Type 0} → Decides a A → Decides b B → Decides (a || b) (A ⊎ B)
or_decides true b x y = (λ h. inl (x.0 refl), λ s. refl)
or_decides false b x y = (
  λ h. inr (y.0 h),
  λ s. elim s [ inl p ↦ (let e : false ≡ true = x.1 p in let bad : ⊥ = cc in absurd bad) | inr q ↦ y.1 q ],
)

pub none_decides : {A : Type 0} (o : Option A) → Decides (is_none o) (o ≡ None)
none_decides None = (λ h. refl, λ e. refl)
none_decides (Some x) = (λ h. let bad : ⊥ = cc in absurd bad, λ e. let bad : ⊥ = cc in absurd bad)

-- FIELDS

module _ {A : Type 0} (same : A → A → Bool) (decides : (x y : A) → Decides (same x y) (x ≡ y)) where
  pub differs_decides : (o : Option A) (x : A) → Decides (is_other same o x) (Differs o x)
  differs_decides None x = (λ h. let bad : ⊥ = cc in absurd bad, λ d. let e : None ≡ Some d.0 = d.1 in let bad : ⊥ = cc in absurd bad)
  differs_decides (Some y) x = (
    λ h. (y, refl, λ e. true_not (same y x) ((decides y x).1 e) (not_true (same y x) h)),
    λ d.
        let e : Some y ≡ Some d.0 = d.1 in
        let is : y ≡ d.0 = cc in
        ap not (false_if (same y x) (λ q. d.2 (sym is ∙ (decides y x).0 q))),
  )

  pub clashes_decides : (a b : Option A) → Decides (clash same a b) (Clashes a b)
  clashes_decides None b = (
    λ h. let bad : ⊥ = cc in absurd bad,
    λ c. let d : Differs None c.0 = c.2 in let e : None ≡ Some d.0 = d.1 in let bad : ⊥ = cc in absurd bad,
  )
  clashes_decides (Some x) None = (λ h. let bad : ⊥ = cc in absurd bad, λ c. let e : None ≡ Some c.0 = c.1 in let bad : ⊥ = cc in absurd bad)
  clashes_decides (Some x) (Some y) = (
    λ h. (y, refl, (x, refl, λ e. true_not (same y x) ((decides y x).1 (sym e)) (not_true (same y x) h))),
    λ c.
        let e : Some y ≡ Some c.0 = c.1 in
        let is : y ≡ c.0 = cc in
        let d : Differs (Some x) c.0 = c.2 in
        let f : Some x ≡ Some d.0 = d.1 in
        let own : x ≡ d.0 = cc in
        ap not (false_if (same y x) (λ q. d.2 (sym own ∙ sym ((decides y x).0 q) ∙ is))),
  )

-- an identifier that is there isn't the one meant
pub id_decides : (shown about : Option (List ℕ)) → Decides (is_other_id shown about) (Clashes shown about)
id_decides shown None = (λ h. let bad : ⊥ = cc in absurd bad, λ c. let e : None ≡ Some c.0 = c.1 in let bad : ⊥ = cc in absurd bad)
id_decides shown (Some id) = (
  λ h. (id, refl, (differs_decides bytes_eq bytes_eq-Decides shown id).0 h),
  λ c.
      let e : Some id ≡ Some c.0 = c.1 in
      let is : c.0 ≡ id = cc in
      (differs_decides bytes_eq bytes_eq-Decides shown id).1 (subst (λ (x : List ℕ). Differs shown x) is c.2),
)

-- THE OBJECT THAT IS MEANT

excludes : (a : Allow) → is_not a ≡ true → a ≡ Not
excludes Must h = cc
excludes May h = cc
excludes Not h = refl

-- what the table excludes the rules exclude
pub by_table : (a : Allow) (line : Option AllowLine) → is_not (by_line a line) ≡ false → is_not a ≡ false
by_table Must line h = refl
by_table May line h = refl
by_table Not line h = h

pub in_table : (rules : RulesOf) (act : Act) (t : ℤ) (c : Card) → is_not (allowance rules act t c) ≡ false → is_not (allowed act (state c.dates t)) ≡ false
in_table rules act t c h = by_table (allowed act (state c.dates t)) _ h

-- a test that says that the rules exclude the operation
pub is_not_decides : (a : Allow) → Decides (is_not a) (a ≡ Not)
is_not_decides a = (excludes a, λ e. ap is_not e)

excluded_at : (rules : RulesOf) (act : Act) (t : ℤ) (o : Option Held) → Decides (is_excluded rules act t o) ((h : Held) × (o ≡ Some h) × (allowance rules act t h.card ≡ Not))
excluded_at rules act t None = (λ h. let bad : ⊥ = cc in absurd bad, λ x. let e : None ≡ Some x.0 = x.1 in let bad : ⊥ = cc in absurd bad)
excluded_at rules act t (Some h) = (
  λ q. (h, refl, excludes (allowance rules act t h.card) q),
  λ x.
      let e : Some h ≡ Some x.0 = x.1 in
      let is : h ≡ x.0 = cc in
      ap (λ (k : Held). is_not (allowance rules act t k.card)) is ∙ ap is_not x.2,
)

pub excluded_decides : (rules : RulesOf) (objects : List Held) (about : Option (List ℕ)) (t : ℤ) (act : Act)
    → Decides (is_excluded rules act t (object_meant objects about)) (IsExcluded rules objects about t act)
excluded_decides rules objects about t act = excluded_at rules act t (object_meant objects about)

card_at : (hs : List Held) (o : Option ℕ) → option_and_then (slice_get (cards_of hs)) o ≡ option_map (λ (h : Held). h.card) (option_and_then (slice_get hs) o)
card_at hs None = refl
card_at hs (Some place) = get-cards_of hs place

pub card_meant_is : (hs : List Held) (about : Option (List ℕ)) → card_meant (cards_of hs) about ≡ option_map (λ (h : Held). h.card) (object_meant hs about)
card_meant_is hs None = refl
card_meant_is hs (Some id) = card_at hs (place_of id (cards_of hs))

-- of both the objects are the same but for their bytes
module _ (hs gs : List Held) (same : cards_of hs ≡ cards_of gs) where
  met : (P : Option Held → Bool) → ((h g : Held) → h.card ≡ g.card → P (Some h) ≡ P (Some g)) → (x y : Option Held)
      → option_map (λ (h : Held). h.card) x ≡ option_map (λ (h : Held). h.card) y → P x ≡ P y
  met P alike None None e = refl
  met P alike None (Some g) e = cc
  met P alike (Some h) None e = cc
  met P alike (Some h) (Some g) e = let c : h.card ≡ g.card = cc in alike h g c

  -- a test of the object that is meant, but for its bytes
  pub object_same : (P : Option Held → Bool) → ((h g : Held) → h.card ≡ g.card → P (Some h) ≡ P (Some g)) → (about : Option (List ℕ)) → P (object_meant hs about) ≡ P (object_meant gs about)
  object_same P alike about =
      met P alike (object_meant hs about) (object_meant gs about)
      (sym (card_meant_is hs about) ∙ ap (λ (cs : List Card). card_meant cs about) same ∙ card_meant_is gs about)

  pub none_same : (about : Option (List ℕ)) → is_none (object_meant hs about) ≡ is_none (object_meant gs about)
  none_same about = object_same is_none (λ h g e. refl) about

  pub excluded_same : (rules : RulesOf) (act : Act) (t : ℤ) (about : Option (List ℕ)) → is_excluded rules act t (object_meant hs about) ≡ is_excluded rules act t (object_meant gs about)
  excluded_same rules act t about = object_same (is_excluded rules act t) (λ h g e. ap (λ (c : Card). is_not (allowance rules act t c)) e) about
