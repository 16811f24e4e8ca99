-- An identifier or a name that is taken is had by an object of the ledger's declaration.
use Rattle.std.proofs.Common.{◌≡◌, ℕ, zero, suc, ℤ, Bool, true, false, List, [], ◌∷◌, find, slice_get, Contains, Option, Some, None, is_none, is_some, refl, sym, ap, ◌∙◌, subst}
use Rattle.std.specs.Prelude.{option_and_then}
use Rattle.std.specs.List.{position_or_len}
use Rattle.std.proofs.lemmas.Bool.{and_parts, and_from}
use Rattle.std.proofs.lemmas.List.Folds.{find_at}
use Rattle.kmipa_attrs.specs.Sets.{Attributes, NameOf}
use Rattle.kmipa_attrs.proofs.DistinctLemmas.{has_there, has_not_there}
use Rattle.kmipa_attrs.proofs.NameLemmas.{has}
use Rattle.kmipa_object.specs.Inventory.{Card, live}
use Rattle.kmipa_store.specs.Ledger.{Held, Meaning, cards_of}
use Rattle.kmipa_msgs.specs.Messages.{AskedOf, PayloadOf, GotOf, GotAttributesOf, RegisterOf, RegisteredOf, creates, registers, locates, gets, gets_attributes, activates, revokes, destroys, idles, does_other}
use Rattle.kmipa_msgs.specs.declared.response.Status.{Status}
use Rattle.kmipa_msgs.specs.declared.response.Status.TheVariants.{Success, Failed, Undone}
use Rattle.kmipa_record.specs.Declarations.{DeclarationOf}
use Rattle.kmipa_record.specs.Entries.{EntryOf}
use Rattle.kmipa_ops.specs.Adding.{names_new}
use Rattle.kmipa_ops.specs.Create.{seen_created, CreateReason}
use Rattle.kmipa_ops.specs.Get.{seen_got, GetReason}
use Rattle.kmipa_ops.specs.GetAttributes.{seen_attributes, GetAttributesReason}
use Rattle.kmipa_ops.specs.Locate.{seen_located, LocateReason}
use Rattle.kmipa_ops.specs.Objects.{HasNameOf, meant}
use Rattle.kmipa_ops.specs.Reasons.{DoneReason, OutcomeReason}
use Rattle.kmipa_ops.specs.Register.{seen_registered, RegisterReason}
use Rattle.kmipa_ops.specs.declared.why.Why.TheVariants.{IdentifierTaken, NameTaken}
use Rattle.kmipa_check.specs.Described.{card_declared}
use Rattle.kmipa_check.specs.Left.{declaration_left, entry_left}
use Rattle.kmipa_check.specs.Runs.{rules_declared}
use Rattle.kmipa_check.proofs.PlaceLemmas.{at_contains, contains_at, get_at, mapped_from}
use Rattle.kmipa_explain.specs.Items.{about, makes_object}
use Rattle.kmipa_explain.specs.Taken.{IsBorne, IsTaken, bears, names_asked, shared}
use Rattle.kmipa_explain.proofs.QuietLemmas.{found_passes}

none_is : {X : Type 0} (o : Option X) → is_none o ≡ true → o ≡ None
none_is None h = refl
none_is (Some x) h = absurd cc

module _ (declared : DeclarationOf) (m : Meaning) where
  abbrev made : DeclarationOf
  made = declaration_left declared m

  -- each object of the ledger has an entry
  entry_there : (c : Card) → Contains (cards_of m.objects) c → (e : EntryOf) × Contains made.entries e × (card_declared e ≡ c)
  entry_there c has_it =
      let at = at_contains (cards_of m.objects) c has_it in
      let h = mapped_from (λ (h : Held). h.card) m.objects at.0 c at.1 in
      let e = entry_left m.secrets h.0 in
      (e, contains_at made.entries at.0 e (get_at (entry_left m.secrets) m.objects at.0 h.0 h.1), h.2)

  -- ---- IdentifierTaken

  taken_there : (asked : AskedOf) (x : RegisteredOf) → makes_object asked ≡ true → (c : Card) × Contains (cards_of m.objects) c × (x.id ≡ c.id)
      → (id : List ℕ) × IsTaken made (Some x.id) asked id
  taken_there asked x makes r =
      let e = entry_there r.0 r.1 in
      (x.id, record { makes = makes; given = refl; object = e.0; is_held = e.1; has_it = ap (λ (c : Card). c.id) e.2 ∙ sym r.2 })

  module _ (p : Option (List ℕ)) (t : ℤ) where
    created_taken : (a : Attributes) (x : Option RegisteredOf) → CreateReason (rules_declared declared) (cards_of m.objects) a x IdentifierTaken
        → (id : List ℕ) × IsTaken made (names_new None x) (creates a) id
    created_taken a None r = absurd r
    created_taken a (Some x) r = taken_there (creates a) x refl r

    registered_taken : (a : RegisterOf) (x : Option RegisteredOf) → RegisterReason (rules_declared declared) (cards_of m.objects) a x IdentifierTaken
        → (id : List ℕ) × IsTaken made (names_new None x) (registers a) id
    registered_taken a None r = absurd r
    registered_taken a (Some x) r = taken_there (registers a) x refl r

    located_taken : (q : _) (x : Option (List (List ℕ))) → LocateReason (cards_of m.objects) t q x IdentifierTaken → ⊥
    located_taken q None r = r
    located_taken q (Some x) r = r

    got_taken : (id : Option (List ℕ)) (x : Option GotOf) → GetReason (rules_declared declared) m id t x IdentifierTaken → ⊥
    got_taken id None r = r
    got_taken id (Some x) r = r

    told_taken : (id : Option (List ℕ)) (g : _) (x : Option GotAttributesOf) → GetAttributesReason (rules_declared declared) (cards_of m.objects) id t g x IdentifierTaken → ⊥
    told_taken id g None r = r
    told_taken id g (Some x) r = r

    done_taken : (asked : AskedOf) (payload : Option PayloadOf) → DoneReason (rules_declared declared) m p t asked payload IdentifierTaken
        → (id : List ℕ) × IsTaken made (about p asked payload) asked id
    done_taken (creates a) payload r = created_taken a (option_and_then seen_created payload) r
    done_taken (registers a) payload r = registered_taken a (option_and_then seen_registered payload) r
    done_taken (locates q) payload r = absurd (located_taken q (option_and_then seen_located payload) r)
    done_taken (gets id) payload r = absurd (got_taken (meant id p) (option_and_then seen_got payload) r)
    done_taken (gets_attributes g) payload r = absurd (told_taken (meant g.id p) g (option_and_then seen_attributes payload) r)
    done_taken (activates id) payload r = absurd r
    done_taken (revokes a) payload r = absurd r
    done_taken (destroys id) payload r = absurd r
    done_taken (idles number) payload r = absurd r
    done_taken (does_other number) payload r = absurd r

    pub identifier_taken : (status : Status) (asked : AskedOf) (reason : Option ℕ) (payload : Option PayloadOf) → OutcomeReason status (rules_declared declared) m p t asked reason payload IdentifierTaken
        → (id : List ℕ) × IsTaken made (about p asked payload) asked id
    identifier_taken Success asked reason payload r = done_taken asked payload r
    identifier_taken Undone asked reason payload r = done_taken asked payload r
    identifier_taken Failed asked reason payload r = absurd r

  -- ---- NameTaken

  borne_there : (asked : AskedOf) (names : List NameOf) → names_asked asked ≡ names
      → ((rules_declared declared).unique_names ≡ true) × (c : Card) × Contains (cards_of m.objects) c × (live c ≡ true) × HasNameOf names c
      → (name : NameOf) × (bearer : List ℕ) × IsBorne made asked name bearer
  borne_there asked names are r =
      let e = entry_there r.1 r.2 in
      let n = r.4 in
      let P : List NameOf → Type 0 = λ ns. Contains ns n.0 in
      let Q : Card → Type 0 = λ c. Contains c.given.names n.0 in (
        n.0,
        e.0.id,
        record {
          unique = r.0;
          asked_for = subst P (sym are) n.1;
          object = e.0;
          is_held = e.1;
          identifier = refl;
          alive = ap (λ (c : Card). c.dates.destroy) e.2 ∙ none_is r.1.dates.destroy r.3;
          has_it = subst Q (sym e.2) n.2;
        },
      )

  module _ (p : Option (List ℕ)) (t : ℤ) where
    created_borne : (a : Attributes) (x : Option RegisteredOf) → CreateReason (rules_declared declared) (cards_of m.objects) a x NameTaken
        → (name : NameOf) × (bearer : List ℕ) × IsBorne made (creates a) name bearer
    created_borne a None r = absurd r
    created_borne a (Some x) r = borne_there (creates a) a.names refl r

    registered_borne : (a : RegisterOf) (x : Option RegisteredOf) → RegisterReason (rules_declared declared) (cards_of m.objects) a x NameTaken
        → (name : NameOf) × (bearer : List ℕ) × IsBorne made (registers a) name bearer
    registered_borne a None r = absurd r
    registered_borne a (Some x) r = borne_there (registers a) a.attributes.names refl r

    located_borne : (q : _) (x : Option (List (List ℕ))) → LocateReason (cards_of m.objects) t q x NameTaken → ⊥
    located_borne q None r = r
    located_borne q (Some x) r = r

    got_borne : (id : Option (List ℕ)) (x : Option GotOf) → GetReason (rules_declared declared) m id t x NameTaken → ⊥
    got_borne id None r = r
    got_borne id (Some x) r = r

    told_borne : (id : Option (List ℕ)) (g : _) (x : Option GotAttributesOf) → GetAttributesReason (rules_declared declared) (cards_of m.objects) id t g x NameTaken → ⊥
    told_borne id g None r = r
    told_borne id g (Some x) r = r

    done_borne : (asked : AskedOf) (payload : Option PayloadOf) → DoneReason (rules_declared declared) m p t asked payload NameTaken
        → (name : NameOf) × (bearer : List ℕ) × IsBorne made asked name bearer
    done_borne (creates a) payload r = created_borne a (option_and_then seen_created payload) r
    done_borne (registers a) payload r = registered_borne a (option_and_then seen_registered payload) r
    done_borne (locates q) payload r = absurd (located_borne q (option_and_then seen_located payload) r)
    done_borne (gets id) payload r = absurd (got_borne (meant id p) (option_and_then seen_got payload) r)
    done_borne (gets_attributes g) payload r = absurd (told_borne (meant g.id p) g (option_and_then seen_attributes payload) r)
    done_borne (activates id) payload r = absurd r
    done_borne (revokes a) payload r = absurd r
    done_borne (destroys id) payload r = absurd r
    done_borne (idles number) payload r = absurd r
    done_borne (does_other number) payload r = absurd r

    pub name_taken : (status : Status) (asked : AskedOf) (reason : Option ℕ) (payload : Option PayloadOf) → OutcomeReason status (rules_declared declared) m p t asked reason payload NameTaken
        → (name : NameOf) × (bearer : List ℕ) × IsBorne made asked name bearer
    name_taken Success asked reason payload r = done_borne asked payload r
    name_taken Undone asked reason payload r = done_borne asked payload r
    name_taken Failed asked reason payload r = absurd r

-- ---- what is told of them

-- the identifier that is meant is the one that is taken
pub taken_is : (held : DeclarationOf) (asked : AskedOf) (own id : List ℕ) → IsTaken held (Some own) asked id → IsTaken held (Some own) asked own
taken_is held asked own id h = let same : id ≡ own = (let e = h.given in cc) in let P : List ℕ → Type 0 = λ x. IsTaken held (Some own) asked x in subst P same h

pub nothing_taken : (held : DeclarationOf) (asked : AskedOf) (id : List ℕ) → IsTaken held None asked id → ⊥
nothing_taken held asked id h = let e = h.given in cc

-- ---- how they are found

module _ {X : Type 0} (test : X → Bool) where
  found_there : (xs : List X) (x : X) → find test xs ≡ Some x → Contains xs x
  found_there xs x e = contains_at xs (position_or_len test xs) x (sym (find_at test xs) ∙ e)

  missed : (xs : List X) (i : ℕ) (x : X) → slice_get xs i ≡ Some x → test x ≡ true → find test xs ≡ None → ⊥
  missed [] i x at passes none = cc
  missed (y ∷ xs) zero x at passes none =
      let same : y ≡ x = cc in
      let is : test y ≡ true = ap test same ∙ passes in
      let here : find test (y ∷ xs) ≡ Some y = rw is refl in
      cc
  missed (y ∷ xs) (suc i) x at passes none = by (test y) refl (missed xs i x at passes)
    where
      by : (b : Bool) → test y ≡ b → (find test xs ≡ None → ⊥) → ⊥
      by true is rest = let here : find test (y ∷ xs) ≡ Some y = rw is refl in cc
      by false is rest = let here : find test (y ∷ xs) ≡ find test xs = rw is refl in rest (sym here ∙ none)

  passing_missed : (xs : List X) (x : X) → Contains xs x → test x ≡ true → find test xs ≡ None → ⊥
  passing_missed xs x has_it passes none = let at = at_contains xs x has_it in missed xs at.0 x at.1 passes none

some_unless : {X : Type 0} (o : Option X) → (o ≡ None → ⊥) → is_some o ≡ true
some_unless None h = absurd (h refl)
some_unless (Some x) h = refl

true_unless : (b : Bool) → (b ≡ false → ⊥) → b ≡ true
true_unless true h = refl
true_unless false h = absurd (h refl)

-- a name that both have is shared
shares : (names others : List NameOf) (n : NameOf) → Contains names n → Contains others n → is_some (shared names others) ≡ true
shares names others n one other =
    let test : NameOf → Bool = λ x. has others x in
    let passes : has others n ≡ true = true_unless (has others n) (λ e. has_not_there others n e other) in
    some_unless (shared names others) (passing_missed test names n one passes)

-- so the bearer is found
pub bearer_missed : (held : DeclarationOf) (asked : AskedOf) (name : NameOf) (bearer : List ℕ) → IsBorne held asked name bearer → find (bears (names_asked asked)) held.entries ≡ None → ⊥
bearer_missed held asked name bearer h =
    let e = h.object in
    let gone : is_none e.attributes.destroy ≡ true = ap is_none h.alive in
    passing_missed (bears (names_asked asked)) held.entries e h.is_held
    (and_from (is_none e.attributes.destroy) (is_some (shared (names_asked asked) e.attributes.names)) gone (shares (names_asked asked) e.attributes.names name h.asked_for h.has_it))

pub name_missed : (names : List NameOf) (entries : List EntryOf) (e : EntryOf) → find (bears names) entries ≡ Some e → shared names e.attributes.names ≡ None → ⊥
name_missed names entries e found none =
    let passes = and_parts (is_none e.attributes.destroy) (is_some (shared names e.attributes.names)) (found_passes (bears names) entries e found) in
    let bad : is_some (shared names e.attributes.names) ≡ false = ap is_some none in
    cc

-- what is found is a bearer of a name that is asked for
pub borne : (held : DeclarationOf) (asked : AskedOf) (e : EntryOf) (n : NameOf) → held.settings.unique_names ≡ true → find (bears (names_asked asked)) held.entries ≡ Some e
    → shared (names_asked asked) e.attributes.names ≡ Some n → IsBorne held asked n e.id
borne held asked e n unique found one =
    let names = names_asked asked in
    let test : NameOf → Bool = λ x. has e.attributes.names x in
    let passes = and_parts (is_none e.attributes.destroy) (is_some (shared names e.attributes.names)) (found_passes (bears names) held.entries e found) in
    record {
      unique = unique;
      asked_for = found_there test names n one;
      object = e;
      is_held = found_there (bears names) held.entries e found;
      identifier = refl;
      alive = none_is e.attributes.destroy passes.0;
      has_it = has_there e.attributes.names n (found_passes test names n one);
    }
