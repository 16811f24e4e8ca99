-- Whose the objects of a declaration are.
use Rattle.std.proofs.Common.{◌≡◌, ◌<◌, ◌≤◌, ◌∙◌, ◌++◌, ◌+◌, refl, sym, ap, subst, ℕ, zero, suc, List, [], ◌∷◌, drop, length, map, slice_get, Option, Some, None, option_map, String, string_bytes, append_assoc, arith}
use Rattle.std.proofs.lemmas.List.{length-map}
use Rattle.kmipa_object.specs.Inventory.{Card}
use Rattle.kmipa_object.proofs.ListLemmas.{map-push}
use Rattle.kmipa_store.specs.Ledger.{Held, cards_of}
use Rattle.kmipa_store.specs.States.{state_of_journal}
use Rattle.kmipa_record.specs.Declarations.{DeclarationOf}
use Rattle.kmipa_record.specs.Entries.{EntryOf}
use Rattle.kmipa_check.specs.Described.{card_declared}
use Rattle.kmipa_stream.specs.Opening.{Opens, owners_of}
use Rattle.kmipa_stream.specs.declared.opening.Opening.{Opening}
use Rattle.kmipa_msgs.specs.declared.rules.Visibility.{Visibility}
use Rattle.kmipa_msgs.specs.declared.rules.Visibility.TheVariants.{Everyone, MayHide, MustHide}
use Rattle.kmipa_aside.specs.Sights.{OwnedOf}
use Rattle.kmipa_trail.specs.Owners.{owned_by, owners_at_first, owners_declared}
use Rattle.kmipa_beside.specs.Owners.{NamedOf, named_at, named_from, named_of, owned_as, owners_by}
use Rattle.kmipa_beside.specs.declared.named.Named.{Named}

append_nil : {X : Type 0} (xs : List X) → xs ++ [] ≡ xs
append_nil [] = refl
append_nil {X} (x ∷ xs) = ap (λ (ys : List X). x ∷ ys) (append_nil xs)

drop_at : {X : Type 0} (xs : List X) (i : ℕ) → i < length xs → (x : X) × (slice_get xs i ≡ Some x) × (drop i xs ≡ x ∷ drop (i + 1) xs)
drop_at [] i below = absurd (omega (arith, below))
drop_at (x ∷ xs) zero below = (x, refl, refl)
drop_at {X} (x ∷ xs) (suc i) below =
    let r = drop_at xs i (omega (arith, below)) in
    let more : suc i + 1 ≡ suc (i + 1) = omega arith in
    (r.0, r.1, r.2 ∙ ap (λ (n : ℕ). r.0 ∷ drop n (x ∷ xs)) (sym more))

-- the object at a place, where it is no one's, and where it is someone's
named_none : (c : Option Card) (o : Option (Option (List ℕ))) → o ≡ Some None → named_at c o ≡ []
named_none None o e = refl
named_none (Some c) o e = ap (named_at (Some c)) e

pub push_none : (c : Option Card) (o : Option (Option (List ℕ))) (named : List Named) → o ≡ Some None → map named_of named ≡ map named_of named ++ named_at c o
push_none c o named e = sym (ap (λ (ns : List NamedOf). map named_of named ++ ns) (named_none c o e) ∙ append_nil (map named_of named))

pub push_one : (c : Option Card) (o : Option (Option (List ℕ))) (card : Card) (client : List ℕ) (named more : List Named) (n : Named) → c ≡ Some card → o ≡ Some (Some client)
    → named_of n ≡ record { id = card.id; client = client } → more ≡ named ++ n ∷ [] → map named_of more ≡ map named_of named ++ named_at c o
push_one c o card client named more n e f is new =
    ap (map named_of) new ∙ map-push named_of named n ∙ ap (λ (x : NamedOf). map named_of named ++ x ∷ []) is
    ∙ sym (ap (λ (x : Option Card). map named_of named ++ named_at x o) e ∙ ap (λ (x : Option (Option (List ℕ))). map named_of named ++ named_at (Some card) x) f)

-- one object more
pub named_more : (cs : List Card) (owners : List (Option (List ℕ))) (i : ℕ) → i < length cs → i < length owners → (done more : List NamedOf) → more ≡ done ++ named_at (slice_get cs i) (slice_get owners i)
    → done ++ named_from (drop i cs) (drop i owners) ≡ named_from cs owners → more ++ named_from (drop (i + 1) cs) (drop (i + 1) owners) ≡ named_from cs owners
named_more cs owners i below under done more e h =
    let c = drop_at cs i below in
    let o = drop_at owners i under in
    let rest : List NamedOf = named_from (drop (i + 1) cs) (drop (i + 1) owners) in
    ap (λ (xs : List NamedOf). xs ++ rest) (e ∙ ap (λ (x : Option Card). done ++ named_at x (slice_get owners i)) c.1 ∙ ap (λ (x : Option (Option (List ℕ))). done ++ named_at (Some c.0) x) o.1)
    ∙ append_assoc done (named_at (Some c.0) (Some o.0)) rest
    ∙ ap (λ (xs : List NamedOf). done ++ xs)
    (sym (ap (λ (xs : List Card). named_from xs (drop i owners)) c.2 ∙ ap (λ (xs : List (Option (List ℕ))). named_from (c.0 ∷ drop (i + 1) cs) xs) o.2)) ∙ h

past : {X : Type 0} (xs : List X) (i : ℕ) → length xs ≤ i → drop i xs ≡ []
past [] zero h = refl
past [] (suc i) h = refl
past (x ∷ xs) zero h = absurd (omega (arith, h))
past (x ∷ xs) (suc i) h = past xs i (omega (arith, h))

pub named_all : (cs : List Card) (owners : List (Option (List ℕ))) (i : ℕ) → length cs ≤ i → (done : List NamedOf) → done ++ named_from (drop i cs) (drop i owners) ≡ named_from cs owners → done ≡ named_from cs owners
named_all cs owners i over done h =
    sym (append_nil done) ∙ sym (ap (λ (xs : List Card). done ++ named_from xs (drop i owners)) (past cs i over)) ∙ h

-- they are those that are declared
named_entry : (e : EntryOf) (owner : Option (List ℕ)) → map owned_as (named_at (Some (card_declared e)) (Some owner)) ≡ owned_by e.id owner
named_entry e None = refl
named_entry e (Some client) = refl

owned_both : (xs ys : List NamedOf) → map owned_as (xs ++ ys) ≡ map owned_as xs ++ map owned_as ys
owned_both [] ys = refl
owned_both (x ∷ xs) ys = ap (λ (l : List OwnedOf). owned_as x ∷ l) (owned_both xs ys)

named_declared : (es : List EntryOf) → map owned_as (named_from (map card_declared es) (owners_of es)) ≡ owners_declared es
named_declared [] = refl
named_declared (e ∷ es) =
    owned_both (named_at (Some (card_declared e)) (Some e.owner)) (named_from (map card_declared es) (owners_of es))
    ∙ ap (λ (l : List OwnedOf). l ++ map owned_as (named_from (map card_declared es) (owners_of es))) (named_entry e e.owner)
    ∙ ap (λ (l : List OwnedOf). owned_by e.id e.owner ++ l) (named_declared es)

module _ (o : Opening) (d : DeclarationOf) (opens : Opens o d) where
  -- each object has its owner, or none
  pub owners_long : length o.owners.items ≡ length (state_of_journal o.ledger).now.objects
  owners_long =
      sym (length-map o.owners.items (option_map string_bytes)) ∙ ap length opens.owners ∙ length-map d.entries (λ (e : EntryOf). e.owner) ∙ sym (length-map d.entries card_declared)
      ∙ sym (ap length opens.opened.cards) ∙ length-map (state_of_journal o.ledger).now.objects (λ (h : Held). h.card)

  pub owners_opened : (named : List NamedOf) → named ≡ named_from (cards_of (state_of_journal o.ledger).now.objects) (map (option_map string_bytes) o.owners.items)
      → map owned_as named ≡ owners_declared d.entries
  owners_opened named is =
      ap (map owned_as) (is ∙ ap (λ (cs : List Card). named_from cs (map (option_map string_bytes) o.owners.items)) opens.opened.cards
      ∙ ap (λ (os : List (Option (List ℕ))). named_from (map card_declared d.entries) os) opens.owners) ∙ named_declared d.entries

pub owners_first : (v : Visibility) (os : List OwnedOf) (es : List EntryOf) → os ≡ owners_declared es → owners_by v os ≡ owners_at_first v es
owners_first Everyone os es e = refl
owners_first MayHide os es e = e
owners_first MustHide os es e = e
