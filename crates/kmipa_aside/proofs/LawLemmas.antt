-- What is judged of an identifier, behind another one that is set aside, or all.
use Rattle.std.proofs.Common.{◌≡◌, ◌≢◌, ◌∙◌, ◌||◌, ◌&&◌, ◌+◌, not, is_some, cond, refl, ap, sym, ℕ, zero, suc, ℤ, Bool, true, false, List, [], ◌∷◌, Option, Some, None, option_map, slice_get, bytes_eq}
use Rattle.std.specs.List.{position_from}
use Rattle.std.proofs.lemmas.Slice.Eq.{bytes_eq-Decides}
use Rattle.kmipa_object.specs.Inventory.{Thing, Card, cards, place_of}
use Rattle.kmipa_object.proofs.ListLemmas.{get-map, get-updated_other, map-updated_hidden}
use Rattle.kmipa_store.specs.Aside.{AsideOf, says, said_aside, is_named_aside}
use Rattle.kmipa_store.proofs.AsideLemmas.{says_of_each}
use Rattle.kmipa_store.proofs.InventoryLemmas.{place_found}
use Rattle.kmipa_aside.specs.Identifiers.{IdentifiersAreSetAside}
use Rattle.kmipa_aside.specs.Standing.{has, is_aside}
use Rattle.kmipa_aside.specs.Worlds.{WorldOf, stand, body, with_body, set_aside, set_each_aside, set_all_aside, ids_of}

-- a place is found by identifiers alone
place_from : (id : List ℕ) (i : ℕ) (V : List Thing) → position_from (λ (c : Card). bytes_eq id c.id) i (cards V) ≡ position_from (bytes_eq id) i (ids_of V)
place_from id i [] = refl
place_from id i (o ∷ V) = ap (λ (r : Option ℕ). cond (bytes_eq id o.card.id) (Some i) r) (place_from id (i + 1) V)

ids_bodied : (t : ℤ) (place : Option ℕ) (V : List Thing) → ids_of (with_body t place V) ≡ ids_of V
ids_bodied t None V = refl
ids_bodied t (Some place) V = map-updated_hidden (λ (o : Thing). o.card.id) (body t) V place (λ o. refl)

-- and a body keeps its identifier
has_bodied : (t : ℤ) (id other : List ℕ) (w : WorldOf) → has (stand (set_aside t id w)) other ≡ has (stand w) other
has_bodied t id other w =
    ap (λ (r : Option ℕ). is_some r)
    (place_from other 0 (set_aside t id w).things ∙ ap (λ (ids : List (List ℕ)). position_from (bytes_eq other) 0 ids) (ids_bodied t (place_of id (cards w.things)) w.things)
    ∙ sym (place_from other 0 w.things))

-- three ways to be set aside
middle : (a b c : Bool) → b ≡ true → (a || b || c) ≡ true
middle true b c e = refl
middle false true c e = refl
middle false false c e = cc

named_is : (a : AsideOf) (cs : List Card) (id : List ℕ) → is_named_aside a id ≡ true → is_aside (record { cards = cs; aside = a }) id ≡ true
named_is a cs id e = middle a.over (is_named_aside a id) (a.rest && not (has (record { cards = cs; aside = a }) id)) e

aside_is : (t : ℤ) (id : List ℕ) (w : WorldOf) → is_aside (stand (set_aside t id w)) id ≡ true
aside_is t id w = named_is (set_aside t id w).aside (cards (set_aside t id w).things) id (says_of_each.aside w.aside.ids id)

others_stay : (t : ℤ) (id other : List ℕ) (w : WorldOf) → other ≢ id → is_aside (stand (set_aside t id w)) other ≡ is_aside (stand w) other
others_stay t id other w apart =
    ap (λ (b : Bool). w.aside.over || b || (w.aside.rest && not (has (stand (set_aside t id w)) other))) (says_of_each.aside_other w.aside.ids id other apart)
    ∙ ap (λ (b : Bool). w.aside.over || is_named_aside w.aside other || (w.aside.rest && not b)) (has_bodied t id other w)

-- the object of another identifier stays
not_there : (id : List ℕ) (w : WorldOf) (p q : ℕ) (o : Thing) → place_of id (cards w.things) ≡ Some p → slice_get w.things q ≡ Some o → o.card.id ≢ id → q ≢ p
not_there id w p q o here at apart same =
    let f = place_found (cards w.things) id p here in
    let card : slice_get (cards w.things) p ≡ Some o.card =
    get-map (λ (x : Thing). x.card) w.things p ∙ ap (option_map (λ (x : Thing). x.card)) (ap (slice_get w.things) (sym same) ∙ at) in
    let both : Some f.0 ≡ Some o.card = sym f.1 ∙ card in
    let is : f.0 ≡ o.card = cc in
    apart (ap (λ (c : Card). c.id) (sym is) ∙ sym ((bytes_eq-Decides id f.0.id).0 f.2))

objects_stay_at : (t : ℤ) (id : List ℕ) (w : WorldOf) (q : ℕ) (o : Thing) (r : Option ℕ) → place_of id (cards w.things) ≡ r → slice_get w.things q ≡ Some o → o.card.id ≢ id
    → slice_get (with_body t r w.things) q ≡ Some o
objects_stay_at t id w q o None here at apart = at
objects_stay_at t id w q o (Some p) here at apart = get-updated_other w.things p q (body t) (not_there id w p q o here at apart) ∙ at

-- ---- all

-- an identifier that is set aside by its name stays so
says_kept : (t : ℤ) (id other : List ℕ) (w : WorldOf) → is_named_aside w.aside other ≡ true → is_named_aside (set_aside t id w).aside other ≡ true
says_kept t id other w e =
    (elim (bytes_eq other id) as (λ b. bytes_eq other id ≡ b → is_named_aside (set_aside t id w).aside other ≡ true) [
      | true ↦ λ same.
          let is : other ≡ id = (bytes_eq-Decides other id).0 same in
          ap (says (said_aside w.aside.ids id)) is ∙ says_of_each.aside w.aside.ids id
      | false ↦ λ differs.
          says_of_each.aside_other w.aside.ids id other (λ q. let f : bytes_eq other id ≡ true = (bytes_eq-Decides other id).1 q in cc) ∙ e
    ]) refl

each_keeps : (t : ℤ) (ids : List (List ℕ)) (other : List ℕ) (w : WorldOf) → is_named_aside w.aside other ≡ true → is_named_aside (set_each_aside t ids w).aside other ≡ true
each_keeps t [] other w e = e
each_keeps t (id ∷ ids) other w e = each_keeps t ids other (set_aside t id w) (says_kept t id other w e)

-- each of several is set aside
each_names : (t : ℤ) (ids : List (List ℕ)) (i : ℕ) (id : List ℕ) (w : WorldOf) → slice_get ids i ≡ Some id → is_named_aside (set_each_aside t ids w).aside id ≡ true
each_names t [] i id w e = cc
each_names t (x ∷ ids) zero id w e =
    let is : x ≡ id = cc in
    each_keeps t ids id (set_aside t x w) (ap (says (said_aside w.aside.ids x)) (sym is) ∙ says_of_each.aside w.aside.ids x)
each_names t (x ∷ ids) (suc i) id w e = each_names t ids i id (set_aside t x w) e

-- no object comes or goes
each_ids : (t : ℤ) (ids : List (List ℕ)) (w : WorldOf) → ids_of (set_each_aside t ids w).things ≡ ids_of w.things
each_ids t [] w = refl
each_ids t (id ∷ ids) w = each_ids t ids (set_aside t id w) ∙ ids_bodied t (place_of id (cards w.things)) w.things

all_has : (t : ℤ) (other : List ℕ) (w : WorldOf) → has (stand (set_all_aside t w)) other ≡ has (stand w) other
all_has t other w =
    ap (λ (r : Option ℕ). is_some r)
    (place_from other 0 (set_all_aside t w).things ∙ ap (λ (ids : List (List ℕ)). position_from (bytes_eq other) 0 ids) (each_ids t (ids_of w.things) w)
    ∙ sym (place_from other 0 w.things))

last : (a b : Bool) → (a || b || (true && true)) ≡ true
last true b = refl
last false true = refl
last false false = refl

through : (r : Option Thing) → option_map (λ (o : Thing). o.card.id) r ≡ option_map (λ (c : Card). c.id) (option_map (λ (o : Thing). o.card) r)
through None = refl
through (Some o) = refl

all_by : (t : ℤ) (id : List ℕ) (w : WorldOf) (r : Option ℕ) → place_of id (cards w.things) ≡ r → is_aside (stand (set_all_aside t w)) id ≡ true
all_by t id w None e =
    let a : AsideOf = (set_all_aside t w).aside in
    let missing : not (has (stand (set_all_aside t w)) id) ≡ true = ap not (all_has t id w ∙ ap (λ (r : Option ℕ). is_some r) e) in
    ap (λ (b : Bool). a.over || is_named_aside a id || (true && b)) missing ∙ last a.over (is_named_aside a id)
all_by t id w (Some p) e =
    let f = place_found (cards w.things) id p e in
    let at : slice_get (ids_of w.things) p ≡ Some f.0.id =
    get-map (λ (o : Thing). o.card.id) w.things p ∙ through (slice_get w.things p) ∙ ap (option_map (λ (c : Card). c.id)) (sym (get-map (λ (o : Thing). o.card) w.things p) ∙ f.1) in
    let there : slice_get (ids_of w.things) p ≡ Some id = at ∙ ap (λ (x : List ℕ). Some x) (sym ((bytes_eq-Decides id f.0.id).0 f.2)) in
    named_is (set_all_aside t w).aside (cards (set_all_aside t w).things) id (each_names t (ids_of w.things) p id w there)

pub identifiers_are_set_aside : IdentifiersAreSetAside
identifiers_are_set_aside = record {
  aside = aside_is;
  others = others_stay;
  objects = λ t id w q o at apart. objects_stay_at t id w q o (place_of id (cards w.things)) refl at apart;
  all = λ t id w. all_by t id w (place_of id (cards w.things)) refl;
  over = λ id w. refl;
}
