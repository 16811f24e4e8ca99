-- Identifiers that are set aside, one or many.
use Rattle.std.proofs.Common.{◌≡◌, ◌∙◌, ◌+◌, ◌≤◌, ◌<◌, refl, ap, sym, subst, ℕ, zero, suc, ℤ, Bool, true, false, if◌then◌else◌, List, [], ◌∷◌, map, drop, length, Option, Some, None, slice_get, get_or, option_map, Result, Ok, Err, arith}
use Rattle.std.specs.Global.{Vec}
use denote.Bor.{Bor}
use Rattle.kmipa_object.specs.Inventory.{Thing, cards, place_of}
use Rattle.kmipa_object.proofs.ListLemmas.{map-updated_hidden, get-map}
use Rattle.kmipa_store.specs.Aside.{AsideOf, said_aside}
use Rattle.kmipa_store.specs.Ledger.{Held, LedgerState, cards_of, rest_set_aside, judging_ended, set_aside as set_in_ledger}
use Rattle.kmipa_store.specs.Choices.{Choice, inv}
use Rattle.kmipa_store.proofs.InventoryLemmas.{cards-inv}
use Rattle.kmipa_msgs.specs.Messages.{lent}
use Rattle.kmipa_passed.specs.Leaving.{AsideOf as LeftOf, aside_of}
use Rattle.kmipa_passed.specs.declared.leaving.SetAside.{SetAside}
use Rattle.kmipa_passed.specs.declared.leaving.SetAside.TheVariants.{These, Strangers}
use Rattle.kmipa_aside.specs.Becoming.{Nears, NearsAll, Becomes, Turns, bodied, held_ids, stand_in}
use Rattle.kmipa_aside.specs.Explains.{world}
use Rattle.kmipa_aside.specs.Standing.{StandOf, is_judged}
use Rattle.kmipa_aside.specs.Worlds.{WorldOf, body, with_body, set_aside, set_each_aside, set_stranger_aside, set_strangers_aside, set_rest_aside, set_all_aside, end_judging, ids_of, with_left}
use Rattle.kmipa_aside.proofs.NearLemmas.{aside_is, nears_start, nears_step, stand_world, whole_as}

-- ---- one

abbrev named : List ℕ → WorldOf → WorldOf
named id w = record w { aside = record w.aside { ids = said_aside w.aside.ids id } }

-- a body is left at the place of the identifier, and then it is set aside
pub aside_set : (s v u : LedgerState) (t : ℤ) (id : List ℕ) (place : Option ℕ) → place ≡ place_of id (cards_of s.now.objects) → Becomes (bodied t place) s v → u ≡ set_in_ledger v id
    → Becomes (set_aside t id) s u
aside_set s v u t id place here b is =
    let n = aside_is v u (λ (a : AsideOf). record a { ids = said_aside a.ids id }) is in
    record {
      worlds = λ c.
          n.worlds c ∙ ap (named id) (b.worlds c)
          ∙ ap (λ (p : Option ℕ). named id (bodied t p (world c s.now))) (here ∙ ap (place_of id) (sym (cards-inv c s.now.objects)));
      secrets = n.secrets ∙ b.secrets;
      marks = n.marks ∙ b.marks;
      sound = λ x. n.sound (b.sound x);
      apart = λ x. n.apart (b.apart x);
    }

-- ---- one that no judged object has

chosen : (t : ℤ) (id : List ℕ) (s : LedgerState) (c : Choice) (b : Bool) → is_judged (stand_in s.now) id ≡ b
    → set_stranger_aside t id (world c s.now) ≡ (if b then world c s.now else set_aside t id (world c s.now))
chosen t id s c b is =
    ap (λ (x : Bool). if x then world c s.now else set_aside t id (world c s.now)) (ap (λ (x : StandOf). is_judged x id) (stand_world c s.now) ∙ is)

pub stranger_judged : (s : LedgerState) (t : ℤ) (id : List ℕ) → is_judged (stand_in s.now) id ≡ true → Becomes (set_stranger_aside t id) s s
stranger_judged s t id is = nears_start (λ w. w) (set_stranger_aside t id) s (λ c. sym (chosen t id s c true is))

pub stranger_set : (s u : LedgerState) (t : ℤ) (id : List ℕ) → is_judged (stand_in s.now) id ≡ false → Becomes (set_aside t id) s u → Becomes (set_stranger_aside t id) s u
stranger_set s u t id is b = whole_as (λ w. w) (set_aside t id) (set_stranger_aside t id) s u (λ c. sym (chosen t id s c false is)) b

pub stranger_turns : {E : Type 0} (s u : LedgerState) (t : ℤ) (id : List ℕ) (r : Result (Unit {0}) E) → is_judged (stand_in s.now) id ≡ false → Turns (set_aside t id) s r u
    → Turns (set_stranger_aside t id) s r u
stranger_turns s u t id (Ok done) is b = stranger_set s u t id is b
stranger_turns s u t id (Err e) is b = b

-- ---- judging is over

pub over_is : (s u : LedgerState) → u ≡ judging_ended s → Becomes end_judging s u
over_is s u is = aside_is s u (λ (a : AsideOf). record a { over = true }) is

-- ---- several

pub mapped_at : {X Y : Type 0} (f : X → Y) (xs : List X) (i : ℕ) (d : X) → i < length xs → slice_get (map f xs) i ≡ Some (f (get_or xs i d))
mapped_at f [] i d h = absurd (omega arith)
mapped_at f (x ∷ xs) zero d h = refl
mapped_at f (x ∷ xs) (suc i) d h = mapped_at f xs i d (omega arith)

pub drop_here : {X : Type 0} (xs : List X) (i : ℕ) (x : X) → slice_get xs i ≡ Some x → drop i xs ≡ x ∷ drop (i + 1) xs
drop_here [] i x e = cc
drop_here {X} (y ∷ xs) zero x e = let q : y ≡ x = cc in ap (λ (z : X). z ∷ xs) q
drop_here {X} (y ∷ xs) (suc i) x e =
    let more : suc i + 1 ≡ suc (i + 1) = omega arith in
    drop_here xs i x e ∙ ap (λ (n : ℕ). x ∷ drop n (y ∷ xs)) (sym more)

pub drop_past : {X : Type 0} (xs : List X) (i : ℕ) → length xs ≤ i → drop i xs ≡ []
drop_past [] zero h = refl
drop_past [] (suc i) h = refl
drop_past (x ∷ xs) zero h = absurd (omega arith)
drop_past (x ∷ xs) (suc i) h = drop_past xs i (omega arith)

module _ (t : ℤ) (whole : WorldOf → WorldOf) (s : LedgerState) (ids : List (List ℕ)) where
  pub each_step : (u v : LedgerState) (i : ℕ) (id : List ℕ) → slice_get ids i ≡ Some id → Nears (set_each_aside t (drop i ids)) whole s u → Becomes (set_aside t id) u v
      → Nears (set_each_aside t (drop (i + 1) ids)) whole s v
  each_step u v i id at n b =
      nears_step (set_each_aside t (drop i ids)) (set_each_aside t (drop (i + 1) ids)) whole (set_aside t id) s u v
      (λ c. ap (λ (xs : List (List ℕ)). set_each_aside t xs (world c u.now)) (drop_here ids i id at)) n b

  pub each_done : (u : LedgerState) (i : ℕ) → length ids ≤ i → Nears (set_each_aside t (drop i ids)) whole s u → Becomes whole s u
  each_done u i past n =
      let P : List (List ℕ) → Type 0 = λ xs. Nears (set_each_aside t xs) whole s u in
      subst P (drop_past ids i past) n

  pub strangers_step : (u v : LedgerState) (i : ℕ) (id : List ℕ) → slice_get ids i ≡ Some id → Nears (set_strangers_aside t (drop i ids)) whole s u → Becomes (set_stranger_aside t id) u v
      → Nears (set_strangers_aside t (drop (i + 1) ids)) whole s v
  strangers_step u v i id at n b =
      nears_step (set_strangers_aside t (drop i ids)) (set_strangers_aside t (drop (i + 1) ids)) whole (set_stranger_aside t id) s u v
      (λ c. ap (λ (xs : List (List ℕ)). set_strangers_aside t xs (world c u.now)) (drop_here ids i id at)) n b

  pub strangers_done : (u : LedgerState) (i : ℕ) → length ids ≤ i → Nears (set_strangers_aside t (drop i ids)) whole s u → Becomes whole s u
  strangers_done u i past n =
      let P : List (List ℕ) → Type 0 = λ xs. Nears (set_strangers_aside t xs) whole s u in
      subst P (drop_past ids i past) n

-- ---- all

pub ids_world : (c : Choice) (hs : List Held) → ids_of (inv c hs) ≡ held_ids hs
ids_world c [] = refl
ids_world c (h ∷ hs) = ap (λ (xs : List (List ℕ)). h.card.id ∷ xs) (ids_world c hs)

pub ids_bodied : (t : ℤ) (place : Option ℕ) (V : List Thing) → ids_of (with_body t place V) ≡ ids_of V
ids_bodied t None V = refl
ids_bodied t (Some place) V = map-updated_hidden (λ (o : Thing). o.card.id) (body t) V place (λ o. refl)

ids_count : (hs : List Held) → length (held_ids hs) ≡ length hs
ids_count [] = refl
ids_count (h ∷ hs) = ap suc (ids_count hs)

ids_kept : (u v : LedgerState) (t : ℤ) (id : List ℕ) → Becomes (set_aside t id) u v → held_ids v.now.objects ≡ held_ids u.now.objects
ids_kept u v t id b =
    let c : Choice = λ n. [] in
    sym (ids_world c v.now.objects) ∙ ap (λ (w : WorldOf). ids_of w.things) (b.worlds c)
    ∙ ids_bodied t (place_of id (cards (inv c u.now.objects))) (inv c u.now.objects) ∙ ids_world c u.now.objects

pub all_start : (s : LedgerState) (t : ℤ) (count : ℕ) → count ≡ length s.now.objects → NearsAll t 0 count s s
all_start s t count is = record {
  nears = nears_start (λ w. set_rest_aside (set_each_aside t (held_ids s.now.objects) w)) (set_all_aside t) s
      (λ c. ap (λ (xs : List (List ℕ)). set_rest_aside (set_each_aside t xs (world c s.now))) (sym (ids_world c s.now.objects)));
  ids = refl;
  all = is;
}

pub all_within : (s u : LedgerState) (t : ℤ) (place count : ℕ) → place < count → NearsAll t place count s u → place < length u.now.objects
all_within s u t place count below n =
    let same : length u.now.objects ≡ length s.now.objects = sym (ids_count u.now.objects) ∙ ap (λ (xs : List (List ℕ)). length xs) n.ids ∙ ids_count s.now.objects in
    omega (arith, below, n.all, same)

pub all_step : (s u v : LedgerState) (t : ℤ) (place count : ℕ) (h : Held) (id : List ℕ) → slice_get u.now.objects place ≡ Some h → id ≡ h.card.id → NearsAll t place count s u
    → Becomes (set_aside t id) u v → NearsAll t (place + 1) count s v
all_step s u v t place count h id at is n b =
    let ids : List (List ℕ) = held_ids s.now.objects in
    let there : slice_get ids place ≡ Some id =
    ap (λ (xs : List (List ℕ)). slice_get xs place) (sym n.ids) ∙ get-map (λ (g : Held). g.card.id) u.now.objects place ∙ ap (option_map (λ (g : Held). g.card.id)) at ∙ ap (λ (x : List ℕ). Some x) (sym is) in
    record {
      nears = nears_step (λ w. set_rest_aside (set_each_aside t (drop place ids) w)) (λ w. set_rest_aside (set_each_aside t (drop (place + 1) ids) w)) (set_all_aside t) (set_aside t id) s u v
          (λ c. ap (λ (xs : List (List ℕ)). set_rest_aside (set_each_aside t xs (world c u.now))) (drop_here ids place id there)) n.nears b;
      ids = ids_kept u v t id b ∙ n.ids;
      all = n.all;
    }

pub all_done : (s u v : LedgerState) (t : ℤ) (place count : ℕ) → count ≤ place → NearsAll t place count s u → v ≡ rest_set_aside u → Becomes (set_all_aside t) s v
all_done s u v t place count past n is =
    let ids : List (List ℕ) = held_ids s.now.objects in
    let over : length ids ≤ place = omega (arith, past, n.all, ids_count s.now.objects) in
    let P : List (List ℕ) → Type 0 = λ xs. Nears (λ w. set_rest_aside (set_each_aside t xs w)) (set_all_aside t) s u in
    nears_step set_rest_aside (λ w. w) (set_all_aside t) set_rest_aside s u v (λ c. refl) (subst P (drop_past ids place over) n.nears) (aside_is u v (λ (a : AsideOf). record a { rest = true }) is)

-- ---- what an item leaves

pub left_these : {E : Type 0} (s u : LedgerState) (t : ℤ) (left : SetAside) (ids : Vec (Bor (List ℕ))) (xs : List (Bor (List ℕ))) (r : Result (Unit {0}) E) → left ≡ These ids → xs ≡ ids.items
    → Turns (set_each_aside t (map lent xs)) s r u → Turns (with_left t (aside_of left)) s r u
left_these s u t left ids xs r is same b =
    let P : LeftOf → Type 0 = λ a. Turns (with_left t a) s r u in
    let Q : List (Bor (List ℕ)) → Type 0 = λ ys. Turns (set_each_aside t (map lent ys)) s r u in
    subst P (sym (ap aside_of is)) (subst Q same b)

pub left_strangers : {E : Type 0} (s u : LedgerState) (t : ℤ) (left : SetAside) (ids : Vec (Bor (List ℕ))) (xs : List (Bor (List ℕ))) (r : Result (Unit {0}) E) → left ≡ Strangers ids → xs ≡ ids.items
    → Turns (set_strangers_aside t (map lent xs)) s r u → Turns (with_left t (aside_of left)) s r u
left_strangers s u t left ids xs r is same b =
    let P : LeftOf → Type 0 = λ a. Turns (with_left t a) s r u in
    let Q : List (Bor (List ℕ)) → Type 0 = λ ys. Turns (set_strangers_aside t (map lent ys)) s r u in
    subst P (sym (ap aside_of is)) (subst Q same b)
