-- Entries of what is set aside.
use Rattle.std.proofs.Common.{◌≡◌, ◌≢◌, ◌<◌, ◌≤◌, ℕ, zero, suc, ◌+◌, ◌^◌, Bool, true, false, ◌||◌, cond, if◌then◌else◌, nat_lt, is_none, List, [], ◌∷◌, ◌++◌, length, take, slice_get, Option, Some, None, Result, Ok, Err, option_map, bytes_eq, refl, ap, sym, ◌∙◌, subst, arith}
use Rattle.std.specs.List.{position_from}
use Rattle.std.proofs.lemmas.Bool.{false_from_ne_true, lt-ltb}
use Rattle.std.proofs.lemmas.Bool.Decides.{nat_tests}
use Rattle.std.proofs.lemmas.List.{take-map}
use Rattle.std.proofs.lemmas.Slice.Eq.{bytes_eq-Decides}
use Rattle.kmipa_object.specs.Inventory.{Card}
use Rattle.kmipa_object.specs.declared.life.Life.{Life}
use Rattle.kmipa_object.proofs.ListLemmas.{get-map, length-updated, map-push, map-updated, updated-same, updated-twice}
use Rattle.kmipa_store.specs.Aside.{Entry, SaysOfEach, is_any_named, said_aside, said_in, says}
use Rattle.kmipa_store.specs.AsideIds.{count_in, entries_of, entry_of, entry_place, said, said_at}
use Rattle.kmipa_store.specs.Calls.{SetsAside}
use Rattle.kmipa_store.specs.Ledger.{Held, LedgerState, cards_of, place_of, relived, set_aside, taken_in, with_aside, with_life}
use Rattle.kmipa_store.specs.Memory.{Pushes, RefusedForMemory}
use Rattle.kmipa_store.specs.declared.fault.StoreFault.{StoreFault}
use Rattle.kmipa_store.proofs.NameLemmas.{length-map}

abbrev has : List ℕ → Entry → Bool
has id e = bytes_eq id e.0

-- an identifier stands at the place of its object
place_from : (id : List ℕ) (hs : List Held) (i : ℕ) → position_from (λ (c : Card). bytes_eq id c.id) i (cards_of hs) ≡ position_from (has id) i (entries_of hs)
place_from id [] i = refl
place_from id (h ∷ hs) i = ap (λ (r : Option ℕ). cond (bytes_eq id h.card.id) (Some i) r) (place_from id hs (i + 1))

pub place_entries : (id : List ℕ) (hs : List Held) → place_of id (cards_of hs) ≡ entry_place id (entries_of hs)
place_entries id hs = place_from id hs 0

pub length-entries : (hs : List Held) → length (entries_of hs) ≡ length hs
length-entries hs = length-map entry_of hs

-- an identifier whose first entry stands at a place
pub record Stands (es : List Entry) (id : List ℕ) (place : ℕ) : Type 0 where
  pub tells : (b : Bool) → said_at es place ≡ Some b → says es id ≡ b
  pub aside : said_aside es id ≡ said es place true
  pub taken : said_in es id ≡ said es place false

-- one without an entry
pub record Misses (es : List Entry) (id : List ℕ) : Type 0 where
  pub tells : says es id ≡ false
  pub aside : said_aside es id ≡ es ++ (id, true) ∷ []
  pub taken : said_in es id ≡ es

stands_from : (id : List ℕ) (es : List Entry) (i k : ℕ) → position_from (has id) i es ≡ Some k → (j : ℕ) × (k ≡ i + j) × Stands es id j
stands_from id [] i k at = let bad : ⊥ = cc in absurd bad
stands_from id (e ∷ es) i k at =
    (elim (bytes_eq id e.0) as (λ t. bytes_eq id e.0 ≡ t → cond t (Some i) (position_from (has id) (i + 1) es) ≡ Some k → (j : ℕ) × (k ≡ i + j) × Stands (e ∷ es) id j) [
      | true ↦ λ is q.
          let same : i ≡ k = cc in (
            0,
            omega (arith, same),
            record {
              tells = λ b s. let own : e.1 ≡ b = cc in ap (λ (t : Bool). if t then e.1 else says es id) is ∙ own;
              aside = ap (λ (t : Bool). if t then (e.0, true) ∷ es else e ∷ said_aside es id) is;
              taken = ap (λ (t : Bool). if t then (e.0, false) ∷ es else e ∷ said_in es id) is;
            },
          )
      | false ↦ λ is q.
          let r = stands_from id es (i + 1) k q in (
            suc r.0,
            omega (arith, r.1),
            record {
              tells = λ b s. ap (λ (t : Bool). if t then e.1 else says es id) is ∙ r.2.tells b s;
              aside = ap (λ (t : Bool). if t then (e.0, true) ∷ es else e ∷ said_aside es id) is ∙ ap (λ (xs : List Entry). e ∷ xs) r.2.aside;
              taken = ap (λ (t : Bool). if t then (e.0, false) ∷ es else e ∷ said_in es id) is ∙ ap (λ (xs : List Entry). e ∷ xs) r.2.taken;
            },
          )
    ]) refl at

pub stands : (id : List ℕ) (es : List Entry) (place : ℕ) → Some place ≡ entry_place id es → Stands es id place
stands id es place at =
    let r = stands_from id es 0 place (sym at) in
    let is : place ≡ 0 + r.0 = r.1 in
    subst (λ (j : ℕ). Stands es id j) (omega (arith, is)) r.2

misses_from : (id : List ℕ) (es : List Entry) (i : ℕ) → position_from (has id) i es ≡ None → Misses es id
misses_from id [] i at = record { tells = refl; aside = refl; taken = refl }
misses_from id (e ∷ es) i at =
    (elim (bytes_eq id e.0) as (λ t. bytes_eq id e.0 ≡ t → cond t (Some i) (position_from (has id) (i + 1) es) ≡ None → Misses (e ∷ es) id) [
      | true ↦ λ is q. let bad : ⊥ = cc in absurd bad
      | false ↦ λ is q.
          let r = misses_from id es (i + 1) q in
          record {
            tells = ap (λ (t : Bool). if t then e.1 else says es id) is ∙ r.tells;
            aside = ap (λ (t : Bool). if t then (e.0, true) ∷ es else e ∷ said_aside es id) is ∙ ap (λ (xs : List Entry). e ∷ xs) r.aside;
            taken = ap (λ (t : Bool). if t then (e.0, false) ∷ es else e ∷ said_in es id) is ∙ ap (λ (xs : List Entry). e ∷ xs) r.taken;
          }
    ]) refl at

pub misses : (id : List ℕ) (es : List Entry) → None ≡ entry_place id es → Misses es id
misses id es at = misses_from id es 0 (sym at)

-- what is said of an identifier, and of another one
itself : (id : List ℕ) → bytes_eq id id ≡ true
itself id = (bytes_eq-Decides id id).1 refl

same_id : (id jd : List ℕ) → bytes_eq id jd ≡ true → id ≡ jd
same_id id jd e = (bytes_eq-Decides id jd).0 e

module _ (id : List ℕ) where
  aside_itself : (es : List Entry) → says (said_aside es id) id ≡ true
  aside_itself [] = ap (λ (t : Bool). if t then true else false) (itself id)
  aside_itself (e ∷ es) = (elim (bytes_eq id e.0) as (λ t. bytes_eq id e.0 ≡ t → says (if t then (e.0, true) ∷ es else e ∷ said_aside es id) id ≡ true) [
    | true ↦ λ is. ap (λ (t : Bool). if t then true else says es id) is
    | false ↦ λ is. ap (λ (t : Bool). if t then e.1 else says (said_aside es id) id) is ∙ aside_itself es
  ]) refl

  taken_itself : (es : List Entry) → says (said_in es id) id ≡ false
  taken_itself [] = refl
  taken_itself (e ∷ es) = (elim (bytes_eq id e.0) as (λ t. bytes_eq id e.0 ≡ t → says (if t then (e.0, false) ∷ es else e ∷ said_in es id) id ≡ false) [
    | true ↦ λ is. ap (λ (t : Bool). if t then false else says es id) is
    | false ↦ λ is. ap (λ (t : Bool). if t then e.1 else says (said_in es id) id) is ∙ taken_itself es
  ]) refl

  module _ (other : List ℕ) (apart : other ≢ id) where
    is_apart : bytes_eq other id ≡ false
    is_apart = false_from_ne_true (bytes_eq other id) (λ e. apart (same_id other id e))

    -- an entry of the one says nothing of the other
    no_other : (e : Entry) → bytes_eq id e.0 ≡ true → bytes_eq other e.0 ≡ false
    no_other e is = ap (bytes_eq other) (sym (same_id id e.0 is)) ∙ is_apart

    aside_apart : (es : List Entry) → says (said_aside es id) other ≡ says es other
    aside_apart [] = ap (λ (t : Bool). if t then true else false) is_apart
    aside_apart (e ∷ es) = (elim (bytes_eq id e.0) as (λ t. bytes_eq id e.0 ≡ t → says (if t then (e.0, true) ∷ es else e ∷ said_aside es id) other ≡ says (e ∷ es) other) [
      | true ↦ λ is. ap (λ (t : Bool). if t then true else says es other) (no_other e is) ∙ sym (ap (λ (t : Bool). if t then e.1 else says es other) (no_other e is))
      | false ↦ λ is. ap (λ (b : Bool). if bytes_eq other e.0 then e.1 else b) (aside_apart es)
    ]) refl

    taken_apart : (es : List Entry) → says (said_in es id) other ≡ says es other
    taken_apart [] = refl
    taken_apart (e ∷ es) = (elim (bytes_eq id e.0) as (λ t. bytes_eq id e.0 ≡ t → says (if t then (e.0, false) ∷ es else e ∷ said_in es id) other ≡ says (e ∷ es) other) [
      | true ↦ λ is. ap (λ (t : Bool). if t then false else says es other) (no_other e is) ∙ sym (ap (λ (t : Bool). if t then e.1 else says es other) (no_other e is))
      | false ↦ λ is. ap (λ (b : Bool). if bytes_eq other e.0 then e.1 else b) (taken_apart es)
    ]) refl

pub says_of_each : SaysOfEach
says_of_each = record { aside = λ es id. aside_itself id es; taken = λ es id. taken_itself id es; aside_other = λ es id other n. aside_apart id other n es; taken_other = λ es id other n. taken_apart id other n es }

-- an entry that says again what it said
pub said_back : (es : List Entry) (place : ℕ) (aside before : Bool) → said_at es place ≡ Some before → said (said es place aside) place before ≡ es
said_back es place aside before at =
    updated-twice es place (λ e. (e.0, aside)) (λ e. (e.0, before))
    ∙ updated-same es place (λ e. (e.0, before)) (λ e there.
    let both : Some before ≡ Some e.1 = sym at ∙ ap (option_map (λ (x : Entry). x.1)) there in
    let own : before ≡ e.1 = cc in
    ap (λ (t : Bool). (e.0, t)) own)

-- how many were taken in
pub count_within : (es : List Entry) → count_in es ≤ length es
count_within [] = omega arith
count_within (e ∷ es) =
    let h = count_within es in
    (elim e.1 as (λ t. cond t 0 1 + count_in es ≤ suc (length es)) [ true ↦ omega (arith, h) | false ↦ omega (arith, h) ])

less_more : (a b : ℕ) → nat_lt (1 + a) (suc b) ≡ nat_lt a b
less_more a b = (elim (nat_lt a b) as (λ t. nat_lt a b ≡ t → nat_lt (1 + a) (suc b) ≡ t) [
  | true ↦ λ e. grind (arith, nat_tests, e)
  | false ↦ λ e. grind (arith, nat_tests, e)
]) refl

pub any_counted : (es : List Entry) → nat_lt (count_in es) (length es) ≡ is_any_named es
any_counted [] = refl
any_counted (e ∷ es) =
    let h = count_within es in
    (elim e.1 as (λ t. nat_lt (cond t 0 1 + count_in es) (suc (length es)) ≡ (t || is_any_named es)) [
      | true ↦ lt-ltb (0 + count_in es) (suc (length es)) (omega (arith, h))
      | false ↦ less_more (count_in es) (length es) ∙ any_counted es
    ])

pub count_pushed : (es : List Entry) (id : List ℕ) → count_in (es ++ (id, true) ∷ []) ≡ count_in es
count_pushed [] id = refl
count_pushed (e ∷ es) id = ap (λ (n : ℕ). cond e.1 0 1 + n) (count_pushed es id)

pub count_said : (es : List Entry) (place : ℕ) (aside before : Bool) → said_at es place ≡ Some before → count_in (said es place aside) + cond before 0 1 ≡ count_in es + cond aside 0 1
count_said [] place aside before at = cc
count_said (e ∷ es) zero aside before at =
    let own : e.1 ≡ before = cc in
    let same : ◌≡◌ {A = ℕ} (cond e.1 0 1) (cond before 0 1) = ap (λ (t : Bool). cond t 0 1) own in
    omega (arith, same)
count_said (e ∷ es) (suc place) aside before at = let i = count_said es place aside before at in omega (arith, i)

-- so the count stays a number, whatever one says
pub recounts : (es : List Entry) (place : ℕ) (aside before : Bool) (taken n : ℕ) → said_at es place ≡ Some before → taken ≡ count_in es → n ≡ length es → n < 2 ^ 64
    → (cond before 0 1 ≤ taken) × (taken + cond aside 0 1 < 2 ^ 64 + cond before 0 1)
recounts es place aside before taken n at is long small =
    let none = count_said es place true before at in
    let some = count_said es place aside before at in
    let within = count_within (said es place aside) in
    let same : length (said es place aside) ≡ length es = length-updated es place (λ e. (e.0, aside)) in
    (omega (arith, none, is), omega (arith, some, within, same, is, long, small))

pub count_popped : (es : List Entry) (last : ℕ) (before : Bool) → length es ≡ suc last → said_at es last ≡ Some before → count_in (take last es) + cond before 0 1 ≡ count_in es
count_popped [] last before l at = absurd (omega (arith, l))
count_popped (e ∷ []) zero before l at =
    let own : e.1 ≡ before = cc in
    let same : ◌≡◌ {A = ℕ} (cond e.1 0 1) (cond before 0 1) = ap (λ (t : Bool). cond t 0 1) own in
    omega (arith, same)
count_popped (e ∷ f ∷ es) zero before l at = absurd (omega (arith, l))
count_popped (e ∷ es) (suc last) before l at = let n : length es ≡ suc last = omega (arith, l) in let i = count_popped es last before n at in omega (arith, i)

-- entries of objects
pub said_held : (hs : List Held) (place : ℕ) (h : Held) → slice_get hs place ≡ Some h → said_at (entries_of hs) place ≡ Some (is_none h.card.dates.destroy)
said_held hs place h at = ap (option_map (λ (e : Entry). e.1)) (get-map entry_of hs place) ∙ ap (λ (o : Option Held). option_map (λ (e : Entry). e.1) (option_map entry_of o)) at

pub entries_pushed : (hs : List Held) (h : Held) → entries_of (hs ++ h ∷ []) ≡ entries_of hs ++ entry_of h ∷ []
entries_pushed hs h = map-push entry_of hs h

pub entries_said : (hs : List Held) (place : ℕ) (life : Life) (aside : Bool) → is_none life.destroy ≡ aside → entries_of (relived hs place life) ≡ said (entries_of hs) place aside
entries_said hs place life aside is =
    map-updated entry_of (λ h. with_life h life) (λ e. (e.0, is_none life.destroy)) hs place (λ h. refl)
    ∙ ap (said (entries_of hs) place) is

pub entries_popped : (hs : List Held) (n : ℕ) → entries_of (take n hs) ≡ take n (entries_of hs)
entries_popped hs n = sym (take-map entry_of n hs)

-- what `set_aside` and `take_in` leave of a ledger
pub set_aside_at : (s : LedgerState) (id : List ℕ) (place : ℕ) (es : List Entry) → Some place ≡ entry_place id s.now.aside.ids → es ≡ said s.now.aside.ids place true
    → with_aside s (record { ids = es; rest = s.now.aside.rest; over = s.now.aside.over }) ≡ set_aside s id
set_aside_at s id place es at e =
    ap (λ (x : List Entry). with_aside s (record { ids = x; rest = s.now.aside.rest; over = s.now.aside.over })) (e ∙ sym (stands id s.now.aside.ids place at).aside)

pub set_aside_new : (s : LedgerState) (id : List ℕ) (es : List Entry) (r : Result (Unit {0}) StoreFault) → None ≡ entry_place id s.now.aside.ids → Pushes s.now.aside.ids (id, true) r es
    → SetsAside s id r (with_aside s (record { ids = es; rest = s.now.aside.rest; over = s.now.aside.over }))
set_aside_new s id es (Ok u) at p =
    ap (λ (x : List Entry). with_aside s (record { ids = x; rest = s.now.aside.rest; over = s.now.aside.over })) (p ∙ sym (misses id s.now.aside.ids at).aside)
set_aside_new s id es (Err fault) at p =
    let t = with_aside s (record { ids = es; rest = s.now.aside.rest; over = s.now.aside.over }) in
    let P : StoreFault → Type 0 = λ x. RefusedForMemory x s t in
    subst P (sym p.0) (ap (λ (x : List Entry). with_aside s (record { ids = x; rest = s.now.aside.rest; over = s.now.aside.over })) p.1)

pub taken_in_at : (s : LedgerState) (id : List ℕ) (place : ℕ) (es : List Entry) → Some place ≡ entry_place id s.now.aside.ids → es ≡ said s.now.aside.ids place false
    → with_aside s (record { ids = es; rest = s.now.aside.rest; over = s.now.aside.over }) ≡ taken_in s id
taken_in_at s id place es at e =
    ap (λ (x : List Entry). with_aside s (record { ids = x; rest = s.now.aside.rest; over = s.now.aside.over })) (e ∙ sym (stands id s.now.aside.ids place at).taken)

pub taken_in_none : (s : LedgerState) (id : List ℕ) → None ≡ entry_place id s.now.aside.ids → s ≡ taken_in s id
taken_in_none s id at =
    ap (λ (x : List Entry). with_aside s (record { ids = x; rest = s.now.aside.rest; over = s.now.aside.over })) (sym (misses id s.now.aside.ids at).taken)
