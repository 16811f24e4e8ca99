-- Counts of the names of live objects.
use Rattle.std.proofs.Common.{◌≡◌, ℕ, zero, suc, ◌+◌, ◌-◌, ◌≤◌, ◌==◌, ◌&&◌, ◌||◌, Bool, true, false, cond, nat_lt, List, [], ◌∷◌, ◌++◌, length, drop, take, slice_get, Some, refl, ap, sym, ◌∙◌, subst, arith}
use Rattle.std.specs.List.{list_any}
use Rattle.std.specs.Ordering.{nat_cmp, is_eq}
use Rattle.std.specs.declared.cmp.Ordering.TheVariants.{Less, Equal, Greater}
use Rattle.std.proofs.lemmas.Bool.Decides.{nat_tests}
use Rattle.std.proofs.lemmas.List.{take_all}
use Rattle.kmipa_attrs.specs.Sets.{NameOf}
use Rattle.kmipa_object.specs.Inventory.{live}
use Rattle.kmipa_object.specs.Lists.{updated}
use Rattle.kmipa_object.specs.declared.life.Life.{Life}
use Rattle.kmipa_object.proofs.ListLemmas.{get-append_last, get-updated_same}
use Rattle.kmipa_store.specs.Ledger.{Held, relived, with_life}
use Rattle.kmipa_store.specs.Hashes.{name_hash}
use Rattle.kmipa_store.specs.Queries.{any_live_named, has_name, is_name}
use Rattle.kmipa_store.specs.Tally.{Counts, Lowers, Raises, all_with, count_at, live_with, names_with, one_at}
use Rattle.kmipa_store.specs.declared.tally.Tally.{Tally}
use Rattle.kmipa_store.proofs.NameLemmas.{hash_same}
use Rattle.kmipa_store.proofs.QueryLemmas.{drop-one, drop-past}

-- names counted one after the other
pub record Raising (old : Tally) (ns : List NameOf) (i : ℕ) (now : Tally) : Type 0 where
  pub was : now.exact ≡ true → old.exact ≡ true
  pub counts : now.exact ≡ true → (k : ℕ) → names_with k (drop i ns) + count_at now k ≡ names_with k ns + count_at old k

pub record Lowering (old : Tally) (ns : List NameOf) (i : ℕ) (now : Tally) : Type 0 where
  pub was : now.exact ≡ true → old.exact ≡ true
  pub counts : now.exact ≡ true → (k : ℕ) → names_with k ns + count_at now k ≡ names_with k (drop i ns) + count_at old k

pub raising_start : (old : Tally) (ns : List NameOf) → Raising old ns 0 old
raising_start old ns = record { was = λ e. e; counts = λ e k. refl }

pub lowering_start : (old : Tally) (ns : List NameOf) → Lowering old ns 0 old
lowering_start old ns = record { was = λ e. e; counts = λ e k. refl }

next_name : (k : ℕ) (ns : List NameOf) (i : ℕ) (n : NameOf) → slice_get ns i ≡ Some n → names_with k (drop i ns) ≡ one_at (name_hash n.value n.kind) k + names_with k (drop (suc i) ns)
next_name k ns i n at = ap (names_with k) (drop-one ns i n at)

pub raising_on : (old now new : Tally) (ns : List NameOf) (i hash : ℕ) (n : NameOf) → slice_get ns i ≡ Some n → hash ≡ name_hash n.value n.kind → Raising old ns i now → Raises now (λ k. one_at hash k) new → Raising old ns (suc i) new
raising_on old now new ns i hash n at is r s = record {
  was = λ e. r.was (s.was e);
  counts = λ e k.
      let a : names_with k (drop i ns) ≡ one_at hash k + names_with k (drop (suc i) ns) = next_name k ns i n at ∙ ap (λ h. one_at h k + names_with k (drop (suc i) ns)) (sym is) in
      let b = r.counts (s.was e) k in
      let d = s.counts e k in
      omega (arith, a, b, d);
}

pub lowering_on : (old now new : Tally) (ns : List NameOf) (i hash : ℕ) (n : NameOf) → slice_get ns i ≡ Some n → hash ≡ name_hash n.value n.kind → Lowering old ns i now → Lowers now (λ k. one_at hash k) new → Lowering old ns (suc i) new
lowering_on old now new ns i hash n at is r s = record {
  was = λ e. r.was (s.was e);
  counts = λ e k.
      let a : names_with k (drop i ns) ≡ one_at hash k + names_with k (drop (suc i) ns) = next_name k ns i n at ∙ ap (λ h. one_at h k + names_with k (drop (suc i) ns)) (sym is) in
      let b = r.counts (s.was e) k in
      let d = s.counts e k in
      omega (arith, a, b, d);
}

pub raising_end : (old now : Tally) (ns : List NameOf) (i : ℕ) → length ns ≤ i → Raising old ns i now → Raises old (λ k. names_with k ns) now
raising_end old now ns i past r = record {
  was = r.was;
  counts = λ e k. let none : names_with k (drop i ns) ≡ 0 = ap (names_with k) (drop-past ns i past) in let a = r.counts e k in omega (arith, none, a);
}

pub lowering_end : (old now : Tally) (ns : List NameOf) (i : ℕ) → length ns ≤ i → Lowering old ns i now → Lowers old (λ k. names_with k ns) now
lowering_end old now ns i past r = record {
  was = r.was;
  counts = λ e k. let none : names_with k (drop i ns) ≡ 0 = ap (names_with k) (drop-past ns i past) in let a = r.counts e k in omega (arith, none, a);
}

-- sums over objects
pub all_pushed : (k : ℕ) (hs : List Held) (h : Held) → all_with k (hs ++ h ∷ []) ≡ live_with k h + all_with k hs
all_pushed k [] h = refl
all_pushed k (g ∷ hs) h = let i = all_pushed k hs h in omega (arith, i)

pub all_updated : (k : ℕ) (hs : List Held) (place : ℕ) (h : Held) (f : Held → Held) → slice_get hs place ≡ Some h
    → live_with k h + all_with k (updated hs place f) ≡ live_with k (f h) + all_with k hs
all_updated k [] place h f at = cc
all_updated k (g ∷ hs) zero h f at =
    let is : g ≡ h = cc in
    let a : live_with k (f g) ≡ live_with k (f h) = ap (λ (x : Held). live_with k (f x)) is in
    let b : live_with k g ≡ live_with k h = ap (live_with k) is in
    omega (arith, a, b)
all_updated k (g ∷ hs) (suc place) h f at = let i = all_updated k hs place h f at in omega (arith, i)

pub all_popped : (k : ℕ) (hs : List Held) (last : ℕ) (h : Held) → length hs ≡ suc last → slice_get hs last ≡ Some h → live_with k h + all_with k (take last hs) ≡ all_with k hs
all_popped k [] last h l at = absurd (omega (arith, l))
all_popped k (g ∷ []) zero h l at = let is : g ≡ h = cc in let b : live_with k g ≡ live_with k h = ap (live_with k) is in omega (arith, b)
all_popped k (g ∷ f ∷ hs) zero h l at = absurd (omega (arith, l))
all_popped k (g ∷ hs) (suc last) h l at = let n : length hs ≡ suc last = omega (arith, l) in let i = all_popped k hs last h n at in omega (arith, i)

-- counts after a change
pub counts_pushed : (old new : Tally) (hs : List Held) (h : Held) → Counts old hs → Raises old (λ k. live_with k h) new → Counts new (hs ++ h ∷ [])
counts_pushed old new hs h c r = record {
  all = λ e k.
      let a = r.counts e k in
      let b = c.all (r.was e) k in
      let d = all_pushed k hs h in
      omega (arith, a, b, d);
}

pub counts_all : (t : Tally) (hs : List Held) (i : ℕ) → length hs ≤ i → Counts t (take i hs) → Counts t hs
counts_all t hs i past c = subst (λ (x : List Held). Counts t x) (take_all i hs past) c

pub counts_updated : (old mid new : Tally) (hs : List Held) (place : ℕ) (h : Held) (f : Held → Held) → Counts old hs → slice_get hs place ≡ Some h
    → Lowers old (λ k. live_with k h) mid → Raises mid (λ k. live_with k (f h)) new → Counts new (updated hs place f)
counts_updated old mid new hs place h f c at l r = record {
  all = λ e k.
      let a : count_at new k ≡ live_with k (f h) + count_at mid k = r.counts e k in
      let b = l.counts (r.was e) k in
      let d = c.all (l.was (r.was e)) k in
      let s = all_updated k hs place h f at in
      omega (arith, a, b, d, s);
}

pub counts_popped : (old new : Tally) (hs : List Held) (last : ℕ) (h : Held) → Counts old hs → length hs ≡ suc last → slice_get hs last ≡ Some h → Lowers old (λ k. live_with k h) new → Counts new (take last hs)
counts_popped old new hs last h c n at l = record {
  all = λ e k.
      let b = l.counts e k in
      let d = c.all (l.was e) k in
      let s = all_popped k hs last h n at in
      omega (arith, b, d, s);
}

-- where none is counted none has the name
one_same : (a b : ℕ) → a ≡ b → one_at a b ≡ 1
one_same a b e = let t : (a == b) ≡ true = grind (arith, nat_tests) in ap (λ (x : Bool). cond x 1 0) t

none_named : (value : List ℕ) (kind : ℕ) (ns : List NameOf) → names_with (name_hash value kind) ns ≡ 0 → list_any (is_name value kind) ns ≡ false
none_named value kind [] e = refl
none_named value kind (n ∷ ns) e =
    let first : one_at (name_hash n.value n.kind) (name_hash value kind) ≡ 0 = omega (arith, e) in
    let rest : names_with (name_hash value kind) ns ≡ 0 = omega (arith, e) in
    (elim (is_name value kind n) as (λ t. is_name value kind n ≡ t → (t || list_any (is_name value kind) ns) ≡ false) [
      | true ↦ λ is. let one = one_same (name_hash n.value n.kind) (name_hash value kind) (hash_same value kind n is) in absurd (omega (arith, first, one))
      | false ↦ λ is. none_named value kind ns rest
    ]) refl

none_live : (value : List ℕ) (kind : ℕ) (h : Held) → live_with (name_hash value kind) h ≡ 0 → (live h.card && has_name value kind h) ≡ false
none_live value kind h e = (elim (live h.card) as (λ t. cond t (names_with (name_hash value kind) h.card.given.names) 0 ≡ 0 → (t && has_name value kind h) ≡ false) [
  | true ↦ λ z. none_named value kind h.card.given.names z
  | false ↦ λ z. refl
]) e

none_of : (value : List ℕ) (kind : ℕ) (hs : List Held) → all_with (name_hash value kind) hs ≡ 0 → any_live_named value kind hs ≡ false
none_of value kind [] e = refl
none_of value kind (h ∷ hs) e =
    let first : live_with (name_hash value kind) h ≡ 0 = omega (arith, e) in
    let rest : all_with (name_hash value kind) hs ≡ 0 = omega (arith, e) in
    ap (λ (b : Bool). b || any_live_named value kind hs) (none_live value kind h first) ∙ none_of value kind hs rest

pub none_counted : (t : Tally) (hs : List Held) (value : List ℕ) (kind : ℕ) → Counts t hs → t.exact ≡ true → count_at t (name_hash value kind) ≡ 0 → any_live_named value kind hs ≡ false
none_counted t hs value kind c e z = none_of value kind hs (sym (c.all e (name_hash value kind)) ∙ z)

-- the test of a key's order is that of its number
pub same_key : (a b : ℕ) → is_eq (nat_cmp a b) ≡ (a == b)
same_key a b = (elim (nat_lt a b) as (λ t. nat_lt a b ≡ t → is_eq (cond t Less (cond (a == b) Equal Greater)) ≡ (a == b)) [
  | true ↦ λ e. let apart : (a == b) ≡ false = grind (arith, nat_tests, e) in sym apart
  | false ↦ λ e. (elim (a == b) as (λ s. is_eq (cond s Equal Greater) ≡ s) [ true ↦ refl | false ↦ refl ])
]) refl

-- an object more, found at its place
pub counts_more : (old new : Tally) (hs ys : List Held) (h g : Held) (place : ℕ) → Counts old hs → ys ≡ hs ++ h ∷ [] → place ≡ length hs → slice_get ys place ≡ Some g
    → Raises old (λ k. live_with k g) new → Counts new ys
counts_more old new hs ys h g place c e at is r =
    let one : Some h ≡ Some g = sym (get-append_last hs h) ∙ ap (slice_get (hs ++ h ∷ [])) (sym at) ∙ ap (λ (x : List Held). slice_get x place) (sym e) ∙ is in
    let same : h ≡ g = cc in
    subst (λ (x : List Held). Counts new x) (ap (λ (x : Held). hs ++ x ∷ []) (sym same) ∙ sym e) (counts_pushed old new hs g c r)

-- an object that was changed, found at its place
pub counts_changed : (old mid new : Tally) (hs ys : List Held) (place : ℕ) (h g : Held) (f : Held → Held) → Counts old hs → slice_get hs place ≡ Some h → ys ≡ updated hs place f → slice_get ys place ≡ Some g
    → Lowers old (λ k. live_with k h) mid → Raises mid (λ k. live_with k g) new → Counts new ys
counts_changed old mid new hs ys place h g f c at e is l r =
    let one : Some (f h) ≡ Some g = sym (get-updated_same hs place f h at) ∙ ap (λ (x : List Held). slice_get x place) (sym e) ∙ is in
    let same : f h ≡ g = cc in
    subst (λ (x : List Held). Counts new x) (sym e) (counts_updated old mid new hs place h f c at l (subst (λ (x : Held). Raises mid (λ k. live_with k x) new) (sym same) r))

-- one that leads another life
pub counts_led : (old mid new : Tally) (hs ys : List Held) (place : ℕ) (h g : Held) (life : Life) → Counts old hs → slice_get hs place ≡ Some h → ys ≡ relived hs place life → slice_get ys place ≡ Some g
    → Lowers old (λ k. live_with k h) mid → Raises mid (λ k. live_with k g) new → Counts new ys
counts_led old mid new hs ys place h g life c at e is l r = counts_changed old mid new hs ys place h g (λ x. with_life x life) c at e is l r

-- an object fewer
pub counts_fewer : (old new : Tally) (hs ys : List Held) (count last : ℕ) (h : Held) → Counts old hs → count ≡ length hs → (1 ≤ count) × (last ≡ count - 1) → slice_get hs last ≡ Some h → ys ≡ take (length hs - 1) hs
    → Lowers old (λ k. live_with k h) new → Counts new ys
counts_fewer old new hs ys count last h c n w at e l =
    let some = w.0 in
    let is = w.1 in
    let long : length hs ≡ suc last = omega (arith, n, some, is) in
    let place : length hs - 1 ≡ last = omega (arith, long) in
    subst (λ (x : List Held). Counts new x) (ap (λ k. take k hs) (sym place) ∙ sym e) (counts_popped old new hs last h c long at l)
