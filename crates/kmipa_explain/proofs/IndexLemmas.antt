-- The places of entries, one more at a time.
use Rattle.std.proofs.Common.{◌≡◌, ◌≤◌, ◌<◌, ℕ, ◌+◌, ◌-◌, suc, Bool, true, false, cond, List, [], drop, find, bytes_eq, length, slice_get, String, Option, Some, None, refl, sym, ap, ◌∙◌, subst, arith}
use Rattle.std.specs.Prelude.{option_and_then}
use Rattle.std.specs.BTreeMap.{BTreeMap, get_by_text, is_at}
use Rattle.std.specs.Cmp.Lexicographic.{slice_cmp}
use Rattle.std.specs.Global.{Global}
use Rattle.std.specs.Map.{lookup}
use Rattle.std.specs.Ordering.{nat_cmp}
use Rattle.std.specs.String.{string_bytes}
use Rattle.kmipa_record.specs.Entries.{EntryOf}
use Rattle.kmipa_explain.specs.Ids.{Indexes, place_in}
use Rattle.kmipa_explain.specs.declared.entry_index.EntryIndex.{EntryIndex}
use Rattle.kmipa_explain.proofs.IdLemmas.{same_bytes}
use Rattle.kmipa_explain.proofs.KeptLemmas.{drop_at, drop_all}

cond_inside : {A B : Type 0} (f : A → Option B) (b : Bool) (x : A) (o : Option A) → option_and_then f (cond b (Some x) o) ≡ cond b (f x) (option_and_then f o)
cond_inside f true x o = refl
cond_inside f false x o = refl

-- an index without places has none
none_in : (m : BTreeMap (String Global) ℕ) → m.entries ≡ [] → (id : List ℕ) → get_by_text m id ≡ None
none_in m empty id = ap (lookup (is_at (λ k. slice_cmp nat_cmp id (string_bytes k)))) empty

module _ (entries : List EntryOf) where
  -- the entries from a place on are indexed
  abbrev pub IndexesFrom : ℕ → EntryIndex → Type 0
  IndexesFrom place index = (id : List ℕ) → option_and_then (slice_get entries) (place_in index id) ≡ find (λ (e : EntryOf). bytes_eq id e.id) (drop place entries)

  pub indexed_none : (place : ℕ) (index : EntryIndex) → length entries ≤ place → ((id : List ℕ) → place_in index id ≡ None) → IndexesFrom place index
  indexed_none place index end none id =
      ap (option_and_then (slice_get entries)) (none id) ∙ ap (find (λ (e : EntryOf). bytes_eq id e.id)) (sym (drop_all entries place end))

  pub indexed_more : (place : ℕ) (x : EntryOf) (old new : EntryIndex) → slice_get entries place ≡ Some x
      → ((id : List ℕ) → place_in new id ≡ cond (bytes_eq x.id id) (Some place) (place_in old id)) → IndexesFrom (place + 1) old → IndexesFrom place new
  indexed_more place x old new at after from id =
      let get : ℕ → Option EntryOf = slice_get entries in
      let test : EntryOf → Bool = λ e. bytes_eq id e.id in
      let next : place + 1 ≡ suc place = omega arith in
      ap (option_and_then get) (after id)
      ∙ cond_inside get (bytes_eq x.id id) place (place_in old id)
      ∙ ap (λ (o : Option EntryOf). cond (bytes_eq x.id id) o (option_and_then get (place_in old id))) at
      ∙ ap (λ (o : Option EntryOf). cond (bytes_eq x.id id) (Some x) o) (from id ∙ ap (λ (n : ℕ). find test (drop n entries)) next)
      ∙ ap (λ (b : Bool). cond b (Some x) (find test (drop (suc place) entries))) (same_bytes x.id id)
      ∙ ap (find test) (sym (drop_at entries place x at))

  pub indexed_before : (place : ℕ) (x : EntryOf) (old new : EntryIndex) → 0 < place → slice_get entries (place - 1) ≡ Some x
      → ((id : List ℕ) → place_in new id ≡ cond (bytes_eq x.id id) (Some (place - 1)) (place_in old id)) → IndexesFrom place old → IndexesFrom (place - 1) new
  indexed_before place x old new some at after from =
      let P : ℕ → Type 0 = λ n. IndexesFrom n old in
      let e : place ≡ place - 1 + 1 = omega (arith, some) in
      indexed_more (place - 1) x old new at after (subst P e from)

  pub indexed_all : (place : ℕ) (index : EntryIndex) → place ≤ 0 → IndexesFrom place index → Indexes entries index
  indexed_all place index end from =
      let P : ℕ → Type 0 = λ n. IndexesFrom n index in
      let e : place ≡ 0 = omega (arith, end) in
      subst P e from

  pub indexed_empty : (place : ℕ) (index : EntryIndex) → length entries ≤ place → index.places.entries ≡ [] → IndexesFrom place index
  indexed_empty place index end empty = indexed_none place index end (λ id. none_in index.places empty id)
