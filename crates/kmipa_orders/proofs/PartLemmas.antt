-- Where calls have a run, their parts on some objects have one.
use Rattle.std.proofs.Common.{◌≡◌, ◌≢◌, ◌<◌, ◌⊎◌, inl, inr, ℕ, zero, suc, Bool, true, false, cond, List, [], ◌∷◌, ◌++◌, map, take, length, get_or, ◌+◌, bytes_eq, slice_get, Option, Some, None, Contains, refl, sym, ap, ◌∙◌, subst, arith}
use Rattle.std.specs.Prelude.{AllPairs, IsPermutation}
use Rattle.std.specs.List.{filter, AllZip}
use Rattle.std.proofs.lemmas.List.{append-nil, map-append, take_more}
use Rattle.std.proofs.lemmas.List.Elements.{All-filter, Contains-append_cases, filter-append}
use Rattle.std.proofs.lemmas.List.Kept.{AllPairs-filter}
use Rattle.std.proofs.lemmas.List.Sorted.{Contains-permutation, IsPermutation-sym}
use Rattle.kmipa_object.specs.Inventory.{Thing}
use Rattle.kmipa_msgs.specs.Messages.{RulesOf}
use Rattle.kmipa_store.specs.Ledger.{Meaning}
use Rattle.kmipa_record.specs.Declarations.{DeclarationOf, AreDeclared}
use Rattle.kmipa_record.specs.Entries.{EntryOf, IsDeclarable, entry_of}
use Rattle.kmipa_record.specs.declared.entry.Entry.{Entry}
use Rattle.kmipa_check.specs.Steps.{StepOf}
use Rattle.kmipa_check.specs.Described.{IsDescribed, Describes}
use Rattle.kmipa_check.specs.Runs.{rules_declared}
use Rattle.kmipa_check.specs.Verdicts.{AreKnown}
use Rattle.kmipa_check.proofs.PlaceLemmas.{contains_at, at_contains, at_within, apart}
use Rattle.kmipa_parts.specs.Parts.{OwnOf, cut, IsPartOrNone, AreParts}
use Rattle.kmipa_parts.proofs.CutLemmas.{cut_has}
use Rattle.kmipa_parts.proofs.CallLemmas.{run_projects_lem}
use Rattle.kmipa_parts.proofs.RunLemmas.{before_back, index_is, part_at, pair_at, pairs_all, parts_pair, parts_are_placed_lem, those_there}
use Rattle.kmipa_batch.specs.Readable.{IsReadableCall}
use Rattle.kmipa_orders.specs.ByObject.{AreOrderly, declared_on, RunsByObject}
use Rattle.kmipa_orders.specs.LawsOfCheck.{LawsOfCheck}
use Rattle.kmipa_orders.specs.Progress.{AllReadable, AreBegun, AreTimed, ComesTo, HaveRun, Opens}
use Rattle.kmipa_orders.specs.Taken.{step_at, no_step}
use Rattle.kmipa_orders.proofs.CutLemmas.{once_permuted}
use Rattle.kmipa_orders.proofs.PermutationLemmas.{IsOnce, at_most, permuted, once_pairs}
use Rattle.kmipa_orders.proofs.PlaceLemmas.{one_cases, one_place}

-- ---- lists of which some are there

pub there_at : (each : List (Option StepOf)) (i : ℕ) (p : StepOf) → slice_get (those_there each) i ≡ Some p → (k : ℕ) × (slice_get each k ≡ Some (Some p))
there_at [] i p at = let bad : ⊥ = cc in absurd bad
there_at (None ∷ each) i p at = let r = there_at each i p at in (suc r.0, r.1)
there_at (Some x ∷ each) zero p at = (0, ap Some at)
there_at (Some x ∷ each) (suc i) p at = let r = there_at each i p at in (suc r.0, r.1)

pub at_there : (each : List (Option StepOf)) (k : ℕ) (p : StepOf) → slice_get each k ≡ Some (Some p) → (i : ℕ) × (slice_get (those_there each) i ≡ Some p)
at_there [] k p at = let bad : ⊥ = cc in absurd bad
at_there (None ∷ each) zero p at = let bad : ⊥ = cc in absurd bad
at_there (None ∷ each) (suc k) p at = at_there each k p at
at_there (Some x ∷ each) zero p at = (0, cc)
at_there (Some x ∷ each) (suc k) p at = let r = at_there each k p at in (suc r.0, r.1)

zip_at : (these : OwnOf) (calls : List StepOf) (each : List (Option StepOf)) (k : ℕ) (c : StepOf) → AllZip (IsPartOrNone these) calls each → slice_get calls k ≡ Some c
    → (e : Option StepOf) × (slice_get each k ≡ Some e) × IsPartOrNone these c e
zip_at these [] [] k c z at = let bad : ⊥ = cc in absurd bad
zip_at these [] (e ∷ each) k c z at = absurd z
zip_at these (x ∷ calls) [] k c z at = absurd z
zip_at these (x ∷ calls) (e ∷ each) zero c z at = let same : x ≡ c = cc in (e, refl, subst (λ (y : StepOf). IsPartOrNone these y e) same z.0)
zip_at these (x ∷ calls) (e ∷ each) (suc k) c z at = zip_at these calls each k c z.1 at

zip_back : (these : OwnOf) (calls : List StepOf) (each : List (Option StepOf)) (k : ℕ) (e : Option StepOf) → AllZip (IsPartOrNone these) calls each → slice_get each k ≡ Some e
    → (c : StepOf) × (slice_get calls k ≡ Some c)
zip_back these [] [] k e z at = let bad : ⊥ = cc in absurd bad
zip_back these [] (x ∷ each) k e z at = absurd z
zip_back these (c ∷ calls) [] k e z at = absurd z
zip_back these (c ∷ calls) (x ∷ each) zero e z at = (c, refl)
zip_back these (c ∷ calls) (x ∷ each) (suc k) e z at = zip_back these calls each k e z.1 at

-- the parts of calls in another order
record Picked (these : OwnOf) (calls : List StepOf) (each : List (Option StepOf)) (order : List StepOf) : Type 0 where
  those : List (Option StepOf)
  of_order : AllZip (IsPartOrNone these) order those
  from : (j : ℕ) (e : Option StepOf) → slice_get those j ≡ Some e → (k : ℕ) × (slice_get each k ≡ Some e) × (slice_get calls k ≡ slice_get order j)

pick : (these : OwnOf) (calls : List StepOf) (each : List (Option StepOf)) (order : List StepOf) → AllZip (IsPartOrNone these) calls each → ((c : StepOf) → Contains order c → Contains calls c) → Picked these calls each order
pick these calls each [] z inside = record { those = []; of_order = tt; from = λ j e at. let bad : ⊥ = cc in absurd bad }
pick these calls each (c ∷ order) z inside =
    let k = at_contains calls c (inside c (contains_at (c ∷ order) 0 c refl)) in
    let e = zip_at these calls each k.0 c z k.1 in
    let rest = pick these calls each order z (λ x has. let i = at_contains order x has in inside x (contains_at (c ∷ order) (suc i.0) x i.1)) in
    record { those = e.0 ∷ rest.those; of_order = (e.2, rest.of_order); from = by k.0 e.0 k.1 e.1 rest.those rest.from }
  where
    by : (k : ℕ) (e : Option StepOf) → slice_get calls k ≡ Some c → slice_get each k ≡ Some e → (those : List (Option StepOf))
        → ((j : ℕ) (x : Option StepOf) → slice_get those j ≡ Some x → (n : ℕ) × (slice_get each n ≡ Some x) × (slice_get calls n ≡ slice_get order j))
        → (j : ℕ) (x : Option StepOf) → slice_get (e ∷ those) j ≡ Some x → (n : ℕ) × (slice_get each n ≡ Some x) × (slice_get calls n ≡ slice_get (c ∷ order) j)
    by k e there stands those from zero x at = let same : e ≡ x = cc in (k, stands ∙ ap Some same, there)
    by k e there stands those from (suc j) x at = from j x at

module _ (these : OwnOf) (calls parts : List StepOf) (begun : AreBegun calls) (a : AreParts these calls parts) where
  begins : AllPairs (λ (c d : StepOf). c.begin < d.begin) calls
  begins = pairs_all (λ (c d : StepOf). c.begin < d.begin) calls (λ i j x y lt s t.
      let b = begun i j lt (at_within calls j y t) in
      subst (λ (u : StepOf). u.begin < y.begin) (index_is calls i x no_step s) (subst (λ (u : StepOf). (step_at calls i).begin < u.begin) (index_is calls j y no_step t) b))

  -- calls that begin at one place are one
  one_begin : (i j : ℕ) (c d : StepOf) → slice_get calls i ≡ Some c → slice_get calls j ≡ Some d → c.begin ≡ d.begin → i ≡ j
  one_begin i j c d s t e = by (apart i j)
    where
      by : (i < j) ⊎ ((j < i) ⊎ (i ≡ j)) → i ≡ j
      by (inl lt) = let b = pair_at (λ (x y : StepOf). x.begin < y.begin) calls i j c d begins lt s t in absurd (omega (arith, b, e))
      by (inr (inl lt)) = let b = pair_at (λ (x y : StepOf). x.begin < y.begin) calls j i d c begins lt t s in absurd (omega (arith, b, e))
      by (inr (inr same)) = same

  calls_once : IsOnce calls
  calls_once = once_pairs calls (pairs_all (λ (x y : StepOf). x ≢ y) calls (λ i j x y lt s t same. let b = pair_at (λ (u v : StepOf). u.begin < v.begin) calls i j x y begins lt s t in
      let e = ap (λ (u : StepOf). u.begin) same in omega (arith, b, e)))

  differ : (xs : List StepOf) → AllPairs (λ (x y : StepOf). x.begin ≢ y.begin) xs → IsOnce xs
  differ xs h = once_pairs xs (pairs_all (λ (x y : StepOf). x ≢ y) xs (λ i j x y lt s t same. pair_at (λ (u v : StepOf). u.begin ≢ v.begin) xs i j x y h lt s t (ap (λ (u : StepOf). u.begin) same)))

  parts_once : IsOnce parts
  parts_once = differ parts (parts_pair (λ (x y : StepOf). x.begin ≢ y.begin) these calls parts a
      (pairs_all (λ (x y : StepOf). x.begin ≢ y.begin) calls (λ i j x y lt s t e. let b = pair_at (λ (u v : StepOf). u.begin < v.begin) calls i j x y begins lt s t in omega (arith, b, e)))
      (λ c d p q x y h e. h (sym x.begin ∙ e ∙ y.begin)))

  module _ (order : List StepOf) (once : IsPermutation calls order) where
    inside : (c : StepOf) → Contains order c → Contains calls c
    inside c has = Contains-permutation order calls c (IsPermutation-sym calls order once) has

    picked : Picked these calls a.each order
    picked = pick these calls a.each order a.of_calls inside

    abbrev ordered : List StepOf
    ordered = those_there picked.those

    parts_of_order : AreParts these order ordered
    parts_of_order = record { each = picked.those; of_calls = picked.of_order; are = refl }

    order_begins : AllPairs (λ (x y : StepOf). x.begin ≢ y.begin) order
    order_begins = pairs_all (λ (x y : StepOf). x.begin ≢ y.begin) order (λ i j x y lt s t e.
        let k = at_contains calls x (inside x (contains_at order i x s)) in
        let n = at_contains calls y (inside y (contains_at order j y t)) in
        let same = one_begin k.0 n.0 x y k.1 n.1 e in
        let P : ℕ → Type 0 = λ m. slice_get calls m ≡ Some y in
        let both : Some x ≡ Some y = sym k.1 ∙ subst P (sym same) n.1 in
        let one : x ≡ y = cc in
        let place = one_place order i j y (once_permuted calls order calls_once once) (s ∙ both) t in
        omega (arith, lt, place))

    ordered_once : IsOnce ordered
    ordered_once = differ ordered (parts_pair (λ (x y : StepOf). x.begin ≢ y.begin) these order ordered parts_of_order order_begins (λ c d p q x y h e. h (sym x.begin ∙ e ∙ y.begin)))

    all_there : (p : StepOf) → Contains parts p → Contains ordered p
    all_there p has =
        let P : List StepOf → Type 0 = λ xs. Contains xs p in
        let i = at_contains (those_there a.each) p (subst P a.are has) in
        let k = there_at a.each i.0 p i.1 in
        let c = zip_back these calls a.each k.0 (Some p) a.of_calls k.1 in
        let j = at_contains order c.0 (Contains-permutation calls order c.0 once (contains_at calls k.0 c.0 c.1)) in
        let e = zip_at these order picked.those j.0 c.0 picked.of_order j.1 in
        let f = picked.from j.0 e.0 e.1 in
        let same : f.0 ≡ k.0 = one_begin f.0 k.0 c.0 c.0 (f.2 ∙ j.1) c.1 refl in
        let Q : ℕ → Type 0 = λ n. slice_get a.each n ≡ Some e.0 in
        let both : Some (Some p) ≡ Some e.0 = sym k.1 ∙ subst Q same f.1 in
        let r = at_there picked.those j.0 p (e.1 ∙ sym both) in
        contains_at ordered r.0 p r.1

    no_others : (p : StepOf) → Contains ordered p → Contains parts p
    no_others p has =
        let i = at_contains ordered p has in
        let j = there_at picked.those i.0 p i.1 in
        let f = picked.from j.0 (Some p) j.1 in
        let r = at_there a.each f.0 p f.1 in
        let P : List StepOf → Type 0 = λ xs. Contains xs p in
        subst P (sym a.are) (contains_at (those_there a.each) r.0 p r.1)

    parts_permuted : IsPermutation parts ordered
    parts_permuted = permuted parts ordered parts_once all_there (at_most ordered parts ordered_once no_others)

-- ---- what is declared of some objects

distinct_cut : (these : OwnOf) (V : List Thing) → ((i j : ℕ) (x y : Thing) → slice_get V i ≡ Some x → slice_get V j ≡ Some y → x.card.id ≡ y.card.id → i ≡ j)
    → (i j : ℕ) (x y : Thing) → slice_get (cut these V) i ≡ Some x → slice_get (cut these V) j ≡ Some y → x.card.id ≡ y.card.id → i ≡ j
distinct_cut these [] once = λ i j x y s t e. let bad : ⊥ = cc in absurd bad
distinct_cut these (o ∷ V) once = by (distinct_cut these V (λ i j x y s t e. let r : suc i ≡ suc j = once (suc i) (suc j) x y s t e in omega (arith, r))) (these o.card.id)
  where
    never : (n : ℕ) (x : Thing) → x.card.id ≡ o.card.id → slice_get (cut these V) n ≡ Some x → ⊥
    never n x e s =
        let h = cut_has these V n x s in
        let r : 0 ≡ suc h.0.0 = once 0 (suc h.0.0) o x refl h.0.1 (sym e) in
        omega (arith, r)

    by : ((i j : ℕ) (x y : Thing) → slice_get (cut these V) i ≡ Some x → slice_get (cut these V) j ≡ Some y → x.card.id ≡ y.card.id → i ≡ j) → (b : Bool)
        → (i j : ℕ) (x y : Thing) → slice_get (cond b (o ∷ cut these V) (cut these V)) i ≡ Some x → slice_get (cond b (o ∷ cut these V) (cut these V)) j ≡ Some y → x.card.id ≡ y.card.id → i ≡ j
    by rest false i j x y s t e = rest i j x y s t e
    by rest true zero zero x y s t e = refl
    by rest true zero (suc j) x y s t e = let same : o ≡ x = cc in absurd (never j y (sym e ∙ ap (λ (z : Thing). z.card.id) (sym same)) t)
    by rest true (suc i) zero x y s t e = let same : o ≡ y = cc in absurd (never i x (e ∙ ap (λ (z : Thing). z.card.id) (sym same)) s)
    by rest true (suc i) (suc j) x y s t e = ap suc (rest i j x y s t e)

described_each : (these : OwnOf) (entries : List EntryOf) (V : List Thing) → AllZip IsDescribed entries V → AllZip IsDescribed (filter (λ (e : EntryOf). these e.id) entries) (cut these V)
described_each these [] [] z = tt
described_each these [] (o ∷ V) z = absurd z
described_each these (e ∷ entries) [] z = absurd z
described_each these (e ∷ entries) (o ∷ V) z =
    let same : these o.card.id ≡ these e.id = ap (λ c. these c.id) z.0.card in
    let rest = described_each these entries V z.1 in
    let P : Bool → Bool → Type 0 = λ b c. AllZip IsDescribed (cond b (e ∷ filter (λ (x : EntryOf). these x.id) entries) (filter (λ (x : EntryOf). these x.id) entries)) (cond c (o ∷ cut these V) (cut these V)) in
    subst (P (these e.id)) (sym same) ((elim (these e.id) as (λ b. P b b) [ true ↦ (z.0, rest) | false ↦ rest ]))

pub described_cut : (these : OwnOf) (declared : DeclarationOf) (V : List Thing) → Describes declared V → Describes (declared_on these declared) (cut these V)
described_cut these declared V d = record {
  inventory = record {
    distinct = distinct_cut these V d.inventory.distinct;
    bytes = λ i x s. let h = cut_has these V i x s in d.inventory.bytes h.0.0 x h.0.1;
  };
  objects = described_each these declared.entries V d.objects;
}

-- ---- the law

pub runs_by_object_lem : RunsByObject
runs_by_object_lem declared these calls parts readable begun a h =
    let order = ordered these calls parts begun a h.order h.run.once in
    let of_order = parts_of_order these calls parts begun a h.order h.run.once in
    record {
      start = cut these h.start;
      described = described_cut these declared h.start h.described;
      order = order;
      run = record {
        once = parts_permuted these calls parts begun a h.order h.run.once;
        placed = parts_are_placed_lem these h.order order of_order h.run.placed;
        last = cut these h.run.last;
        linked = run_projects_lem (rules_declared declared) these h.start h.run.last h.order order
            (λ c has. readable c (inside these calls parts begun a h.order h.run.once c has)) of_order h.run.linked;
      };
    }

-- ---- what a search asks of the parts

pub orderly_parts : (these : OwnOf) (calls parts : List StepOf) → AreBegun calls → AreTimed calls → AreParts these calls parts → AreOrderly parts
orderly_parts these calls parts begun timed a = record {
  once = pairs_all (λ (x y : StepOf). x ≢ y) parts (λ i j x y lt s t same.
      let b = pair_at (λ (u v : StepOf). u.begin < v.begin) parts i j x y begins_parts lt s t in
      let e = ap (λ (u : StepOf). u.begin) same in
      omega (arith, b, e));
  begun = λ p q lt within. begins_parts p q no_step lt within;
  timed = λ p has before.
      let P : List StepOf → Type 0 = λ xs. Contains xs p in
      let i = at_contains (those_there a.each) p (subst P a.are has) in
      let r = part_at these calls a.each i.0 p a.of_calls i.1 in
      timed r.call (contains_at calls r.place r.call r.there) (before_back these r.call r.call p p r.is r.is before);
}
  where
    begins_parts : AllPairs (λ (x y : StepOf). x.begin < y.begin) parts
    begins_parts = parts_pair (λ (x y : StepOf). x.begin < y.begin) these calls parts a (begins these calls parts begun a)
        (λ c d p q x y lt. subst (λ (n : ℕ). n < q.begin) (sym x.begin) (subst (λ (n : ℕ). c.begin < n) (sym y.begin) lt))

pub declared_part : (these : OwnOf) (declared : DeclarationOf) → AreDeclared declared → AreDeclared (declared_on these declared)
declared_part these declared d = record {
  each = All-filter (λ (e : EntryOf). these e.id) IsDeclarable declared.entries d.each;
  distinct = AllPairs-filter (λ (a b : EntryOf). a.id ≢ b.id) (λ (e : EntryOf). these e.id) declared.entries d.distinct;
}

pub opens_parts : (these : OwnOf) (declared own : DeclarationOf) (rules : RulesOf) (parts steps : List StepOf) (m : Meaning) → LawsOfCheck → own ≡ declared_on these declared → rules ≡ rules_declared own → AreKnown own [] m
    → steps ≡ parts → AreOrderly parts → Opens (declared_on these declared) rules steps m
opens_parts these declared own rules parts steps m laws same is known are o =
    let P : DeclarationOf → Type 0 = λ d. AreKnown d [] m in
    let Q : List StepOf → Type 0 = λ xs. Opens (declared_on these declared) rules xs m in
    subst Q (sym are) (record {
      rules_are = is ∙ ap rules_declared same;
      once = o.once;
      begun = o.begun;
      timed = o.timed;
      known = subst P same known;
      taken = laws.taken;
      refused = laws.refused;
    })

-- no order, and steps were left
pub without_order : (declared : DeclarationOf) (calls parts : List StepOf) (budget steps : ℕ) → calls ≡ parts → ComesTo declared calls budget None steps → steps < budget → HaveRun declared parts → ⊥
without_order declared calls parts budget steps are c less h =
    let P : List StepOf → Type 0 = λ xs. HaveRun declared xs in
    c.1 (inl less) (subst P (sym are) h)

-- ---- entries so far

module _ (these : OwnOf) (before own : List EntryOf) (entry : EntryOf) (so_far : own ≡ filter (λ (e : EntryOf). these e.id) before) where
  abbrev of_id : EntryOf → Bool
  of_id e = these e.id

  -- an entry more of one of these objects
  pub entry_more : (copy : EntryOf) → copy ≡ entry → these entry.id ≡ true → own ++ copy ∷ [] ≡ filter of_id (before ++ entry ∷ [])
  entry_more copy same is =
      let P : Bool → Type 0 = λ b. own ++ copy ∷ [] ≡ filter of_id before ++ cond b (entry ∷ []) [] in
      let Q : List EntryOf → Type 0 = λ es. own ++ copy ∷ [] ≡ es ++ entry ∷ [] in
      subst P (sym is) (subst Q so_far (ap (λ (e : EntryOf). own ++ e ∷ []) same)) ∙ sym (filter-append of_id before (entry ∷ []))

  -- an entry more of another one
  pub entry_passed : these entry.id ≡ false → own ≡ filter of_id (before ++ entry ∷ [])
  entry_passed is =
      let P : Bool → Type 0 = λ b. own ≡ filter of_id before ++ cond b (entry ∷ []) [] in
      subst P (sym is) (so_far ∙ sym (append-nil (filter of_id before))) ∙ sym (filter-append of_id before (entry ∷ []))

pub mapped_more : {A B : Type 0} (f : A → B) (xs : List A) (i : ℕ) (x : A) → i < length xs → x ≡ get_or xs i x → map f (take (i + 1) xs) ≡ map f (take i xs) ++ f x ∷ []
mapped_more f xs i x less is = ap (λ ys. map f ys) (take_more xs i x less ∙ ap (λ y. take i xs ++ y ∷ []) (sym is)) ∙ map-append f (take i xs) (x ∷ [])

module _ (these : OwnOf) (xs : List Entry) (i : ℕ) (x : Entry) (less : i < length xs) (is : x ≡ get_or xs i x) (own : List Entry)
    (before : map entry_of own ≡ filter (λ (e : EntryOf). these e.id) (map entry_of (take i xs))) where
  abbrev of_this : EntryOf → Bool
  of_this e = these e.id

  pub entry_so_far : (more : List Entry) (copy : Entry) → more ≡ own ++ copy ∷ [] → entry_of copy ≡ entry_of x → these (entry_of x).id ≡ true → map entry_of more ≡ filter of_this (map entry_of (take (i + 1) xs))
  entry_so_far more copy are same this =
      let P : List EntryOf → Type 0 = λ es. map entry_of more ≡ filter of_this es in
      subst P (sym (mapped_more entry_of xs i x less is))
      (ap (λ (ys : List Entry). map entry_of ys) are ∙ map-append entry_of own (copy ∷ []) ∙ entry_more these (map entry_of (take i xs)) (map entry_of own) (entry_of x) before (entry_of copy) same this)

  pub other_so_far : these (entry_of x).id ≡ false → map entry_of own ≡ filter of_this (map entry_of (take (i + 1) xs))
  other_so_far other =
      let P : List EntryOf → Type 0 = λ es. map entry_of own ≡ filter of_this es in
      subst P (sym (mapped_more entry_of xs i x less is)) (entry_passed these (map entry_of (take i xs)) (map entry_of own) (entry_of x) before other)

-- ---- calls so far

module _ {A : Type 0} (step : A → StepOf) (xs : List A) (i : ℕ) (x : A) (less : i < length xs) (is : x ≡ get_or xs i x) where
  step_more : map step (take (i + 1) xs) ≡ map step (take i xs) ++ step x ∷ []
  step_more = mapped_more step xs i x less is

  -- one more that can be read
  pub readable_so_far : AllReadable (map step (take i xs)) → IsReadableCall (step x).request (step x).response → AllReadable (map step (take (i + 1) xs))
  readable_so_far each last = let P : List StepOf → Type 0 = λ ss. AllReadable ss in subst P (sym step_more) (λ c has.
      elim (Contains-append_cases (map step (take i xs)) (step x ∷ []) c has) [
        | inl l ↦ each c l
        | inr r ↦ elim (one_cases (step x) c [] r) [
          | inl e ↦ let R : StepOf → Type 0 = λ y. IsReadableCall y.request y.response in subst R e last
          | inr none ↦ absurd (omega (arith, none.1))
        ]
      ])

  -- one more of two lists of the same steps
  pub same_so_far : {B : Type 0} (other : B → StepOf) (own more : List B) (y : B) → more ≡ own ++ y ∷ [] → map other own ≡ map step (take i xs) → other y ≡ step x → map other more ≡ map step (take (i + 1) xs)
  same_so_far other own more y are before same =
      ap (λ ys. map other ys) are ∙ map-append other own (y ∷ []) ∙ ap (λ (ss : List StepOf). ss ++ other y ∷ []) before
      ∙ ap (λ (s : StepOf). map step (take i xs) ++ s ∷ []) same ∙ sym step_more
