-- Items that are held, and printed a piece at a time.
use Rattle.std.proofs.Common.{◌≡◌, ◌≤◌, ℕ, Bool, true, false, List, [], ◌∷◌, ◌++◌, refl, sym, ap, subst, ◌∙◌, arith}
use Rattle.std.proofs.lemmas.List.{append-nil}
use Rattle.std.specs.Io.{StartsWith, appended_bytes}
use Rattle.kmipa_ttlv.specs.Tree.{Tree, Trees, forest}
use Rattle.kmipa_ttlv.specs.Spelling.{Spells}
use Rattle.kmipa_ttlv.specs.Stream.{Begins}
use Rattle.kmipa_ttlv.specs.Items.{AreItems}
use Rattle.kmipa_ttlv.specs.Spelled.{items_at}
use Rattle.kmipa_ttlv.specs.Written.{depths}
use Rattle.kmipa_ttlv.proofs.SpelledLemmas.{listed_items}
use Rattle.kmipa_ttlv.proofs.StreamLemmas.{item_read}
use Rattle.kmipa_runs.specs.Inputs.{AreShown}
use Rattle.kmipa_runs.specs.Shown.{ShowsItems}
use Rattle.kmipa_jobs.specs.declared.options.ShowOptions.{ShowOptions}
use Rattle.kmipa_runs.proofs.InputLemmas.{levels}

-- ---- one item more is held

abbrev AreSome : List ℕ → Type 0
AreSome came = (items : List Tree) × AreItems items came

pub held_next : (some : Bool) (before bytes after : List ℕ) (X : Type 0) → after ≡ before ++ bytes → (some ≡ true → (t : Tree) × Spells t bytes)
    → (some ≡ false → (bytes ≡ []) × X) → (items : List Tree) × AreItems items before → (items : List Tree) × AreItems items after
held_next true before bytes after X e spelled end is =
    let s = spelled refl in
    (is.0 ++ s.0 ∷ [], item_read is.0 s.0 before bytes after s.1 e is.1)
held_next false before bytes after X e spelled end is =
    (is.0, subst (AreItems is.0) (sym (e ∙ ap (λ (l : List ℕ). before ++ l) (end refl).0 ∙ append-nil before)) is.1)

-- ---- lines of all items

-- items that are spelled have few levels
pub few_levels : (items : List Tree) (bytes rest : List ℕ) → Begins items bytes rest → depths (forest (λ t. t) items) ≤ 16
few_levels [] bytes rest b = omega arith
few_levels (t ∷ ts) bytes rest b = omega (arith, levels 16 t b.0 b.3.stands, few_levels ts b.1 rest b.4)

-- the items that are read in place have few levels
pub few_in_place : (bytes : List ℕ) (ts : Trees) → ((items : List Tree) × AreItems items bytes) → ts ≡ items_at bytes → depths ts ≤ 16
few_in_place bytes ts is e = subst (λ (us : Trees). depths us ≤ 16) (sym (e ∙ listed_items is.0 bytes is.1)) (few_levels is.0 bytes [] is.1)

-- all lines were pushed, from an empty piece on, and then what was held was printed
pub shown_in_pieces : (options : ShowOptions) (bytes : List ℕ) (ts : Trees) (old start held after new : List ℕ) → ((items : List Tree) × AreItems items bytes) → ts ≡ items_at bytes
    → held ≡ [] → start ≡ old ++ held → new ≡ after → ShowsItems options 0 ts (appended_bytes start after) → AreShown options bytes (appended_bytes old new)
shown_in_pieces options bytes ts old start held after new is e empty first last shows =
    let same : start ≡ old = first ∙ ap (λ (l : List ℕ). old ++ l) empty ∙ append-nil old in
    let P : List ℕ → List ℕ → Type 0 = λ a b. ShowsItems options 0 ts (appended_bytes a b) in
    let lines : P old new = subst (λ (a : List ℕ). P a new) same (subst (λ (b : List ℕ). P start b) (sym last) shows) in
    record { items = is.0; are = is.1; shown = subst (λ (us : Trees). ShowsItems options 0 us (appended_bytes old new)) (e ∙ listed_items is.0 bytes is.1) lines }

-- nothing was held at first
pub starts_empty : (old start held after new : List ℕ) → held ≡ [] → start ≡ old ++ held → new ≡ after → StartsWith after start → StartsWith new old
starts_empty old start held after new empty first last s =
    let same : start ≡ old = first ∙ ap (λ (l : List ℕ). old ++ l) empty ∙ append-nil old in
    subst (λ (a : List ℕ). StartsWith new a) same (subst (λ (b : List ℕ). StartsWith b start) (sym last) s)
