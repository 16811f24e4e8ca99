-- Not promised. How many live objects have a name, counted by the hash of the name.
use Rattle.std.specs.Prelude.{◌≡◌, ◌+◌, ◌==◌, ℕ, true, cond, List, [], ◌∷◌, unwrap_or}
use Rattle.std.specs.BTreeMap.{get}
use Rattle.std.specs.Ordering.{nat_cmp}
use Rattle.kmipa_attrs.specs.Sets.{NameOf}
use Rattle.kmipa_object.specs.Inventory.{live}
use Rattle.kmipa_store.specs.Ledger.{Held}
use Rattle.kmipa_store.specs.Hashes.{name_hash}
use Rattle.kmipa_store.specs.declared.tally.Tally.{Tally}

-- one where the hash is this one
abbrev pub one_at : ℕ → ℕ → ℕ
one_at hash k = cond (hash == k) 1 0

-- how many of these names have the hash
abbrev pub names_with : ℕ → List NameOf → ℕ
names_with k [] = 0
names_with k (n ∷ ns) = one_at (name_hash n.value n.kind) k + names_with k ns

-- how many of the object's names have it, none where the object is destroyed
abbrev pub live_with : ℕ → Held → ℕ
live_with k h = cond (live h.card) (names_with k h.card.given.names) 0

abbrev pub all_with : ℕ → List Held → ℕ
all_with k [] = 0
all_with k (h ∷ hs) = live_with k h + all_with k hs

abbrev pub count_at : Tally → ℕ → ℕ
count_at t k = unwrap_or (get nat_cmp t.live k) 0

-- while the counts are exact they are those of these objects
pub record Counts (t : Tally) (objects : List Held) : Type 0 where
  pub all : t.exact ≡ true → (k : ℕ) → count_at t k ≡ all_with k objects

-- one count is written, or the counts are no longer exact
pub record Writes (old : Tally) (hash count : ℕ) (new : Tally) : Type 0 where
  pub was : new.exact ≡ true → old.exact ≡ true
  pub counts : new.exact ≡ true → (k : ℕ) → count_at new k ≡ cond (hash == k) count (count_at old k)

-- more are counted, so many of each hash
pub record Raises (old : Tally) (more : ℕ → ℕ) (new : Tally) : Type 0 where
  pub was : new.exact ≡ true → old.exact ≡ true
  pub counts : new.exact ≡ true → (k : ℕ) → count_at new k ≡ more k + count_at old k

-- fewer are counted
pub record Lowers (old : Tally) (fewer : ℕ → ℕ) (new : Tally) : Type 0 where
  pub was : new.exact ≡ true → old.exact ≡ true
  pub counts : new.exact ≡ true → (k : ℕ) → count_at old k ≡ fewer k + count_at new k
