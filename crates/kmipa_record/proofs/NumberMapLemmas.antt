-- A map by number, and what a change of its slots or of its tree is.
use Rattle.std.proofs.Common.{◌≡◌, ◌≢◌, ◌+◌, ℕ, ℤ, pos, negsuc, [], false, Ordering, Less, Equal, Greater, Option, None, Some, Result, Ok, Err, OnErr, refl, sym, ap, ◌∙◌}
use Rattle.std.specs.Prelude.{IsSome}
use Rattle.std.specs.Ordering.{is_eq, int_cmp}
use Rattle.std.specs.BTreeMap.{get, Updates, is_at}
use Rattle.std.proofs.lemmas.Map.Lookups.{exact_signed}
use Rattle.kmipa_record.specs.NumberMaps.{slot_at, or_else, value_at, count_of, HasNone, IsSame, PutsSlot, Sets, Gains}
use Rattle.kmipa_record.specs.declared.number_map.NumberMap.{NumberMap}

not_at : (number other : ℤ) → other ≢ number → is_at (int_cmp number) other ≡ false
not_at number other ne = by (int_cmp number other) refl
  where
    by : (o : Ordering) → int_cmp number other ≡ o → is_eq o ≡ false
    by Less e = refl
    by Equal e = absurd (ne (sym (exact_signed number other e)))
    by Greater e = refl

module _ {V : Type 0} where
  pub no_slot : (m : NumberMap V) (number : ℤ) → value_at m number ≡ None → slot_at m.slots.items number ≡ None
  unfolding value_at
  no_slot m number e = by (slot_at m.slots.items number) e
    where
      by : (s : Option V) → or_else s (get int_cmp m.others number) ≡ None → s ≡ None
      by None e = refl
      by (Some v) e = absurd cc

  -- without a slot, the value is that of the tree
  pub in_tree : (m : NumberMap V) (number : ℤ) → slot_at m.slots.items number ≡ None → value_at m number ≡ get int_cmp m.others number
  unfolding value_at
  in_tree m number e = ap (λ (s : Option V). or_else s (get int_cmp m.others number)) e

  none_at : (m : NumberMap V) → m.slots.items ≡ [] → m.others.entries ≡ [] → (number : ℤ) → value_at m number ≡ None
  unfolding value_at
  none_at m slots others (pos n) = rw slots (rw others refl)
  none_at m slots others (negsuc n) = rw others refl

  pub none_in : (m : NumberMap V) → m.slots.items ≡ [] → m.others.entries ≡ [] → count_of m ≡ 0 → HasNone m
  none_in m slots others count = record { each = none_at m slots others; count = count }

  -- the slots and the tree say the same as before
  pub same_in : (old new : NumberMap V) → new.slots.items ≡ old.slots.items → new.others.entries ≡ old.others.entries → count_of new ≡ count_of old → IsSame old new
  unfolding value_at
  same_in old new slots others count = record { each = λ number. rw slots (rw others refl); count = count }

  -- one slot has a value now
  pub slot_set : (old new : NumberMap V) (place : ℕ) (value : V) → PutsSlot old.slots.items new.slots.items place value → new.others.entries ≡ old.others.entries → Sets old new (pos place) value
  unfolding value_at
  slot_set old new place value puts others = record {
    here = ap (λ (s : Option V). or_else s (get int_cmp new.others (pos place))) puts.here;
    others = by;
  }
    where
      by : (other : ℤ) → other ≢ pos place → value_at new other ≡ value_at old other
      by (pos k) ne = rw others (ap (λ (s : Option V). or_else s (get int_cmp old.others (pos k))) (puts.others k (λ e. ne (ap pos e))))
      by (negsuc k) ne = rw others refl

  -- a number has a value in the tree now
  pub tree_set : (old new : NumberMap V) (number : ℤ) (value : V) → slot_at old.slots.items number ≡ None → new.slots.items ≡ old.slots.items
      → Updates int_cmp old.others new.others number (Some value) → Sets old new number value
  unfolding value_at
  tree_set old new number value slot slots updates = record {
    here = in_tree new number (rw slots slot) ∙ updates.1;
    others = λ other ne. rw slots (ap (or_else (slot_at old.slots.items other)) (updates.2 other (not_at number other ne)));
  }

  -- a count that is written after a change
  pub counted : (old mid new : NumberMap V) (number : ℤ) (value : V) → Sets old mid number value → new.slots.items ≡ mid.slots.items → new.others.entries ≡ mid.others.entries
      → count_of new ≡ count_of old + 1 → Gains old new number value
  unfolding value_at
  counted old mid new number value sets slots others count = record {
    sets = record {
      here = rw slots (rw others sets.here);
      others = λ other ne. rw slots (rw others (sets.others other ne));
    };
    count = count;
  }

  pub none_of : (m : NumberMap V) (number : ℤ) → slot_at m.slots.items number ≡ None → get int_cmp m.others number ≡ None → value_at m number ≡ None
  none_of m number slot tree = in_tree m number slot ∙ tree

pub on_err : {A E : Type 0} (r : Result A E) (P : Type 0) → P → OnErr r P
on_err (Ok x) P p = tt
on_err (Err e) P p = p

pub no_value : {V : Type 0} (v : Option V) → IsSome v → v ≡ None → ⊥
no_value None some e = absurd cc
no_value (Some x) some e = absurd cc
