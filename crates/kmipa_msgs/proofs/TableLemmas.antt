-- Fields of tables are read.
use Rattle.std.proofs.Common.{◌≡◌, ◌<◌, ℕ, Bool, true, false, Option, Some, None, refl, sym, ap, ◌∙◌, inl, inr, ◌⊎◌, arith}
use Rattle.kmipa_ttlv.specs.Tree.{Tree}
use Rattle.kmipa_attrs.specs.Readings.{Reads, IsWrong, NeededFault, map_ok, kept_if}
use Rattle.kmipa_attrs.specs.declared.fields.Field.{Field}
use Rattle.kmipa_attrs.specs.declared.fields.Field.TheVariants.{Absent, Wrong, There}
use Rattle.kmipa_msgs.specs.declared.kind.OutsideKind.{OutsideKind}
use Rattle.kmipa_msgs.specs.Kinds.{kind_number}
use Rattle.kmipa_msgs.specs.Tables.{Listed, Unlisted, MaybeListed, IsThere, of_table, listed, maybe_listed, there, unless_there, unless_absent, known, unless_unlisted, unless_wrong}

pub same_kind : (j k : OutsideKind) → kind_number j < kind_number k → j ≡ k → ⊥
same_kind j k lt e = let h : kind_number j ≡ kind_number k = ap kind_number e in omega arith

-- no child with a tag
pub reads_unless : (t : Option Tree) (k : OutsideKind) → Reads kind_number (λ (u : Unit {0}). Unit {0}) (λ j. (j ≡ k) × IsThere t) (unless_there t k)
reads_unless None k = record { said = tt; only = λ y h. refl; right = λ j h. h.1 }
reads_unless (Some t) k = record { here = (refl, tt); least = λ j lt h. same_kind j k lt h.0 }

-- a child with a tag
pub reads_unless_absent : (t : Option Tree) (k : OutsideKind) → Reads kind_number (λ (u : Unit {0}). IsThere t) (λ j. (j ≡ k) × (t ≡ None)) (unless_absent t k)
reads_unless_absent None k = record { here = (refl, refl); least = λ j lt h. same_kind j k lt h.0 }
reads_unless_absent (Some t) k = record { said = tt; only = λ y h. refl; right = λ j h. let e : Some t ≡ None = h.1 in cc }

-- a test of what is there
pub reads_test : (b : Bool) (k : OutsideKind) → Reads kind_number (λ (u : Unit {0}). b ≡ true) (λ j. (j ≡ k) × (b ≡ false)) (kept_if b tt k)
reads_test true k = record { said = refl; only = λ y e. refl; right = λ j h. let e : true ≡ false = h.1 in cc }
reads_test false k = record { here = (refl, refl); least = λ j lt h. same_kind j k lt h.0 }

pub reads_there : {A : Type 0} (f : Field A) (absent wrong : OutsideKind) → Reads kind_number (λ (u : Unit {0}). (x : A) × (f ≡ There x)) (NeededFault f absent wrong) (there f absent wrong)
reads_there Absent absent wrong = record { here = refl; least = λ j lt h. same_kind j absent lt h }
reads_there Wrong absent wrong = record { here = refl; least = λ j lt h. same_kind j wrong lt h }
reads_there (There x) absent wrong = record { said = (x, refl); only = λ y e. refl; right = λ j h. h }

-- of one number of a table there is one value
pub one_listed : {A : Type 0} (n : ℕ) (table : ℕ → Option A) (x y : A) → table n ≡ Some x → Listed (There n) table y → y ≡ x
one_listed n table x y e s =
    let same : There n ≡ There s.number = s.is in
    let m : n ≡ s.number = cc in
    let h : Some y ≡ Some x = sym s.listed ∙ ap table (sym m) ∙ e in
    cc

not_unlisted : {A : Type 0} (n : ℕ) (table : ℕ → Option A) (x : A) → table n ≡ Some x → Unlisted (There n) table → ⊥
not_unlisted n table x e s =
    let same : There n ≡ There s.number = s.is in
    let m : n ≡ s.number = cc in
    let h : None ≡ Some x = sym s.unlisted ∙ ap table (sym m) ∙ e in
    cc

absent_listed : {A : Type 0} (table : ℕ → Option A) (x : A) → Listed Absent table x → ⊥
absent_listed table x s = let e = s.is in cc

listed_at : {A : Type 0} (n : ℕ) (table : ℕ → Option A) (lacking off : OutsideKind) (o : Option A) → table n ≡ o
    → Reads kind_number (Listed (There n) table) (λ k. NeededFault (There n) lacking lacking k ⊎ ((k ≡ off) × Unlisted (There n) table)) (of_table o off)
listed_at n table lacking off None e = record {
  here = inr (refl, record { number = n; is = refl; unlisted = e });
  least = λ j lt w. elim w [ inl a ↦ a | inr b ↦ same_kind j off lt b.0 ];
}
listed_at n table lacking off (Some x) e = record {
  said = record { number = n; is = refl; listed = e };
  only = λ y s. one_listed n table x y e s;
  right = λ k w. elim w [ inl a ↦ a | inr b ↦ not_unlisted n table x e b.1 ];
}

pub reads_listed : {A : Type 0} (f : Field ℕ) (table : ℕ → Option A) (lacking off : OutsideKind)
    → Reads kind_number (Listed f table) (λ k. NeededFault f lacking lacking k ⊎ ((k ≡ off) × Unlisted f table)) (listed f table lacking off)
reads_listed Absent table lacking off = record {
  here = inl refl;
  least = λ j lt w. elim w [ inl a ↦ same_kind j lacking lt a | inr b ↦ let e = b.1.is in cc ];
}
reads_listed Wrong table lacking off = record {
  here = inl refl;
  least = λ j lt w. elim w [ inl a ↦ same_kind j lacking lt a | inr b ↦ let e = b.1.is in cc ];
}
reads_listed (There n) table lacking off = listed_at n table lacking off (table n) refl

maybe_at : {A : Type 0} (n : ℕ) (table : ℕ → Option A) (wrong off : OutsideKind) (o : Option A) → table n ≡ o
    → Reads kind_number (MaybeListed (There n) table) (λ k. ((k ≡ wrong) × IsWrong (There n)) ⊎ ((k ≡ off) × Unlisted (There n) table)) (map_ok Some (of_table o off))
maybe_at n table wrong off None e = record {
  here = inr (refl, record { number = n; is = refl; unlisted = e });
  least = λ j lt w. elim w [ inl a ↦ a.1 | inr b ↦ same_kind j off lt b.0 ];
}
maybe_at {A} n table wrong off (Some x) e = record {
  said = record { number = n; is = refl; listed = e };
  only = only;
  right = λ k w. elim w [ inl a ↦ a.1 | inr b ↦ not_unlisted n table x e b.1 ];
}
  where
    only : (y : Option A) → MaybeListed (There n) table y → y ≡ Some x
    only None s = cc
    only (Some y) s = ap (λ (z : A). some z) (one_listed n table x y e s)
      where
        some : A → Option A
        some z = Some z

pub reads_maybe_listed : {A : Type 0} (f : Field ℕ) (table : ℕ → Option A) (wrong off : OutsideKind)
    → Reads kind_number (MaybeListed f table) (λ k. ((k ≡ wrong) × IsWrong f) ⊎ ((k ≡ off) × Unlisted f table)) (maybe_listed f table wrong off)
reads_maybe_listed {A} Absent table wrong off = record {
  said = refl;
  only = only;
  right = λ k w. elim w [ inl a ↦ a.1 | inr b ↦ let e = b.1.is in cc ];
}
  where
    only : (y : Option A) → MaybeListed Absent table y → y ≡ None
    only None s = refl
    only (Some y) s = absurd (absent_listed table y s)
reads_maybe_listed Wrong table wrong off = record {
  here = inl (refl, tt);
  least = λ j lt w. elim w [ inl a ↦ same_kind j wrong lt a.0 | inr b ↦ let e = b.1.is in cc ];
}
reads_maybe_listed (There n) table wrong off = maybe_at n table wrong off (table n) refl

-- a field whose other types are read over
known_at : {A : Type 0} (n : ℕ) (table : ℕ → Option A) (off : OutsideKind) (o : Option A) → table n ≡ o
    → Reads kind_number (λ (u : Unit {0}). Unit {0}) (λ k. (k ≡ off) × Unlisted (There n) table) (known o off)
known_at n table off None e = record { here = (refl, record { number = n; is = refl; unlisted = e }); least = λ j lt w. same_kind j off lt w.0 }
known_at n table off (Some x) e = record { said = tt; only = λ y h. refl; right = λ k w. not_unlisted n table x e w.1 }

pub reads_unless_unlisted : {A : Type 0} (f : Field ℕ) (table : ℕ → Option A) (off : OutsideKind) → Reads kind_number (λ (u : Unit {0}). Unit {0}) (λ k. (k ≡ off) × Unlisted f table) (unless_unlisted f table off)
reads_unless_unlisted Absent table off = record { said = tt; only = λ y h. refl; right = λ k w. let e = w.1.is in cc }
reads_unless_unlisted Wrong table off = record { said = tt; only = λ y h. refl; right = λ k w. let e = w.1.is in cc }
reads_unless_unlisted (There n) table off = known_at n table off (table n) refl

-- what is said is no fault of what was to be there
pub apart_needed : {A K : Type 0} (f : Field A) (x : A) (absent wrong k : K) → NeededFault f absent wrong k → f ≡ There x → ⊥
apart_needed Absent x absent wrong k h e = cc
apart_needed Wrong x absent wrong k h e = cc
apart_needed (There y) x absent wrong k h e = h

-- a field that may be absent
pub reads_unless_wrong : {A : Type 0} (f : Field A) (k : OutsideKind) → Reads kind_number (λ (u : Unit {0}). Unit {0}) (λ j. (j ≡ k) × IsWrong f) (unless_wrong f k)
reads_unless_wrong Absent k = record { said = tt; only = λ y h. refl; right = λ j h. h.1 }
reads_unless_wrong Wrong k = record { here = (refl, tt); least = λ j lt h. same_kind j k lt h.0 }
reads_unless_wrong (There x) k = record { said = tt; only = λ y h. refl; right = λ j h. h.1 }
