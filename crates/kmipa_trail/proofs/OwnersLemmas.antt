-- Whose objects there are, and what is hidden.
use Rattle.std.proofs.Common.{◌≡◌, ◌∙◌, ◌++◌, ◌+◌, ◌||◌, refl, ap, sym, subst, arith, ℕ, zero, suc, Bool, true, false, if◌then◌else◌, List, [], ◌∷◌, drop, length, map, slice_get, Option, Some, None, bytes_eq}
use Rattle.kmipa_object.proofs.ListLemmas.{map-push}
use Rattle.kmipa_msgs.specs.declared.rules.Visibility.{Visibility}
use Rattle.kmipa_record.specs.Entries.{EntryOf}
use Rattle.kmipa_aside.specs.Sights.{OwnedOf}
use Rattle.kmipa_aside.proofs.SettingLemmas.{drop_here}
use Rattle.kmipa_places.specs.Places.{PlaceOf}
use Rattle.kmipa_turns.specs.Steps.{StepOf, TakenOf, leaves, moment_in, takes, taken_hiding}
use Rattle.kmipa_trail.specs.Late.{FirstLate}
use Rattle.kmipa_trail.specs.Owners.{births_at, born_at, disowned, owned_by, owners_behind, owners_declared, owners_with, step_seen, steps_seen}
use Rattle.kmipa_trail.specs.Owning.{is_owned}
use Rattle.kmipa_trail.specs.Placing.{Before, IsLate}
use Rattle.kmipa_trail.proofs.GatherLemmas.{append_nil}

split_if : {Y : Type 0} (b : Bool) (y : Y) (ys : List Y) → (if b then ys else y ∷ ys) ≡ (if b then [] else y ∷ []) ++ ys
split_if true y ys = refl
split_if false y ys = refl

pub split_owners : (e : EntryOf) (es : List EntryOf) → owners_declared (e ∷ es) ≡ owned_by e.id e.owner ++ owners_declared es
split_owners e es = refl

pub split_births : (p : PlaceOf) (ps : List PlaceOf) → births_at (p ∷ ps) ≡ born_at p ++ births_at ps
split_births p ps = refl

pub split_disowned : (id : List ℕ) (o : OwnedOf) (os : List OwnedOf) → disowned id (o ∷ os) ≡ disowned id (o ∷ []) ++ disowned id os
split_disowned id o os = split_if (bytes_eq id o.id) o (disowned id os)

-- ---- one more, or none

pub push_none : {X Y : Type 0} (f : X → Y) (xs : List X) (ys : List Y) → ys ≡ [] → map f xs ≡ map f xs ++ ys
push_none {X} {Y} f xs ys e = sym (ap (λ (zs : List Y). map f xs ++ zs) e ∙ append_nil (map f xs))

pub pushed : {X Y : Type 0} (f : X → Y) (xs : List X) (x : X) → map f (xs ++ x ∷ []) ≡ map f xs ++ f x ∷ []
pushed f xs x = map-push f xs x

pub push_one : {X Y : Type 0} (f : X → Y) (xs : List X) (x : X) (ys : List Y) → ys ≡ f x ∷ [] → map f (xs ++ x ∷ []) ≡ map f xs ++ ys
push_one {X} {Y} f xs x ys e = map-push f xs x ∙ ap (λ (zs : List Y). map f xs ++ zs) (sym e)

pub none_if : {Y : Type 0} (b : Bool) (y : Y) → b ≡ true → (if b then [] else y ∷ []) ≡ []
none_if true y e = refl
none_if false y e = let bad : ⊥ = cc in absurd bad

pub one_if : {Y : Type 0} (b : Bool) (y : Y) → b ≡ false → (if b then [] else y ∷ []) ≡ y ∷ []
one_if true y e = let bad : ⊥ = cc in absurd bad
one_if false y e = refl

pub or_second : (a b : Bool) → a ≡ false → b ≡ false → (a || b) ≡ false
or_second true b e f = let bad : ⊥ = cc in absurd bad
or_second false b e f = f

-- ---- what is someone's

pub not_owned : (id : List ℕ) (os : List OwnedOf) → is_owned id os ≡ false → disowned id os ≡ os
not_owned id [] e = refl
not_owned id (o ∷ os) e = by (bytes_eq id o.id) e (λ f. not_owned id os f)
  where
    by : (b : Bool) → (b || is_owned id os) ≡ false → (is_owned id os ≡ false → disowned id os ≡ os) → (if b then disowned id os else o ∷ disowned id os) ≡ o ∷ os
    by true f rest = let bad : ⊥ = cc in absurd bad
    by false f rest = ap (λ (xs : List OwnedOf). o ∷ xs) (rest f)

pub own_more : (me : List ℕ) (ids : List (List ℕ)) (i : ℕ) (id : List ℕ) → slice_get ids i ≡ Some id → (start before after : List OwnedOf) → after ≡ owners_with me before (id ∷ [])
    → owners_with me before (drop i ids) ≡ owners_with me start ids → owners_with me after (drop (i + 1) ids) ≡ owners_with me start ids
own_more me ids i id at start before after e h =
    ap (λ (os : List OwnedOf). owners_with me os (drop (i + 1) ids)) e ∙ sym (ap (owners_with me before) (drop_here ids i id at)) ∙ h

pub owned_new : (me id : List ℕ) (os others : List OwnedOf) → others ≡ disowned id os → others ++ record { id = id; owner = me } ∷ [] ≡ owners_with me os (id ∷ [])
owned_new me id os others e = ap (λ (xs : List OwnedOf). xs ++ record { id = id; owner = me } ∷ []) e

-- ---- steps, each with what is hidden from its client

module _ (v : Visibility) where
  pub seen_from : (owners : List OwnedOf) (steps : List StepOf) (i : ℕ) (t : StepOf) → slice_get (steps_seen v owners steps) i ≡ Some t
      → (s : StepOf) × (slice_get steps i ≡ Some s) × ((os : List OwnedOf) × (t ≡ step_seen os s))
  seen_from owners [] i t e = let bad : ⊥ = cc in absurd bad
  seen_from owners (x ∷ xs) zero t e = let same : t ≡ step_seen (owners_behind v owners x) x = cc in (x, refl, (owners_behind v owners x, same))
  seen_from owners (x ∷ xs) (suc i) t e = seen_from (owners_behind v owners x) xs i t e

  pub to_seen : (owners : List OwnedOf) (steps : List StepOf) (i : ℕ) (s : StepOf) → slice_get steps i ≡ Some s
      → (os : List OwnedOf) × (slice_get (steps_seen v owners steps) i ≡ Some (step_seen os s))
  to_seen owners [] i s e = let bad : ⊥ = cc in absurd bad
  to_seen owners (x ∷ xs) zero s e =
      let same : x ≡ s = cc in
      let P : StepOf → Type 0 = λ y. slice_get (steps_seen v owners (x ∷ xs)) 0 ≡ Some (step_seen (owners_behind v owners x) y) in
      (owners_behind v owners x, subst P same refl)
  to_seen owners (x ∷ xs) (suc i) s e = to_seen (owners_behind v owners x) xs i s e

  -- they come too late where they do without it
  before_seen : (d e s t : StepOf) (os us : List OwnedOf) → e ≡ step_seen os d → t ≡ step_seen us s → Before e t → Before d s
  before_seen d e s t os us is same h =
      let P : StepOf → Type 0 = λ x. Before x t in
      let Q : StepOf → Type 0 = λ x. Before (step_seen os d) x in
      subst Q same (subst P is h)

  late_from : (owners : List OwnedOf) (steps : List StepOf) (turn : ℕ) (s t : StepOf) (us : List OwnedOf) → t ≡ step_seen us s → IsLate (steps_seen v owners steps) turn t → IsLate steps turn s
  late_from owners steps turn s t us same h =
      let f = seen_from owners steps h.0 h.1 h.3 in
      (h.0, f.0, h.2, f.1, before_seen f.0 h.1 s t f.2.0 us f.2.1 same h.4)

  late_to : (owners : List OwnedOf) (steps : List StepOf) (turn : ℕ) (s t : StepOf) (us : List OwnedOf) → t ≡ step_seen us s → IsLate steps turn s → IsLate (steps_seen v owners steps) turn t
  late_to owners steps turn s t us same h =
      let f = to_seen owners steps h.0 h.1 h.3 in
      let P : StepOf → Type 0 = λ x. Before (step_seen f.0 h.1) x in
      (h.0, step_seen f.0 h.1, h.2, f.1, subst P (sym same) h.4)

  pub late_seen : (owners : List OwnedOf) (steps : List StepOf) (first : Option ℕ) → FirstLate steps first → FirstLate (steps_seen v owners steps) first
  late_seen owners steps None h = λ turn c from at is.
      let f = seen_from owners steps turn c at in
      h turn f.0 from f.1 (late_from owners steps turn f.0 c f.2.0 f.2.1 is)
  late_seen owners steps (Some late) h = (
    h.0,
    λ c at.
        let f = seen_from owners steps late c at in
        late_to owners steps late f.0 c f.2.0 f.2.1 (h.1 f.0 f.1),
    λ turn c from below at is.
        let f = seen_from owners steps turn c at in
        h.2 turn f.0 from below f.1 (late_from owners steps turn f.0 c f.2.0 f.2.1 is),
  )

-- ---- one step after the other

at_drop : {X : Type 0} (xs : List X) (i : ℕ) (y : X) (ys : List X) → drop i xs ≡ y ∷ ys → slice_get xs i ≡ Some y
at_drop [] zero y ys e = let bad : ⊥ = cc in absurd bad
at_drop [] (suc i) y ys e = let bad : ⊥ = cc in absurd bad
at_drop (x ∷ xs) zero y ys e = let same : x ≡ y = cc in ap Some same
at_drop (x ∷ xs) (suc i) y ys e = at_drop xs i y ys e

past_drop : {X : Type 0} (xs : List X) (i : ℕ) (y : X) (ys : List X) → drop i xs ≡ y ∷ ys → drop (i + 1) xs ≡ ys
past_drop [] zero y ys e = let bad : ⊥ = cc in absurd bad
past_drop [] (suc i) y ys e = let bad : ⊥ = cc in absurd bad
past_drop (x ∷ xs) zero y ys e = let same : xs ≡ ys = cc in same
past_drop {X} (x ∷ xs) (suc i) y ys e =
    let more : suc i + 1 ≡ suc (i + 1) = omega arith in
    ap (λ (n : ℕ). drop n (x ∷ xs)) more ∙ past_drop xs i y ys e

module _ (v : Visibility) (start : List OwnedOf) (steps : List StepOf) (i : ℕ) (s : StepOf) (at : slice_get steps i ≡ Some s) (owners after : List OwnedOf)
    (left : drop i (steps_seen v start steps) ≡ steps_seen v owners (drop i steps)) (is : after ≡ owners_behind v owners s) where
  next_seen : drop i (steps_seen v start steps) ≡ step_seen after s ∷ steps_seen v after (drop (i + 1) steps)
  next_seen =
      left ∙ ap (steps_seen v owners) (drop_here steps i s at)
      ∙ ap (λ (os : List OwnedOf). step_seen os s ∷ steps_seen v os (drop (i + 1) steps)) (sym is)

  pub seen_here : slice_get (steps_seen v start steps) i ≡ Some (step_seen after s)
  seen_here = at_drop (steps_seen v start steps) i (step_seen after s) (steps_seen v after (drop (i + 1) steps)) next_seen

  pub seen_past : drop (i + 1) (steps_seen v start steps) ≡ steps_seen v after (drop (i + 1) steps)
  seen_past = past_drop (steps_seen v start steps) i (step_seen after s) (steps_seen v after (drop (i + 1) steps)) next_seen

pub length_seen : (v : Visibility) (owners : List OwnedOf) (steps : List StepOf) → length (steps_seen v owners steps) ≡ length steps
length_seen v owners [] = refl
length_seen v owners (s ∷ steps) = ap suc (length_seen v (owners_behind v owners s) steps)

-- what is hidden changes no moment
pub moment_seen : (hidden : List (List ℕ)) (t : TakenOf) → moment_in (taken_hiding hidden t) ≡ moment_in t
moment_seen hidden (leaves left counts) = refl
moment_seen hidden (takes c places) = refl
