-- Activate, Revoke and Destroy: what a ledger leaves whose object was changed; they keep the laws of operations.
use Rattle.std.proofs.Common.{cond, find, ◌≡◌, ◌≢◌, if◌then◌else◌, MatchResult, Result, Ok, Err, ℕ, zero, suc, ℤ, Bool, true, false, List, [], ◌∷◌, slice_get, is_none, bytes_eq, option_map, Option, Some, None, refl, ap, sym, ◌∙◌, subst, arith, find, inl, inr}
use Rattle.std.proofs.lemmas.Slice.Eq.{bytes_eq-Decides}
use Rattle.kmipa_object.specs.Allowances.{allows}
use Rattle.kmipa_object.specs.Inventory.{Thing, place_of}
use Rattle.kmipa_object.specs.Life.{Dates, dates_of, state, is_active, compromises, or_now, deactivated_dates, revoked_dates}
use Rattle.kmipa_object.specs.Lists.{updated}
use Rattle.kmipa_object.specs.Table.{allowed}
use Rattle.kmipa_object.specs.declared.allow.Allow.{Allow}
use Rattle.kmipa_object.specs.declared.allow.Allow.TheVariants.{Must, May, Not}
use Rattle.kmipa_object.specs.declared.fault.WrongState.{WrongState as Refused}
use Rattle.kmipa_object.specs.declared.life.Life.{Life}
use Rattle.kmipa_object.specs.declared.life.Material.{Material}
use Rattle.kmipa_object.specs.declared.life.Material.TheVariants.{Secret}
use Rattle.kmipa_object.specs.declared.life.SecretNo.{SecretNo}
use Rattle.kmipa_object.proofs.ListLemmas.{map-updated}
use Rattle.kmipa_store.specs.Ledger.{Held, Meaning, LedgerState, cards_of, with_life, changed as now_changed, replaced}
use Rattle.kmipa_store.specs.Choices.{Choice, inv, thing, bytes_of, IsSound, GoneIfDestroyed}
use Rattle.kmipa_store.proofs.ChoiceLemmas.{agrees_same, extends_same}
use Rattle.kmipa_store.proofs.InventoryLemmas.{cards-inv, get-inv}
use Rattle.kmipa_store.proofs.SoundLemmas.{inv_found, sound_relived}
use Rattle.kmipa_ops.specs.declared.change.Change.{Change}
use Rattle.kmipa_ops.specs.declared.change.Change.TheVariants.{Activate, Revoke, Destroy}
use Rattle.kmipa_ops.specs.declared.why.Why.{Why}
use Rattle.kmipa_ops.specs.declared.why.Why.TheVariants.{NoSuchObject, WrongState, EchoDiffers}
use Rattle.kmipa_ops.specs.Allowance.{allowance}
use Rattle.kmipa_ops.specs.Objects.{meant, is_other_id}
use Rattle.kmipa_ops.specs.Changes.{act_of, dates_after, bytes_after, thing_after, ChangesObject, change_speaks, material_after, dates_left, material_left, held_left, changed_at, with_changed, change_deed, change_judging, id_in, ChangeReason}
use Rattle.kmipa_ops.specs.Meant.{place_meant, object_meant, is_not, is_excluded}
use Rattle.kmipa_ops.proofs.TestLemmas.{not_none, echoes_if, echoes_not}
use Rattle.kmipa_ops.proofs.StepLemmas.{Step, step_as}
use Rattle.kmipa_object.specs.declared.state.State.{State}
use Rattle.kmipa_store.specs.Queries.{state_of_place}
use Rattle.kmipa_ops.specs.Whys.{whys}
use Rattle.kmipa_ops.specs.After.{Changes, LeavesAfter}
use Rattle.kmipa_ops.proofs.GetLemmas.{meant_is, meant_at}
use Rattle.kmipa_ops.proofs.MeantLemmas.{object_there, object_nowhere, in_state}
use Rattle.kmipa_msgs.specs.Messages.{RulesOf, changed}
use Rattle.kmipa_msgs.specs.Sayable.{IsSayableId}
use Rattle.kmipa_ops.proofs.DeedLaws.{IsDeed}
use Rattle.std.specs.Bool.{Decides}
use Rattle.kmipa_ops.proofs.ConditionLemmas.{never_decides, none_decides, id_decides, excluded_decides, in_table, none_same, excluded_same}
use Rattle.kmipa_msgs.specs.Identifiers.{SaysChanged}

-- two changes that agree on the element
pub updated-agree : {X : Type 0} (xs : List X) (n : ℕ) (f g : X → X) (x : X) → slice_get xs n ≡ Some x → f x ≡ g x → updated xs n f ≡ updated xs n g
updated-agree [] n f g x at e = refl
updated-agree {X} (y ∷ xs) zero f g x at e = let same : x ≡ y = cc in let P : X → Type 0 = λ z. f z ≡ g z in ap (λ z. z ∷ xs) (subst P same e)
updated-agree (y ∷ xs) (suc n) f g x at e = ap (λ ys. y ∷ ys) (updated-agree xs n f g x at e)

-- an object changed, and an object that leads the life that is left
abbrev held_after : Change → ℤ → Held → Held
held_after change t h = record { card = record h.card { dates = dates_after change t h.card.dates }; material = material_after change h.material }

left_is : (change : Change) (t : ℤ) (h : Held) → is_not (allowed (act_of change) (state h.card.dates t)) ≡ false → held_left change t h ≡ held_after change t h
left_is change t h e =
    ap (λ (b : Bool). record {
      card = record h.card { dates = if b then h.card.dates else dates_after change t h.card.dates };
      material = if b then h.material else material_after change h.material;
    }) e

bytes_is : (change : Change) (c : Choice) (mat : Material) → bytes_of c (material_after change mat) ≡ bytes_after change (bytes_of c mat)
bytes_is Activate c mat = refl
bytes_is (Revoke code) c mat = refl
bytes_is Destroy c mat = refl

inv-changed : (change : Change) (t : ℤ) (c : Choice) (hs : List Held) (place : ℕ) → inv c (updated hs place (held_after change t)) ≡ updated (inv c hs) place (thing_after change t)
inv-changed change t c hs place =
    map-updated (thing c) (held_after change t) (thing_after change t) hs place
    (λ h. ap (λ (b : Option (List ℕ)). record { card = record h.card { dates = dates_after change t h.card.dates }; bytes = b }) (bytes_is change c h.material))

-- a Revoke leaves the Destroy Date
deactivated_destroy : (d : Dates) (t : ℤ) → (deactivated_dates d t).destroy ≡ d.destroy
deactivated_destroy d t =
    elim (is_active (state d t)) as (λ b. (if b then record d { deactivation = Some t } else d).destroy ≡ d.destroy) [ true ↦ refl | false ↦ refl ]

revoked_destroy : (d : Dates) (code : ℕ) (t : ℤ) → (revoked_dates d code t).destroy ≡ d.destroy
revoked_destroy d code t =
    elim (compromises code) as (λ b. (if b then record d { compromise = Some (or_now d.compromise t) } else deactivated_dates d t).destroy ≡ d.destroy) [
      | true ↦ refl
      | false ↦ deactivated_destroy d t
    ]

gone_after : (change : Change) (t : ℤ) (h : Held) → GoneIfDestroyed (is_none h.card.dates.destroy) h.material → GoneIfDestroyed (is_none (dates_after change t h.card.dates).destroy) (material_after change h.material)
gone_after Activate t h g = g
gone_after (Revoke code) t h g =
    let P : Option ℤ → Type 0 = λ d. GoneIfDestroyed (is_none d) h.material in
    subst P (sym (revoked_destroy h.card.dates code t)) g
gone_after Destroy t h g = tt

own_after : (change : Change) (h : Held) (secret : SecretNo) → material_after change h.material ≡ Secret secret → h.material ≡ Secret secret
own_after Activate h secret e = e
own_after (Revoke code) h secret e = e
own_after Destroy h secret e = cc

sound_changed : (m : Meaning) (place : ℕ) (h : Held) (change : Change) (t : ℤ) → IsSound m → slice_get m.objects place ≡ Some h
    → IsSound (record { objects = updated m.objects place (held_after change t); secrets = m.secrets; aside = m.aside })
sound_changed m place h change t sound at =
    let life : Life = record {
      initial = (dates_after change t h.card.dates).initial;
      activation = (dates_after change t h.card.dates).activation;
      deactivation = (dates_after change t h.card.dates).deactivation;
      destroy = (dates_after change t h.card.dates).destroy;
      compromise = (dates_after change t h.card.dates).compromise;
      material = material_after change h.material;
    } in
    let P : List Held → Type 0 = λ hs. IsSound (record { objects = hs; secrets = m.secrets; aside = m.aside }) in
    subst P (updated-agree m.objects place (λ g. with_life g life) (held_after change t) h at refl)
    (sound_relived m place h life sound at (gone_after change t h (sound.gone place h at)) (own_after change h))

is_not-Not : (a : Allow) → is_not a ≡ true → a ≡ Not
is_not-Not Must e = cc
is_not-Not May e = cc
is_not-Not Not e = refl

-- the calls of a ledger leave what a change leaves
pub changed_is : (s u : LedgerState) (o : Option ℕ) (place : ℕ) (h : Held) (change : Change) (t : ℤ) (life : Life) → o ≡ Some place → slice_get s.now.objects place ≡ Some h
    → with_life h life ≡ held_left change t h → u ≡ replaced s place life
    → u ≡ now_changed s (record { objects = changed_at s.now.objects o (held_left change t); secrets = s.now.secrets; aside = s.now.aside })
changed_is s u o place h change t life here at is put =
    let C : List Held → LedgerState = λ hs. now_changed s (record { objects = hs; secrets = s.now.secrets; aside = s.now.aside }) in
    put ∙ ap C (updated-agree s.now.objects place (λ g. with_life g life) (held_left change t) h at is) ∙ ap (λ (x : Option ℕ). C (changed_at s.now.objects x (held_left change t))) (sym here)

-- and an operation what it leaves of the object that is meant
pub leaves_changed : {E : Type 0} (s u : LedgerState) (before id p : Option (List ℕ)) (o : Option ℕ) (t : ℤ) (change : Change) (r : Result (Unit {0}) E) → o ≡ place_meant s.now.objects (meant id before) → p ≡ before
    → Changes s (record { objects = changed_at s.now.objects o (held_left change t); secrets = s.now.secrets; aside = s.now.aside }) r u → LeavesAfter s (with_changed s.now (meant id before) t change) before r u p
leaves_changed s u before id p o t change (Ok done) place held x =
    (x ∙ ap (λ (y : Option ℕ). now_changed s (record { objects = changed_at s.now.objects y (held_left change t); secrets = s.now.secrets; aside = s.now.aside })) place, held)
leaves_changed s u before id p o t change (Err e) place held x = x

-- a life that is left
pub life_is : (h : Held) (change : Change) (t u : ℤ) (life : Life) → u ≡ t → dates_of life ≡ dates_left change u h.card.dates → life.material ≡ material_left change u h.card.dates h.material
    → with_life h life ≡ held_left change t h
life_is h change t u life same dates material =
    ap (λ (d : Dates). record { card = record h.card { dates = d }; material = life.material }) dates
    ∙ ap (λ (mat : Material). record { card = record h.card { dates = dates_left change u h.card.dates }; material = mat }) material
    ∙ ap (λ (x : ℤ). held_left change x h) same

-- the state excludes the change, or not
is_not-false : (a : Allow) → a ≢ Not → is_not a ≡ false
is_not-false Must h = refl
is_not-false May h = refl
is_not-false Not h = absurd (h refl)

is_not-true : (a : Allow) → a ≡ Not → is_not a ≡ true
is_not-true a e = ap is_not e

excluded_cases : (r : Result Life Refused) (a : Allow) → MatchResult r (λ _. a ≢ Not) (λ _. a ≡ Not) → MatchResult r (λ _. is_not a ≡ false) (λ _. is_not a ≡ true)
excluded_cases (Ok life) a h = is_not-false a h
excluded_cases (Err fault) a h = is_not-true a h

pub excluded_is : (change done : Change) (d : Dates) (t u : ℤ) (r : Result Life Refused) → change ≡ done → u ≡ t
    → MatchResult r (λ _. allowed (act_of done) (state d u) ≢ Not) (λ _. allowed (act_of done) (state d u) ≡ Not)
    → MatchResult r (λ _. is_not (allowed (act_of change) (state d t)) ≡ false) (λ _. is_not (allowed (act_of change) (state d t)) ≡ true)
excluded_is change done d t u r is same h =
    let P : Change → Type 0 = λ c. MatchResult r (λ _. is_not (allowed (act_of c) (state d t)) ≡ false) (λ _. is_not (allowed (act_of c) (state d t)) ≡ true) in
    let Q : ℤ → Type 0 = λ x. MatchResult r (λ _. is_not (allowed (act_of done) (state d x)) ≡ false) (λ _. is_not (allowed (act_of done) (state d x)) ≡ true) in
    subst P (sym is) (subst Q same (excluded_cases r (allowed (act_of done) (state d u)) h))

-- an answer that shows no identifier says less
pub unshown : (rules : RulesOf) (V : List Thing) (before : Option (List ℕ)) (t : ℤ) (asked : Option (List ℕ)) (change : Change) (shown : Option (List ℕ)) (V' : List Thing) (p : Option (List ℕ))
    → ChangesObject rules V before t asked change shown V' p → ChangesObject rules V before t asked change None V' p
unshown rules V before t asked change shown V' p x = record {
  id = x.id;
  place = x.place;
  object = x.object;
  about = x.about;
  there = x.there;
  may = x.may;
  echo = tt;
  leaves = x.leaves;
  placeholder = x.placeholder;
}

module _ (rules : RulesOf) (m : Meaning) (before asked : Option (List ℕ)) (t : ℤ) (change : Change) (shown : Option (List ℕ)) where
  abbrev about : Option (List ℕ)
  about = meant asked before

  -- the object that is meant is at a place
  pub record Stands (id : List ℕ) (place : ℕ) (h : Held) : Type 0 where
    pub about_is : about ≡ Some id
    pub named : place_of id (cards_of m.objects) ≡ Some place
    pub stands : slice_get m.objects place ≡ Some h

  place_is : (id : List ℕ) (place : ℕ) (h : Held) → Stands id place h → place_meant m.objects about ≡ Some place
  place_is id place h f = ap (place_meant m.objects) f.about_is ∙ f.named

  object_is : (id : List ℕ) (place : ℕ) (h : Held) → Stands id place h → object_meant m.objects about ≡ Some h
  object_is id place h f = meant_is m about id place h f.about_is f.named f.stands

  -- what is left, where the state allows the change
  objects_is : (id : List ℕ) (place : ℕ) (h : Held) → Stands id place h → is_not (allowed (act_of change) (state h.card.dates t)) ≡ false
      → (with_changed m about t change).objects ≡ updated m.objects place (held_after change t)
  objects_is id place h f may =
      ap (λ (o : Option ℕ). changed_at m.objects o (held_left change t)) (place_is id place h f)
      ∙ updated-agree m.objects place (held_left change t) (held_after change t) h f.stands (left_is change t h may)

  links : (id : List ℕ) (place : ℕ) (h : Held) → Stands id place h → is_not (allowance rules (act_of change) t h.card) ≡ false → is_other_id shown about ≡ false
      → (c : Choice) → ChangesObject rules (inv c m.objects) before t asked change shown (inv c (with_changed m about t change).objects) before
  links id place h f may echo c = record {
    id = id;
    place = place;
    object = thing c h;
    about = f.about_is;
    there = record { named = ap (place_of id) (cards-inv c m.objects) ∙ f.named; stands = get-inv c m.objects place ∙ ap (option_map (thing c)) f.stands };
    may = λ e. let bad : true ≡ false = sym (ap is_not e) ∙ may in cc;
    echo = echoes_if bytes_eq bytes_eq-Decides shown id (ap (is_other_id shown) (sym f.about_is) ∙ echo);
    leaves = ap (inv c) (objects_is id place h f (in_table rules (act_of change) t h.card may)) ∙ inv-changed change t c m.objects place;
    placeholder = refl;
  }

  found_by : (c : Choice) (V : List Thing) (p : Option (List ℕ)) (x : ChangesObject rules (inv c m.objects) before t asked change shown V p) → (h : Held) × Stands x.id x.place h × (thing c h ≡ x.object)
  found_by c V p x =
      let o = inv_found c m.objects x.place x.object x.there.stands in
      (o.0, record { about_is = x.about; named = ap (place_of x.id) (sym (cards-inv c m.objects)) ∙ x.there.named; stands = o.1 }, o.2)

  pub change_step : IsSound m → ((w : Why) → change_speaks rules m.objects about t change shown w ≡ false)
      → Step (λ V V' p. ChangesObject rules V before t asked change shown V' p) m (with_changed m about t change) before
  change_step sound silent =
      let o = not_none (object_meant m.objects about) (silent NoSuchObject) in
      let at = meant_at m.objects about o.0 o.1 in
      let f : Stands at.0 at.2 o.0 = record { about_is = at.1; named = at.3; stands = at.4 } in
      let may : is_not (allowance rules (act_of change) t o.0.card) ≡ false = ap (is_excluded rules (act_of change) t) (sym o.1) ∙ silent WrongState in
      let left : (with_changed m about t change).objects ≡ updated m.objects at.2 (held_after change t) = objects_is at.0 at.2 o.0 f (in_table rules (act_of change) t o.0.card may) in
      let P : List Held → Type 0 = λ hs. IsSound (record { objects = hs; secrets = m.secrets; aside = m.aside }) in
      record {
        sound = λ c ch. (ch, links at.0 at.2 o.0 f may (silent EchoDiffers) c);
        complete = λ c ch V p x.
            let r = found_by c V p x in
            let same : Some x.place ≡ Some at.2 = sym (place_is x.id x.place r.0 r.1) ∙ place_is at.0 at.2 o.0 f in
            let is : x.place ≡ at.2 = cc in (
              c,
              ch,
              agrees_same _ c,
              x.leaves ∙ ap (λ (n : ℕ). updated (inv c m.objects) n (thing_after change t)) is ∙ sym (inv-changed change t c m.objects at.2) ∙ ap (inv c) (sym left),
              x.placeholder,
            );
        grows = omega arith;
        extends = extends_same m.secrets;
        kept = subst P (sym left) (sound_changed m at.2 o.0 change t sound at.4);
      }

  -- what speaks against it allows no choice
  pub change_never : (w : Why) → change_speaks rules m.objects about t change shown w ≡ true → (c : Choice) (V : List Thing) (p : Option (List ℕ)) → ChangesObject rules (inv c m.objects) before t asked change shown V p → ⊥
  change_never NoSuchObject h c V p x =
      let r = found_by c V p x in
      let e : is_none (object_meant m.objects about) ≡ false = ap is_none (object_is x.id x.place r.0 r.1) in
      cc
  change_never WrongState h c V p x =
      let r = found_by c V p x in
      let e : is_not (allowance rules (act_of change) t r.0.card) ≡ true = ap (is_excluded rules (act_of change) t) (sym (object_is x.id x.place r.0 r.1)) ∙ h in
      x.may (ap (λ (y : Thing). allowance rules (act_of change) t y.card) (sym r.2) ∙ is_not-Not (allowance rules (act_of change) t r.0.card) e)
  change_never EchoDiffers h c V p x = echoes_not bytes_eq bytes_eq-Decides shown x.id (ap (is_other_id shown) (sym x.about) ∙ h) x.echo
  change_never w h c V p x = cc

none_other : (about : Option (List ℕ)) → is_other_id None about ≡ false
none_other None = refl
none_other (Some id) = refl

covers_change : (rules : RulesOf) (objects : List Held) (about : Option (List ℕ)) (t : ℤ) (change : Change) (shown : Option (List ℕ)) (w : Why) → change_speaks rules objects about t change None w ≡ true
    → change_speaks rules objects about t change shown w ≡ true
covers_change rules objects about t change shown NoSuchObject h = h
covers_change rules objects about t change shown WrongState h = h
covers_change rules objects about t change shown EchoDiffers h = let none : is_other_id None about ≡ false = none_other about in let bad : ⊥ = cc in absurd bad
covers_change rules objects about t change shown w h = cc

-- an answer that shows no identifier completes one without payload
hidden_change : (rules : RulesOf) (m : Meaning) (before id : Option (List ℕ)) (t : ℤ) (change : Change) → IsSound m → ((w : Why) → change_speaks rules m.objects (meant id before) t change None w ≡ false)
    → Step (λ V V' p. (shown : Option (List ℕ)) × IsSayableId shown × ChangesObject rules V before t id change shown V' p) m (with_changed m (meant id before) t change) before
hidden_change rules m before id t change sound silent =
    step_as (λ V V' p. ChangesObject rules V before t id change None V' p)
    (λ V V' p. (shown : Option (List ℕ)) × IsSayableId shown × ChangesObject rules V before t id change shown V' p) m (with_changed m (meant id before) t change) before
    (λ V V' p x. (None, tt, x))
    (λ V V' p x. unshown rules V before t id change x.0 V' p x.2)
    (change_step rules m before id t change None sound silent)

-- its test says what its reasons mean
change_decides : (rules : RulesOf) (objects : List Held) (meant_id : Option (List ℕ)) (t : ℤ) (change : Change) (shown : Option (List ℕ)) (why : Why)
    → Decides (change_speaks rules objects meant_id t change shown why) (ChangeReason rules objects meant_id t change shown why)
change_decides rules objects meant_id t change shown NoSuchObject = none_decides (object_meant objects meant_id)
change_decides rules objects meant_id t change shown WrongState = excluded_decides rules objects meant_id t (act_of change)
change_decides rules objects meant_id t change shown EchoDiffers = id_decides shown meant_id
change_decides rules objects meant_id t change shown why = never_decides

-- and the same over ledgers with the same objects
change_same : (rules : RulesOf) (hs gs : List Held) → cards_of hs ≡ cards_of gs → (meant_id : Option (List ℕ)) (t : ℤ) (change : Change) (shown : Option (List ℕ)) (why : Why)
    → change_speaks rules hs meant_id t change shown why ≡ change_speaks rules gs meant_id t change shown why
change_same rules hs gs same meant_id t change shown NoSuchObject = none_same hs gs same meant_id
change_same rules hs gs same meant_id t change shown WrongState = excluded_same hs gs same rules (act_of change) t meant_id
change_same rules hs gs same meant_id t change shown why = refl

pub is_change : (id : Option (List ℕ)) (change : Change) → IsDeed (change_deed id change) (change_judging id change) SaysChanged IsSayableId
is_change id change = record {
  back = λ shown. refl;
  each = elim [ changed x ↦ inl (x, refl) | _ ↦ inr (refl, λ ts s. s) ];
  carries = λ x. (λ h. (h, tt), λ h. h.0);
  quiet = λ rules m before t shown. refl;
  covers = λ rules m before t shown w h. covers_change rules m.objects (meant id before) t change shown w h;
  step = λ rules m before t a sound brought shown silent. change_step rules m before id t change a sound silent;
  never = λ rules m before t a w h c ch V p x. change_never rules m before id t change a w h c V p x;
  hidden = λ rules m before t may sound silent. hidden_change rules m before id t change sound silent;
  learns = λ m before t shown number bytes e. inl e;
  decides = λ rules m before t shown w. change_decides rules m.objects (meant id before) t change (id_in shown) w;
  same = λ rules m n same before t shown w. change_same rules m.objects n.objects same.0 (meant id before) t change (id_in shown) w;
}

-- AS THE PROGRAM LOOKS AT IT

module _ (rules : RulesOf) (hs : List Held) (about : Option (List ℕ)) (t : ℤ) (change : Change) (shown : Option (List ℕ)) (o : Option ℕ) (place : o ≡ place_meant hs about) where
  abbrev whys_behind : Option Held → Option Why
  whys_behind x =
      cond (is_none x) (Some NoSuchObject) (cond (is_excluded rules (act_of change) t x) (Some WrongState) (cond (is_other_id shown about) (Some EchoDiffers) None))

  whys_of_change : find (change_speaks rules hs about t change shown) whys ≡ whys_behind (object_meant hs about)
  whys_of_change = refl

  pub change_absent : o ≡ None → Some NoSuchObject ≡ find (change_speaks rules hs about t change shown) whys
  change_absent none = ap whys_behind (sym (object_nowhere hs about o none place))

  pub change_there : (p : ℕ) (s : State) (excluded other : Bool) → o ≡ Some p → state_of_place hs p t ≡ Some s → is_not (allows rules.allow_lines (act_of change) s) ≡ excluded → is_other_id shown about ≡ other
      → cond excluded (Some WrongState) (cond other (Some EchoDiffers) None) ≡ find (change_speaks rules hs about t change shown) whys
  change_there p s excluded other here is out echo =
      let x = in_state hs p t s is in
      let rest : Option Why = cond (is_other_id shown about) (Some EchoDiffers) None in
      ap (λ (b : Bool). cond excluded (Some WrongState) (cond b (Some EchoDiffers) None)) (sym echo)
      ∙ ap (λ (b : Bool). cond b (Some WrongState) rest) (sym out ∙ ap (λ (z : State). is_not (allows rules.allow_lines (act_of change) z)) (sym x.2))
      ∙ ap whys_behind (sym (object_there hs about o p x.0 here place x.1))
