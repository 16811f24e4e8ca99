-- Whose an object is: as it is computed step by step, and as it is said of the order alone.
use Rattle.std.proofs.Common.{◌≡◌, ◌≢◌, ◌∙◌, ◌⊎◌, inl, inr, ◌++◌, refl, sym, ap, subst, ℕ, zero, suc, Bool, true, false, if◌then◌else◌, List, [], ◌∷◌, Contains, take, slice_get, Option, Some, None, bytes_eq}
use Rattle.std.proofs.lemmas.Slice.Eq.{bytes_eq-Decides}
use Rattle.kmipa_msgs.specs.declared.rules.Visibility.{Visibility}
use Rattle.kmipa_msgs.specs.declared.rules.Visibility.TheVariants.{Everyone, MayHide, MustHide}
use Rattle.kmipa_record.specs.Declarations.{DeclarationOf}
use Rattle.kmipa_record.specs.Entries.{EntryOf}
use Rattle.kmipa_aside.specs.Sights.{OwnedOf, hidden_from}
use Rattle.kmipa_check.proofs.PlaceLemmas.{at_contains, contains_at}
use Rattle.kmipa_turns.specs.Steps.{StepOf}
use Rattle.kmipa_trail.specs.Laws.{HiddenIsOthers, OwnersAreTold}
use Rattle.kmipa_trail.specs.Owners.{births_in, disowned, identity, owned_by, owners_at_first, owners_behind, owners_declared, owners_made, owners_with, step_seen, steps_seen}
use Rattle.kmipa_trail.specs.Ownership.{GiveNoBirth, GivesBirth, IsDeclaredOwner, IsOwnedBy, by_birth, by_declaration, owners_after}

-- ---- elements of lists

abbrev Among : {X : Type 0} → List X → X → Type 0
Among [] x = ⊥
Among (y ∷ ys) x = (y ≡ x) ⊎ Among ys x

among_at : {X : Type 0} (xs : List X) (i : ℕ) (x : X) → slice_get xs i ≡ Some x → Among xs x
among_at [] i x at = absurd cc
among_at (y ∷ ys) zero x at = let same : y ≡ x = cc in inl same
among_at (y ∷ ys) (suc i) x at = inr (among_at ys i x at)

among : {X : Type 0} (xs : List X) (x : X) → Contains xs x → Among xs x
among xs x has = let p = at_contains xs x has in among_at xs p.0 x p.1

place_among : {X : Type 0} (xs : List X) (x : X) → Among xs x → (i : ℕ) × (slice_get xs i ≡ Some x)
place_among [] x h = absurd h
place_among (y ∷ ys) x (inl same) = (0, ap Some same)
place_among (y ∷ ys) x (inr h) = let p = place_among ys x h in (suc p.0, p.1)

contains : {X : Type 0} (xs : List X) (x : X) → Among xs x → Contains xs x
contains xs x h = let p = place_among xs x h in contains_at xs p.0 x p.1

ahead : {X : Type 0} (xs ys : List X) (x : X) → Among xs x → Among (xs ++ ys) x
ahead [] ys x h = absurd h
ahead (z ∷ xs) ys x (inl same) = inl same
ahead (z ∷ xs) ys x (inr h) = inr (ahead xs ys x h)

behind : {X : Type 0} (xs ys : List X) (x : X) → Among ys x → Among (xs ++ ys) x
behind [] ys x h = h
behind (z ∷ xs) ys x h = inr (behind xs ys x h)

either : {X : Type 0} (xs ys : List X) (x : X) → Among (xs ++ ys) x → Among xs x ⊎ Among ys x
either [] ys x h = inr h
either (z ∷ xs) ys x (inl same) = inl (inl same)
either {X} (z ∷ xs) ys x (inr h) = up (either xs ys x h)
  where
    up : Among xs x ⊎ Among ys x → Among (z ∷ xs) x ⊎ Among ys x
    up (inl a) = inl (inr a)
    up (inr b) = inr b

-- ---- identifiers

differ : (a b : List ℕ) → bytes_eq a b ≡ false → a ≢ b
differ a b e same = let t : bytes_eq a b ≡ true = (bytes_eq-Decides a b).1 same in let clash : true ≡ false = sym t ∙ e in absurd cc

is_among : (ids : List (List ℕ)) (id : List ℕ) → Among ids id ⊎ (Among ids id → ⊥)
is_among [] id = inr (λ h. h)
is_among (x ∷ ids) id = by (bytes_eq x id) refl (is_among ids id)
  where
    by : (b : Bool) → bytes_eq x id ≡ b → Among ids id ⊎ (Among ids id → ⊥) → Among (x ∷ ids) id ⊎ (Among (x ∷ ids) id → ⊥)
    by true e r = inl (inl ((bytes_eq-Decides x id).0 e))
    by false e (inl h) = inl (inr h)
    by false e (inr none) = inr (λ h. elim h [ inl same ↦ differ x id e same | inr a ↦ none a ])

-- ---- one list of owners

abbrev owns : List ℕ → List ℕ → OwnedOf
owns owner id = record { id = id; owner = owner }

abbrev Has : List OwnedOf → List ℕ → List ℕ → Type 0
Has os id owner = Among os (owns owner id)

same_owned : (a b v w : List ℕ) → a ≡ b → v ≡ w → owns v a ≡ owns w b
same_owned a b v w e f = ap (owns v) e ∙ ap (λ (o : List ℕ). owns o b) f

module _ (id : List ℕ) where
  others : (os : List OwnedOf) (x w : List ℕ) → Has (disowned id os) x w → Has os x w × (x ≢ id)
  others [] x w h = absurd h
  others (o ∷ os) x w h = by (bytes_eq id o.id) refl (λ k. others os x w k) h
    where
      by : (b : Bool) → bytes_eq id o.id ≡ b → (Has (disowned id os) x w → Has os x w × (x ≢ id)) → Has (if b then disowned id os else o ∷ disowned id os) x w → Has (o ∷ os) x w × (x ≢ id)
      by true e more k = let r = more k in (inr r.0, r.1)
      by false e more (inl same) = (inl same, λ is. differ id o.id e (sym is ∙ sym (ap (λ (p : OwnedOf). p.id) same)))
      by false e more (inr k) = let r = more k in (inr r.0, r.1)

  stays : (os : List OwnedOf) (x w : List ℕ) → Has os x w → x ≢ id → Has (disowned id os) x w
  stays [] x w h other = absurd h
  stays (o ∷ os) x w h other = by (bytes_eq id o.id) refl (λ k. stays os x w k other) h
    where
      by : (b : Bool) → bytes_eq id o.id ≡ b → (Has os x w → Has (disowned id os) x w) → Has (o ∷ os) x w → Has (if b then disowned id os else o ∷ disowned id os) x w
      by true e more (inl same) = absurd (other (sym (ap (λ (p : OwnedOf). p.id) same) ∙ sym ((bytes_eq-Decides id o.id).0 e)))
      by true e more (inr k) = more k
      by false e more (inl same) = inl same
      by false e more (inr k) = inr (more k)

-- these identifiers are this client's, and all others whose they were
abbrev Owned : List ℕ → List OwnedOf → List (List ℕ) → List ℕ → List ℕ → Type 0
Owned me os ids x w = (Among ids x × (w ≡ me)) ⊎ ((Among ids x → ⊥) × Has os x w)

module _ (me : List ℕ) where
  abbrev with_one : List OwnedOf → List ℕ → List OwnedOf
  with_one os id = disowned id os ++ owns me id ∷ []

  owned_to : (os : List OwnedOf) (ids : List (List ℕ)) (x w : List ℕ) → Has (owners_with me os ids) x w → Owned me os ids x w
  owned_to os [] x w h = inr (λ k. k, h)
  owned_to os (id ∷ ids) x w h = up (owned_to (with_one os id) ids x w h)
    where
      last : (Among ids x → ⊥) → Has (disowned id os) x w ⊎ Has (owns me id ∷ []) x w → Owned me os (id ∷ ids) x w
      last none (inl k) =
          let r = others id os x w k in
          inr (λ a. elim a [ inl same ↦ r.1 (sym same) | inr b ↦ none b ], r.0)
      last none (inr (inl same)) = inl (inl (ap (λ (p : OwnedOf). p.id) same), sym (ap (λ (p : OwnedOf). p.owner) same))
      last none (inr (inr k)) = absurd k

      up : Owned me (with_one os id) ids x w → Owned me os (id ∷ ids) x w
      up (inl k) = inl (inr k.0, k.1)
      up (inr k) = last k.0 (either (disowned id os) (owns me id ∷ []) (owns w x) k.1)

  owned_from : (os : List OwnedOf) (ids : List (List ℕ)) (x w : List ℕ) → Owned me os ids x w → Has (owners_with me os ids) x w
  owned_from os [] x w (inl k) = absurd k.0
  owned_from os [] x w (inr k) = k.1
  owned_from os (id ∷ ids) x w (inl k) = owned_from (with_one os id) ids x w (by (is_among ids x) k.0)
    where
      by : Among ids x ⊎ (Among ids x → ⊥) → (id ≡ x) ⊎ Among ids x → Owned me (with_one os id) ids x w
      by (inl a) e = inl (a, k.1)
      by (inr none) (inr a) = absurd (none a)
      by (inr none) (inl same) =
          let is = same_owned id x me w same (sym k.1) in
          inr (none, behind (disowned id os) (owns me id ∷ []) (owns w x) (inl is))
  owned_from os (id ∷ ids) x w (inr k) =
      owned_from (with_one os id) ids x w
      (inr (λ a. k.0 (inr a), ahead (disowned id os) (owns me id ∷ []) (owns w x) (stays id os x w k.1 (λ same. k.0 (inl (sym same))))))

-- ---- behind steps

abbrev NoBirth : List StepOf → List ℕ → Type 0
NoBirth [] x = Unit {0}
NoBirth (s ∷ steps) x = (Among (births_in s.taken) x → ⊥) × NoBirth steps x

abbrev LastBirth : List StepOf → List ℕ → List ℕ → Type 0
LastBirth [] x w = ⊥
LastBirth (s ∷ steps) x w = LastBirth steps x w ⊎ (NoBirth steps x × (Among (births_in s.taken) x × (w ≡ identity s.client)))

module _ (v : Visibility) (made : (os : List OwnedOf) (s : StepOf) → owners_behind v os s ≡ owners_made os s) where
  after_to : (os : List OwnedOf) (steps : List StepOf) (x w : List ℕ) → Has (owners_after v os steps) x w → LastBirth steps x w ⊎ (NoBirth steps x × Has os x w)
  after_to os [] x w h = inr (tt, h)
  after_to os (s ∷ steps) x w h = up (after_to (owners_behind v os s) steps x w h)
    where
      one : NoBirth steps x → Owned (identity s.client) os (births_in s.taken) x w → LastBirth (s ∷ steps) x w ⊎ (NoBirth (s ∷ steps) x × Has os x w)
      one none (inl k) = inl (inr (none, (k.0, k.1)))
      one none (inr k) = inr ((k.0, none), k.1)

      up : LastBirth steps x w ⊎ (NoBirth steps x × Has (owners_behind v os s) x w) → LastBirth (s ∷ steps) x w ⊎ (NoBirth (s ∷ steps) x × Has os x w)
      up (inl l) = inl (inl l)
      up (inr k) =
          let P : List OwnedOf → Type 0 = λ l. Has l x w in
          one k.0 (owned_to (identity s.client) os (births_in s.taken) x w (subst P (made os s) k.1))

  after_from : (os : List OwnedOf) (steps : List StepOf) (x w : List ℕ) → LastBirth steps x w ⊎ (NoBirth steps x × Has os x w) → Has (owners_after v os steps) x w
  after_from os [] x w (inl l) = absurd l
  after_from os [] x w (inr k) = k.1
  after_from os (s ∷ steps) x w (inl (inl l)) = after_from (owners_behind v os s) steps x w (inl l)
  after_from os (s ∷ steps) x w (inl (inr k)) =
      let P : List OwnedOf → Type 0 = λ l. Has l x w in
      after_from (owners_behind v os s) steps x w (inr (k.0, subst P (sym (made os s)) (owned_from (identity s.client) os (births_in s.taken) x w (inl k.1))))
  after_from os (s ∷ steps) x w (inr k) =
      let P : List OwnedOf → Type 0 = λ l. Has l x w in
      after_from (owners_behind v os s) steps x w (inr (k.0.1, subst P (sym (made os s)) (owned_from (identity s.client) os (births_in s.taken) x w (inr (k.0.0, k.1)))))

  seen_at : (os : List OwnedOf) (steps : List StepOf) (turn : ℕ) (s : StepOf) → slice_get steps turn ≡ Some s
      → slice_get (steps_seen v os steps) turn ≡ Some (step_seen (owners_after v os (take (suc turn) steps)) s)
  seen_at os [] turn s at = absurd cc
  seen_at os (d ∷ []) zero s at = let same : d ≡ s = cc in ap (λ (x : StepOf). Some (step_seen (owners_behind v os d) x)) same
  seen_at os (d ∷ e ∷ steps) zero s at = let same : d ≡ s = cc in ap (λ (x : StepOf). Some (step_seen (owners_behind v os d) x)) same
  seen_at os (d ∷ steps) (suc turn) s at = seen_at (owners_behind v os d) steps turn s at

none_to : (steps : List StepOf) (x : List ℕ) → NoBirth steps x → (s : StepOf) → Among steps s → Among (births_in s.taken) x → ⊥
none_to [] x none s here h = here
none_to (d ∷ steps) x none s (inl same) h = none.0 (subst (λ (t : StepOf). Among (births_in t.taken) x) (sym same) h)
none_to (d ∷ steps) x none s (inr here) h = none_to steps x none.1 s here h

none_from : (steps : List StepOf) (x : List ℕ) → ((s : StepOf) → Among steps s → Among (births_in s.taken) x → ⊥) → NoBirth steps x
none_from [] x h = tt
none_from (d ∷ steps) x h = (λ a. h d (inl refl) a, none_from steps x (λ s here a. h s (inr here) a))

gives_none : (steps : List StepOf) (x : List ℕ) → NoBirth steps x → GiveNoBirth steps x
gives_none steps x none s here birth = none_to steps x none s (among steps s here) (among (births_in s.taken) x birth)

none_given : (steps : List StepOf) (x : List ℕ) → GiveNoBirth steps x → NoBirth steps x
none_given steps x g = none_from steps x (λ s here a. g s (contains steps s here) (contains (births_in s.taken) x a))

last_to : (declared : DeclarationOf) (steps : List StepOf) (x w : List ℕ) → LastBirth steps x w
    → (before : List StepOf) × (after : List StepOf) × (s : StepOf) × (steps ≡ before ++ s ∷ after) × GivesBirth s x × GiveNoBirth after x × (w ≡ identity s.client)
last_to declared [] x w l = absurd l
last_to declared (d ∷ steps) x w (inl l) =
    let r = last_to declared steps x w l in
    (d ∷ r.0, r.1, r.2, ap (λ (ss : List StepOf). d ∷ ss) r.3, r.4, r.5, r.6)
last_to declared (d ∷ steps) x w (inr k) = ([], steps, d, refl, contains (births_in d.taken) x k.1.0, gives_none steps x k.0, k.1.1)

last_from : (before after : List StepOf) (s : StepOf) (x w : List ℕ) → GivesBirth s x → GiveNoBirth after x → w ≡ identity s.client → LastBirth (before ++ s ∷ after) x w
last_from [] after s x w birth none is = inr (none_given after x none, (among (births_in s.taken) x birth, is))
last_from (b ∷ before) after s x w birth none is = inl (last_from before after s x w birth none is)

-- ---- at the start

abbrev Declares : List EntryOf → List ℕ → List ℕ → Type 0
Declares es x w = (e : EntryOf) × Among es e × (e.id ≡ x) × ((client : List ℕ) × (e.owner ≡ Some client) × (w ≡ identity client))

declared_to : (es : List EntryOf) (x w : List ℕ) → Has (owners_declared es) x w → Declares es x w
declared_to [] x w h = absurd h
declared_to (e ∷ es) x w h = up (λ k. declared_to es x w k) (either (owned_by e.id e.owner) (owners_declared es) (owns w x) h)
  where
    here : (o : Option (List ℕ)) → e.owner ≡ o → Has (owned_by e.id o) x w → Declares (e ∷ es) x w
    here None is k = absurd k
    here (Some client) is (inl same) = (e, inl refl, ap (λ (p : OwnedOf). p.id) same, (client, is, sym (ap (λ (p : OwnedOf). p.owner) same)))
    here (Some client) is (inr k) = absurd k

    up : (Has (owners_declared es) x w → Declares es x w) → Has (owned_by e.id e.owner) x w ⊎ Has (owners_declared es) x w → Declares (e ∷ es) x w
    up more (inl k) = here e.owner refl k
    up more (inr k) = let r = more k in (r.0, inr r.1, r.2, r.3)

declared_from : (es : List EntryOf) (x w : List ℕ) (e : EntryOf) → Among es e → e.id ≡ x → (client : List ℕ) → e.owner ≡ Some client → w ≡ identity client → Has (owners_declared es) x w
declared_from [] x w e here named client has is = absurd here
declared_from (f ∷ es) x w e (inr here) named client has is = behind (owned_by f.id f.owner) (owners_declared es) (owns w x) (declared_from es x w e here named client has is)
declared_from (f ∷ es) x w e (inl same) named client has is =
    let id : f.id ≡ x = ap (λ (g : EntryOf). g.id) same ∙ named in
    let owner : f.owner ≡ Some client = ap (λ (g : EntryOf). g.owner) same ∙ has in
    let P : Option (List ℕ) → Type 0 = λ o. Has (owned_by f.id o) x w in
    let it = same_owned f.id x (identity client) w id (sym is) in
    ahead (owned_by f.id f.owner) (owners_declared es) (owns w x) (subst P (sym owner) (inl it))

-- ---- hidden

hidden_to : (me : List ℕ) (os : List OwnedOf) (x : List ℕ) → Among (hidden_from me os) x → (w : List ℕ) × Has os x w × (w ≢ me)
hidden_to me [] x h = absurd h
hidden_to me (o ∷ os) x h = by (bytes_eq me o.owner) refl (λ k. hidden_to me os x k) h
  where
    by : (b : Bool) → bytes_eq me o.owner ≡ b → (Among (hidden_from me os) x → (w : List ℕ) × Has os x w × (w ≢ me)) → Among (if b then hidden_from me os else o.id ∷ hidden_from me os) x
        → (w : List ℕ) × Has (o ∷ os) x w × (w ≢ me)
    by true e more k = let r = more k in (r.0, inr r.1, r.2)
    by false e more (inl same) =
        let it : o ≡ owns o.owner x = ap (owns o.owner) same in
        (o.owner, inl it, λ is. differ me o.owner e (sym is))
    by false e more (inr k) = let r = more k in (r.0, inr r.1, r.2)

hidden_of : (me : List ℕ) (os : List OwnedOf) (x w : List ℕ) → Has os x w → w ≢ me → Among (hidden_from me os) x
hidden_of me [] x w h other = absurd h
hidden_of me (o ∷ os) x w h other = by (bytes_eq me o.owner) refl (λ k. hidden_of me os x w k other) h
  where
    by : (b : Bool) → bytes_eq me o.owner ≡ b → (Has os x w → Among (hidden_from me os) x) → Has (o ∷ os) x w → Among (if b then hidden_from me os else o.id ∷ hidden_from me os) x
    by true e more (inl same) = absurd (other (sym (ap (λ (p : OwnedOf). p.owner) same) ∙ sym ((bytes_eq-Decides me o.owner).0 e)))
    by true e more (inr k) = more k
    by false e more (inl same) = inl (ap (λ (p : OwnedOf). p.id) same)
    by false e more (inr k) = inr (more k)

-- ---- the laws

at_first : (v : Visibility) (es : List EntryOf) → v ≢ Everyone → owners_at_first v es ≡ owners_declared es
at_first Everyone es hides = absurd (hides refl)
at_first MayHide es hides = refl
at_first MustHide es hides = refl

made_behind : (v : Visibility) → v ≢ Everyone → (os : List OwnedOf) (s : StepOf) → owners_behind v os s ≡ owners_made os s
made_behind Everyone hides os s = absurd (hides refl)
made_behind MayHide hides os s = refl
made_behind MustHide hides os s = refl

module _ (declared : DeclarationOf) (hides : declared.settings.visibility ≢ Everyone) where
  abbrev v : Visibility
  v = declared.settings.visibility

  abbrev first : List OwnedOf
  first = owners_at_first v declared.entries

  told_to : (steps : List StepOf) (x w : List ℕ) → Has (owners_after v first steps) x w → IsOwnedBy declared steps x w
  told_to steps x w h = by (after_to v (made_behind v hides) first steps x w h)
    where
      by : LastBirth steps x w ⊎ (NoBirth steps x × Has first x w) → IsOwnedBy declared steps x w
      by (inl l) = let r = last_to declared steps x w l in by_birth r.0 r.1 r.2 r.3 r.4 r.5 r.6
      by (inr k) =
          let P : List OwnedOf → Type 0 = λ l. Has l x w in
          let e = declared_to declared.entries x w (subst P (at_first v declared.entries hides) k.1) in
          by_declaration (gives_none steps x k.0) (record { entry = e.0; there = contains declared.entries e.0 e.1; named = e.2; client = e.3.0; has = e.3.1; is = e.3.2 })

  told_from : (steps : List StepOf) (x w : List ℕ) → IsOwnedBy declared steps x w → Has (owners_after v first steps) x w
  told_from steps x w (by_birth before after s is birth none owner) =
      let P : List StepOf → Type 0 = λ ss. LastBirth ss x w in
      after_from v (made_behind v hides) first steps x w (inl (subst P (sym is) (last_from before after s x w birth none owner)))
  told_from steps x w (by_declaration none d) =
      let P : List OwnedOf → Type 0 = λ l. Has l x w in
      after_from v (made_behind v hides) first steps x w
      (inr (none_given steps x none, subst P (sym (at_first v declared.entries hides)) (declared_from declared.entries x w d.entry (among declared.entries d.entry d.there) d.named d.client d.has d.is)))

pub owners_told : OwnersAreTold
owners_told declared steps o hides =
    let v = declared.settings.visibility in
    let os = owners_after v (owners_at_first v declared.entries) steps in
    (λ h. told_to declared hides steps o.id o.owner (among os o h), λ i. contains os o (told_from declared hides steps o.id o.owner i))

pub hidden_others : HiddenIsOthers
hidden_others declared steps turn s hides at =
    let v = declared.settings.visibility in
    let os = owners_after v (owners_at_first v declared.entries) (take (suc turn) steps) in
    let me = identity s.client in
    let hidden = hidden_from me os in (
      hidden,
      seen_at v (made_behind v hides) (owners_at_first v declared.entries) steps turn s at,
      λ id. (
        λ h. let r = hidden_to me os id (among hidden id h) in (r.0, told_to declared hides (take (suc turn) steps) id r.0 r.1, r.2),
        λ r. contains hidden id (hidden_of me os id r.0 (told_from declared hides (take (suc turn) steps) id r.0 r.1) r.2),
      ),
    )
