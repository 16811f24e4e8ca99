-- What never changes of the objects that are there at the start: identifier, type and the attributes that were given.
use Rattle.std.proofs.Common.{◌≡◌, ◌≢◌, ◌<◌, ◌⊎◌, inl, inr, ℕ, zero, suc, ℤ, List, [], ◌∷◌, ◌++◌, length, Option, Some, None, MatchOption, slice_get, Contains, refl, sym, ap, ◌∙◌, subst, arith}
use Rattle.std.specs.List.{AllZip}
use Rattle.std.specs.Prelude.{AllPairs, IsPermutation}
use Rattle.std.proofs.lemmas.List.{length-map}
use Rattle.std.proofs.lemmas.Option.{get_or_from_slice_get}
use Rattle.std.proofs.lemmas.Slice.Zip.{AllZip-long}
use Rattle.kmipa_object.specs.Inventory.{Card, Thing, cards}
use Rattle.kmipa_object.specs.Lists.{updated}
use Rattle.kmipa_store.specs.Ledger.{Held, Meaning}
use Rattle.kmipa_store.specs.Choices.{IsSound, inv, thing}
use Rattle.kmipa_record.specs.Declarations.{DeclarationOf}
use Rattle.kmipa_record.specs.Entries.{EntryOf}
use Rattle.kmipa_msgs.specs.declared.response.Status.{Status}
use Rattle.kmipa_msgs.specs.declared.response.Status.TheVariants.{Success, Failed, Undone}
use Rattle.kmipa_msgs.specs.Messages.{RulesOf, AskedOf, creates, registers, locates, gets, gets_attributes, activates, revokes, destroys, idles, does_other, GotOf, GotAttributesOf, RegisteredOf, AskOf, PayloadOf, RequestOf, AnswerOf, ResponseOf}
use Rattle.kmipa_ops.specs.Row.{seen_in}
use Rattle.kmipa_ops.specs.Changes.{ChangesObject, change_deed, thing_after}
use Rattle.kmipa_ops.specs.Create.{Creates, create_deed}
use Rattle.kmipa_ops.specs.Get.{Gets, get_deed}
use Rattle.kmipa_ops.specs.GetAttributes.{GetsAttributes, get_attributes_deed}
use Rattle.kmipa_ops.specs.Locate.{Lists, locate_deed, names_only}
use Rattle.kmipa_ops.specs.Register.{Registers, register_deed}
use Rattle.kmipa_ops.specs.declared.change.Change.{Change}
use Rattle.kmipa_ops.specs.declared.change.Change.TheVariants.{Activate, Revoke, Destroy}
use Rattle.kmipa_ops.specs.Does.{Succeeds, Outcome, Does}
use Rattle.kmipa_ops.specs.Chains.{Chain}
use Rattle.kmipa_batch.specs.Calls.{pairs_taken, Leaves, goes_back, goes_on, CallAlong, CallSomeAlong}
use Rattle.kmipa_check.specs.Steps.{StepOf, order_of}
use Rattle.kmipa_check.specs.Described.{IsDescribed, card_declared}
use Rattle.kmipa_check.specs.Runs.{Linked, rules_declared}
use Rattle.kmipa_check.specs.Verdicts.{AreKnown}
use Rattle.kmipa_orders.specs.Ends.{LiveAlike, StandAmong}
use Rattle.kmipa_orders.specs.Stills.{StillOf, still, stills}
use Rattle.kmipa_check.proofs.PlaceLemmas.{at_contains, contains_at, mapped_from, get_at, some_at}
use Rattle.kmipa_orders.proofs.PermutationLemmas.{once_pairs, permuted}
use Rattle.kmipa_orders.proofs.PickLemmas.{lower}

-- identifier, type and attributes are the same
record SameGiven (a b : Card) : Type 0 where
  id : a.id ≡ b.id
  kind : a.kind ≡ b.kind
  given : a.given ≡ b.given

same_given : (a b : Card) → a ≡ b → SameGiven a b
same_given a b e = record { id = ap (λ (c : Card). c.id) e; kind = ap (λ (c : Card). c.kind) e; given = ap (λ (c : Card). c.given) e }

given_over : (a b c : Card) → SameGiven a b → SameGiven b c → SameGiven a c
given_over a b c p q = record { id = p.id ∙ q.id; kind = p.kind ∙ q.kind; given = p.given ∙ q.given }

given_back : (a b : Card) → SameGiven a b → SameGiven b a
given_back a b p = record { id = sym p.id; kind = sym p.kind; given = sym p.given }

-- each object of an inventory stands at its place in another one too
abbrev Front : List Thing → List Thing → Type 0
Front V W = (k : ℕ) (o : Thing) → slice_get V k ≡ Some o → (x : Thing) × (slice_get W k ≡ Some x) × SameGiven o.card x.card

front_same : (V W : List Thing) → W ≡ V → Front V W
front_same V W is k o at = let P : List Thing → Type 0 = λ X. slice_get X k ≡ Some o in (o, subst P (sym is) at, same_given o.card o.card refl)

front_over : (V M W : List Thing) → Front V M → Front M W → Front V W
front_over V M W a b k o at =
    let x = a k o at in
    let y = b k x.0 x.1 in
    (y.0, y.1, given_over o.card x.0.card y.0.card x.2 y.2)

appended_at : {X : Type 0} (xs ys : List X) (k : ℕ) (o : X) → slice_get xs k ≡ Some o → slice_get (xs ++ ys) k ≡ Some o
appended_at [] ys k o at = absurd cc
appended_at (x ∷ xs) ys zero o at = at
appended_at (x ∷ xs) ys (suc k) o at = appended_at xs ys k o at

front_added : (V W : List Thing) (x : Thing) → W ≡ V ++ x ∷ [] → Front V W
front_added V W x is k o at = let P : List Thing → Type 0 = λ X. slice_get X k ≡ Some o in (o, subst P (sym is) (appended_at V (x ∷ []) k o at), same_given o.card o.card refl)

updated_at : {X : Type 0} (xs : List X) (place : ℕ) (f : X → X) (k : ℕ) (o : X) → slice_get xs k ≡ Some o → (slice_get (updated xs place f) k ≡ Some o) ⊎ (slice_get (updated xs place f) k ≡ Some (f o))
updated_at [] place f k o at = absurd cc
updated_at {X} (x ∷ xs) zero f zero o at = let e : x ≡ o = cc in inr (ap (λ (z : X). Some (f z)) e)
updated_at (x ∷ xs) zero f (suc k) o at = inl at
updated_at (x ∷ xs) (suc place) f zero o at = inl at
updated_at (x ∷ xs) (suc place) f (suc k) o at = updated_at xs place f k o at

front_changed : (V W : List Thing) (place : ℕ) (change : Change) (t : ℤ) → W ≡ updated V place (thing_after change t) → Front V W
front_changed V W place change t is k o at =
    let P : Thing → List Thing → Type 0 = λ x X. slice_get X k ≡ Some x in
    elim (updated_at V place (thing_after change t) k o at) as (λ q. (x : Thing) × (slice_get W k ≡ Some x) × SameGiven o.card x.card) [
      | inl e ↦ (o, subst (P o) (sym is) e, same_given o.card o.card refl)
      | inr e ↦ (thing_after change t o, subst (P (thing_after change t o)) (sym is) e, record { id = refl; kind = refl; given = refl })
    ]

-- ---- an item

pub shown_by : {X : Type 0} (o : Option X) (P : X → Type 0) (R : Type 0) → ((x : X) → P x → R) → MatchOption o ⊥ P → R
shown_by None P R f h = absurd h
shown_by (Some x) P R f h = f x h

module _ (rules : RulesOf) (t : ℤ) (V : List Thing) (before : Option (List ℕ)) (V' : List Thing) (after : Option (List ℕ)) where
  front_change : (id : Option (List ℕ)) (change : Change) (payload : Option PayloadOf) → MatchOption (seen_in (change_deed id change) payload) ⊥ (λ (shown : Option (List ℕ)). ChangesObject rules V before t id change shown V' after)
      → Front V V'
  front_change id change payload s =
      shown_by (seen_in (change_deed id change) payload) (λ (shown : Option (List ℕ)). ChangesObject rules V before t id change shown V' after) (Front V V')
      (λ shown h. front_changed V V' h.place change t h.leaves) s

  front_succeeds : (asked : AskedOf) (payload : Option PayloadOf) → Succeeds rules V before t asked payload V' after → Front V V'
  front_succeeds (creates a) payload s =
      shown_by (seen_in (create_deed a) payload) (λ (x : RegisteredOf). Creates rules V t a x V' after) (Front V V') (λ x h. front_added V V' _ h.1.leaves) s
  front_succeeds (registers r) payload s =
      shown_by (seen_in (register_deed r) payload) (λ (x : RegisteredOf). Registers rules V t r x V' after) (Front V V') (λ x h. front_added V V' _ h.leaves) s
  front_succeeds (locates q) payload s =
      shown_by (seen_in (locate_deed q) payload) (λ (listed : List (List ℕ)). Lists (cards V) t q listed × (V' ≡ V) × (after ≡ names_only before (Some listed))) (Front V V') (λ listed h. front_same V V' h.1) s
  front_succeeds (gets id) payload s = shown_by (seen_in (get_deed id) payload) (λ (a : GotOf). Gets rules V before t id a V' after) (Front V V') (λ a h. front_same V V' h.leaves) s
  front_succeeds (gets_attributes g) payload s =
      shown_by (seen_in (get_attributes_deed g) payload) (λ (a : GotAttributesOf). GetsAttributes rules V before t g a V' after) (Front V V') (λ a h. front_same V V' h.leaves) s
  front_succeeds (activates id) payload s = front_change id Activate payload s
  front_succeeds (revokes r) payload s = front_change r.id (Revoke r.code) payload s
  front_succeeds (destroys id) payload s = front_change id Destroy payload s
  front_succeeds (idles number) None s = front_same V V' s.0
  front_succeeds (idles number) (Some payload) s = absurd s
  front_succeeds (does_other number) payload s = absurd s

  front_outcome : (status : Status) (asked : AskedOf) (reason : Option ℕ) (payload : Option PayloadOf) → Outcome status rules V before t asked reason payload V' after → Front V V'
  front_outcome Failed asked reason payload o = front_same V V' o.leaves
  front_outcome Success asked reason payload o = front_succeeds asked payload o
  front_outcome Undone asked reason payload o = front_succeeds asked payload o

  front_does : (ask : AskOf) (answer : AnswerOf) → Does rules V before t ask answer V' after → Front V V'
  front_does ask answer d = front_outcome answer.status ask.asked answer.reason answer.payload d.outcome

-- ---- calls, one after the other

module _ (rules : RulesOf) where
  front_chain : (t : ℤ) (V : List Thing) (before : Option (List ℕ)) (pairs : List (AskOf × AnswerOf)) (V' : List Thing) (after : Option (List ℕ)) → Chain rules t V before pairs V' after → Front V V'
  front_chain t V before [] V' after c = front_same V V' c.0
  front_chain t V before (pair ∷ pairs) V' after c = front_over V c.0 V' (front_does rules t V before c.0 c.1 pair.0 pair.1 c.2) (front_chain t c.0 c.1 pairs V' after c.3)

  front_call : (V : List Thing) (request : RequestOf) (response : ResponseOf) (order : Option (List ℕ)) (V' : List Thing) → CallSomeAlong rules V request response order V' → Front V V'
  front_call V request response order V' c = by c.call
    where
      by : CallAlong rules V request c.full order V' → Front V V'
      by (inl b) = left b.leaves
        where
          left : Leaves request.option c.full.items V b.last V' → Front V V'
          left (goes_back undo failed first e) = front_same V V' e
          left (goes_on none e) = front_over V b.last V' (front_chain c.full.stamp V None (pairs_taken request c.full order) b.last b.placeholder b.chain) (front_same b.last V' e)
      by (inr (refuses, e)) = front_same V V' e

  front_linked : (V : List Thing) (steps : List StepOf) (W : List Thing) → Linked rules V steps W → Front V W
  front_linked V [] W l = front_same V W l
  front_linked V (s ∷ steps) W l = front_over V l.0 W (front_call V s.request s.response (order_of s) l.0 l.1) (front_linked l.0 steps W l.2)

-- ---- ledgers that are known from one declaration

described_at : (entries : List EntryOf) (things : List Thing) (k : ℕ) (e : EntryOf) → AllZip IsDescribed entries things → slice_get entries k ≡ Some e → (x : Thing) × (slice_get things k ≡ Some x) × (x.card ≡ card_declared e)
described_at [] things k e z at = absurd cc
described_at (d ∷ entries) [] k e z at = absurd z
described_at (d ∷ entries) (x ∷ things) zero e z at = let is : d ≡ e = cc in (x, refl, z.0.card ∙ ap card_declared is)
described_at (d ∷ entries) (x ∷ things) (suc k) e z at = described_at entries things k e z.1 at

module _ (declared : DeclarationOf) where
  -- the object at the place of an entry is still the one that was declared
  front_held : (steps : List StepOf) (m : Meaning) → AreKnown declared steps m → IsSound m → (k : ℕ) (e : EntryOf) → slice_get declared.entries k ≡ Some e
      → (h : Held) × (slice_get m.objects k ≡ Some h) × SameGiven (card_declared e) h.card
  front_held steps m known sound k e at =
      let s = known.sound sound.choice.0 sound.choice.1 in
      let d = described_at declared.entries s.0 k e s.1.objects at in
      let x = front_linked (rules_declared declared) s.0 steps (inv sound.choice.0 m.objects) s.2 k d.0 d.1 in
      let h = mapped_from (thing sound.choice.0) m.objects k x.0 x.1 in
      let own : h.0.card ≡ x.0.card = ap (λ (z : Thing). z.card) h.2 in (
        h.0,
        h.1,
        given_over (card_declared e) d.0.card h.0.card (same_given (card_declared e) d.0.card (sym d.2)) (given_over d.0.card x.0.card h.0.card x.2 (same_given x.0.card h.0.card (sym own))),
      )

  -- there are as many objects at the start as entries
  front_count : (first : Meaning) (steps : List StepOf) (m : Meaning) → AreKnown declared [] first → AreKnown declared steps m → IsSound m → length first.objects ≡ length declared.entries
  front_count first steps m opened known sound =
      let s = known.sound sound.choice.0 sound.choice.1 in
      let g = opened.complete s.0 s.0 s.1 refl in
      sym (length-map first.objects (thing g.0)) ∙ ap length (sym g.2) ∙ AllZip-long IsDescribed declared.entries s.0 s.1.objects

same_still : (a b : StillOf) → SameGiven a.card b.card → LiveAlike a b → a ≡ b
same_still a b g l = λ i. record { card = record { id = g.id i; kind = g.kind i; given = g.given i; dates = l.dates i }; bytes = l.bytes i }

-- no two objects of a ledger stand the same
stand_once : (m : Meaning) → IsSound m → AllPairs (λ (a b : StillOf). a ≢ b) (stills m)
stand_once m sound i j d below within same =
    let x = some_at (stills m) i (omega (arith, below, within)) in
    let y = some_at (stills m) j within in
    let g = mapped_from (still m.secrets) m.objects i x.0 x.1 in
    let h = mapped_from (still m.secrets) m.objects j y.0 y.1 in
    let e : x.0 ≡ y.0 = sym (get_or_from_slice_get (stills m) i x.0 d x.1) ∙ same ∙ get_or_from_slice_get (stills m) j y.0 d y.1 in
    let ids : g.0.card.id ≡ h.0.card.id = ap (λ (s : StillOf). s.card.id) (g.2 ∙ e ∙ sym h.2) in
    omega (arith, below, sound.distinct i j g.0 h.0 g.1 h.1 ids)

-- where the objects of one ledger stand among those of another, both have the same ones
pub same_stills : (declared : DeclarationOf) (first : Meaning) (steps others : List StepOf) (m n : Meaning) → AreKnown declared [] first → AreKnown declared steps m → IsSound m → AreKnown declared others n → IsSound n
    → StandAmong (length first.objects) (stills m) (stills n) → IsPermutation (stills m) (stills n)
same_stills declared first steps others m n opened known sound other_known other_sound among =
    permuted (stills m) (stills n) (once_pairs (stills m) (stand_once m sound))
    (λ a has. let k = at_contains (stills m) a has in inside k.0 a k.1)
    (let l = among.long in omega (arith, l))
  where
    front : (k : ℕ) (a b : StillOf) → slice_get (stills m) k ≡ Some a → slice_get (stills n) k ≡ Some b → k < length first.objects → LiveAlike a b → a ≡ b
    front k a b at there below live =
        let e = some_at declared.entries k (let c = front_count declared first steps m opened known sound in omega (arith, below, c)) in
        let g = front_held declared steps m known sound k e.0 e.1 in
        let h = front_held declared others n other_known other_sound k e.0 e.1 in
        let mine : Some (still m.secrets g.0) ≡ Some a = sym (get_at (still m.secrets) m.objects k g.0 g.1) ∙ at in
        let its : Some (still n.secrets h.0) ≡ Some b = sym (get_at (still n.secrets) n.objects k h.0 h.1) ∙ there in
        let x : still m.secrets g.0 ≡ a = cc in
        let y : still n.secrets h.0 ≡ b = cc in
        same_still a b
        (given_over a.card (card_declared e.0) b.card
        (given_over a.card g.0.card (card_declared e.0) (same_given a.card g.0.card (ap (λ (s : StillOf). s.card) (sym x))) (given_back (card_declared e.0) g.0.card g.2))
        (given_over (card_declared e.0) h.0.card b.card h.2 (same_given h.0.card b.card (ap (λ (s : StillOf). s.card) y))))
        live

    inside : (k : ℕ) (a : StillOf) → slice_get (stills m) k ≡ Some a → Contains (stills n) a
    inside k a at =
        let r = among.each k a at in
        let P : StillOf → Type 0 = λ z. Contains (stills n) z in
        let Q : ℕ → Type 0 = λ i. slice_get (stills n) i ≡ Some r.other in
        let same : a ≡ r.other = elim (lower (length first.objects) k) as (λ q. a ≡ r.other) [
          | inl below ↦ front k a r.other at (subst Q (r.own below) r.there) below r.alike.0
          | inr past ↦ r.alike.1 past
        ] in
        subst P (sym same) (contains_at (stills n) r.at r.other r.there)
