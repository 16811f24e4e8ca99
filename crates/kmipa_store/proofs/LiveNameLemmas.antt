-- What the names of live objects that are listed say of the objects.
use Rattle.std.proofs.Common.{◌≡◌, ◌≢◌, ◌<◌, ◌≤◌, ◌&&◌, ◌-◌, ℕ, Bool, true, false, not, is_none, is_some, nat_le, List, [], ◌∷◌, ◌++◌, length, take, Option, Some, None, slice_get, refl, ap, sym, ◌∙◌, subst, inl, inr, arith}
use Rattle.std.specs.declared.cmp.Ordering.TheVariants.{Less}
use Rattle.std.specs.Ordering.{nat_cmp, ordering_then}
use Rattle.std.proofs.lemmas.Bool.{and_parts, false_from_ne_true}
use Rattle.std.proofs.lemmas.Bool.Decides.{nat_tests}
use Rattle.kmipa_attrs.specs.Sets.{NameOf}
use Rattle.kmipa_object.specs.Inventory.{live}
use Rattle.kmipa_object.specs.declared.life.Life.{Life}
use Rattle.kmipa_object.proofs.ListLemmas.{get_below, get-append_cases}
use Rattle.kmipa_store.specs.Bearers.{bears_live, bears_live_of, is_named_at}
use Rattle.kmipa_store.specs.Hashes.{name_hash}
use Rattle.kmipa_store.specs.Ledger.{Held, relived}
use Rattle.kmipa_store.specs.LiveNames.{CoversLive, Follows, FollowsBy, ForgetsLive, KnowsLive, NotesLive}
use Rattle.kmipa_store.specs.Names.{AreListed, Keeps, Named, is_listed, named_cmp}
use Rattle.kmipa_store.specs.Objects.{become, exchanged}
use Rattle.kmipa_store.specs.Queries.{has_name, has_name_alive, next_live_named}
use Rattle.kmipa_store.specs.declared.live_names.LiveNames.{LiveNames}
use Rattle.kmipa_store.specs.declared.names.Names.{Names}
use Rattle.kmipa_store.proofs.BearerLemmas.{bears_live_at, bears_somewhere, first_place, name_at, named_at, no_place}
use Rattle.kmipa_store.proofs.NameLemmas.{Rests, Seeks, hash_same, less_than, none_before, still_under, taken_below, taken_from, tied, under}
use Rattle.kmipa_store.proofs.SoundLemmas.{relived_from, updated_cases}

-- a name that a live object has is listed
listed_live : (names : Names) (objects : List Held) (p s : ℕ) (value : List ℕ) (kind : ℕ) → CoversLive names objects → bears_live objects p s value kind ≡ true
    → (p < length objects) × (is_listed names.by_hash.keys (name_hash value kind) p s ≡ true)
listed_live names objects p s value kind c is =
    let h = bears_live_at objects p s value kind is in
    let n = name_at h.0 s value kind h.3 in
    (get_below objects p h.0 h.1, ap (λ (k : ℕ). is_listed names.by_hash.keys k p s) (sym (hash_same value kind n.0 n.2)) ∙ c.all p h.0 h.1 h.2 s n.0 n.1)

-- the test of the first place from one on
abbrev pub live_from : List Held → ℕ → List ℕ → ℕ → ℕ → ℕ → Bool
live_from objects from value kind p s = nat_le from p && bears_live objects p s value kind

module _ (names : Names) (objects : List Held) (value : List ℕ) (kind hash : ℕ) (covers : CoversLive names objects) (is : hash ≡ name_hash value kind) where
  pub live_next_start : (from end : ℕ) (rest : List Named) → end ≡ length objects → rest ≡ under hash from end names.by_hash.keys → Seeks (live_from objects from value kind) hash rest
  live_next_start from end rest count e = record {
    left = λ p s passes.
        let parts = and_parts (nat_le from p) (bears_live objects p s value kind) passes in
        let l = listed_live names objects p s value kind covers parts.1 in
        let below = l.0 in
        let le : from ≤ p = grind (arith, nat_tests, parts.0) in
        ap (λ (x : List Named). is_listed x hash p s) e
        ∙ still_under hash from end names.by_hash.keys p s le (omega (arith, below, count)) (ap (λ (k : ℕ). is_listed names.by_hash.keys k p s) is ∙ l.1);
  }

module _ (objects : List Held) (value : List ℕ) (kind : ℕ) where
  alive_passes : (from q s : ℕ) (h : Held) → from ≤ q → slice_get objects q ≡ Some h → live h.card ≡ true → is_named_at h s value kind ≡ true → live_from objects from value kind q s ≡ true
  alive_passes from q s h le at alive has =
      let e : nat_le from q ≡ true = grind (arith, nat_tests, le) in
      ap (λ (b : Bool). b && bears_live objects q s value kind) e ∙ ap (λ (o : Option Held). bears_live_of o s value kind) at ∙ ap (λ (b : Bool). b && is_named_at h s value kind) alive ∙ has

  -- the first that is left, is live and has the name
  pub live_next_here : (hash from : ℕ) (one : Named) (rest : List Named) → bears_live objects one.1 one.2 value kind ≡ true → Seeks (live_from objects from value kind) hash (one ∷ rest)
      → Rests hash from (one ∷ rest) → next_live_named value kind from objects ≡ Some one.1
  live_next_here hash from one rest is k r =
      let h = bears_live_at objects one.1 one.2 value kind is in
      let alive : has_name_alive value kind h.0 ≡ true = ap (λ (b : Bool). b && has_name value kind h.0) h.2 ∙ named_at h.0 one.2 value kind h.3 in
      first_place (has_name_alive value kind) objects from one.1 h.0 r.inside.0.1 h.1 alive (λ q g ge lt at. false_from_ne_true (has_name_alive value kind g) (λ found.
      let parts = and_parts (live g.card) (has_name value kind g) found in
      let s = bears_somewhere objects q g value kind at parts.1 in
      let less : named_cmp (hash, q, s.0) one ≡ Less =
      ap (λ (n : ℕ). ordering_then (ordering_then (nat_cmp hash n) (nat_cmp q one.1)) (nat_cmp s.0 one.2)) (sym r.inside.0.0)
      ∙ ap (λ o. ordering_then (ordering_then o (nat_cmp q one.1)) (nat_cmp s.0 one.2)) (tied hash) ∙ ap (λ o. ordering_then o (nat_cmp s.0 one.2)) (less_than q one.1 lt) in
      let clash : true ≡ false = sym (k.left q s.0 (alive_passes from q s.0 g ge at parts.0 s.1)) ∙ none_before (hash, q, s.0) one rest r.sorted less in
      cc))

  pub live_next_none : (hash from : ℕ) → Seeks (live_from objects from value kind) hash [] → next_live_named value kind from objects ≡ None
  live_next_none hash from k = no_place (has_name_alive value kind) objects from (λ q g ge at. false_from_ne_true (has_name_alive value kind g) (λ found.
      let parts = and_parts (live g.card) (has_name value kind g) found in
      let s = bears_somewhere objects q g value kind at parts.1 in
      let clash : false ≡ true = k.left q s.0 (alive_passes from q s.0 g ge at parts.0 s.1) in
      cc))

  pub live_next_past : (from : ℕ) → length objects < from → next_live_named value kind from objects ≡ None
  live_next_past from past = no_place (has_name_alive value kind) objects from (λ q g ge at. let below = get_below objects q g at in absurd (omega (arith, below, past, ge)))

  pub live_next_within : (p s : ℕ) → bears_live objects p s value kind ≡ true → p < length objects
  live_next_within p s is = let h = bears_live_at objects p s value kind is in get_below objects p h.0 h.1

  -- one that fails is not the one looked for
  pub live_fails_from : (from p s : ℕ) → bears_live objects p s value kind ≡ false → live_from objects from value kind p s ≡ false
  live_fails_from from p s is = false_from_ne_true (live_from objects from value kind p s) (λ e.
      let parts = and_parts (nat_le from p) (bears_live objects p s value kind) e in
      let clash : true ≡ false = sym parts.1 ∙ is in
      cc)

-- WHAT IS KNOWN OF LIVE OBJECTS

pub none_is : {X : Type 0} (o : Option X) (b : Bool) → is_some o ≡ not b → b ≡ is_none o
none_is None true e = refl
none_is None false e = cc
none_is (Some x) true e = cc
none_is (Some x) false e = refl

-- an object that wasn't listed is listed where it is live
followed : (alive : Bool) (mid new : LiveNames) (place : ℕ) (ns : List NameOf) → FollowsBy false alive mid place ns new → new.is_whole ≡ true
    → (mid.is_whole ≡ true) × Keeps mid.names new.names × (alive ≡ true → AreListed new.names place ns)
followed true mid new place ns f whole = let n = f whole in (n.0, n.1, λ e. n.2)
followed false mid new place ns f whole =
    (ap (λ (x : LiveNames). x.is_whole) (sym f) ∙ whole, subst (λ (x : LiveNames). Keeps mid.names x.names) (sym f) (λ hash p s h. h), λ e. let clash : false ≡ true = e in cc)

-- one object more, which was to be listed where it is live
pub knows_pushed : (old new : LiveNames) (hs ys : List Held) (h g : Held) (place : ℕ) → KnowsLive old hs → ys ≡ hs ++ h ∷ [] → place ≡ length hs → slice_get ys place ≡ Some g
    → Follows old false place g new → KnowsLive new ys
knows_pushed old new hs ys h g place knows e is there follows = λ whole.
    let n = followed (live g.card) old new place g.card.given.names follows whole in
    let c = knows n.0 in
    record {
      all = λ p x at alive s m of. elim (get-append_cases hs h p x (ap (λ (zs : List Held). slice_get zs p) (sym e) ∙ at)) [
        | inl b ↦ n.1 (name_hash m.value m.kind) p s (c.all p x b alive s m of)
        | inr b ↦
            let here : p ≡ place = b.0 ∙ sym is in
            let both : Some g ≡ Some x = sym there ∙ ap (slice_get ys) (sym here) ∙ at in
            let same : g ≡ x = cc in
            let Q : Held → Type 0 = λ z. live z.card ≡ true → AreListed new.names p z.card.given.names in
            let R : ℕ → Type 0 = λ k. live g.card ≡ true → AreListed new.names k g.card.given.names in
            subst Q same (subst R (sym here) n.2) alive s m of
      ];
    }

-- the last object is taken away, and its names are listed no longer
pub knows_popped : (old new : LiveNames) (hs ys : List Held) (last : ℕ) → KnowsLive old hs → last ≡ length hs - 1 → ForgetsLive old last new → ys ≡ take (length hs - 1) hs → KnowsLive new ys
knows_popped old new hs ys last knows is forgets e = λ whole.
    let c = knows (sym forgets.0 ∙ whole) in
    subst (λ (x : List Held). CoversLive new.names x) (sym e)
    (record {
      all = λ p g at alive s m of.
          let below = taken_below hs (length hs - 1) p g at in
          let other : p ≢ last = λ same. absurd (omega (arith, below, same, is)) in
          forgets.1 (name_hash m.value m.kind) p s other (c.all p g (taken_from hs (length hs - 1) p g at) alive s m of);
    })

-- an object leads another life
module _ (old new : LiveNames) (hs gs : List Held) (place : ℕ) (b h : Held) (life : Life) (knows : KnowsLive old hs) (was : slice_get hs place ≡ Some b)
    (led : gs ≡ relived hs place life) (now : slice_get gs place ≡ Some h) where
  -- it is the object at its place
  is_led : (p : ℕ) (g : Held) → slice_get gs p ≡ Some g → p ≡ place → g ≡ h
  is_led p g at same =
      let e : Some g ≡ Some h = sym at ∙ ap (slice_get gs) same ∙ now in
      cc

  stays : live b.card ≡ true → new ≡ old → KnowsLive new gs
  stays alive same = λ whole.
      let o : old.is_whole ≡ true = ap (λ (x : LiveNames). x.is_whole) (sym same) ∙ whole in
      let c = knows o in
      let P : LiveNames → Type 0 = λ x. CoversLive x.names gs in
      subst P (sym same)
      (record {
        all = λ p g at lives.
            let r = relived_from hs place p life g (ap (λ (x : List Held). slice_get x p) (sym led) ∙ at) in
            let N : List NameOf → Type 0 = λ x. AreListed old.names p x in
            elim r.2 [
              | inl a ↦ subst N (ap (λ (x : Held). x.card.given.names) (sym a)) (c.all p r.0 r.1 (ap (λ (x : Held). live x.card) (sym a) ∙ lives))
              | inr d ↦
                  let there : Some r.0 ≡ Some b = sym r.1 ∙ ap (slice_get hs) d.0 ∙ was in
                  let is : r.0 ≡ b = cc in
                  subst N (ap (λ (x : Held). x.card.given.names) (sym d.1)) (c.all p r.0 r.1 (ap (λ (x : Held). live x.card) is ∙ alive))
            ];
      })

  -- where the object isn't live now, a live one stands elsewhere
  elsewhere : live h.card ≡ false → (p : ℕ) (g : Held) → slice_get gs p ≡ Some g → live g.card ≡ true → p ≢ place
  elsewhere gone p g at lives = λ same.
      let e : g ≡ h = is_led p g at same in
      let clash : true ≡ false = sym lives ∙ ap (λ (x : Held). live x.card) e ∙ gone in
      cc

  -- and was there so
  was_elsewhere : (p : ℕ) (g : Held) → slice_get gs p ≡ Some g → p ≢ place → slice_get hs p ≡ Some g
  was_elsewhere p g at other =
      let r = relived_from hs place p life g (ap (λ (x : List Held). slice_get x p) (sym led) ∙ at) in
      elim r.2 [ inl a ↦ r.1 ∙ ap Some (sym a) | inr d ↦ absurd (other d.0) ]

  leaves : live h.card ≡ false → ForgetsLive old place new → KnowsLive new gs
  leaves gone f = λ whole.
      let c = knows (sym f.0 ∙ whole) in
      record {
        all = λ p g at lives s m of.
            let other = elsewhere gone p g at lives in
            f.1 (name_hash m.value m.kind) p s other (c.all p g (was_elsewhere p g at other) lives s m of);
      }

  stays_gone : live h.card ≡ false → new ≡ old → KnowsLive new gs
  stays_gone gone same = λ whole.
      let o : old.is_whole ≡ true = ap (λ (x : LiveNames). x.is_whole) (sym same) ∙ whole in
      let c = knows o in
      let P : LiveNames → Type 0 = λ x. CoversLive x.names gs in
      subst P (sym same) (record { all = λ p g at lives. c.all p g (was_elsewhere p g at (elsewhere gone p g at lives)) lives })

  comes : NotesLive old place h.card.given.names new → KnowsLive new gs
  comes notes = λ whole.
      let n = notes whole in
      let c = knows n.0 in
      record {
        all = λ p g at lives.
            let r = relived_from hs place p life g (ap (λ (x : List Held). slice_get x p) (sym led) ∙ at) in
            elim r.2 [
              | inl a ↦ (λ s m of. n.1 (name_hash m.value m.kind) p s (c.all p g (r.1 ∙ ap Some (sym a)) lives s m of))
              | inr d ↦
                  let e : g ≡ h = is_led p g at d.0 in
                  let Q : Held → Type 0 = λ x. AreListed new.names p x.card.given.names in
                  let R : ℕ → Type 0 = λ k. AreListed new.names k h.card.given.names in
                  subst Q (sym e) (subst R (sym d.0) n.2)
            ];
      }

  knows_by : (w l : Bool) → w ≡ live b.card → l ≡ live h.card → FollowsBy w l old place h.card.given.names new → KnowsLive new gs
  knows_by true true v e f = stays (sym v) f
  knows_by true false v e f = leaves (sym e) f
  knows_by false true v e f = comes f
  knows_by false false v e f = stays_gone (sym e) f

  pub knows_led : (was_live : Bool) → was_live ≡ live b.card → Follows old was_live place h new → KnowsLive new gs
  knows_led was_live v f = knows_by was_live (live h.card) v refl f

-- another object at a place
pub knows_exchanged : (old mid new : LiveNames) (hs ys : List Held) (place : ℕ) (h g : Held) → KnowsLive old hs → ys ≡ exchanged hs place h → slice_get ys place ≡ Some g
    → ForgetsLive old place mid → Follows mid false place g new → KnowsLive new ys
knows_exchanged old mid new hs ys place h g knows e there forgets follows = λ whole.
    let n = followed (live g.card) mid new place g.card.given.names follows whole in
    let c = knows (sym forgets.0 ∙ n.0) in
    record {
      all = λ p x at alive s m of. elim (updated_cases hs place p (λ z. become z h) x (ap (λ (zs : List Held). slice_get zs p) (sym e) ∙ at)) [
        | inl b ↦ n.1 (name_hash m.value m.kind) p s (forgets.1 (name_hash m.value m.kind) p s b.0 (c.all p x b.1 alive s m of))
        | inr b ↦
            let both : Some g ≡ Some x = sym there ∙ ap (slice_get ys) (sym b) ∙ at in
            let same : g ≡ x = cc in
            let Q : Held → Type 0 = λ z. live z.card ≡ true → AreListed new.names p z.card.given.names in
            let R : ℕ → Type 0 = λ k. live g.card ≡ true → AreListed new.names k g.card.given.names in
            subst Q same (subst R (sym b) n.2) alive s m of
      ];
    }
