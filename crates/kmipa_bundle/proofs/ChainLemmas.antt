-- Deeds one after the other, over any ledger.
use Rattle.std.proofs.Common.{◌≤◌, inl, inr, ℕ, List, [], ◌∷◌, ◌++◌, length, refl, ◌∙◌, subst, arith}
use Rattle.kmipa_store.specs.Ledger.{Meaning}
use Rattle.kmipa_store.specs.Choices.{IsSound}
use Rattle.kmipa_store.proofs.ChoiceLemmas.{agrees_same, agrees_more, extends_same, extends_more}
use Rattle.kmipa_passed.specs.Leaving.{HeldOf}
use Rattle.kmipa_aside.specs.Explains.{Deed, Explains, Refutes, world}
use Rattle.kmipa_aside.specs.Worlds.{WorldOf}
use Rattle.kmipa_bundle.specs.Deeds.{ChainOf, TellsSome}
use Rattle.kmipa_bundle.specs.Composing.{CanBeDone, DeedsCompose, DoesDeed, RefusalsAreExact, TellsDeed}

module _ {A : Type 0} (does : A → Deed) where
  pub chain_join : (w : WorldOf) (before : HeldOf) (xs ys : List A) (v : WorldOf) (between : HeldOf) (w' : WorldOf) (after : HeldOf)
      → ChainOf does xs w before v between → ChainOf does ys v between w' after → ChainOf does (xs ++ ys) w before w' after
  chain_join w before [] ys v between w' after c d =
      let P : WorldOf → Type 0 = λ x. ChainOf does ys x before w' after in
      let Q : HeldOf → Type 0 = λ h. ChainOf does ys v h w' after in
      subst P c.0 (subst Q c.1 d)
  chain_join w before (x ∷ xs) ys v between w' after c d = (c.0, c.1, c.2, chain_join c.0 c.1 xs ys v between w' after c.3 d)

  pub chain_split : (w : WorldOf) (before : HeldOf) (xs ys : List A) (w' : WorldOf) (after : HeldOf) → ChainOf does (xs ++ ys) w before w' after
      → (v : WorldOf) × (between : HeldOf) × ChainOf does xs w before v between × ChainOf does ys v between w' after
  chain_split w before [] ys w' after c = (w, before, (refl, refl), c)
  chain_split w before (x ∷ xs) ys w' after c =
      let s = chain_split c.0 c.1 xs ys w' after c.3 in
      (s.0, s.1, (c.0, c.1, c.2, s.2), s.3)

module _ {A : Type 0} (tells : A → List ℕ → Type 0) where
  pub tells_front : (xs ys : List A) (bytes : List ℕ) → TellsSome tells xs bytes → TellsSome tells (xs ++ ys) bytes
  tells_front [] ys bytes h = absurd h
  tells_front (x ∷ xs) ys bytes h = elim h [ inl a ↦ inl a | inr b ↦ inr (tells_front xs ys bytes b) ]

  pub tells_back : (xs ys : List A) (bytes : List ℕ) → TellsSome tells ys bytes → TellsSome tells (xs ++ ys) bytes
  tells_back [] ys bytes h = h
  tells_back (x ∷ xs) ys bytes h = inr (tells_back xs ys bytes h)

module _ {A : Type 0} (does : A → Deed) (tells : A → List ℕ → Type 0) where
  -- none
  pub explains_none : (m : Meaning) (before : HeldOf) → Explains (ChainOf does []) (TellsSome tells []) m before m before
  explains_none m before = record {
    sound = λ c h. (h, (refl, refl));
    complete = λ c h w x e. (c, h, agrees_same (length m.secrets) c, e.0, e.1);
    learns = λ number bytes e. inl e;
    grows = omega arith;
    extends = extends_same m.secrets;
    apart = λ a. a;
  }

  -- one
  pub explains_one : (x : A) (m : Meaning) (before : HeldOf) (n : Meaning) (after : HeldOf) → Explains (does x) (tells x) m before n after
      → Explains (ChainOf does (x ∷ [])) (TellsSome tells (x ∷ [])) m before n after
  explains_one x m before n after e = record {
    sound = λ c h. let r = e.sound c h in (r.0, (world c n, after, r.1, (refl, refl)));
    complete = λ c h w y chain. let r = e.complete c h chain.0 chain.1 chain.2 in (r.0, r.1, r.2, chain.3.0 ∙ r.3, chain.3.1 ∙ r.4);
    learns = λ number bytes g. elim (e.learns number bytes g) [ inl a ↦ inl a | inr b ↦ inr (inl b) ];
    grows = e.grows;
    extends = e.extends;
    apart = e.apart;
  }

  -- some, and then more
  pub explains_more : (m : Meaning) (before : HeldOf) (xs ys : List A) (k : Meaning) (between : HeldOf) (n : Meaning) (after : HeldOf)
      → Explains (ChainOf does xs) (TellsSome tells xs) m before k between → Explains (ChainOf does ys) (TellsSome tells ys) k between n after
      → Explains (ChainOf does (xs ++ ys)) (TellsSome tells (xs ++ ys)) m before n after
  explains_more m before xs ys k between n after e f = record {
    sound = λ c h.
        let g = f.sound c h in
        let b = e.sound c g.0 in
        (b.0, chain_join does (world c m) before xs ys (world c k) between (world c n) after b.1 g.1);
    complete = λ c h w y chain.
        let s = chain_split does (world c m) before xs ys w y chain in
        let b = e.complete c h s.0 s.1 s.2 in
        let P : WorldOf → Type 0 = λ v. ChainOf does ys v s.1 w y in
        let Q : HeldOf → Type 0 = λ x. ChainOf does ys (world b.0 k) x w y in
        let g = f.complete b.0 b.1 w y (subst Q b.4 (subst P b.3 s.3)) in
        (g.0, g.1, agrees_more (length m.secrets) (length k.secrets) c b.0 g.0 e.grows b.2 g.2, g.3, g.4);
    learns = λ number bytes h. elim (f.learns number bytes h) [
      | inr a ↦ inr (tells_back tells xs ys bytes a)
      | inl a ↦ (elim (e.learns number bytes a) [ inl b ↦ inl b | inr b ↦ inr (tells_front tells xs ys bytes b) ])
    ];
    grows = let a : length m.secrets ≤ length k.secrets = e.grows in let b : length k.secrets ≤ length n.secrets = f.grows in omega arith;
    extends = extends_more m.secrets k.secrets n.secrets e.extends f.extends;
    apart = λ a. f.apart (e.apart a);
  }

  module _ (m : Meaning) (before : HeldOf) (xs : List A) (n : Meaning) (after : HeldOf) (e : Explains (ChainOf does xs) (TellsSome tells xs) m before n after) where
    -- what was taken is possible
    pub taken_can : IsSound n → CanBeDone does m before xs
    taken_can sound =
        let r = e.sound sound.choice.0 sound.choice.1 in
        record { choice = sound.choice.0; chooses = r.0; left = world sound.choice.0 n; held = after; chain = r.1 }

    -- and with what is refuted after it it is not
    pub refuted_cannot : (x : A) → Refutes (does x) n after → CanBeDone does m before (xs ++ x ∷ []) → ⊥
    refuted_cannot x r p =
        let c = chain_split does (world p.choice m) before xs (x ∷ []) p.left p.held p.chain in
        let d = e.complete p.choice p.chooses c.0 c.1 c.2 in
        let Q : WorldOf → Type 0 = λ v. does x v c.1 c.3.0 c.3.1 in
        let R : HeldOf → Type 0 = λ h. does x (world d.0 n) h c.3.0 c.3.1 in
        r.never d.0 d.1 c.3.0 c.3.1 (subst R d.4 (subst Q d.3 c.3.2))

pub deeds_compose : DeedsCompose
deeds_compose rules m before xs ys k between n after e f = explains_more (DoesDeed rules) TellsDeed m before xs ys k between n after e f

pub refusals_are_exact : RefusalsAreExact
refusals_are_exact rules m before xs n after x e sound r =
    (taken_can (DoesDeed rules) TellsDeed m before xs n after e sound, refuted_cannot (DoesDeed rules) TellsDeed m before xs n after e x r)
