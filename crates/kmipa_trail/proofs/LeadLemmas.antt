-- Steps that lead from world to world, one more; and what is known behind it.
use Rattle.std.proofs.Common.{◌≡◌, ◌<◌, inl, inr, ℕ, List, [], ◌∷◌, ◌++◌, map, refl, sym, subst, arith}
use Rattle.std.proofs.lemmas.List.Elements.{Contains-append_left, Contains-append_right}
use Rattle.kmipa_object.proofs.ListLemmas.{map-push}
use Rattle.kmipa_store.specs.Ledger.{Meaning}
use Rattle.kmipa_record.specs.Declarations.{DeclarationOf}
use Rattle.kmipa_msgs.specs.Messages.{RulesOf}
use Rattle.kmipa_passed.specs.Leaving.{HeldOf, empty}
use Rattle.kmipa_aside.specs.Explains.{Explains, world}
use Rattle.kmipa_aside.specs.Worlds.{WorldOf}
use Rattle.kmipa_bundle.specs.Composing.{DeedOf, DoesDeed, TellsDeed}
use Rattle.kmipa_bundle.specs.Counts.{CountsOf}
use Rattle.kmipa_bundle.specs.Deeds.{ChainOf}
use Rattle.kmipa_bundle.proofs.ChainLemmas.{chain_join, chain_split}
use Rattle.kmipa_check.specs.Runs.{rules_declared}
use Rattle.kmipa_turns.specs.Steps.{StepOf, TakenOf, leaves, takes}
use Rattle.kmipa_trail.specs.Leading.{Leads, WereReported, by_declaration, by_step, AreKnown, deed_in, deed_of}
use Rattle.kmipa_trail.specs.Tallies.{TallyOf, Tallies, CountsTaken, tally_plus}

-- the ID Placeholder is as it was behind each step
deed_holds : (rules : RulesOf) (taken : TakenOf) (w : WorldOf) (before : HeldOf) (w' : WorldOf) (after : HeldOf) → DoesDeed rules (deed_in taken) w before w' after → after ≡ before
deed_holds rules (leaves left counts) w before w' after d = d.placeholder
deed_holds rules (takes c places) w before w' after d = d.placeholder

lead_holds : (rules : RulesOf) (steps : List StepOf) (w : WorldOf) (before : HeldOf) (w' : WorldOf) (after : HeldOf) → ChainOf (DoesDeed rules) (map deed_of steps) w before w' after → after ≡ before
lead_holds rules [] w before w' after c = c.1
lead_holds rules (s ∷ steps) w before w' after c =
    let P : HeldOf → Type 0 = λ h. after ≡ h in
    subst P (deed_holds rules s.taken w before c.0 c.1 c.2) (lead_holds rules steps c.0 c.1 w' after c.3)

-- one step more
pub lead_more : (rules : RulesOf) (w : WorldOf) (steps : List StepOf) (s : StepOf) (v u : WorldOf) → Leads rules w steps v → DoesDeed rules (deed_of s) v empty u empty → Leads rules w (steps ++ s ∷ []) u
lead_more rules w steps s v u l d =
    let P : List DeedOf → Type 0 = λ ds. ChainOf (DoesDeed rules) ds w empty u empty in
    subst P (sym (map-push deed_of steps s)) (chain_join (DoesDeed rules) w empty (map deed_of steps) (deed_of s ∷ []) v empty u empty l (u, empty, d, (refl, refl)))

pub lead_less : (rules : RulesOf) (w : WorldOf) (steps : List StepOf) (s : StepOf) (u : WorldOf) → Leads rules w (steps ++ s ∷ []) u
    → (v : WorldOf) × Leads rules w steps v × DoesDeed rules (deed_of s) v empty u empty
lead_less rules w steps s u l =
    let P : List DeedOf → Type 0 = λ ds. ChainOf (DoesDeed rules) ds w empty u empty in
    let c = chain_split (DoesDeed rules) w empty (map deed_of steps) (deed_of s ∷ []) u empty (subst P (map-push deed_of steps s) l) in
    let held : c.1 ≡ empty = lead_holds rules steps w empty c.0 c.1 c.2 in
    let W : WorldOf → Type 0 = λ x. DoesDeed rules (deed_of s) c.0 c.1 x c.3.1 in
    let A : HeldOf → Type 0 = λ h. DoesDeed rules (deed_of s) c.0 c.1 u h in
    let B : HeldOf → Type 0 = λ h. DoesDeed rules (deed_of s) c.0 h u empty in
    let C : HeldOf → Type 0 = λ h. ChainOf (DoesDeed rules) (map deed_of steps) w empty c.0 h in
    (c.0, subst C held c.2, subst B held (subst A (sym c.3.3.1) (subst W (sym c.3.3.0) c.3.2)))

-- the first of them lead to some world
pub lead_front : (rules : RulesOf) (w : WorldOf) (xs ys : List StepOf) (u : WorldOf) → Leads rules w (xs ++ ys) u → (v : WorldOf) × Leads rules w xs v
lead_front rules w [] ys u l = (w, (refl, refl))
lead_front rules w (x ∷ xs) ys u l =
    let P : HeldOf → Type 0 = λ h. ChainOf (DoesDeed rules) (map deed_of (xs ++ ys)) l.0 h u empty in
    let held = deed_holds rules x.taken w empty l.0 l.1 l.2 in
    let Q : HeldOf → Type 0 = λ h. DoesDeed rules (deed_of x) w empty l.0 h in
    let f = lead_front rules l.0 xs ys u (subst P held l.3) in
    (f.0, (l.0, empty, subst Q held l.2, f.1))

-- ---- how items count

tally_join : (rules : RulesOf) (w : WorldOf) (k : TallyOf) (xs ys : List StepOf) (v : WorldOf) (l : TallyOf) (u : WorldOf) (n : TallyOf) → Tallies rules w k xs v l → Tallies rules v l ys u n
    → Tallies rules w k (xs ++ ys) u n
tally_join rules w k [] ys v l u n t r =
    let P : WorldOf → Type 0 = λ x. Tallies rules x l ys u n in
    let Q : TallyOf → Type 0 = λ x. Tallies rules w x ys u n in
    subst Q t.1 (subst P t.0 r)
tally_join rules w k (x ∷ xs) ys v l u n t r =
    (t.0, t.1, t.2, t.3, tally_join rules t.0 (tally_plus k t.1 x.excepted) xs ys v l u n t.4 r)

pub tally_more : (rules : RulesOf) (w : WorldOf) (k : TallyOf) (steps : List StepOf) (s : StepOf) (v u : WorldOf) (l : TallyOf) (counts : CountsOf) → Tallies rules w k steps v l
    → DoesDeed rules (deed_of s) v empty u empty → CountsTaken rules v s.taken counts → Tallies rules w k (steps ++ s ∷ []) u (tally_plus l counts s.excepted)
tally_more rules w k steps s v u l counts t d c = tally_join rules w k steps (s ∷ []) v l u (tally_plus l counts s.excepted) t (u, counts, d, c, (refl, refl))

-- what is counted along them is done
pub tallies_lead : (rules : RulesOf) (w : WorldOf) (k : TallyOf) (steps : List StepOf) (u : WorldOf) (l : TallyOf) → Tallies rules w k steps u l → Leads rules w steps u
tallies_lead rules w k [] u l t = (t.0, refl)
tallies_lead rules w k (s ∷ steps) u l t = (t.0, empty, t.2, tallies_lead rules t.0 (tally_plus k t.1 s.excepted) steps u l t.4)

-- ---- what is known

pub known_more : (declared : DeclarationOf) (steps : List StepOf) (s : StepOf) (m n : Meaning) → AreKnown declared steps m
    → Explains (DoesDeed (rules_declared declared) (deed_of s)) (TellsDeed (deed_of s)) m empty n empty → AreKnown declared (steps ++ s ∷ []) n
known_more declared steps s m n k e = record {
  sound = λ c h.
      let f = e.sound c h in
      let g = k.sound c f.0 in
      (g.0, g.1, lead_more (rules_declared declared) g.0 steps s (world c m) (world c n) g.2 f.1);
  complete = λ start w d l.
      let p = lead_less (rules_declared declared) start steps s w l in
      let q = k.complete start p.0 d p.1 in
      let P : WorldOf → Type 0 = λ v. DoesDeed (rules_declared declared) (deed_of s) v empty w empty in
      let f = e.complete q.0 q.1 w empty (subst P q.2 p.2) in
      (f.0, f.1, f.3);
  reported = λ number bytes known. elim (e.learns number bytes known) [
    | inl h ↦ kept bytes (k.reported number bytes h)
    | inr t ↦ by_step s (Contains-append_right steps (s ∷ []) s (0, first, refl)) t
  ];
  apart = e.apart k.apart;
}
  where
    first : 0 < 1
    first = omega arith

    kept : (bytes : List ℕ) → WereReported declared steps bytes → WereReported declared (steps ++ s ∷ []) bytes
    kept bytes (by_declaration entry has is) = by_declaration entry has is
    kept bytes (by_step x has t) = by_step x (Contains-append_left steps (s ∷ []) x has) t
