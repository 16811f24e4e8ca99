-- Items and messages are read.
use Rattle.std.proofs.Common.{inl, inr, ◌≡◌, ◌<◌, ℕ, zero, suc, List, [], ◌∷◌, Result, Ok, Err, refl, sym, ap, ◌∙◌, subst, arith}
use Rattle.kmipa_ttlv.specs.Tree.{Tree}
use Rattle.kmipa_attrs.specs.Readings.{Reads, map_ok}
use Rattle.kmipa_msgs.specs.declared.fault.ReadFault.{ReadFault}
use Rattle.kmipa_msgs.specs.declared.fault.ReadFault
use Rattle.kmipa_msgs.specs.declared.kind.OutsideKind.{OutsideKind}
use Rattle.kmipa_msgs.specs.Kinds.{kind_number}
use Rattle.kmipa_msgs.specs.Outside.{IsSaidOrOutside, Inside, OutsideAt, TellsSaid, SaysEach, EachFault, ByItem, ReadsAt, before, each_in, headed, alone, Gives}

-- one item before the others
reads_before : {X : Type 0} (Said : ℕ → Tree → X → Type 0) (Fault : ℕ → Tree → OutsideKind → Type 0) (t : Tree) (ts : List Tree) (r : Result X OutsideKind) (rest : Result (List X) (ℕ × OutsideKind))
    → Reads kind_number (Said 0 t) (Fault 0 t) r → ReadsAt (SaysEach (λ i. Said (suc i)) ts) (EachFault (λ i. Fault (suc i)) ts) rest
    → ReadsAt (SaysEach Said (t ∷ ts)) (EachFault Fault (t ∷ ts)) (before r rest)
reads_before Said Fault t ts (Err k) rest h g = record { here = h.here; least = h.least; first = λ i j lt w. omega arith }
reads_before {X} Said Fault t ts (Ok x) (Ok xs) h g = record { said = (h.said, g.said); only = only; right = right }
  where
    only : (y : List X) → SaysEach Said (t ∷ ts) y → y ≡ x ∷ xs
    only [] s = absurd s
    only (y ∷ ys) s = let a : y ≡ x = h.only y s.0 in let b : ys ≡ xs = g.only ys s.1 in cc

    right : (i : ℕ) (k : OutsideKind) → EachFault Fault (t ∷ ts) i k → ⊥
    right zero k w = h.right k w
    right (suc i) k w = g.right i k w
reads_before Said Fault t ts (Ok x) (Err p) h g = record { here = g.here; least = g.least; first = first }
  where
    first : (i : ℕ) (j : OutsideKind) → i < suc p.0 → EachFault Fault (t ∷ ts) i j → ⊥
    first zero j lt w = h.right j w
    first (suc i) j lt w = g.first i j (omega arith) w

-- the items: the first that is outside
pub reads_each : {X : Type 0} (Said : ℕ → Tree → X → Type 0) (Fault : ℕ → Tree → OutsideKind → Type 0) (read : ℕ → Tree → Result X OutsideKind)
    → ((i : ℕ) (t : Tree) → Reads kind_number (Said i t) (Fault i t) (read i t))
    → (ts : List Tree) → ReadsAt (SaysEach Said ts) (EachFault Fault ts) (each_in read ts)
reads_each {X} Said Fault read reads [] = record { said = tt; only = only; right = λ i k w. w }
  where
    only : (y : List X) → SaysEach Said [] y → y ≡ []
    only [] s = refl
    only (y ∷ ys) s = absurd s
reads_each Said Fault read reads (t ∷ ts) =
    reads_before Said Fault t ts (read 0 t) (each_in (λ i. read (suc i)) ts) (reads 0 t)
    (reads_each (λ i. Said (suc i)) (λ i. Fault (suc i)) (λ i. read (suc i)) (λ i u. reads (suc i) u) ts)

-- a header, and the items
pub reads_headed : {H X M : Type 0} (make : H → List X → M) (SaysH : H → Type 0) (FaultH : OutsideKind → Type 0) (SaysX : List X → Type 0) (FaultX : ℕ → OutsideKind → Type 0) (Said : M → Type 0)
    (r : Result H OutsideKind) (rest : Result (List X) (ℕ × OutsideKind))
    → ((h : H) (xs : List X) → SaysH h → SaysX xs → Said (make h xs))
    → ((m : M) → Said m → (h : H) × (xs : List X) × SaysH h × SaysX xs × (m ≡ make h xs))
    → Reads kind_number SaysH FaultH r → ReadsAt SaysX FaultX rest → ReadsAt Said (ByItem FaultH FaultX) (headed make r rest)
reads_headed make SaysH FaultH SaysX FaultX Said (Err k) rest to from h g = record { here = h.here; least = h.least; first = λ i j lt w. omega arith }
reads_headed {H} make SaysH FaultH SaysX FaultX Said (Ok x) (Ok xs) to from h g = record {
  said = to x xs h.said g.said;
  only = λ m s. let w = from m s in w.4 ∙ ap (λ (y : H). make y w.1) (h.only w.0 w.2) ∙ ap (make x) (g.only w.1 w.3);
  right = right;
}
  where
    right : (i : ℕ) (k : OutsideKind) → ByItem FaultH FaultX i k → ⊥
    right zero k w = h.right k w
    right (suc i) k w = g.right i k w
reads_headed make SaysH FaultH SaysX FaultX Said (Ok x) (Err p) to from h g = record { here = g.here; least = g.least; first = first }
  where
    first : (i : ℕ) (j : OutsideKind) → i < suc p.0 → ByItem FaultH FaultX i j → ⊥
    first zero j lt w = h.right j w
    first (suc i) j lt w = g.first i j (omega arith) w

-- a reading that stands alone is of item 0
pub reads_alone : {M : Type 0} (Said : M → Type 0) (Fault : OutsideKind → Type 0) (r : Result M OutsideKind) → Reads kind_number Said Fault r → ReadsAt Said (ByItem Fault (λ i k. ⊥)) (alone r)
reads_alone Said Fault (Err k) h = record { here = h.here; least = h.least; first = λ i j lt w. omega arith }
reads_alone Said Fault (Ok x) h = record { said = h.said; only = h.only; right = right }
  where
    right : (i : ℕ) (k : OutsideKind) → ByItem Fault (λ i k. ⊥) i k → ⊥
    right zero k w = h.right k w
    right (suc i) k w = w

-- what gives a reading tells what the reading does
pub tells : {X M : Type 0} (meaning : X → M) (Said : M → Type 0) (Fault : ℕ → OutsideKind → Type 0) (result : Result X ReadFault) (r : Result M (ℕ × OutsideKind))
    → Gives meaning result r → ReadsAt Said Fault r → TellsSaid meaning Said Fault result
tells {X} {M} meaning Said Fault (Ok x) r e h = let P : Result M (ℕ × OutsideKind) → Type 0 = ReadsAt Said Fault in subst P e h
tells {X} {M} meaning Said Fault (Err (ReadFault.TheVariants.Outside o)) r e h = let P : Result M (ℕ × OutsideKind) → Type 0 = ReadsAt Said Fault in subst P e h
tells meaning Said Fault (Err ReadFault.TheVariants.Memory) r e h = tt

-- items that are at fault, in a message whose header is not
pub gives_items : {X Y M N : Type 0} (meaning : Y → N) (read : X → M) (make : M → N) (fault : ReadFault) (rest : Result M (ℕ × OutsideKind)) (whole : Result N (ℕ × OutsideKind))
    → Gives read (Err fault) rest → whole ≡ map_ok make rest → Gives meaning (Err fault) whole
gives_items meaning read make (ReadFault.TheVariants.Outside o) rest whole e h = h ∙ ap (map_ok make) e
gives_items meaning read make ReadFault.TheVariants.Memory rest whole e h = tt

-- a part that stands alone
pub inside_alone : {M : Type 0} (Said : M → Type 0) (Fault : OutsideKind → Type 0) (r : Result M OutsideKind) (m : M) → Ok m ≡ r → Reads kind_number Said Fault r → Inside Said (ByItem Fault (λ i k. ⊥)) m
inside_alone {M} Said Fault r m e h = let P : Result M OutsideKind → Type 0 = λ q. ReadsAt Said (ByItem Fault (λ i k. ⊥)) (alone q) in subst P (sym e) (reads_alone Said Fault r h)

pub outside_alone : {M : Type 0} (Said : M → Type 0) (Fault : OutsideKind → Type 0) (r : Result M OutsideKind) (k : OutsideKind) → Err k ≡ r → Reads kind_number Said Fault r → OutsideAt (ByItem Fault (λ i k. ⊥)) 0 k
outside_alone {M} Said Fault r k e h = let P : Result M OutsideKind → Type 0 = λ q. ReadsAt Said (ByItem Fault (λ i k. ⊥)) (alone q) in subst P (sym e) (reads_alone Said Fault r h)

-- every reading decides
pub decided : {M : Type 0} (Said : M → Type 0) (Fault : ℕ → OutsideKind → Type 0) (r : Result M (ℕ × OutsideKind)) → ReadsAt Said Fault r → IsSaidOrOutside Said Fault
decided Said Fault (Ok m) h = inl (m, h)
decided Said Fault (Err p) h = inr (p.0, p.1, h)
