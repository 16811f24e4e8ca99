-- What no client may give: the one value tells whether some child has the tag.
use Rattle.std.proofs.Common.{◌≡◌, ℕ, List, [], ◌∷◌, map, Option, Some, None, Result, Ok, Err, refl, sym, ap, ◌∙◌}
use Rattle.kmipa_ttlv.specs.Tree.{Tree, Trees}
use Rattle.kmipa_attrs.specs.Fields.{first, every}
use Rattle.kmipa_attrs.specs.Readings.{both, map_ok}
use Rattle.kmipa_attrs.specs.Attributes.{attr_number, each, folded, single, single_step, server_only, server_single}
use Rattle.kmipa_attrs.specs.declared.fault.AttrFault.{AttrFault}
use Rattle.kmipa_attrs.specs.declared.fault.AttrFault.TheVariants.{WrongType, Repeated, NotForClients, Memory}
use Rattle.kmipa_attrs.specs.declared.side.Side.{Side}
use Rattle.kmipa_attrs.specs.declared.side.Side.TheVariants.{Client, Server}
use Rattle.kmipa_attrs.proofs.FieldLemmas.{first_in, first_every}

-- a child was met: a value is held, or one of the two faults of single values
abbrev IsMet : {A : Type 0} → Result (Option A) AttrFault → Type 0
IsMet (Ok None) = ⊥
IsMet (Ok (Some x)) = Unit {0}
IsMet (Err WrongType) = Unit {0}
IsMet (Err Repeated) = Unit {0}
IsMet (Err NotForClients) = ⊥
IsMet (Err Memory) = ⊥

first_met : {A : Type 0} (x : Option A) → IsMet (single_step (Ok None) x)
first_met None = tt
first_met (Some x) = tt

next_met : {A : Type 0} (found : Result (Option A) AttrFault) (x : Option A) → IsMet found → IsMet (single_step found x)
next_met (Ok None) x h = absurd h
next_met (Ok (Some y)) None h = tt
next_met (Ok (Some y)) (Some x) h = tt
next_met (Err k) None h = tt
next_met (Err k) (Some x) h = h

folded_met : {A : Type 0} (found : Result (Option A) AttrFault) (held : List (Option A)) → IsMet found → IsMet (folded found held)
folded_met found [] h = h
folded_met found (x ∷ held) h = folded_met (single_step found x) held (next_met found x h)

-- what is left of the one value, by the side that gives it
abbrev pub by_side : {A : Type 0} → Side → Result (Option A) AttrFault → Result (Option A) AttrFault
by_side Server r = r
by_side Client (Ok None) = Ok None
by_side Client (Ok (Some x)) = Err NotForClients
by_side Client (Err k) = Err k

abbrev asked : {A : Type 0} → Side → Result (Option A) AttrFault → Option Tree → Result (Option A) AttrFault
asked side r there = map_ok (λ p. p.0) (both attr_number r (server_only side there))

by_server : {A : Type 0} (r : Result (Option A) AttrFault) (there : Option Tree) → r ≡ asked Server r there
by_server (Ok v) there = refl
by_server (Err k) there = refl

met_client : {A : Type 0} (r : Result (Option A) AttrFault) (t : Tree) → IsMet r → by_side Client r ≡ asked Client r (Some t)
met_client (Ok None) t h = absurd h
met_client (Ok (Some x)) t h = refl
met_client (Err WrongType) t h = refl
met_client (Err Repeated) t h = refl
met_client (Err NotForClients) t h = absurd h
met_client (Err Memory) t h = absurd h

held_client : {A : Type 0} (how : Tree → Option A) (ts : List Tree) → by_side Client (folded (Ok None) (map how ts)) ≡ asked Client (folded (Ok None) (map how ts)) (first_in ts)
held_client how [] = refl
held_client how (t ∷ ts) = met_client (folded (single_step (Ok None) (how t)) (map how ts)) t (folded_met (single_step (Ok None) (how t)) (map how ts) (first_met (how t)))

given_by : {A : Type 0} (how : Tree → Option A) (n : ℕ) (side : Side) (ts : Trees) → by_side side (single how n ts) ≡ server_single how n side ts
unfolding each
given_by how n Server ts = by_server (single how n ts) (first n ts)
given_by how n Client ts = held_client how (every n ts) ∙ ap (asked Client (single how n ts)) (sym (first_every n ts))

pub given_as : {A : Type 0} (how : Tree → Option A) (n : ℕ) (side s : Side) (ts : Trees) (r : Result (Option A) AttrFault) → side ≡ s → r ≡ single how n ts → by_side s r ≡ server_single how n side ts
given_as how n side s ts r e is = ap (by_side s) is ∙ ap (λ (o : Side). by_side o (single how n ts)) (sym e) ∙ given_by how n side ts

fault_stays : {A : Type 0} (side : Side) (k : AttrFault) → ◌≡◌ {A = Result (Option A) AttrFault} (Err k) (by_side side (Err k))
fault_stays Server k = refl
fault_stays Client k = refl

pub given_fault : {A : Type 0} (how : Tree → Option A) (n : ℕ) (side : Side) (ts : Trees) (k : AttrFault) → Err k ≡ single how n ts → Err k ≡ server_single how n side ts
given_fault how n side ts k is = fault_stays side k ∙ ap (by_side side) is ∙ given_by how n side ts
