-- Parts of messages are read, or are not.
use Rattle.std.proofs.Common.{◌≡◌, ℕ, Option, Some, None, Result, Ok, Err, refl, sym, subst}
use Rattle.std.specs.Option.{ok_or}
use Rattle.kmipa_attrs.specs.Readings.{Reads, both, map_ok}
use Rattle.kmipa_msgs.specs.declared.kind.OutsideKind.{OutsideKind}
use Rattle.kmipa_msgs.specs.declared.reading.unread.Unread.{Unread}
use Rattle.kmipa_msgs.specs.declared.reading.unread.Unread.TheVariants.{Outside, Memory}
use Rattle.kmipa_msgs.specs.Kinds.{kind_number}
use Rattle.kmipa_msgs.specs.Outside.{Gives, TellsSaid, ByItem}
use Rattle.kmipa_msgs.specs.Yields.{Yields, fault_at, carried, both_read}
use Rattle.kmipa_msgs.proofs.OutsideLemmas.{outside_alone}

-- a reading that wants no memory, as its meaning
pub yields_carried : {X M : Type 0} (meaning : X → M) (r : Result X OutsideKind) (whole : Result M OutsideKind) → map_ok meaning r ≡ whole → Yields meaning (carried r) whole
yields_carried meaning (Ok x) whole e = e
yields_carried meaning (Err k) whole e = e

-- a plain part and one that may want memory: what holds of them as they are read holds of them here
pub yields_both : {A B M N : Type 0} (meaning : B → M) (view : A × B → N) (plain : Result A OutsideKind) (read : Result B Unread) (rows : Result (A × B) Unread) (reading : Result M OutsideKind) (whole : Result N OutsideKind)
    → rows ≡ both_read plain read → Yields meaning read reading
    → ((part : Result B OutsideKind) → map_ok meaning part ≡ reading → (both_parts : Result (A × B) OutsideKind) → both_parts ≡ both kind_number plain part → map_ok view both_parts ≡ whole)
    → Yields view rows whole
yields_both {A} {B} {M} {N} meaning view plain (Ok y) rows reading whole e h seen =
    let P : Result (A × B) Unread → Type 0 = λ q. Yields view q whole in subst P (sym e) (yields_carried view (both kind_number plain (Ok y)) whole (seen (Ok y) h _ refl))
yields_both {A} {B} {M} {N} meaning view plain (Err (Outside k)) rows reading whole e h seen =
    let P : Result (A × B) Unread → Type 0 = λ q. Yields view q whole in subst P (sym e) (yields_carried view (both kind_number plain (Err k)) whole (seen (Err k) h _ refl))
yields_both {A} {B} {M} {N} meaning view plain (Err Memory) rows reading whole e h seen = let P : Result (A × B) Unread → Type 0 = λ q. Yields view q whole in subst P (sym e) tt

-- at a `?`: what is left unread is so under any meaning, and what is read has its own
pub yields_err : {X Y M : Type 0} (view : X → M) (meaning : Y → M) (rows : Result X Unread) (unread : Unread) (result : Result Y Unread) (whole : Result M OutsideKind)
    → Yields view rows whole → rows ≡ Err unread → result ≡ Err unread → Yields meaning result whole
yields_err {X} {Y} {M} view meaning rows unread result whole h e f =
    let P : Result X Unread → Type 0 = λ q. Yields view q whole in
    let Q : Result Y Unread → Type 0 = λ q. Yields meaning q whole in
    subst Q (sym f) (by unread (subst P e h))
  where
    by : (u : Unread) → Yields view (Err u) whole → Yields meaning (Err u) whole
    by (Outside k) g = g
    by Memory g = g

pub yields_ok : {X M : Type 0} (view : X → M) (rows : Result X Unread) (x : X) (whole : Result M OutsideKind) → Yields view rows whole → rows ≡ Ok x → Ok (view x) ≡ whole
yields_ok {X} {M} view rows x whole h e = let P : Result X Unread → Type 0 = λ q. Yields view q whole in subst P e h

-- the fault of an item, and of a part that stands alone
pub gives_unread : {X Y M N : Type 0} (meaning : X → M) (part : Y → N) (n : ℕ) (unread : Unread) (reading : Result N OutsideKind) (whole : Result M (ℕ × OutsideKind))
    → Yields part (Err unread) reading → ((k : OutsideKind) → Err k ≡ reading → whole ≡ Err (n, k)) → Gives meaning (Err (fault_at n unread)) whole
gives_unread meaning part n (Outside k) reading whole y h = h k y
gives_unread meaning part n Memory reading whole y h = tt

pub tells_unread : {X M : Type 0} (meaning : X → M) (Said : M → Type 0) (Fault : OutsideKind → Type 0) (unread : Unread) (r : Result M OutsideKind)
    → Yields meaning (Err unread) r → Reads kind_number Said Fault r → TellsSaid meaning Said (ByItem Fault (λ i k. ⊥)) (Err (fault_at 0 unread))
tells_unread meaning Said Fault (Outside k) r y h = outside_alone Said Fault r k y h
tells_unread meaning Said Fault Memory r y h = tt

-- what `ok_or` leaves out is of the kind that it was given
pub kind_left : {A K : Type 0} (o : Option A) (k j : K) → Err j ≡ ok_or o k → j ≡ k
kind_left None k j e = cc
kind_left (Some x) k j e = cc
