use Rattle.std.proofs.Common.{ℕ, List, ◌≡◌, ◌∙◌, ◌++◌, ◌∷◌, [], length, ap, sym, subst}
use Rattle.kmipa_object.specs.declared.object.Object.{Object}
use Rattle.kmipa_object.proofs.ListLemmas.{map-push}
use Rattle.kmipa_store.specs.Ledger.{Held, held}
use Rattle.kmipa_store.specs.Objects.{objects_of}
use Rattle.kmipa_store.specs.Slots.{AreNoted, KeepsBefore}
use Rattle.kmipa_store.proofs.NameLemmas.{length-map}
use Rattle.kmipa_store.proofs.SlotLemmas.{noted_popped, noted_still}
use Rattle.kmipa_store.proofs.objects.Objects.pop.Goals as goal

pub invariant_of-self-2 : goal.invariant_of-self-2
invariant_of-self-2 c =
    let i = c.self.inside in
    let new = c.pop.new.self in
    let hs = objects_of new.items in
    let h = held c.in-Some.last in
    let all : objects_of i.in_order.items ≡ hs ++ h ∷ [] = ap (λ (x : List Object). objects_of x) c.in-Some.ensures.items ∙ map-push held new.items c.in-Some.last in
    let place : c.len.result ≡ length hs = c.len.ensures ∙ new.ok.0 ∙ sym (length-map held new.items) in
    noted_still i.slots c.forget.new.self hs (subst (λ (n : ℕ). KeepsBefore i.slots n c.forget.new.self) place c.forget.ensures)
    (noted_popped i.slots hs h (subst (λ (x : List Held). AreNoted i.slots x) all c.self.invariant))
