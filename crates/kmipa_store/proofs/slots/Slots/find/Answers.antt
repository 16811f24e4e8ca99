use Rattle.std.proofs.Common.{◌∙◌, sym}
use Rattle.kmipa_store.specs.Objects.{objects_of}
use Rattle.kmipa_store.proofs.HashLemmas.{found_here}
use Rattle.kmipa_store.proofs.SlotLemmas.{none_stands, objects_within, others_listed}
use Rattle.kmipa_store.proofs.slots.Slots.find.Goals as goal

pub returns-in_default-clause-place : goal.returns-in_default-clause-place
returns-in_default-clause-place c = sym (none_stands c.args.self.now (objects_of c.args.objects.now) c.args.id.now c.requires.noted (sym c.holder.ensures ∙ c.in_default.is))

pub returns-then-is_at-clause-place : goal.returns-then-is_at-clause-place
returns-then-is_at-clause-place c = sym (found_here c.args.self.now (objects_of c.args.objects.now) c.args.id.now c.in-Some.place c.requires (sym c.is_at.ensures ∙ c.if-is_at.true))

pub returns-then-is_at-clause-within : goal.returns-then-is_at-clause-within
returns-then-is_at-clause-within c = objects_within c.args.objects.now c.args.id.now c.in-Some.place (sym c.is_at.ensures ∙ c.if-is_at.true)

pub find_by_hash-requires-clause-listed : goal.find_by_hash-requires-clause-listed
find_by_hash-requires-clause-listed c =
    others_listed c.args.self.now (objects_of c.args.objects.now) c.args.id.now c.in-Some.place c.requires.noted (sym c.holder.ensures ∙ c.in-Some.is) (sym c.is_at.ensures ∙ c.if-is_at.false)
