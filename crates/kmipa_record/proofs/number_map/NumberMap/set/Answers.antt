use Rattle.std.proofs.Common.{◌≡◌, ◌∙◌, None, sym, ap, subst}
use Rattle.std.proofs.lemmas.Int.{to_z-of_z}
use Rattle.kmipa_record.specs.NumberMaps.{value_at, Sets}
use Rattle.kmipa_record.proofs.NumberMapLemmas.{no_value, none_of, slot_set}
use Rattle.kmipa_record.proofs.number_map.NumberMap.set.Goals as goal
use mir.Syntax.{w32}

pub returns-in-Some-clause-set : goal.returns-in-Some-clause-set
returns-in-Some-clause-set g c =
    let same = to_z-of_z w32 c.args.number c.ranges.number in
    subst (λ z. Sets c.args.self.now c.fill.new.self z c.args.value) (sym c.in-Some.ensures.has.0 ∙ same)
    (slot_set c.args.self.now c.fill.new.self c.in-Some.place c.args.value c.fill.ensures.put (ap (λ m. m.entries) c.fill.ensures.tree))

pub unreachable-requires : goal.unreachable-requires
unreachable-requires g c =
    let same = to_z-of_z w32 c.args.number c.ranges.number in
    let none = none_of c.args.self.now _ c.in_default.ensures.none c.in-Err.ensures.absent in
    no_value (value_at c.args.self.now c.args.number) c.requires (subst (λ z. value_at c.args.self.now z ≡ None) same none)
