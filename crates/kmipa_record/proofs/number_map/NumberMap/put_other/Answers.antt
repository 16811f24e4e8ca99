use Rattle.std.proofs.Common.{Some, refl, subst}
use Rattle.std.specs.Ordering.{int_cmp}
use Rattle.std.specs.BTreeMap.{Updates}
use Rattle.std.proofs.lemmas.Int.{to_z-of_z}
use Rattle.kmipa_record.proofs.NumberMapLemmas.{same_in, tree_set}
use Rattle.kmipa_record.proofs.number_map.NumberMap.put_other.Goals as goal
use mir.Syntax.{w32}

pub returns-in-Ok-clause-put : goal.returns-in-Ok-clause-put
returns-in-Ok-clause-put g c =
    let map = c.args.self.now in
    let same = to_z-of_z w32 c.args.number c.ranges.number in
    tree_set map (record { slots = map.slots; others = c.insert.new.self; count = map.count }) c.args.number c.args.value c.requires refl
    (subst (λ number. Updates int_cmp map.others c.insert.new.self number (Some c.args.value)) same c.in-Ok.ensures.updates)

pub returns-in-Err-clause-same : goal.returns-in-Err-clause-same
returns-in-Err-clause-same g c =
    same_in c.args.self.now (record { slots = c.args.self.now.slots; others = c.insert.new.self; count = c.args.self.now.count }) refl c.in-Err.ensures.err refl
