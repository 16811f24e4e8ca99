use Rattle.std.proofs.Common.{◌≡◌, None, sym, ap, subst}
use Rattle.std.proofs.lemmas.Int.{to_z-of_z}
use Rattle.kmipa_record.specs.NumberMaps.{slot_at, Sets}
use Rattle.kmipa_record.specs.declared.number_map.NumberMap.{NumberMap}
use Rattle.kmipa_record.proofs.NumberMapLemmas.{counted, no_slot, on_err, same_in, slot_set}
use Rattle.kmipa_record.proofs.number_map.NumberMap.add.Goals.{in-Some-fitting+in_ok-put_slot-in-Some-fitting, in-None+in_ok-put_other-in-None}
use Rattle.kmipa_record.proofs.number_map.NumberMap.add.Goals as goal
use mir.Syntax.{w32}

pub put_other-requires : goal.put_other-requires
put_other-requires g c =
    let same = to_z-of_z w32 c.args.number c.ranges.number in
    subst (λ number. slot_at c.args.self.now.slots.items number ≡ None) (sym same) (no_slot c.args.self.now c.args.number c.requires)

pub returns-in_err-put_slot-in-Some-fitting-clause-same : goal.returns-in_err-put_slot-in-Some-fitting-clause-same
returns-in_err-put_slot-in-Some-fitting-clause-same g c =
    let reported = c.in_err-put_slot-in-Some-fitting.ensures in
    on_err c.from_residual.result _ (same_in c.args.self.now c.put_slot.new.self reported.same (ap (λ m. m.entries) reported.tree) reported.count)

pub returns-clause-added : goal.returns-clause-added
returns-clause-added g c =
    let old = c.args.self.now in
    let number = c.args.number in
    let value = c.args.value in
    let new : NumberMap g.row.V.Denot = record { slots = c.match-fitting.self.slots; others = c.match-fitting.self.others; count = c.in-Some.count } in
    let same = to_z-of_z w32 number c.ranges.number in
    let one_more = c.in-Some.ensures in
    elim c.match-fitting.branch [
      | in-Some-fitting+in_ok-put_slot-in-Some-fitting w ↦
          let reported = w.in_ok-put_slot-in-Some-fitting.ensures in
          let put = slot_set old w.put_slot.new.self w.in-Some-fitting.place value reported.put (ap (λ m. m.entries) reported.tree) in
          let put_here = subst (λ z. Sets old w.put_slot.new.self z value) (sym w.in-Some-fitting.ensures.0) put in
          counted old w.put_slot.new.self new number value (subst (λ z. Sets old w.put_slot.new.self z value) same put_here)
          (ap (λ m. m.slots.items) w.self-is) (ap (λ m. m.others.entries) w.self-is) one_more.1
      | in-None+in_ok-put_other-in-None w ↦
          let reported = w.in_ok-put_other-in-None.ensures in
          counted old w.put_other.new.self new number value (subst (λ z. Sets old w.put_other.new.self z value) same reported.put)
          (ap (λ m. m.slots.items) w.self-is) (ap (λ m. m.others.entries) w.self-is) one_more.1
    ]
