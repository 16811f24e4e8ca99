use Rattle.std.proofs.Common.{refl}
use Rattle.kmipa_record.proofs.NumberMapLemmas.{none_in}
use Rattle.kmipa_record.proofs.number_map.NumberMap.new.Goals as goal

pub returns : goal.returns
returns g c = none_in (record { slots = c.new.result; others = c.new-2.result; count = 0 }) c.new.ensures.items c.new-2.ensures.empty refl
