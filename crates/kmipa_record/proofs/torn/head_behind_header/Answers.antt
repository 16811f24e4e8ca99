use Rattle.std.proofs.Common.{◌++◌, List, ℕ, [], refl, ap, sym, ◌∙◌}
use Rattle.kmipa_ttlv.specs.Input.{came_of}
use Rattle.kmipa_record.proofs.NextLemmas.{none_before}
use Rattle.kmipa_record.proofs.SealedReadingLemmas.{start_given}
use Rattle.kmipa_record.proofs.TornLemmas.{given_up_to}
use Rattle.kmipa_record.proofs.torn.head_behind_header.Goals as goal

pub returns-in-Ok-clause-behind : goal.returns-in-Ok-clause-behind
returns-in-Ok-clause-behind g c =
    let old = c.args.input.now in let new = c.read_header-header.new.input in
    let told = c.in-Ok.ensures in
    given_up_to c.head_behind.result new
    (start_given old new c.in-Ok.header.label c.head_behind.result [] c.deref.result.now refl c.requires
    (told.came ∙ ap (λ (l : List ℕ). came_of old ++ l) (sym c.deref.ensures.value))
    (λ after. told.ok (came_of new ++ after) after (none_before (came_of old) (came_of new) after c.requires))
    c.head_behind.ensures)
