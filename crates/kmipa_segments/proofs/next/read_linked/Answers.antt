use Rattle.std.proofs.Common.{List, ℕ, subst}
use Rattle.kmipa_ttlv.specs.Input.{came_of, is_ended, is_failed}
use Rattle.kmipa_ttlv.proofs.ReadLemmas.{itself, whole_file}
use Rattle.kmipa_links.specs.Linking.{HasGap, IsUnlinked}
use Rattle.kmipa_links.specs.declared.gap.Unlinked.{Unlinked}
use Rattle.kmipa_segments.proofs.next.read_linked.Goals as goal

pub returns-in-Ok-clause-reads : goal.returns-in-Ok-clause-reads
returns-in-Ok-clause-reads g c = (record { transcript = c.in-Ok.ensures.found.0; links_on = c.in-Ok.ensures.links }, c.in-Ok.ensures.found.1)

pub returns-in-Err-Fault-clause-unread : goal.returns-in-Err-Fault-clause-unread
returns-in-Err-Fault-clause-unread g c = λ t is.
    let input = c.read_segment.new.transcript in
    let U : Unlinked → Type 0 = λ u. IsUnlinked c.args.links.now c.args.name.now (came_of input) (is_ended input) (is_failed input) t u in
    subst U c.in-Err-Fault.field-0-is (c.in-Err-Fault.ensures.unlinked t is)

pub returns-in-Err-Gap-clause-unread : goal.returns-in-Err-Gap-clause-unread
returns-in-Err-Gap-clause-unread g c = λ t is.
    let input = c.read_segment.new.transcript in
    let U : Unlinked → Type 0 = λ u. IsUnlinked c.args.links.now c.args.name.now (came_of input) (is_ended input) (is_failed input) (came_of input) u in
    let H : List ℕ → Type 0 = λ b. HasGap c.args.links.now c.args.name.now b c.in-Err-Gap.gap in
    let told = subst U c.in-Err-Gap.field-0-is (c.in-Err-Gap.ensures.unlinked (came_of input) (itself input)) in
    whole_file t input H told.1 is told.0
