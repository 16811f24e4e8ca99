use Rattle.std.proofs.Common.{◌≡◌, [], List, ℕ, refl, subst, arith}
use Rattle.std.proofs.Math.ListN.{drop_of_length-le}
use Rattle.std.specs.Io.{appended_bytes}
use Rattle.kmipa_ttlv.specs.Input.{came_of, is_ended, is_failed}
use Rattle.kmipa_ttlv.proofs.ReadLemmas.{itself}
use Rattle.kmipa_links.specs.Linking.{IsUnlinked}
use Rattle.kmipa_links.specs.declared.gap.Unlinked.{Unlinked}
use Rattle.kmipa_segments.specs.Linking.{linked, unlinked, unread}
use Rattle.kmipa_segments.proofs.GapLemmas.{gap_printed}
use Rattle.kmipa_segments.proofs.linking.chain_link.Goals as goal

pub returns-in-Ok-clause-links : goal.returns-in-Ok-clause-links
returns-in-Ok-clause-links g c =
    let is = c.in-Ok.ensures.links in
    linked is.0 is.1 is.2 refl (drop_of_length-le c.args.out.now.items (omega arith))

pub returns-in-Err-Gap-clause-links : goal.returns-in-Err-Gap-clause-links
returns-in-Err-Gap-clause-links g c =
    let t = c.link_segment.new.transcript in
    let lines = appended_bytes c.args.out.now.items c.append.new.out.items in
    let U : Unlinked → Type 0 = λ u. IsUnlinked c.args.links.now c.args.name.now (came_of t) (is_ended t) (is_failed t) (came_of t) u in
    let is = subst U c.in-Err-Gap.field-0-is (c.in-Err-Gap.ensures.unlinked (came_of t) (itself t)) in
    unlinked c.in-Err-Gap.gap c.append.result is.0 refl
    (gap_printed c.gap_lines.result c.args.name.now c.in-Err-Gap.gap c.append.result lines c.gap_lines.ensures c.append.ensures.prints)

pub returns-in-Err-Fault-clause-links : goal.returns-in-Err-Fault-clause-links
returns-in-Err-Fault-clause-links g c =
    let t = c.link_segment.new.transcript in
    let U : List ℕ → Unlinked → Type 0 = λ file u. IsUnlinked c.args.links.now c.args.name.now (came_of t) (is_ended t) (is_failed t) file u in
    unread c.in-Err-Fault.fault (λ file tf. subst (U file) c.in-Err-Fault.field-0-is (c.in-Err-Fault.ensures.unlinked file tf)) c.tell_unread.ensures.tells
