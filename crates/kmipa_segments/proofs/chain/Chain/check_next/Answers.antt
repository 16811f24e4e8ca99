use Rattle.std.proofs.Common.{◌⊎◌, Ok, Err, refl, sym, subst}
use Rattle.std.specs.Io.{appended_bytes}
use Rattle.kmipa_ttlv.specs.Input.{came_of, is_failed}
use Rattle.kmipa_ttlv.proofs.ReadLemmas.{itself}
use Rattle.kmipa_links.specs.declared.links.Links.{Links}
use Rattle.kmipa_check.specs.declared.segment.Left.{Left}
use Rattle.kmipa_jobs.specs.Statuses.{IsSilent}
use Rattle.kmipa_segments.specs.Chains.{ChecksNext, TellsChecked}
use Rattle.kmipa_segments.proofs.ChainLemmas.{goes_on_by, leaves_declared}
use Rattle.kmipa_segments.proofs.chain.Chain.check_next.Goals as goal

pub take_checked-requires-clause-leaves : goal.take_checked-requires-clause-leaves
take_checked-requires-clause-leaves g c =
    let t = c.check_next_inputs.new.transcript in
    let w = c.check_next_inputs.new.witness in
    leaves_declared c.args.self.now c.check_next_inputs.new.chain.links c.args.name.now c.in-Ok.segment (came_of t) (came_of w) (c.in-Ok.ensures.checks (came_of t) (came_of w) (itself t) (itself w))

pub returns-in-Ok-clause-prints : goal.returns-in-Ok-clause-prints
returns-in-Ok-clause-prints g c =
    let ft = is_failed c.check_next_inputs.new.transcript in
    let fw = is_failed c.check_next_inputs.new.witness in
    let said = c.take_checked.result in
    let lines = appended_bytes c.args.out.now.items c.take_checked.new.out.items in
    let H : Left → Type 0 = λ h. TellsChecked h c.in-Ok.segment said lines ⊎ IsSilent said lines in (
      Ok c.in-Ok.segment,
      λ t w it iw.
          let L : Links → Type 0 = λ l. ChecksNext c.args.self.now l c.args.name.now t w ft fw (Ok c.in-Ok.segment) in
          subst L (sym c.take_checked.ensures.links) (c.in-Ok.ensures.checks t w it iw),
      subst H c.in-Ok.ensures.held c.take_checked.ensures.prints,
    )

pub returns-in-Err-clause-prints : goal.returns-in-Err-clause-prints
returns-in-Err-clause-prints g c = (Err c.in-Err.unjudged, c.in-Err.ensures.checks, refl)

pub returns-in-Ok-clause-goes_on : goal.returns-in-Ok-clause-goes_on
returns-in-Ok-clause-goes_on g c = λ done.
    let t = c.check_next_inputs.new.transcript in
    let w = c.check_next_inputs.new.witness in
    let checked = c.in-Ok.ensures.checks (came_of t) (came_of w) (itself t) (itself w) in (
      goes_on_by c.args.self.now c.check_next_inputs.new.chain.links c.args.name.now c.in-Ok.segment (came_of t) (came_of w) checked c.take_checked.new.self (c.take_checked.ensures.taken cc).0
          (c.take_checked.ensures.taken cc).1
          c.take_checked.ensures.links,
      c.in-Ok.ensures.ended.0,
      c.in-Ok.ensures.ended.1,
    )
