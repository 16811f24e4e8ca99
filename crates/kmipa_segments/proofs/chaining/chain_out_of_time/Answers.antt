use Rattle.std.proofs.Common.{◌∙◌}
use Rattle.std.proofs.lemmas.List.{append-nil}
use Rattle.std.specs.Io.{appended_bytes}
use Rattle.kmipa_orders.specs.declared.found.Found.TheVariants.{OutOfTime}
use Rattle.kmipa_searches.specs.Searches.{found_status, found_text}
use Rattle.kmipa_segments.proofs.ChainingLemmas.{never_done, told_named}
use Rattle.kmipa_segments.proofs.chaining.chain_out_of_time.Goals as goal

pub returns-in-Ok-clause-tells : goal.returns-in-Ok-clause-tells
returns-in-Ok-clause-tells c =
    let found = OutOfTime 0 c.args.seconds in
    told_named c.args.name.now c.as_bytes.result.now (found_text found) c.in-Ok.lines.status (found_status found) c.append_named.result (appended_bytes c.args.out.now.items c.append_named.new.out.items) c.in-Ok.ensures.0
    (c.as_bytes.ensures.value ∙ c.in-Ok.ensures.1 ∙ append-nil (found_text found)) c.append_named.ensures.named

pub returns-in-Ok-clause-undone : goal.returns-in-Ok-clause-undone
returns-in-Ok-clause-undone c =
    never_done c.args.name.now c.as_bytes.result.now c.in-Ok.lines.status c.append_named.result (appended_bytes c.args.out.now.items c.append_named.new.out.items) c.in-Ok.ensures.0 c.append_named.ensures.named
