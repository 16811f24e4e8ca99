use Rattle.std.proofs.Common.{sym, ap, ◌∙◌}
use Rattle.std.specs.Prelude.{not, option_map}
use Rattle.kmipa_msgs.specs.Messages.{response_of}
use Rattle.kmipa_check.specs.Calls.{call_of}
use Rattle.kmipa_searches.proofs.DecidingLemmas.{plain_if}
use Rattle.kmipa_searches.proofs.deciding.is_plain.Goals as goal

pub returns : goal.returns
returns c =
    plain_if (call_of c.args.call.now) (response_of c.in-Some.response) c.needs_fill.result (ap (option_map response_of) c.in-Some.is)
    (c.is_none.ensures ∙ ap not c.if-is_none.false) (sym c.is_unordered.ensures ∙ c.if-is_unordered.false) c.needs_fill.ensures
