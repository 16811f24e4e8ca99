use Rattle.std.proofs.Common.{refl}
use Rattle.kmipa_places.specs.Calls.{read_of}
use Rattle.kmipa_bundle.proofs.ReadableLemmas.{else_readable}
use Rattle.kmipa_bundle.proofs.readable.is_readable_call.Goals as goal

pub returns-else-call : goal.returns-else-call
returns-else-call c =
    else_readable (read_of c.args.call.now) c.as_slice.result.now c.args.call.now.places.items c.are_readable.result c.if-call.false c.as_slice.ensures.value refl c.are_readable.ensures
