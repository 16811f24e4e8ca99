use Rattle.std.proofs.Common.{◌≡◌, map, take}
use Rattle.kmipa_ttlv.specs.Tree.{more, forest}
use Rattle.kmipa_msgs.specs.Messages.{ask_of, request_of}
use Rattle.kmipa_msgs.specs.Written.{written_ask, written_request_header}
use Rattle.kmipa_msgs.specs.Writing.{fields_of}
use Rattle.kmipa_msgs.proofs.writing.request.write_request.Given as goal

abbrev pub invariant-loop-ask : goal.invariant-loop-ask
invariant-loop-ask l = fields_of l.fields ≡ more (written_request_header (request_of l.request)) (forest written_ask (map ask_of (take l.ask-index l.ask-items)))
