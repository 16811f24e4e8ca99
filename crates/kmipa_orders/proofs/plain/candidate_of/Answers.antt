use Rattle.std.proofs.Common.{◌∙◌, sym}
use Rattle.kmipa_check.specs.Calls.{call_of}
use Rattle.kmipa_orders.proofs.CandidateLemmas.{plain_of, waits}
use Rattle.kmipa_orders.proofs.plain.candidate_of.Goals as goal

pub returns-then-needs_fill : goal.returns-then-needs_fill
returns-then-needs_fill c = waits (call_of c.args.call.now) c.in_ok-own.own c.in_ok-own.ensures.1 c.if-needs_fill.ensures

pub returns : goal.returns
returns c = plain_of (call_of c.args.call.now) c.in_ok-own.own c.in_ok-own.ensures.1 (sym c.is_unordered.ensures ∙ c.if-is_unordered.false) c.if-needs_fill.ensures
