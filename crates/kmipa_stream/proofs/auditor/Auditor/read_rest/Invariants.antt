use Rattle.std.proofs.Common.{◌≡◌, ◌<◌, ◌-◌, ℕ, List, length, None, Some, slice_get, true}
use Rattle.kmipa_record.specs.Declarations.{DeclarationOf}
use Rattle.kmipa_record.specs.Marks.{MarkOf}
use Rattle.kmipa_record.specs.declared.turn.Turn.{Turn}
use Rattle.kmipa_stream.specs.Standing.{Stands}
use Rattle.kmipa_stream.specs.declared.seen.SeenCall.{SeenCall}
use Rattle.kmipa_stream.specs.declared.seen.Held.TheVariants.{Released}
use Rattle.kmipa_stream.proofs.auditor.Auditor.read_rest.Given as goal

abbrev pub invariant-calls : goal.invariant-calls
invariant-calls l = record {
  stands : (marks : List MarkOf) (turns : List Turn) (declared : DeclarationOf) → Stands true marks turns declared l.fn.self → Stands true marks turns declared l.self;
  below : (place : ℕ) (s : SeenCall) → place < l.place → slice_get l.self.seen.calls.items place ≡ Some s → s.held ≡ Released;
  replay : l.self.replay ≡ l.fn.self.replay;
  lowest : l.self.lowest ≡ None → l.fn.self.lowest ≡ None;
}

abbrev pub decreases-calls : goal.decreases-calls
decreases-calls l = length l.self.seen.calls.items - l.place
