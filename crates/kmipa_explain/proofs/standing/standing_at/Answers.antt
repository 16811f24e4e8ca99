use Rattle.std.proofs.Common.{map, arith}
use Rattle.std.proofs.lemmas.List.{length-map}
use Rattle.std.proofs.lemmas.Option.{slice_get_within}
use Rattle.kmipa_record.specs.Declarations.{declaration_of}
use Rattle.kmipa_check.specs.Steps.{step_of}
use Rattle.kmipa_explain.proofs.DeclaredLemmas.{are_declared}
use Rattle.kmipa_explain.proofs.standing.standing_at.Goals as goal

pub open_ledger-requires : goal.open_ledger-requires
open_ledger-requires c = let r = c.requires.refused.1 in are_declared (declaration_of c.args.declaration.now) r.possible.start r.possible.described

pub standing_over-requires-clause-within : goal.standing_over-requires-clause-within
standing_over-requires-clause-within c =
    let r = c.requires.refused.1 in
    omega (arith, slice_get_within (map step_of c.args.steps.now) c.args.turn c.requires.refused.0 r.there, length-map c.args.steps.now step_of)
