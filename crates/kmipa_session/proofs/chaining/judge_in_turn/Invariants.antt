use Rattle.std.proofs.Common.{◌≤◌, ◌-◌, length, take}
use Rattle.kmipa_record.specs.Declarations.{AreDeclared, declaration_of}
use Rattle.kmipa_session.specs.Keeping.{AreNextKept}
use Rattle.kmipa_session.proofs.chaining.judge_in_turn.Given as goal

abbrev pub decreases-segments : goal.decreases-segments
decreases-segments g l = length l.segments - l.place

-- the segments up to here go on from what was held, and their witnesses were made as asked
abbrev pub invariant-segments : goal.invariant-segments
invariant-segments g l = record {
  within : l.place ≤ length l.segments;
  declared : AreDeclared (declaration_of l.chain.held.declaration);
  joins : AreNextKept g.W.World.made l.initial.chain l.chain (take l.place l.segments) l.made.items;
}
