use Rattle.std.proofs.Common.{◌+◌, length, take, map}
use Rattle.std.specs.Prelude.{flat_map}
use Rattle.kmipa_ttlv.specs.ItemTree.{tree}
use Rattle.kmipa_ttlv.specs.Frames.{rest_of, IsAfter}
use Rattle.kmipa_ttlv.specs.Stream.{IsCutShort}
use Rattle.kmipa_ttlv.proofs.splitting.split_stream.Given as goal

abbrev pub invariant-pieces : goal.invariant-pieces
invariant-pieces l = record {
  after : IsAfter (flat_map (λ piece. piece.items) (take l.piece-index l.pieces)) (map tree l.items.items) l.frames;
  short : IsCutShort (rest_of l.frames);
}

abbrev pub invariant-items : goal.invariant-items
invariant-items l = IsAfter (flat_map (λ piece. piece.items) (take (l.piece-index + 1) l.pieces)) (map tree l.items.items) l.frames

abbrev pub decreases-items : goal.decreases-items
decreases-items l = length (rest_of l.frames)
