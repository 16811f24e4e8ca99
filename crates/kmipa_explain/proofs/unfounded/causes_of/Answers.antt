use Rattle.std.proofs.Common.{◌==◌, map, refl, arith}
use Rattle.std.proofs.lemmas.List.{length-map}
use Rattle.kmipa_msgs.specs.Messages.{RowOf, row_of}
use Rattle.kmipa_explain.proofs.KeptLemmas.{kept_all, kept_more, kept_none, read_at}
use Rattle.kmipa_explain.proofs.unfounded.causes_of.Goals as goal

pub rows-init : goal.rows-init
rows-init c = kept_none (λ (row : RowOf). row.reason == c.args.reason) (λ (row : RowOf). row.cause) (map row_of c.args.rows.now) 0 c.new-causes.result.items c.new-causes.ensures.items

pub rows-preserved : goal.rows-preserved
rows-preserved c =
    kept_more (λ (row : RowOf). row.reason == c.args.reason) (λ (row : RowOf). row.cause) (map row_of c.args.rows.now) 0 c.rows.place _ c.rows.causes.items c.note.new.causes.items
    _ (read_at row_of c.args.rows.now c.rows.place _ c.rows-test.true) refl c.in_ok-note.ensures c.rows.invariant

pub returns : goal.returns
returns c =
    kept_all (λ (row : RowOf). row.reason == c.args.reason) (λ (row : RowOf). row.cause) (map row_of c.args.rows.now) 0 c.rows.place c.rows.causes.items
    (omega (arith, c.rows-test.false, length-map c.args.rows.now row_of)) c.rows.invariant
