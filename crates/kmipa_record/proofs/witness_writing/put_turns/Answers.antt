use Rattle.std.proofs.Common.{◌∷◌, [], ℕ, List, map, take, drop, suc, sym, ap, subst, ◌∙◌}
use Rattle.std.specs.Prelude.{All}
use Rattle.std.specs.Io.{StartsWith}
use Rattle.std.proofs.lemmas.List.{take_all, map-append}
use Rattle.std.proofs.lemmas.List.Elements.{All-push}
use Rattle.std.proofs.lemmas.Result.{err_from_is_err_and}
use Rattle.kmipa_ttlv.specs.Tree.{Tree}
use Rattle.kmipa_record.specs.Witnesses.{turn_of, turn_item}
use Rattle.kmipa_record.specs.Writing.{AddsAll, IsWritable}
use Rattle.kmipa_record.specs.declared.turn.Turn.{Turn}
use Rattle.kmipa_record.proofs.WritingLemmas.{mapped_more, mapped_here, one_of, adds_more, behind_starts, refused_map}
use Rattle.kmipa_record.proofs.witness_writing.put_turns.Goals as goal

pub returns-in_err-append_turn-clause-refused : goal.returns-in_err-append_turn-clause-refused
returns-in_err-append_turn-clause-refused c =
    let turns = c.args.turns.now in let i = c.loop-turn.turn-index in let turn = c.turn-item.result in
    let p = err_from_is_err_and c.from_residual.result c.from_residual.ensures.1 in
    rw (p.1, p.2) (refused_map c.in_err-append_turn.field-0.0
    (λ all. one_of IsWritable (map turn_of turns) (map turn_of (take i turns)) (map turn_of (drop (suc i) turns)) (turn_of turn) (mapped_here turn_of turns i turn c.loop-turn-test.true c.turn-item.is) all)
    c.in_err-append_turn.ensures.refused)

pub returns-in_err-append_turn-clause-grows : goal.returns-in_err-append_turn-clause-grows
returns-in_err-append_turn-clause-grows c =
    let old = c.args.out.now.items in
    subst (λ (l : List ℕ). StartsWith l old) (sym c.in_err-append_turn.ensures.same) (behind_starts old c.loop-turn.out.items _ c.loop-turn.invariant.0.after)

pub loop-turn-preserved : goal.loop-turn-preserved
loop-turn-preserved c =
    let turns = c.args.turns.now in let i = c.loop-turn.turn-index in let turn = c.turn-item.result in
    let more = mapped_more turn_of turns i turn c.loop-turn-test.true c.turn-item.is in
    let old = c.args.out.now.items in
    let done = c.in_ok-append_turn.ensures.ok in (
      subst (λ (l : List Tree). AddsAll l old c.append_turn.new.out.items) (sym (ap (map turn_item) more ∙ map-append turn_item (map turn_of (take i turns)) (turn_of turn ∷ [])))
          (adds_more (map turn_item (map turn_of (take i turns))) (turn_item (turn_of turn)) old c.loop-turn.out.items c.append_turn.new.out.items c.loop-turn.invariant.0 done.0),
      subst (All IsWritable) (sym more) (All-push IsWritable (map turn_of (take i turns)) (turn_of turn) c.loop-turn.invariant.1 done.1),
    )

pub returns-clause-put : goal.returns-clause-put
returns-clause-put c =
    subst (λ (l : List Turn). AddsAll (map turn_item (map turn_of l)) c.args.out.now.items c.loop-turn.out.items × All IsWritable (map turn_of l))
    (take_all c.loop-turn.turn-index c.args.turns.now c.loop-turn-test.false) c.loop-turn.invariant

pub returns-clause-grows : goal.returns-clause-grows
returns-clause-grows c = behind_starts c.args.out.now.items c.loop-turn.out.items _ c.loop-turn.invariant.0.after
