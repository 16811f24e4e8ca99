use Rattle.std.proofs.Common.{List, map, take, drop, suc, sym, subst, refl}
use Rattle.std.proofs.lemmas.List.{take_all}
use Rattle.std.proofs.lemmas.List.Elements.{All-push}
use Rattle.kmipa_record.specs.Witnesses.{FillOf, fill_of, IsPayload, ArePayloads}
use Rattle.kmipa_record.specs.declared.fill.Fill.{Fill}
use Rattle.kmipa_record.proofs.WritingLemmas.{mapped_more, mapped_here, one_of}
use Rattle.kmipa_record.proofs.fill.are_payloads.Goals as goal

pub returns-then-not-is_payload : goal.returns-then-not-is_payload
returns-then-not-is_payload c = (
  λ t. absurd cc,
  λ all.
      let fills = c.args.fills.now in let i = c.loop-fill.fill-index in let fill = c.fill-item.result in
      let one = one_of (λ (f : FillOf). IsPayload f.payload) (map fill_of fills) (map fill_of (take i fills)) (map fill_of (drop (suc i) fills)) (fill_of fill)
      (mapped_here fill_of fills i fill c.loop-fill-test.true c.fill-item.is) all in
      absurd (let yes = c.is_payload.ensures.1 one in let not = c.if-not-is_payload.true in cc),
)

pub loop-fill-preserved : goal.loop-fill-preserved
loop-fill-preserved c =
    let fills = c.args.fills.now in let i = c.loop-fill.fill-index in let fill = c.fill-item.result in
    subst ArePayloads (sym (mapped_more fill_of fills i fill c.loop-fill-test.true c.fill-item.is))
    (All-push (λ (f : FillOf). IsPayload f.payload) (map fill_of (take i fills)) (fill_of fill) c.loop-fill.invariant (c.is_payload.ensures.0 c.if-not-is_payload.false))

pub returns : goal.returns
returns c = (λ t. subst (λ (l : List Fill). ArePayloads (map fill_of l)) (take_all c.loop-fill.fill-index c.args.fills.now c.loop-fill-test.false) c.loop-fill.invariant, λ all. refl)
