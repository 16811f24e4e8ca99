use Rattle.std.proofs.Common.{◌≡◌, ◌∙◌, ◌+◌, arith, List, [], ◌∷◌, ◌++◌, map, take, sym, ap, subst}
use Rattle.std.proofs.lemmas.List.{take_all, take_more, map-append}
use Rattle.kmipa_check.specs.Calls.{CallOf, call_of}
use Rattle.kmipa_record.specs.declared.call.Call.{Call}
use Rattle.kmipa_searches.specs.Deciding.{AreUnplain}
use Rattle.kmipa_searches.proofs.deciding.unplain.Goals as goal

pub calls-init : goal.calls-init
calls-init c = c.new-numbers.ensures.items

pub calls-preserved : goal.calls-preserved
calls-preserved c =
    let i = c.calls.call-index in
    let before = take i c.args.calls.now in
    let P : List Call → Type 0 = λ cs. AreUnplain (map call_of cs) c.note_unplain.new.numbers.items in
    let R : List CallOf → Type 0 = λ cs. AreUnplain cs c.note_unplain.new.numbers.items in
    let more : take (i + 1) c.args.calls.now ≡ before ++ c.call-item.result ∷ [] =
    take_more c.args.calls.now i c.call-item.result c.calls-test.true ∙ ap (λ (x : Call). before ++ x ∷ []) (sym c.call-item.is) in
    subst P (sym more) (subst R (sym (map-append call_of before (c.call-item.result ∷ []))) (c.in_ok-note_unplain.ensures (map call_of before) c.calls.invariant))

pub returns : goal.returns
returns c =
    let P : List Call → Type 0 = λ cs. AreUnplain (map call_of cs) c.calls.numbers.items in
    subst P (take_all c.calls.call-index c.args.calls.now (omega (arith, c.calls-test.false))) c.calls.invariant
