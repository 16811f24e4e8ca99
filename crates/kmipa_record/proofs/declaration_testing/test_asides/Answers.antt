use Rattle.std.proofs.Common.{◌≡◌, ◌∙◌, ◌++◌, ◌∷◌, [], ℕ, List, String, map, take, drop, suc, append_assoc, sym, ap, subst, string_bytes}
use Rattle.std.proofs.lemmas.List.{take_all}
use Rattle.std.proofs.lemmas.Result.{err_from_is_err_and}
use Rattle.std.specs.Global.{Global}
use Rattle.kmipa_record.specs.DeclarationWriting.{AreDistinct, AreNoted}
use Rattle.kmipa_record.proofs.DeclarationWritingLemmas.{distinct_ahead}
use Rattle.kmipa_record.proofs.WritingLemmas.{mapped_more, mapped_here, refused_map}
use Rattle.kmipa_record.proofs.declaration_testing.test_asides.Goals as goal

pub returns-in_err-note-clause-refused : goal.returns-in_err-note-clause-refused
returns-in_err-note-clause-refused c = λ ids noted.
    let p = err_from_is_err_and c.from_residual.result c.from_residual.ensures.1 in
    let asides = c.args.asides.now in let i = c.loop-id.id-index in let id = c.id-item.result in
    let ahead = map string_bytes (take i asides) in
    let cut = mapped_here string_bytes asides i id c.loop-id-test.true c.id-item.is in
    rw (p.1, p.2) (refused_map c.in_err-note.field-0.0 (λ all. distinct_ahead ids ahead (string_bytes id) (map string_bytes (drop (suc i) asides)) (subst (λ (l : List (List ℕ)). AreDistinct (ids ++ l)) cut all))
    (c.in_err-note.ensures (ids ++ ahead) (c.loop-id.invariant ids noted)))

pub loop-id-preserved : goal.loop-id-preserved
loop-id-preserved c = λ ids noted.
    let asides = c.args.asides.now in let i = c.loop-id.id-index in let id = c.id-item.result in
    let ahead = map string_bytes (take i asides) in
    subst (λ (l : List (List ℕ)). AreNoted c.note.new.identifiers l)
    (append_assoc ids ahead (string_bytes id ∷ []) ∙ ap (λ (l : List (List ℕ)). ids ++ l) (sym (mapped_more string_bytes asides i id c.loop-id-test.true c.id-item.is)))
    (c.in_ok-note.ensures (ids ++ ahead) (c.loop-id.invariant ids noted))

pub returns-clause-distinct : goal.returns-clause-distinct
returns-clause-distinct c = λ ids noted.
    let n = c.loop-id.invariant ids noted in
    subst (λ (l : List (String Global)). AreDistinct (ids ++ map string_bytes l)) (take_all c.loop-id.id-index c.args.asides.now c.loop-id-test.false) n.distinct
