use Rattle.std.proofs.Common.{◌≡◌, ◌+◌, ◌-◌, ◌*◌, ◌/◌, ◌++◌, List, ℕ, length, replicate, take, ap, ◌∙◌, append_assoc, arith}
use Rattle.std.proofs.lemmas.List.{take-replicate}
use Rattle.kmipa_ttlv.specs.Head.{number_of_kind}
use Rattle.kmipa_ttlv.specs.Written.{header, framed}
use Rattle.kmipa_ttlv.proofs.encoding.put_framed.Goals as goal

pub returns-clause-items : goal.returns-clause-items
unfolding framed header
returns-clause-items c =
    let n = length c.args.value.now in
    let k = (n + 7) / 8 * 8 - n in
    let count : c.padded_len.result - n ≡ k = ap (λ (m : ℕ). m - n) c.padded_len.ensures in
    let zeros = c.split_at.ensures.front ∙ ap (λ (m : ℕ). take m (replicate 7 0)) count ∙ take-replicate k 7 0 (omega arith) in
    let h = header c.args.tag.number (number_of_kind c.args.kind) n in
    c.put-2.ensures.items
    ∙ ap (λ (xs : List ℕ). xs ++ c.split_at.result.0.now) (c.put.ensures.items ∙ ap (λ (xs : List ℕ). xs ++ c.args.value.now) c.put_header.ensures.items)
    ∙ ap (λ (xs : List ℕ). ((c.args.out.now.items ++ h) ++ c.args.value.now) ++ xs) zeros
    ∙ append_assoc (c.args.out.now.items ++ h) c.args.value.now (replicate k 0)
    ∙ append_assoc c.args.out.now.items h (c.args.value.now ++ replicate k 0)
