use Rattle.std.proofs.Common.{◌≡◌, ◌∙◌, [], List, ℕ, ℤ, String, ap, rules, string_bytes}
use Rattle.std.proofs.lemmas.Int.{to_z-of_z}
use mir.Syntax.{w32}
use Rattle.std.proofs.lemmas.Result.{IfOk-weaker}
use Rattle.kmipa_record.specs.Heads.{head_of, label_of}
use Rattle.kmipa_segments.specs.Gaps.{head_text}
use Rattle.kmipa_segments.proofs.GapLemmas.{sealed_whole, unsealed_whole}
use Rattle.kmipa_segments.proofs.gaps.sealed_line.Goals as goal

pub returns-in-Some : goal.returns-in-Some
returns-in-Some c = λ segments linked.
    let head = c.in-Some.head.now in
    let has = rw c.in-Some.is at (c.last.ensures segments linked) in
    let told : ℤ → List ℕ = λ n. head_text n (label_of head.label) (head_of head) in
    let same = ap told (to_z-of_z w32 c.first.result (search rules)) in
    IfOk-weaker c.head_line.result _ _ (λ text e. e ∙ same ∙ sealed_whole segments c.first.result head linked.ends.linked (c.first.ensures segments linked) has) c.head_line.ensures

pub returns-in-None : goal.returns-in-None
returns-in-None c = λ segments linked.
    let has = rw c.in-None.is at (c.last.ensures segments linked) in
    let empty : string_bytes c.new.result ≡ [] = search rules in
    empty ∙ unsealed_whole segments has
