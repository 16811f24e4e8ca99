use Rattle.std.proofs.Common.{◌∙◌, ap, map, string_bytes, List}
use Rattle.std.proofs.lemmas.Result.{IfOk-weaker}
use Rattle.std.specs.List.{flat_map}
use Rattle.kmipa_unjudged.specs.Told.{named_of}
use Rattle.kmipa_unjudged.specs.declared.named.Named.{Named}
use Rattle.kmipa_judge.specs.Unjudged.{aside_line}
use Rattle.kmipa_judge.proofs.UnjudgedLemmas.{aside_told}
use Rattle.kmipa_judge.proofs.unjudged_lines.aside_lines.Goals as goal

pub returns : goal.returns
returns c =
    IfOk-weaker c.format.result _ _ (λ text e. aside_told c.args.told.now (string_bytes c.in_ok-first.first) (string_bytes c.in_ok-more.more) (string_bytes text)
    (c.in_ok-first.ensures ∙ ap (λ (l : List Named). flat_map aside_line (map named_of l)) c.first_most.ensures) c.in_ok-more.ensures e) c.format.ensures.ok
