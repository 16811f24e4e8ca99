use Rattle.std.proofs.Common.{◌++◌, ◌∙◌, ap, string_bytes}
use Rattle.kmipa_judge.proofs.judging.all_lines.Goals as goal

pub returns : goal.returns
returns c = λ recorded. record {
  front = string_bytes c.in_ok-first.first.text;
  prints = c.in_ok-first.ensures;
  behind = string_bytes c.in_ok-behind.behind;
  unjudged = c.in_ok-behind.ensures recorded;
  are = c.in_ok-push_str.ensures.bytes ∙ ap (λ t. string_bytes c.in_ok-first.first.text ++ t) c.as_str.ensures.value;
}
