use Rattle.std.proofs.Common.{◌∙◌, ap}
use Rattle.serde_json.specs.Data.{Members, object}
use Rattle.kmipa_json.specs.Told.{line_of, members_of}
use Rattle.kmipa_judge.proofs.judging.whole_object.Goals as goal

pub returns : goal.returns
returns c = λ recorded. record {
  front = members_of c.tell_found.new.told;
  found = c.in_ok-status.ensures;
  told = members_of c.tell_behind.new.told;
  behind = c.in_ok-tell_behind.ensures recorded;
  are = c.in_ok-text.ensures ∙ ap (λ (m : Members). line_of (object m)) c.in_ok-tell_rules.ensures;
}
