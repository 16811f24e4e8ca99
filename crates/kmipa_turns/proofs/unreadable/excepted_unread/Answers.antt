use Rattle.std.proofs.Common.{inr, refl}
use Rattle.kmipa_msgs.specs.Messages.{lent}
use Rattle.kmipa_turns.specs.Steps.{alone, anyway}
use Rattle.kmipa_turns.proofs.AnswerLemmas.{is_set, none_not}
use Rattle.kmipa_turns.proofs.unreadable.excepted_unread.Goals as goal

pub returns-then-is_unread : goal.returns-then-is_unread
returns-then-is_unread c = anyway (none_not lent c.args.call.now.response c.is_none.result c.is_none.ensures c.if-is_none.false) (c.if-is_unread.ensures.0 refl) refl

pub returns : goal.returns
returns c =
    alone (is_set c.args.turn.now.asides.items c.deref.result.now c.sets_aside.result c.deref.ensures.value c.sets_aside.ensures c.if-not-sets_aside.false)
    (inr (λ unread. let yes = c.if-is_unread.ensures.1 unread in absurd cc)) refl
