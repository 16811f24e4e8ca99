use Rattle.std.proofs.Common.{◌∙◌, Option, Err, ap, subst}
use Rattle.std.specs.Option.{option_map}
use Rattle.kmipa_ttlv.specs.ViewTree.{view_tree}
use Rattle.kmipa_msgs.specs.Messages.{AskOf, answer_of, ask_of}
use Rattle.kmipa_msgs.specs.Replies.{answer_in}
use Rattle.kmipa_msgs.specs.Yields.{Yields}
use Rattle.kmipa_msgs.specs.declared.reading.unread.Unread.{Unread}
use Rattle.kmipa_places.proofs.FitLemmas.{ask_lent, read_fits, read_misfits}
use Rattle.kmipa_places.proofs.fit.fits_at.Goals as goal

pub returns-in-Ok : goal.returns-in-Ok
returns-in-Ok c =
    let u = view_tree c.args.answer.now in
    read_fits c.args.operation u (option_map ask_of c.in_ok-ask.ask) (answer_of c.in-Ok.field-0) c.in_ok-ask.ensures
    (c.in-Ok.ensures ∙ ap (λ (a : Option AskOf). answer_in a u) (ask_lent c.as_ref.result c.in_ok-ask.ask c.as_ref.ensures.value))

pub returns-in-Err-Outside : goal.returns-in-Err-Outside
returns-in-Err-Outside c =
    let u = view_tree c.args.answer.now in
    let P : Unread → Type 0 = λ x. Yields answer_of (Err x) (answer_in (option_map (λ a. ask_of a.now) c.as_ref.result) u) in
    read_misfits c.args.operation u (option_map ask_of c.in_ok-ask.ask) c.in-Err-Outside.field-0-0 c.in_ok-ask.ensures
    (subst P c.in-Err-Outside.field-0-is c.in-Err-Outside.ensures ∙ ap (λ (a : Option AskOf). answer_in a u) (ask_lent c.as_ref.result c.in_ok-ask.ask c.as_ref.ensures.value))
