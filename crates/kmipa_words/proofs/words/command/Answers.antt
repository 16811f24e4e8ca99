use Rattle.std.proofs.Common.{◌≡◌, ◌∙◌, ap}
use Rattle.std.proofs.lemmas.Result.{IfOk-weaker}
use Rattle.clap.specs.Words.{app_of, shape_of}
use Rattle.clap.specs.Simple.{with_subcommand}
use Rattle.clap.specs.declared.builder.command.Command.TheViews.{out-Command}
use Rattle.kmipa_words.specs.Words.{with_settings}
use Rattle.kmipa_words.proofs.WordLemmas.{settings, whole}
use Rattle.kmipa_words.proofs.words.command.Goals as goal

pub returns : goal.returns
returns c =
    let bare = app_of c.new.result in
    let set : app_of c.arg_required_else_help.result ≡ with_settings bare = settings _ _ _ (out-Command c.new.result) (out-Command c.about.result)
    (out-Command c.version.result) (out-Command c.after_help.result) (out-Command c.subcommand_required.result) (out-Command c.arg_required_else_help.result)
    c.about.ensures c.version.ensures c.after_help.ensures c.subcommand_required.ensures c.arg_required_else_help.ensures in
    let one = c.in_ok-subcommand.ensures.shape c.in_ok-check.ensures.local ∙ ap (λ a. with_subcommand a (shape_of c.in_ok-check.field-0)) set in
    let two = c.in_ok-subcommand-2.ensures.shape c.in_ok-search.ensures.local in
    let three = c.in_ok-subcommand-3.ensures.shape c.in_ok-judge.ensures.local in
    let four = c.in_ok-subcommand-4.ensures.shape c.in_ok-chain.ensures.local in
    let five = c.in_ok-subcommand-5.ensures.shape c.in_ok-show.ensures.local in
    IfOk-weaker c.subcommand-6.result _ _ (λ r h. whole bare (app_of c.in_ok-check.field-0) (app_of c.in_ok-search.field-0) (app_of c.in_ok-judge.field-0) (app_of c.in_ok-chain.field-0)
    (app_of c.in_ok-show.field-0) (app_of c.in_ok-write.field-0) (app_of c.in_ok-subcommand.field-0) (app_of c.in_ok-subcommand-2.field-0)
    (app_of c.in_ok-subcommand-3.field-0) (app_of c.in_ok-subcommand-4.field-0) (app_of c.in_ok-subcommand-5.field-0) (app_of r)
    c.new.ensures.app c.in_ok-check.ensures.app c.in_ok-search.ensures.app c.in_ok-judge.ensures.app c.in_ok-chain.ensures.app c.in_ok-show.ensures.app c.in_ok-write.ensures.app one two
    three four five (h.shape c.in_ok-write.ensures.local)) c.subcommand-6.ensures
