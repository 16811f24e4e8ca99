use Rattle.std.proofs.Common.{codes}
use Rattle.clap.specs.Words.{found_of}
use Rattle.kmipa_words.proofs.WordLemmas.{at_row, number_found}
use Rattle.kmipa_words.proofs.words.check_of.Goals as goal

pub returns : goal.returns
returns c =
    let f = found_of c.args.words.now in (
      at_row f (codes "TRANSCRIPT") c.in_ok-get_str.field-0.now c.in_ok-get_str.ensures,
      at_row f (codes "DECLARATION") c.in_ok-get_str-2.field-0.now c.in_ok-get_str-2.ensures,
      at_row f (codes "WITNESS") c.in_ok-get_str-3.field-0.now c.in_ok-get_str-3.ensures,
      number_found f (codes "seconds") c.in_ok-seconds.seconds c.in_ok-seconds.ensures.none (λ t e. let read = c.in_ok-seconds.ensures.value t e in (read.0.0.0, read.0.1)),
      c.answer_of.ensures,
    )
