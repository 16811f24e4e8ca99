use Rattle.std.proofs.Common.{codes}
use Rattle.clap.specs.Words.{found_of}
use Rattle.kmipa_words.proofs.WordLemmas.{at_row, flag_found, number_found}
use Rattle.kmipa_words.proofs.words.search_of.Goals as goal

pub returns : goal.returns
returns c =
    let f = found_of c.args.words.now in (
      at_row f (codes "TRANSCRIPT") c.in_ok-get_str.field-0.now c.in_ok-get_str.ensures,
      at_row f (codes "DECLARATION") c.in_ok-get_str-2.field-0.now c.in_ok-get_str-2.ensures,
      at_row f (codes "OUT") c.in_ok-get_str-3.field-0.now c.in_ok-get_str-3.ensures,
      number_found f (codes "budget") c.in_ok-get_one.field-0 c.in_ok-get_one.ensures.none (λ t e. let read = c.in_ok-get_one.ensures.value t e in (read.0.0.0, read.0.1)),
      number_found f (codes "seconds") c.in_ok-get_one-2.field-0 c.in_ok-get_one-2.ensures.none (λ t e. let read = c.in_ok-get_one-2.ensures.value t e in (read.0.0.0, read.0.1)),
      flag_found f (codes "forced") c.get_flag.result c.get_flag.ensures.none c.get_flag.ensures.value c.get_flag.ensures.other,
      flag_found f (codes "open") c.get_flag-2.result c.get_flag-2.ensures.none c.get_flag-2.ensures.value c.get_flag-2.ensures.other,
      flag_found f (codes "quiet") c.get_flag-3.result c.get_flag-3.ensures.none c.get_flag-3.ensures.value c.get_flag-3.ensures.other,
      c.answer_of.ensures,
    )
