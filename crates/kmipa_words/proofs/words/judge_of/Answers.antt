use Rattle.std.proofs.Common.{codes}
use Rattle.clap.specs.Words.{found_of}
use Rattle.kmipa_words.proofs.WordLemmas.{at_row, flag_found, number_found, text_found}
use Rattle.kmipa_words.proofs.words.judge_of.Goals as goal

pub returns : goal.returns
returns c =
    let f = found_of c.args.words.now in (
      at_row f (codes "TRANSCRIPT") c.in_ok-get_str.field-0.now c.in_ok-get_str.ensures,
      text_found f (codes "DECLARATION") c.get_str-2.result c.get_str-2.ensures,
      text_found f (codes "witness") c.get_str-3.result c.get_str-3.ensures,
      text_found f (codes "declaration") c.get_str-4.result c.get_str-4.ensures,
      number_found f (codes "budget") c.in_ok-get_one.field-0 c.in_ok-get_one.ensures.none (λ t e. let read = c.in_ok-get_one.ensures.value t e in (read.0.0.0, read.0.1)),
      number_found f (codes "seconds") c.in_ok-get_one-2.field-0 c.in_ok-get_one-2.ensures.none (λ t e. let read = c.in_ok-get_one-2.ensures.value t e in (read.0.0.0, read.0.1)),
      flag_found f (codes "quiet") c.get_flag.result c.get_flag.ensures.none c.get_flag.ensures.value c.get_flag.ensures.other,
      flag_found f (codes "json") c.get_flag-json.result c.get_flag-json.ensures.none c.get_flag-json.ensures.value c.get_flag-json.ensures.other,
      c.seals_of.ensures,
    )
