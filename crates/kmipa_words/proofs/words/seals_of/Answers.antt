use Rattle.std.proofs.Common.{codes}
use Rattle.clap.specs.Words.{found_of}
use Rattle.kmipa_words.proofs.WordLemmas.{flag_found, text_found}
use Rattle.kmipa_words.proofs.words.seals_of.Goals as goal

pub returns : goal.returns
returns c =
    let f = found_of c.args.words.now in (
      text_found f (codes "head") c.get_str.result c.get_str.ensures,
      flag_found f (codes "torn") c.get_flag.result c.get_flag.ensures.none c.get_flag.ensures.value c.get_flag.ensures.other,
    )
