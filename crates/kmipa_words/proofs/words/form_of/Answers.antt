use Rattle.std.proofs.Common.{codes}
use Rattle.clap.specs.Words.{found_of}
use Rattle.kmipa_words.proofs.WordLemmas.{flag_found}
use Rattle.kmipa_words.proofs.words.form_of.Goals as goal

pub returns : goal.returns
returns c =
    let f = found_of c.args.words.now in (
      flag_found f (codes "json") c.get_flag.result c.get_flag.ensures.none c.get_flag.ensures.value c.get_flag.ensures.other,
      flag_found f (codes "explain") c.get_flag-2.result c.get_flag-2.ensures.none c.get_flag-2.ensures.value c.get_flag-2.ensures.other,
    )
