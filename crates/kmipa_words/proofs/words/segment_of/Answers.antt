use Rattle.std.proofs.Common.{codes}
use Rattle.clap.specs.Words.{found_of}
use Rattle.kmipa_words.proofs.WordLemmas.{text_found}
use Rattle.kmipa_words.proofs.words.segment_of.Goals as goal

pub returns : goal.returns
returns c =
    let f = found_of c.args.words.now in (
      text_found f (codes "leaves") c.get_str.result c.get_str.ensures,
      text_found f (codes "not-before") c.get_str-2.result c.get_str-2.ensures,
    )
