use Rattle.std.proofs.Common.{◌≡◌, ◌∙◌, Bool, true, false, if◌then◌else◌, Option, None, map, refl, ap}
use Rattle.kmipa_explain.specs.Reading.{seen_item, seen_start, seen_subject}
use Rattle.kmipa_explain.specs.Sources.{bytes_source}
use Rattle.kmipa_explain.specs.declared.source.Source.{Source}
use Rattle.kmipa_explain.proofs.sources.bytes_known_source.Goals as goal

known : (b : Bool) (x : Option Source) → b ≡ true → x ≡ (if b then x else None)
known true x e = refl
known false x e = absurd cc

pub returns : goal.returns
returns c =
    let source = bytes_source (seen_start c.args.start) c.args.now (map seen_item c.args.ahead.now) in
    let s = seen_subject c.args.subject.now in
    c.bytes_source.ensures ∙ ap source c.as_str.ensures.value ∙ known s.bytes (source s.id) c.if-not-subject.false
