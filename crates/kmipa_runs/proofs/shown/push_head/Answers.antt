use Rattle.std.proofs.Common.{◌≡◌, ◌++◌, ◌*◌, ◌∷◌, [], List, ℕ, replicate, ap, ◌∙◌}
use Rattle.std.proofs.lemmas.Result.{on_ok_weaker}
use Rattle.byteorder.specs.Endian.{big_bytes}
use Rattle.hex.specs.Hex.{encode_upper}
use Rattle.kmipa_attrs.specs.Tags.{tag_name_of}
use Rattle.kmipa_runs.proofs.ShownLemmas.{fronted}
use Rattle.kmipa_runs.proofs.shown.push_head.Goals as goal

pub returns-clause-pushes : goal.returns-clause-pushes
returns-clause-pushes g c =
    let printed = g.P.Printer.printed in
    let old = printed c.args.out.now in
    let fronted_by = printed c.print_front.new.self in
    let margin = replicate (2 * c.args.level) 32 in
    let digits = encode_upper (big_bytes 3 c.args.tag.number) in
    let a : fronted_by ≡ old ++ (margin ++ digits ++ 32 ∷ []) = c.in_ok-print_front.ensures.prints in
    on_ok_weaker c.print.result
    (λ e. e ∙ ap (λ (n : List ℕ). fronted_by ++ n) (c.as_bytes.ensures.value ∙ c.tag_name.ensures)
    ∙ ap (λ (l : List ℕ). l ++ tag_name_of c.args.tag.number) a ∙ fronted old margin digits (tag_name_of c.args.tag.number))
    c.print.ensures.prints
