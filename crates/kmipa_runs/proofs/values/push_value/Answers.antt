use Rattle.std.proofs.Common.{sym, subst}
use Rattle.std.specs.Io.{appended_bytes}
use Rattle.std.proofs.lemmas.Result.{on_ok_weaker}
use Rattle.hex.specs.Hex.{encode_lower}
use Rattle.kmipa_ttlv.specs.ViewTree.{view_value_tree}
use Rattle.kmipa_ttlv.specs.declared.view.ViewValue.{ViewValue}
use Rattle.kmipa_runs.specs.Shown.{ShowsValue}
use Rattle.kmipa_runs.proofs.AppendLemmas.{since}
use Rattle.kmipa_runs.proofs.values.push_value.Goals as goal

pub returns-in-BigInteger-clause-shows : goal.returns-in-BigInteger-clause-shows
returns-in-BigInteger-clause-shows g c =
    let printed = g.P.Printer.printed in
    let old = printed c.args.out.now in
    let new = printed c.push_digits.new.out in
    let bs = c.in-BigInteger.bytes.now in
    on_ok_weaker c.push_digits.result
    (λ e. λ tag. let P : ViewValue → Type 0 = λ v. ShowsValue (view_value_tree tag v) (appended_bytes old new) in
    subst P (sym c.in-BigInteger.is) (since old (encode_lower bs) new e))
    c.push_digits.ensures.pushes

pub returns-in-Bytes-clause-shows : goal.returns-in-Bytes-clause-shows
returns-in-Bytes-clause-shows g c =
    let printed = g.P.Printer.printed in
    let old = printed c.args.out.now in
    let new = printed c.push_digits-in-Bytes.new.out in
    let bs = c.in-Bytes.bytes.now in
    on_ok_weaker c.push_digits-in-Bytes.result
    (λ e. λ tag. let P : ViewValue → Type 0 = λ v. ShowsValue (view_value_tree tag v) (appended_bytes old new) in
    subst P (sym c.in-Bytes.is) (since old (encode_lower bs) new e))
    c.push_digits-in-Bytes.ensures.pushes
