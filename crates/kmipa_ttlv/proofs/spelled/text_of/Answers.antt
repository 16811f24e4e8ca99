use Rattle.std.proofs.Common.{◌≡◌, Bool, cond, List, [], sym, ap, ◌∙◌}
use Rattle.std.proofs.lemmas.Str.{is_utf8-from_IsUtf8}
use Rattle.kmipa_ttlv.proofs.SpelledLemmas.{no_text}
use Rattle.kmipa_ttlv.proofs.spelled.text_of.Goals as goal

pub returns-in-Ok : goal.returns-in-Ok
returns-in-Ok c =
    let value = c.args.value.now in
    let h = c.in-Ok.ensures.cases in
    h.0 ∙ ap (λ (b : Bool). cond b value []) (sym (is_utf8-from_IsUtf8 value h.1))

pub returns-in-Err : goal.returns-in-Err
returns-in-Err c =
    let value = c.args.value.now in
    ap (λ (b : Bool). cond b value []) (sym (no_text value c.in-Err.ensures.cases.0))
