use Rattle.std.proofs.Common.{◌≡◌, ◌++◌, ◌∷◌, ℕ, List, ap, ◌∙◌}
use Rattle.std.specs.Prelude.{codes}
use Rattle.std.specs.Io.{appended_bytes}
use Rattle.std.proofs.lemmas.Result.{on_ok_weaker}
use Rattle.kmipa_ttlv.specs.ViewTree.{view_tree}
use Rattle.kmipa_runs.specs.Shown.{head, kind_name, note}
use Rattle.kmipa_runs.proofs.AppendLemmas.{since, split, starts, starts_on}
use Rattle.kmipa_runs.proofs.ShownLemmas.{plain_line, five, head_of}
use Rattle.kmipa_runs.proofs.shown.push_line.Goals as goal

pub returns-clause-shows : goal.returns-clause-shows
returns-clause-shows g c =
    let printed = g.P.Printer.printed in
    let item = c.args.item.now in
    let tag = item.tag.number in
    let v = item.value in
    let old = printed c.args.out.now in
    let valued = printed c.push_value.new.out in
    let value = appended_bytes (printed c.push_kind.new.out) valued in
    let behind = note c.args.notes (view_tree item) in
    let first = head c.args.level tag (kind_name (view_tree item)) in
    let kinded = printed c.push_kind.new.out in
    let a : kinded ≡ old ++ (first ++ codes " ")
    = c.in_ok-push_kind.ensures.pushes tag ∙ ap (λ (l : List ℕ). l ++ (32 ∷ kind_name (view_tree item) ++ codes " ")) c.in_ok-push_head.ensures.pushes
    ∙ head_of old c.args.level tag (kind_name (view_tree item)) (codes " ") in
    let d : valued ≡ (old ++ (first ++ codes " ")) ++ value = split kinded valued c.in_ok-push_value.ensures.appends ∙ ap (λ (l : List ℕ). l ++ value) a in
    let n : printed c.push_note.new.out ≡ ((old ++ (first ++ codes " ")) ++ value) ++ behind = c.in_ok-push_note.ensures.pushes ∙ ap (λ (l : List ℕ). l ++ behind) d in
    on_ok_weaker c.print.result
    (λ e. plain_line c.args.notes c.args.level tag v value (appended_bytes old (printed c.print.new.self)) c.requires.plain (c.in_ok-push_value.ensures.shows tag)
    (since old (first ++ codes " " ++ value ++ behind ++ codes "\n") (printed c.print.new.self)
    (e ∙ ap (λ (l : List ℕ). l ++ codes "\n") n ∙ five old first (codes " ") value behind (codes "\n"))))
    c.print.ensures.prints

pub returns-clause-appends : goal.returns-clause-appends
returns-clause-appends g c =
    let printed = g.P.Printer.printed in
    let old = printed c.args.out.now in
    let headed = printed c.push_head.new.out in
    let kinded = printed c.push_kind.new.out in
    let valued = printed c.push_value.new.out in
    let noted = printed c.push_note.new.out in
    let new = printed c.print.new.self in
    let h = starts_on old headed kinded (starts old _ headed c.in_ok-push_head.ensures.pushes) (starts headed _ kinded (c.in_ok-push_kind.ensures.pushes c.args.item.now.tag.number)) in
    let a = starts_on old kinded valued h c.in_ok-push_value.ensures.appends in
    let b = starts_on old valued noted a (starts valued _ noted c.in_ok-push_note.ensures.pushes) in
    on_ok_weaker c.print.result (λ e. starts_on old noted new b (starts noted _ new e)) c.print.ensures.prints
