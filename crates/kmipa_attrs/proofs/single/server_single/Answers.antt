use Rattle.std.proofs.Common.{◌≡◌, ◌∙◌, Some, None, Ok, Err, sym, ap, rules}
use Rattle.kmipa_ttlv.specs.ViewTree.{view_trees}
use Rattle.kmipa_attrs.specs.declared.side.Side.TheVariants.{Client, Server}
use Rattle.kmipa_attrs.proofs.SideLemmas.{given_as, given_fault}
use Rattle.kmipa_attrs.proofs.single.server_single.Goals as goal

pub returns-in_err-value : goal.returns-in_err-value
returns-in_err-value g c =
    let e : c.from_residual.result ≡ Err c.in_err-value.field-0.0 = search rules in
    rw e (given_fault g.T.Held.how c.args.tag c.args.side (view_trees c.args.children) c.in_err-value.field-0.0 (sym c.in_err-value.was ∙ c.single.ensures))

pub returns-in-Server-default : goal.returns-in-Server-default
returns-in-Server-default g c = given_as g.T.Held.how c.args.tag c.args.side Server (view_trees c.args.children) (Ok c.in_ok-value.value) c.in-Server-default.is-0 (sym c.in_ok-value.was ∙ c.single.ensures)

pub returns-in-Client-None : goal.returns-in-Client-None
returns-in-Client-None g c =
    let none : Ok None ≡ c.single.result = sym (c.in_ok-value.was ∙ ap Ok c.in-Client-None.is-1) in
    given_as g.T.Held.how c.args.tag c.args.side Client (view_trees c.args.children) (Ok None) c.in-Client-None.is-0 (none ∙ c.single.ensures)

pub returns-in-Client-Some : goal.returns-in-Client-Some
returns-in-Client-Some g c =
    let x = c.in-Client-Some.field-0-1 in
    let there : Ok (Some x) ≡ c.single.result = sym (c.in_ok-value.was ∙ ap Ok c.in-Client-Some.is-1) in
    given_as g.T.Held.how c.args.tag c.args.side Client (view_trees c.args.children) (Ok (Some x)) c.in-Client-Some.is-0 (there ∙ c.single.ensures)
