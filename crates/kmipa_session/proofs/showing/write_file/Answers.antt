use Rattle.std.proofs.Common.{◌≡◌, ◌∙◌, inl, List, ℕ, rules, subst}
use Rattle.kmipa_session.specs.Sessions.{IsMade}
use Rattle.kmipa_session.proofs.showing.write_file.Goals as goal

pub returns : goal.returns
returns g c =
    let made = g.W.World.made in
    let said = c.write-said.result.0.status in
    let bytes = c.write-said.result.1.items in
    let P : List ℕ → Type 0 = λ b. IsMade made c.args.made.now b said c.in_ok-file.file in
    let same : c.deref-2.result.now ≡ bytes = search rules in
    inl (c.write-said.ensures.name ∙ c.in_ok-digits.ensures.name, (bytes, c.write-said.ensures.writes, subst P same c.in_ok-file.ensures))
