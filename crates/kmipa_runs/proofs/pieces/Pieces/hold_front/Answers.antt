use Rattle.std.proofs.Common.{rules, ◌≡◌, ◌+◌, ◌∙◌, ◌++◌, ◌∷◌, ◌*◌, List, ℕ, [], length, ap, arith, replicate, vec_len, length-append}
use Rattle.kmipa_runs.proofs.FrontLemmas.{held_front}
use Rattle.kmipa_runs.proofs.pieces.Pieces.hold_front.Goals as goal

pub returns-clause-holds : goal.returns-clause-holds
returns-clause-holds g c =
    let old = c.args.self.now.held.items in
    let grown = c.hold.new.self.held in
    let margin : List ℕ = replicate (2 * c.args.level) 32 in
    let start = c.len.result + 2 * c.args.level in
    let behind : c.len.result ≡ length old = search rules in
    let counted : vec_len grown ≡ length grown.items = search rules in
    let long : length grown.items ≡ length old + 80 = ap (λ (l : List ℕ). length l) c.hold.ensures.holds ∙ length-append old (replicate 80 32) in
    held_front c.args.level start (vec_len grown) old grown.items c.fill_tag.new.digits c.truncate.new.self.items c.requires.level (omega (arith, behind)) c.hold.ensures.holds
    (search rules) (omega (arith, behind, counted, long, c.requires.level)) c.truncate.ensures.items
    ∙ ap (λ (digits : List ℕ). old ++ (margin ++ digits ++ 32 ∷ [])) c.fill_tag.ensures
