use Rattle.std.proofs.Common.{◌≡◌, ◌<◌, ◌∙◌, ℕ, List, Bool, true, false, length, sym, subst}
use Rattle.kmipa_findings.specs.Flags.{flag_at}
use Rattle.kmipa_findings.proofs.BoardLemmas.{below_kept, board_more}
use Rattle.kmipa_findings.proofs.board.Board.take.Goals as goal

pub returns : goal.returns
returns c = λ count taken a below.
    let P : List Bool → Type 0 = λ fs. (p : ℕ) → p < c.args.self.now.low → flag_at fs p ≡ true in
    let Q : List Bool → Type 0 = λ fs. (p : ℕ) → p < c.first_left-self.result → flag_at fs p ≡ true in
    let R : List Bool → Type 0 = λ fs. c.first_left-self.result < length fs → flag_at fs c.first_left-self.result ≡ false in
    let kept = subst P (sym (c.deref.ensures.value ∙ c.flag.ensures)) (below_kept count taken c.args.place c.args.self.now a below) in
    board_more count taken c.args.place c.args.self.now a below (record { flags = c.flag.new.flags; low = c.first_left-self.result }) c.flag.ensures
    (subst Q c.deref.ensures.value (c.first_left-self.ensures.flagged kept)) (subst R c.deref.ensures.value c.first_left-self.ensures.left)
