use Rattle.kmipa_findings.proofs.BoardLemmas.{board_less}
use Rattle.kmipa_findings.proofs.board.Board.give_back.Goals as goal

pub returns : goal.returns
returns c = λ count taken a fresh.
    board_less count taken c.args.place c.args.self.now a (record { flags = c.flag.new.flags; low = c.lower-self.result }) c.flag.ensures c.lower-self.ensures.low c.lower-self.ensures.place
    c.lower-self.ensures.one fresh
