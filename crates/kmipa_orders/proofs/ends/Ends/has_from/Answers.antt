use Rattle.std.proofs.Common.{◌≡◌, ◌-◌, length, sym, arith, rules}
use Rattle.std.specs.Prelude.{vec_len}
use Rattle.kmipa_orders.proofs.ends.Ends.has_from.Goals as goal

pub returns-then-is_end : goal.returns-then-is_end
returns-then-is_end g c = λ all places flagged long t.
    let count : length c.args.self.now.ends.items ≡ vec_len c.args.self.now.ends = search rules in (
      c.index-end.result.now,
      (c.chain.number - 1, omega (arith, c.chain-test.true, c.if-number-len.false, c.len.ensures, count), sym c.index-end.ensures),
      c.is_end.ensures all places flagged long c.if-is_end.true,
    )
