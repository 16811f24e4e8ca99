use Rattle.std.proofs.Common.{◌≡◌, ◌<◌, ◌+◌, ◌-◌, [], ◌∷◌, length, suc, ap, refl, arith, rules}
use Rattle.std.specs.Prelude.{vec_len}
use Rattle.std.proofs.lemmas.List.{length-append}
use Rattle.kmipa_orders.specs.declared.open.descent.OpenDescent.{OpenDescent}
use Rattle.kmipa_orders.proofs.GuessLemmas.{some_marks}
use Rattle.kmipa_orders.proofs.DescentLemmas.{descends_back}
use Rattle.kmipa_orders.proofs.open.descent.OpenDescent.go_back.Goals as goal

pub back-requires : goal.back-requires
back-requires g c = c.requires.deep (omega (arith, ap length c.in-Some.ensures.items, length-append c.pop.new.self.items (c.in-Some.visit ∷ [])))

pub returns-clause-moves : goal.returns-clause-moves
returns-clause-moves g c =
    let d = c.args.self.now in
    let long : length d.path.items ≡ suc (length c.pop.new.self.items) = omega (arith, ap length c.in-Some.ensures.items, length-append c.pop.new.self.items (c.in-Some.visit ∷ [])) in
    let old : length d.turns.items ≡ vec_len d.turns = search rules in
    let new : length c.truncate.new.self.items ≡ vec_len c.truncate.new.self = search rules in
    let less : length c.truncate.new.self.items + 1 ≡ length d.turns.items = omega (arith, c.truncate.ensures.len, c.requires.turned, long, old, new) in
    let e : OpenDescent = record {
      standing = c.give_back.new.self;
      ends = c.note.new.self;
      front = d.front;
      place = c.put_back.new.place;
      path = c.pop.new.self;
      turns = c.truncate.new.self;
      depth = d.depth - 1;
      steps = d.steps;
    } in
    descends_back d (g.L.Ledger.state c.args.ledger.now) c.requires e (g.L.Ledger.state c.back.new.self) long less refl refl c.back.ensures.meaning

pub overflow_sub-self : goal.overflow_sub-self
overflow_sub-self g c =
    let d = c.args.self.now in
    let marks = (g.L.Ledger.state c.args.ledger.now).marks in
    let some : 0 < length d.path.items = omega (arith, ap length c.in-Some.ensures.items, length-append c.pop.new.self.items (c.in-Some.visit ∷ [])) in
    omega (arith, c.requires.deep some, some_marks (length d.path.items) marks some c.requires.after)
