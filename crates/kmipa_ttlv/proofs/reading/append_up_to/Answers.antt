use Rattle.std.proofs.Common.{rules, ◌≡◌, ◌+◌, ◌-◌, ◌++◌, length, take, replicate, vec_len, ap, sym, ◌∙◌, arith}
use Rattle.kmipa_ttlv.specs.Input.{came_of}
use Rattle.kmipa_ttlv.proofs.FillLemmas.{appended_filled, kept}
use Rattle.kmipa_ttlv.proofs.reading.append_up_to.Goals as goal

pub returns-clause-came : goal.returns-clause-came
returns-clause-came g c =
    let old = c.args.out.now.items in
    let start = c.len-start.result in
    let room = c.resize.new.self.items in
    let grown : room ≡ take (start + c.args.most) old ++ replicate (start + c.args.most - length old) 0 = search rules in
    let same : take start room ≡ old = ap (take start) grown ∙ kept old _ start (start + c.args.most) (search rules) (omega arith) in
    let behind = appended_filled old room c.fill.new.buf c.truncate.new.self.items start c.in-Some.got (vec_len c.resize.new.self) (search rules) same (search rules) (search rules) (search rules) c.truncate.ensures.items in
    c.in-Some.ensures.came ∙ ap (λ l. came_of c.args.input.now ++ l) (sym behind)
