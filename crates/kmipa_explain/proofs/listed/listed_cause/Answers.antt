use Rattle.std.proofs.Common.{rules, FitsSigned, ◌≡◌, ℕ, ℤ, None, cond, length, vec_len, w64, sym, subst, arith}
use Rattle.std.proofs.lemmas.Int.{to_z-of_z}
use Rattle.std.proofs.lemmas.List.{length-map}
use Rattle.kmipa_attrs.specs.Filters.{filter_of}
use Rattle.kmipa_msgs.specs.Messages.{answer_of, ask_of, lent, located_of}
use Rattle.kmipa_record.specs.Declarations.{declaration_of}
use Rattle.kmipa_ops.specs.Locate.{is_over}
use Rattle.kmipa_explain.specs.Listed.{TellsWrongs}
use Rattle.kmipa_explain.proofs.ListedLemmas.{some_wrong}
use Rattle.kmipa_explain.proofs.listed.listed_cause.Goals as goal

pub returns : goal.returns
returns c =
    let fits : FitsSigned w64 c.args.t = search rules in
    let held = declaration_of c.args.held.now in
    let ask = ask_of c.args.ask.now in
    let answer = answer_of c.args.answer.now in
    let q = filter_of c.in-Some.filter.now in
    let ids = located_of c.in-Some-located_in.located.now in
    let items = c.in-Some-located_in.located.now.ids in
    let long : length items.items ≡ vec_len items = search rules in
    let count : c.len-listed.result ≡ length ids = omega (arith, c.len-listed.ensures, long, length-map items.items lent) in
    let P : ℤ → Type 0 = λ z. TellsWrongs held z q ids c.in_ok-wrong.wrong.items in
    let wrong = subst P (to_z-of_z w64 c.args.t fits) c.in_ok-wrong.ensures in
    let N : ℕ → Type 0 = λ n. c.maximum_passed.result ≡ cond (is_over q.maximum n) q.maximum None in
    let maximum = subst N count c.maximum_passed.ensures in
    record {
      filter = q;
      ids = ids;
      locate = record {
        asks = sym c.in-Some.ensures;
        lists = sym c.in-Some-located_in.ensures;
      };
      count = count;
      maximum = maximum;
      wrong = wrong;
      some = some_wrong held c.args.t ask answer q ids c.maximum_passed.result c.in_ok-wrong.wrong.items c.requires (sym c.in-Some.ensures) (sym c.in-Some-located_in.ensures) maximum wrong;
    }
