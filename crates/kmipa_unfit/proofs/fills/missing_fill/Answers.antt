use Rattle.std.proofs.Common.{rules, ◌≡◌, ◌∙◌, length, map, vec_len, refl, ap, arith}
use Rattle.std.proofs.lemmas.List.{length-map}
use Rattle.kmipa_msgs.specs.Messages.{AskOf, ask_of, request_of, response_of}
use Rattle.kmipa_record.specs.Witnesses.{fill_of}
use Rattle.kmipa_check.proofs.FillLemmas.{pair_left}
use Rattle.kmipa_check.proofs.FillingLemmas.{have_all}
use Rattle.kmipa_check.proofs.PlaceLemmas.{mapped_at}
use Rattle.kmipa_unfit.specs.UnfitParts.{number_asked}
use Rattle.kmipa_unfit.proofs.fills.missing_fill.Goals as goal

pub returns-then-not-has_fill : goal.returns-then-not-has_fill
returns-then-not-has_fill c =
    let request = request_of c.args.request.now in
    let response = response_of c.args.response.now in
    let w = c.if-is_wanted_at.ensures in
    let len : vec_len c.args.request.now.items ≡ length c.args.request.now.items.items = search rules in
    let asked = mapped_at ask_of c.args.request.now.items.items c.items.place c.index.result.now (omega (arith, c.items-test.true, c.len.ensures, len)) c.index.ensures in
    let left = pair_left request.items response.items c.items.place w.0 w.1 w.2.there in
    let same : ask_of c.index.result.now ≡ w.0 = cc in
    record {
      place = c.items.place;
      counted = refl;
      ask = w.0;
      answer = w.1;
      waits = w.2;
      operation = c.number.ensures ∙ ap (λ (a : AskOf). number_asked a) same;
      none = c.if-not-has_fill.ensures;
      before = c.items.invariant;
    }

pub returns : goal.returns
returns c =
    let len : vec_len c.args.request.now.items ≡ length c.args.request.now.items.items = search rules in
    absurd (c.requires (have_all (request_of c.args.request.now) (response_of c.args.response.now) (map fill_of c.args.fills.now) c.items.place c.items.invariant
    (omega (arith, c.items-test.false, c.len.ensures, len, length-map c.args.request.now.items.items ask_of))))
