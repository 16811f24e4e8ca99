use Rattle.std.proofs.Common.{◌≡◌, ◌∙◌, map, length, sym, refl}
use Rattle.std.proofs.lemmas.List.{length-map}
use Rattle.kmipa_places.specs.Calls.{read_of}
use Rattle.kmipa_places.specs.Places.{place_of}
use Rattle.kmipa_bundle.proofs.OrderLemmas.{whole_reported}
use Rattle.kmipa_bundle.proofs.readable.is_whole_call.Goals as goal

pub returns : goal.returns
returns c =
    let long : c.len.result ≡ length (map place_of c.args.call.now.places.items) = c.len.ensures ∙ c.args.call.now.places.ok.0 ∙ sym (length-map c.args.call.now.places.items place_of) in
    whole_reported (read_of c.args.call.now) c.answered_count.result c.len.result long c.answered_count.ensures.asks c.answered_count.ensures.answers c.answered_count.ensures.all _ refl
