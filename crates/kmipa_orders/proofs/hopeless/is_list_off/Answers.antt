use Rattle.std.proofs.Common.{◌∙◌, List, ℕ, Some, map, option_map, sym, ap}
use Rattle.kmipa_attrs.specs.Filters.{filter_of}
use Rattle.kmipa_attrs.specs.declared.filter.Filter.{Filter}
use Rattle.kmipa_msgs.specs.declared.response.Located.{Located}
use Rattle.kmipa_msgs.specs.Messages.{answer_of, ask_of, asked_of, lent, located, located_of, locates, payload_of}
use Rattle.kmipa_orders.proofs.HopelessLemmas.{list_off, lists_these}
use Rattle.kmipa_orders.proofs.hopeless.is_list_off.Goals as goal
use denote.Bor.{Bor}

pub returns-in-Some : goal.returns-in-Some
returns-in-Some c =
    list_off (ask_of c.args.ask.now) (answer_of c.args.answer.now) (filter_of c.deref.result.now) (map lent c.as_slice.result.now) c.is_listed_wrongly.result
    (ap asked_of c.in-Locate.is ∙ ap (λ (f : Filter). locates (filter_of f)) (sym c.deref.ensures))
    c.requires
    (lists_these (option_map payload_of c.args.answer.now.payload) (located_of c.in-Some.located.now) (sym c.listed_in.ensures ∙ ap (option_map (λ (x : Bor Located). located_of x.now)) c.in-Some.is)
    ∙ ap (λ (l : List (Bor (List ℕ))). Some (located (map lent l))) (sym c.as_slice.ensures.value))
    c.is_listed_wrongly.ensures
