use Rattle.std.proofs.Common.{◌≡◌, ◌∙◌, ap, sym, refl, None, List, slice_get, option_map}
use Rattle.kmipa_object.proofs.ListLemmas.{get-map, get_past, map-set, updated-none}
use Rattle.kmipa_store.specs.Ledger.{Known}
use Rattle.kmipa_store.specs.Secrets.{known_of, secrets_of, forgotten}
use Rattle.kmipa_store.proofs.secrets.Secrets.forget.Goals as goal

pub returns-in_default : goal.returns-in_default
returns-in_default c =
    let ss = c.self.inside.by_number.items in
    let none : slice_get (secrets_of ss) c.args.number ≡ None = get-map known_of ss c.args.number ∙ ap (option_map known_of) (get_past ss c.args.number c.in_default.ensures.item.3) in
    sym (updated-none (secrets_of ss) c.args.number (λ (k : Known). record { rule = k.rule; bytes = None }) none)
    ∙ ap (λ (ks : List Known). forgotten ks c.args.number) c.self.view_is

pub returns : goal.returns
returns c =
    let s = c.in-Some.secret.now in
    let ss = c.self.inside.by_number.items in
    map-set known_of (λ (k : Known). record { rule = k.rule; bytes = None }) ss c.args.number s (record { rule = s.rule; bytes = None }) c.in-Some.ensures.value refl
    ∙ ap (λ (ks : List Known). forgotten ks c.args.number) c.self.view_is
