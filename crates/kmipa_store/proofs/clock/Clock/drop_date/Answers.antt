use Rattle.std.proofs.Common.{◌≡◌, ℤ, List, Some, ap, sym, ◌∙◌, rules}
use mir.Val.{SFits}
use mir.Syntax.{w64}
use Rattle.std.proofs.lemmas.Int.{to_z-of_z}
use Rattle.kmipa_store.specs.Clock.{Due, Time, dropped}
use Rattle.kmipa_store.proofs.clock.Clock.drop_date.Goals as goal

pub returns-in-Some : goal.returns-in-Some
returns-in-Some c =
    let s : Time = record { moment = c.self.inside.moment; states = c.self.inside.states; due = record { floor = c.self.inside.floor; keys = c.self.inside.due.keys } } in
    let fits : SFits w64 c.in-Some.date = search rules in
    let e : c.remove.new.self.keys ≡ dropped s.due.keys c.args.place c.args.date =
    c.remove.ensures.keys ∙ ap (λ (d : ℤ). dropped s.due.keys c.args.place (Some d)) (to_z-of_z w64 c.in-Some.date fits) ∙ ap (dropped s.due.keys c.args.place) (sym c.in-Some.is) in
    ap (λ (ds : List Due). record s { due = record { floor = s.due.floor; keys = ds } }) e ∙ ap (λ (x : Time). record x { due = record x.due { keys = dropped x.due.keys c.args.place c.args.date } }) c.self.view_is
