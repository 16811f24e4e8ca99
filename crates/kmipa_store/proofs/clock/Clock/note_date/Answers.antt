use Rattle.std.proofs.Common.{◌≡◌, ℤ, false, Some, None, Ok, ap, sym, ◌∙◌, subst, rules, to_z, of_z}
use Rattle.std.specs.Prelude.{int_le}
use mir.Val.{SFits}
use mir.Syntax.{w64}
use Rattle.std.proofs.lemmas.Int.{to_z-of_z}
use Rattle.kmipa_store.specs.Clock.{NotesDate, Time}
use Rattle.kmipa_store.proofs.DueLemmas.{noted_again, noted_fresh}
use Rattle.kmipa_store.proofs.clock.Clock.note_date.Goals as goal

pub returns-then-fresh : goal.returns-then-fresh
returns-then-fresh c =
    let s : Time = record { moment = c.self.inside.moment; states = c.self.inside.states; due = record { floor = c.self.inside.floor; keys = c.self.inside.due.keys } } in
    let fits : SFits w64 c.in-Some.date = search rules in
    let date : ℤ = to_z w64 (of_z w64 c.in-Some.date) in
    let is : c.args.date ≡ Some date = c.in-Some.is ∙ ap (λ (x : ℤ). Some x) (sym (to_z-of_z w64 c.in-Some.date fits)) in
    let here : SFits w64 s.moment = search rules in
    let later : int_le date s.moment ≡ false = ap (int_le date) (sym (to_z-of_z w64 s.moment here)) ∙ c.if-date-self.false in
    subst (λ (x : Time). NotesDate x c.args.place c.args.date (Ok (Some date)) (record s { due = record { floor = s.due.floor; keys = c.insert.new.self.keys } })) c.self.view_is
    (noted_fresh s c.args.place c.args.date date c.insert.new.self.keys is later c.in-Ok.ensures.keys (sym c.if-fresh.true ∙ c.in-Ok.ensures.added))

pub returns : goal.returns
returns c =
    let s : Time = record { moment = c.self.inside.moment; states = c.self.inside.states; due = record { floor = c.self.inside.floor; keys = c.self.inside.due.keys } } in
    let fits : SFits w64 c.in-Some.date = search rules in
    let date : ℤ = to_z w64 (of_z w64 c.in-Some.date) in
    let is : c.args.date ≡ Some date = c.in-Some.is ∙ ap (λ (x : ℤ). Some x) (sym (to_z-of_z w64 c.in-Some.date fits)) in
    let here : SFits w64 s.moment = search rules in
    let later : int_le date s.moment ≡ false = ap (int_le date) (sym (to_z-of_z w64 s.moment here)) ∙ c.if-date-self.false in
    let same : c.insert.new.self.keys ≡ s.due.keys = search rules in
    subst (λ (x : Time). NotesDate x c.args.place c.args.date (Ok None) (record s { due = record { floor = s.due.floor; keys = c.insert.new.self.keys } })) c.self.view_is
    (noted_again s c.args.place c.args.date date c.insert.new.self.keys is later c.in-Ok.ensures.keys same)
