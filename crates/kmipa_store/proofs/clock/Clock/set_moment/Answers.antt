use Rattle.std.proofs.Common.{◌≡◌, ℤ, false, ap, sym, ◌∙◌, subst, rules, to_z, of_z}
use Rattle.std.specs.Prelude.{int_lt}
use Rattle.std.specs.Int.{int_min}
use mir.Val.{SFits}
use mir.Syntax.{w64}
use Rattle.std.proofs.lemmas.Int.{to_z-of_z}
use Rattle.kmipa_store.specs.Clock.{Awaits, Dues, Time}
use Rattle.kmipa_store.proofs.DueLemmas.{awaits_above}
use Rattle.kmipa_store.proofs.clock.Clock.set_moment.Goals as goal

pub look_over-requires-clause-awaited : goal.look_over-requires-clause-awaited
look_over-requires-clause-awaited c =
    let due : Dues = record { floor = c.self.inside.floor; keys = c.self.inside.due.keys } in
    let least : ℤ = c.min.result in
    let low : ℤ = int_min (to_z w64 (of_z w64 c.self.inside.moment)) (to_z w64 (of_z w64 c.args.t)) in
    let fits : SFits w64 least = search rules in
    let floor_fits : SFits w64 due.floor = search rules in
    let above : int_lt least due.floor ≡ false =
    ap (λ (x : ℤ). int_lt x due.floor) (sym (to_z-of_z w64 least fits)) ∙ ap (int_lt (to_z w64 (of_z w64 least))) (sym (to_z-of_z w64 due.floor floor_fits)) ∙ c.if-min-self.false in
    awaits_above c.args.objects.now due least low above c.min.ensures.value (subst (λ (x : Time). Awaits c.args.objects.now x.due) (sym c.self.view_is) c.requires.awaited)
