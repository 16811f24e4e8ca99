use Rattle.std.proofs.Common.{◌≡◌, ℕ, ◌+◌, Some, refl, sym, subst, ap, ◌∙◌, rules}
use mir.Val.{SFits, to_z, of_z}
use mir.Syntax.{w32}
use Rattle.std.proofs.lemmas.Int.{to_z-of_z}
use Rattle.kmipa_record.specs.NumberMaps.{value_at}
use Rattle.kmipa_stream.specs.Seeing.{HoldsSo, released}
use Rattle.kmipa_stream.specs.declared.seen.SeenCall.{SeenCall}
use Rattle.kmipa_stream.specs.declared.seen.Held.{Held}
use Rattle.kmipa_stream.specs.declared.seen.Held.TheVariants.{Whole}
use Rattle.kmipa_stream.proofs.SeeingLemmas.{seen_let_go, seen_end, ended_here, seen_whole, known_number, keep_put, let_go_there}
use Rattle.kmipa_stream.proofs.seen.Seen.end.Goals as goal

pub returns-clause-seen : goal.returns-clause-seen
returns-clause-seen c = λ marks are r.
    let old = c.args.self.now in
    let place = c.in-Some-get.place in
    let z = c.in-Some-release.call in
    let go = c.in-Some-release.ensures in
    let middle = c.release.new.self in
    let known : value_at old.places c.args.end.call ≡ Some place = search rules in
    let known' : value_at middle.places c.args.end.call ≡ Some place = (let P : _ → Type 0 = λ m. value_at m c.args.end.call ≡ Some place in subst P (sym go.2) known) in
    let i = are.each place z go.0 in
    let Q : Held → Type 0 = λ x. HoldsSo marks z x in
    let h = subst Q c.in-Open.is i.held in
    let number = known_number marks old place z c.args.end.call are known go.0 in
    let fits : SFits w32 c.in-Some-release.call.number = search rules in
    let same = to_z-of_z w32 c.in-Some-release.call.number fits in
    let s : SeenCall = record { number = to_z w32 (of_z w32 c.in-Some-release.call.number); begin = z.begin; end = Some middle.count; held = Whole c.in-Open.asked c.args.end.message } in
    let are' = seen_let_go marks old middle place z go.0 go.1 go.2 go.3 are in
    let there = let_go_there old middle place z go.0 go.1 in
    let both = ended_here marks z s c.args.end.call c.in-Open.asked.items c.args.end.message.items h.0 number same refl (ap Some are'.count) in
    seen_end marks middle _ place (released z) s c.args.end.call c.args.end.message.items are' there known' refl refl (c.in-Some.ensures.1 ∙ ap (λ (n : ℕ). n + 1) (sym go.3)) same refl
    (seen_whole _ s c.in-Open.asked.items c.args.end.message.items both.0 both.1 both)

pub returns-clause-kept : goal.returns-clause-kept
returns-clause-kept c =
    keep_put c.args.self.now.calls.items c.release.new.self.calls.items _ c.in-Some-get.place (released c.in-Some-release.call) _ c.in-Some-release.ensures.1 refl (λ e. absurd cc)
