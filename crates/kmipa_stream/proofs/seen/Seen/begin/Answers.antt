use Rattle.std.proofs.Common.{◌≡◌, ℕ, None, length, refl, subst, arith, rules}
use mir.Val.{SFits, to_z, of_z}
use mir.Syntax.{w32}
use Rattle.std.proofs.lemmas.Int.{to_z-of_z}
use Rattle.std.specs.String.{string_bytes}
use Rattle.kmipa_record.specs.NumberMaps.{value_at, Sets}
use Rattle.kmipa_stream.specs.declared.seen.Seen.{Seen}
use Rattle.kmipa_stream.specs.declared.seen.SeenCall.{SeenCall}
use Rattle.kmipa_stream.specs.declared.seen.Held.TheVariants.{Open}
use Rattle.kmipa_stream.proofs.SeeingLemmas.{seen_begin, begun_here, held_here, keep_push}
use Rattle.kmipa_stream.proofs.seen.Seen.begin.Goals as goal

pub returns-clause-seen : goal.returns-clause-seen
returns-clause-seen c = λ marks are r.
    let old = c.args.self.now in
    let b = c.args.begin in
    let fits : SFits w32 c.args.begin.call = search rules in
    let same : to_z w32 (of_z w32 c.args.begin.call) ≡ c.args.begin.call = to_z-of_z w32 c.args.begin.call fits in
    let free : value_at old.places c.args.begin.call ≡ None = search rules in
    let s : SeenCall = record { number = to_z w32 (of_z w32 c.args.begin.call); begin = old.count; end = None; held = Open b.message } in
    let sets : Sets old.places c.add.new.self c.args.begin.call c.len-place.result = search rules in
    let T : ℕ → Type 0 = λ n. Sets old.places c.add.new.self c.args.begin.call n in
    let long : c.len-place.result ≡ length old.calls.items = first_of (omega (arith, c.len-place.ensures, old.calls.ok.0), search rules) in
    let here = subst T long sets in
    let new : Seen = record { alloc = old.alloc; calls = c.push.new.self; places = c.add.new.self; count = c.in-Some.count } in
    let h = held_here marks old new c.args.begin.call (string_bytes b.client) b.message.items s are r c.in_ok-push.ensures.items c.in-Some.ensures.1 free here same are.count refl in
    seen_begin marks old new c.args.begin.call (string_bytes b.client) b.message.items s are r c.in_ok-push.ensures.items c.in-Some.ensures.1 free here same are.count refl
    (begun_here marks old new c.args.begin.call (string_bytes b.client) b.message.items s are r c.in_ok-push.ensures.items c.in-Some.ensures.1 free here same are.count refl (h, refl))

pub returns-clause-kept : goal.returns-clause-kept
returns-clause-kept c = keep_push c.args.self.now.calls.items c.push.new.self.items _ c.in_ok-push.ensures.items (λ e. absurd cc)
