use Rattle.std.proofs.Common.{rules, ◌≡◌, length, to_z, of_z, w32}
use Rattle.kmipa_record.specs.declared.transcript.Mark.TheVariants.{Begin, End}
use Rattle.kmipa_links.proofs.LinkLemmas.{taken_call, taken_end}
use Rattle.kmipa_links.proofs.links.Links.take.Goals as goal

pub returns-in-Begin : goal.returns-in-Begin
returns-in-Begin c = λ before marks taken recorded.
    let is : c.args.mark.now ≡ Begin c.in-Begin.begin = search rules in
    let number : to_z w32 (of_z w32 c.in-Begin.begin.call) ≡ c.in-Begin.begin.call = search rules in
    let place : c.len-place.result ≡ length c.args.self.now.names.items = search rules in
    taken_call before marks c.args.mark.now c.in-Begin.begin c.args.self.now c.take_number.new.calls c.args.clash c.take_number.result c.len-place.result (to_z w32 (of_z w32 c.in-Begin.begin.call))
    is number place taken recorded c.take_number.ensures

pub returns-in-End : goal.returns-in-End
returns-in-End c = λ before marks taken recorded.
    let is : c.args.mark.now ≡ End c.in-End.field-0 = search rules in
    taken_end before marks c.args.mark.now c.in-End.field-0 c.args.self.now c.args.clash is taken
