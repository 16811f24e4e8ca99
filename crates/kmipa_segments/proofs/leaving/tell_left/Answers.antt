use Rattle.std.proofs.Common.{inl, ◌∙◌}
use Rattle.std.specs.Prelude.{string_bytes}
use Rattle.std.specs.Io.{appended_bytes}
use Rattle.kmipa_segments.proofs.LeavingLemmas.{appended_whole, left_made, left_refused, nothing_appended}
use Rattle.kmipa_segments.proofs.leaving.tell_left.Goals as goal

pub returns-in-Err-clause-tells : goal.returns-in-Err-clause-tells
returns-in-Err-clause-tells c =
    left_refused c.args.answer.now c.args.left.now c.in-Err.fault c.tell_unwritten.result (appended_bytes c.args.out.now.items c.tell_unwritten.new.out.items)
    (appended_bytes c.args.made.now.items c.write_declaration.new.out.items) c.in-Err.ensures.refused c.tell_unwritten.ensures.tells
    (nothing_appended c.args.made.now.items c.write_declaration.new.out.items c.in-Err.ensures.same)

pub returns-clause-tells : goal.returns-clause-tells
returns-clause-tells c =
    let lines = appended_bytes c.args.out.now.items c.extend_from_slice.new.self.items in
    let same = appended_whole c.extend_from_slice.result c.is_err.result c.args.out.now.items c.extend_from_slice.new.self.items c.as_bytes.result.now
    c.extend_from_slice.ensures.items c.is_err.ensures.value c.if-is_err.false ∙ c.as_bytes.ensures.value in
    inl (left_made c.args.answer.now c.args.left.now (string_bytes c.in-Ok.text) lines c.args.made.now.items c.write_declaration.new.out.items
    c.in-Ok.ensures same c.in_default-write_declaration.ensures.written)
