use Rattle.std.proofs.Common.{◌-◌, bytes_eq, vec_len}
use Rattle.kmipa_record.specs.Declarations.{declaration_of}
use Rattle.kmipa_record.specs.Entries.{EntryOf}
use Rattle.kmipa_explain.proofs.KeptLemmas.{AnyFrom}
use Rattle.kmipa_explain.proofs.story.is_declared.Given as goal

abbrev pub invariant-entries : goal.invariant-entries
invariant-entries l = AnyFrom (λ (e : EntryOf). bytes_eq e.id l.id) (declaration_of l.declaration).entries l.place

abbrev pub decreases-entries : goal.decreases-entries
decreases-entries l = vec_len l.declaration.entries - l.place
