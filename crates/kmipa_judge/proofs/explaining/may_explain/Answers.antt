use Rattle.kmipa_record.specs.Declarations.{declaration_of}
use Rattle.kmipa_judge.proofs.RuleLemmas.{no_objects}
use Rattle.kmipa_judge.proofs.explaining.may_explain.Goals as goal

pub is_explained_by-requires : goal.is_explained_by-requires
is_explained_by-requires g c = no_objects (declaration_of c.in_ok-declaration.declaration) c.in_ok-declaration.ensures
