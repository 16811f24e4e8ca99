-- IN WHICH FORM IT IS TOLD (profile): in lines, or in one object, which has what each object has.
use Rattle.std.specs.Prelude.{◌≡◌, ℕ, List, codes, Option, Some, None}
use Rattle.serde_json.specs.Data.{Items, Members, item, no_items, object}
use Rattle.kmipa_ttlv.specs.Input.{came_of}
use Rattle.kmipa_ttlv.specs.declared.input.Input.{Input}
use Rattle.kmipa_record.specs.declared.head.Head.{Head}
use Rattle.kmipa_telling.specs.Telling.{input_members, opened, transcript_members}
use Rattle.kmipa_judge.specs.declared.form.JudgeForm.{JudgeForm}
use Rattle.kmipa_judge.specs.declared.form.JudgeForm.TheVariants.{Lines, Object}

-- the declaration that is read, where one is given
abbrev pub declaration_items : {R : Type 0} → Option (Input R) → Items
declaration_items None = no_items
declaration_items (Some d) = item (object (input_members (codes "declaration") d)) no_items

-- the files of a judging; of a torn transcript so many bytes are its own
abbrev pub judge_files : {R : Type 0} → Option ℕ → Option Head → Input R → Option (Input R) → Items
judge_files torn known t d = item (object (transcript_members torn known t)) (declaration_items d)

-- what an object has whatever it tells: the auditor's version and the files, with the head of a sealed transcript where it is told; lines have nothing
abbrev pub ahead : {R : Type 0} → JudgeForm → Option Head → Input R → Option (Input R) → Option Members
ahead Lines known t d = None
ahead (Object torn) known t d = Some (opened (judge_files torn known t d))

-- What came of a file is held, where an object is to tell of it.
abbrev pub IsHeld : {R : Type 0} → JudgeForm → List ℕ → Input R → Type 0
IsHeld Lines held i = Unit {0}
IsHeld (Object torn) held i = held ≡ came_of i
