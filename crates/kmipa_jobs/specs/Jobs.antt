-- What the options of a check or a search ask for.
use Rattle.std.specs.Prelude.{◌||◌, is_some, Bool, true, false, Option, Some, None}
use Rattle.kmipa_jobs.specs.declared.job.Asked.{Asked}
use Rattle.kmipa_jobs.specs.declared.job.Asked.TheVariants.{Files, Segment}
use Rattle.kmipa_jobs.specs.declared.job.Form.TheVariants.{Lines, Explained, Json, ExplainedJson}
use Rattle.kmipa_jobs.specs.declared.job.FormWords.{FormWords}
use Rattle.kmipa_jobs.specs.declared.job.SegmentWords.{SegmentWords}

-- By whether a segment, JSON and an explanation are asked for: a segment is told in one form alone.
abbrev pub asked_where : Bool → Bool → Bool → Option Asked
asked_where false false false = Some (Files Lines)
asked_where false false true = Some (Files Explained)
asked_where false true false = Some (Files Json)
asked_where false true true = Some (Files ExplainedJson)
asked_where true false false = Some Segment
asked_where true false true = None
asked_where true true explain = None

abbrev pub asked_of : FormWords → SegmentWords → Option Asked
asked_of form segment = asked_where (is_some segment.leaves || is_some segment.not_before) form.json form.explain
