use Rattle.std.proofs.Common.{map}
use Rattle.kmipa_record.specs.Transcripts.{transcript_of}
use Rattle.kmipa_check.specs.Calls.{call_of}
use Rattle.kmipa_orders.proofs.GuessLemmas.{own_recorded}
use Rattle.kmipa_search.proofs.searching.search_left_out.Goals as goal

pub all_plain-requires : goal.all_plain-requires
all_plain-requires g c =
    own_recorded (transcript_of c.args.transcript.now) (map call_of c.args.calls.now) c.in_ok-own.own.items c.deref.result.now c.deref.ensures.value c.in_ok-own.ensures c.requires.each

pub search_guessing-requires-clause-recorded : goal.search_guessing-requires-clause-recorded
search_guessing-requires-clause-recorded g c =
    own_recorded (transcript_of c.args.transcript.now) (map call_of c.args.calls.now) c.in_ok-own.own.items c.deref-in-None.result.now c.deref-in-None.ensures.value c.in_ok-own.ensures c.requires.each
