use Rattle.std.proofs.Common.{inl}
use Rattle.kmipa_check.specs.Calls.{call_of}
use Rattle.kmipa_stream.proofs.SeeingLemmas.{seen_ahead, seen_let_go}
use Rattle.kmipa_stream.proofs.StandingLemmas.{read_more, read_outside, lets_go_at}
use Rattle.kmipa_stream.proofs.auditor.Auditor.read.Goals as goal

pub returns-in-Ok-clause-stands : goal.returns-in-Ok-clause-stands
returns-in-Ok-clause-stands c = λ marks turns declared s.
    let old = c.args.self.now in
    let new = c.release_whole.new.self in
    let call = c.in-Some.call in
    let go = c.in-Some.ensures in
    let i = s.seen.each c.args.place call go.0.0 in
    record {
      seen = seen_let_go marks old.seen new c.args.place call go.0.0 go.0.1 go.0.2 go.0.3 s.seen;
      ends = s.ends;
      read =
          read_more c.args.closed marks old.lowest old.lowest old.seen.calls.items new.calls.items c.args.place call go.0.1 s.read (λ begin h. h)
          (inl (λ all a. let q = c.in-Ok.ensures all (seen_ahead c.args.closed marks all call a go.1 i) in (call_of c.in-Ok.field-0, q.0, q.1)));
      found = s.found;
      replay = s.replay;
    }

pub returns-in-Ok-clause-let_go : goal.returns-in-Ok-clause-let_go
returns-in-Ok-clause-let_go c = λ closed. lets_go_at c.args.self.now.seen.calls.items c.release_whole.new.self.calls.items c.args.place c.in-Some.call c.in-Some.ensures.0.1

pub returns-clause-stands : goal.returns-clause-stands
returns-clause-stands c = λ marks turns declared s.
    let old = c.args.self.now in
    let new = c.release_whole.new.self in
    let call = c.in-Some.call in
    let go = c.in-Some.ensures in
    let i = s.seen.each c.args.place call go.0.0 in
    let n = c.in_ok-noted-in-Err.ensures marks s.found (c.in-Err.ensures marks i) in
    record {
      seen = seen_let_go marks old.seen new c.args.place call go.0.0 go.0.1 go.0.2 go.0.3 s.seen;
      ends = s.ends;
      read = read_outside c.args.closed marks old.lowest c.in_ok-noted-in-Err.field-0 old.seen.calls.items new.calls.items c.args.place call go.0.1 s.read n.1;
      found = n.0;
      replay = s.replay;
    }

pub returns-clause-let_go : goal.returns-clause-let_go
returns-clause-let_go c = λ closed. lets_go_at c.args.self.now.seen.calls.items c.release_whole.new.self.calls.items c.args.place c.in-Some.call c.in-Some.ensures.0.1
