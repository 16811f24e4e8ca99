use Rattle.std.proofs.Common.{◌≡◌, ◌<◌, ℕ, Bool, Option, Some, None, length, sym, subst, ◌∙◌, arith, rules}
use Rattle.kmipa_record.specs.NumberMaps.{value_at}
use Rattle.kmipa_record.specs.Witnesses.{turn_of}
use Rattle.kmipa_check.specs.Calls.{call_of}
use Rattle.kmipa_check.specs.Deciding.{Decided}
use Rattle.kmipa_check.proofs.PlaceLemmas.{at_within}
use Rattle.kmipa_stream.specs.Replaying.{IsAtEnd, IsRecordedAhead}
use Rattle.kmipa_stream.specs.Standing.{IsDoneBy}
use Rattle.kmipa_stream.specs.Waiting.{IsPassed, Wait}
use Rattle.kmipa_stream.specs.declared.lowest.Found.{Found}
use Rattle.kmipa_stream.specs.declared.replaying.Replay.{Replay}
use Rattle.kmipa_stream.proofs.ReplayingLemmas.{turn_there, twice_ahead}
use Rattle.kmipa_stream.proofs.SeeingLemmas.{seen_ahead, seen_let_go, known_number}
use Rattle.kmipa_stream.proofs.StandingLemmas.{read_more, read_inside, read_outside, unknown_ahead}
use Rattle.kmipa_stream.proofs.auditor.Auditor.take_turn.Goals as goal

pub refuse-requires : goal.refuse-requires
refuse-requires c = at_within c.args.self.now.replay.turns.now c.args.self.now.replay.formed c.args.turn.now c.requires.next

pub refuse-requires-then-is_passed : goal.refuse-requires-then-is_passed
refuse-requires-then-is_passed c = at_within c.args.self.now.replay.turns.now c.args.self.now.replay.formed c.args.turn.now c.requires.next

pub returns-in_default-clause-stands : goal.returns-in_default-clause-stands
returns-in_default-clause-stands c = λ marks turns declared s.
    let a = c.args.self.now in
    let there = turn_there a.replay turns c.args.turn.now s.replay.same c.requires.next in
    let free : value_at a.seen.places c.args.turn.now.call ≡ None = search rules in
    let P : ℕ → Type 0 = λ n. Wait marks turns n a.ends in
    record {
      seen = s.seen;
      ends = subst P (sym c.refuse.ensures.same) s.ends;
      read = s.read;
      found = s.found;
      replay =
          c.refuse.ensures.replays c.args.closed marks turns declared s.replay
          (unknown_ahead c.args.closed marks turns declared a.replay.formed (turn_of c.args.turn.now) a.seen c.if-not-closed.false s.seen free there);
    }

pub returns-then-is_passed-clause-stands : goal.returns-then-is_passed-clause-stands
returns-then-is_passed-clause-stands c = λ marks turns declared s.
    let a = c.args.self.now in
    let there = turn_there a.replay turns c.args.turn.now s.replay.same c.requires.next in
    let Q : Bool → Type 0 = λ b. Decided b (IsPassed turns a.replay.formed c.args.turn.now.call) in
    let d : Decided c.is_passed.result (IsPassed turns a.replay.formed c.args.turn.now.call) = search (rules, c.is_passed.ensures turns s.replay.named) in
    let P : ℕ → Type 0 = λ n. Wait marks turns n a.ends in
    record {
      seen = s.seen;
      ends = subst P (sym c.refuse-then-is_passed.ensures.same) s.ends;
      read = s.read;
      found = s.found;
      replay =
          c.refuse-then-is_passed.ensures.replays c.args.closed marks turns declared s.replay
          (twice_ahead c.args.closed marks turns declared a.replay.formed (turn_of c.args.turn.now) there (subst Q c.if-is_passed.true d) s.replay.formed);
    }

pub take-requires-clause-named : goal.take-requires-clause-named
take-requires-clause-named c =
    let k = c.requires.known in
    let a = c.args.self.now in
    let call = c.in-Some-release_whole.call in
    let go = c.in-Some-release_whole.ensures in
    let known : value_at a.seen.places c.args.turn.now.call ≡ Some c.in-Some.place = search rules in
    let i = k.stands.seen.each c.in-Some.place call go.0.0 in
    sym ((c.in-Ok.ensures k.marks i).2 ∙ known_number k.marks a.seen c.in-Some.place call c.args.turn.now.call k.stands.seen known go.0.0)

pub returns-in-Ok-take-clause-stands : goal.returns-in-Ok-take-clause-stands
returns-in-Ok-take-clause-stands c = λ marks turns declared s.
    let a = c.args.self.now in
    let new = c.release_whole.new.self in
    let call = c.in-Some-release_whole.call in
    let go = c.in-Some-release_whole.ensures in
    let i = s.seen.each c.in-Some.place call go.0.0 in
    let q = c.in-Ok.ensures marks i in
    let x : IsRecordedAhead c.args.closed marks (call_of c.in-Ok.read) = λ all h. (c.in-Ok.ensures all (seen_ahead c.args.closed marks all call h go.1 i)).0 in
    let within : c.in-Ok.read.begin < length marks = omega (arith, q.1, at_within marks call.begin _ i.begun.there) in
    let Q : Bool → Type 0 = λ b. Decided b (IsPassed turns a.replay.formed c.args.turn.now.call) in
    let d : Decided c.is_passed.result (IsPassed turns a.replay.formed c.args.turn.now.call) = search (rules, c.is_passed.ensures turns s.replay.named) in
    let t = c.in-Ok-take.ensures.replays c.args.closed marks turns declared s.replay s.ends x within (subst Q c.if-is_passed.false d) in
    record {
      seen = seen_let_go marks a.seen new c.in-Some.place call go.0.0 go.0.1 go.0.2 go.0.3 s.seen;
      ends = t.1;
      read =
          read_more c.args.closed marks a.lowest a.lowest a.seen.calls.items new.calls.items c.in-Some.place call go.0.1 s.read (λ begin h. h)
          (read_inside c.args.closed marks a.lowest call.begin (call_of c.in-Ok.read) x q.1);
      found = s.found;
      replay = t.0;
    }

pub returns-clause-stands : goal.returns-clause-stands
returns-clause-stands c = λ marks turns declared s.
    let a = c.args.self.now in
    let new = c.release_whole.new.self in
    let call = c.in-Some-release_whole.call in
    let go = c.in-Some-release_whole.ensures in
    let i = s.seen.each c.in-Some.place call go.0.0 in
    let n = c.in_ok-noted-in-Err.ensures marks s.found (c.in-Err.ensures marks i) in
    record {
      seen = seen_let_go marks a.seen new c.in-Some.place call go.0.0 go.0.1 go.0.2 go.0.3 s.seen;
      ends = s.ends;
      read = read_outside c.args.closed marks a.lowest c.in_ok-noted-in-Err.field-0 a.seen.calls.items new.calls.items c.in-Some.place call go.0.1 s.read n.1;
      found = n.0;
      replay = s.replay;
    }

-- a replay at its end makes no step, whatever was found
done_by : (replay : Replay) (lowest : Option Found) → IsAtEnd replay replay.finding → IsDoneBy replay lowest
done_by replay None end = end
done_by replay (Some found) end = tt

pub returns-in-Ok-take-clause-done : goal.returns-in-Ok-take-clause-done
returns-in-Ok-take-clause-done c = λ closed stops. done_by c.take.new.self c.args.self.now.lowest (c.in-Ok-take.ensures.faulty stops)
