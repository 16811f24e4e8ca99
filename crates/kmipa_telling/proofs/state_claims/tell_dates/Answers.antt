use Rattle.std.proofs.lemmas.Result.{on_ok_weaker}
use Rattle.kmipa_json.specs.Told.{members_of}
use Rattle.kmipa_telling.proofs.state_claims.tell_dates.Goals as goal

pub returns : goal.returns
returns c =
    on_ok_weaker c.tell_moment-5.result (λ last. (
      members_of c.tell_moment.new.told,
      c.in_ok-tell_moment.ensures,
      (
        members_of c.tell_moment-2.new.told,
        c.in_ok-tell_moment-2.ensures,
        (
          members_of c.tell_moment-3.new.told,
          c.in_ok-tell_moment-3.ensures,
          (members_of c.tell_moment-4.new.told, c.in_ok-tell_moment-4.ensures, last),
        ),
      ),
    )) c.tell_moment-5.ensures
