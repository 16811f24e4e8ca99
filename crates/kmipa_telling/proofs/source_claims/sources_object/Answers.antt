use Rattle.std.proofs.Common.{codes, subst}
use Rattle.serde_json.specs.Data.{Members}
use Rattle.kmipa_json.specs.Told.{members_of}
use Rattle.kmipa_telling.specs.SourceClaims.{TellsSourceAs}
use Rattle.kmipa_telling.proofs.source_claims.sources_object.Goals as goal

pub returns : goal.returns
returns c =
    let P : Members → Type 0 = λ before. TellsSourceAs (codes "object") c.args.whence.object before (members_of c.tell_source.new.told) in
    record {
      object = members_of c.tell_source.new.told;
      tells_object = subst P c.new-told.ensures c.in_ok-tell_source.ensures;
      state = members_of c.tell_source-2.new.told;
      tells_state = c.in_ok-tell_source-2.ensures;
      initial = members_of c.tell_source-3.new.told;
      tells_initial = c.in_ok-tell_source-3.ensures;
      activation = members_of c.tell_source-4.new.told;
      tells_activation = c.in_ok-tell_source-4.ensures;
      deactivation = members_of c.tell_source-5.new.told;
      tells_deactivation = c.in_ok-tell_source-5.ensures;
      destroy = members_of c.tell_source-6.new.told;
      tells_destroy = c.in_ok-tell_source-6.ensures;
      compromise = members_of c.tell_source-7.new.told;
      tells_compromise = c.in_ok-tell_source-7.ensures;
      tells_bytes = c.in_ok-tell_source-8.ensures;
    }
