use Rattle.std.proofs.Common.{ap, refl}
use Rattle.kmipa_msgs.specs.Messages.{asked_of}
use Rattle.kmipa_ops.proofs.TakenLemmas.{taken_as}
use Rattle.kmipa_ops.proofs.taking.take_asked.Goals as goal

pub returns-in-Create : goal.returns-in-Create
returns-in-Create g c = taken_as _ _ _ _ _ _ _ _ refl (ap asked_of c.in-Create.is) c.take_deed.ensures

pub returns-in-Register : goal.returns-in-Register
returns-in-Register g c = taken_as _ _ _ _ _ _ _ _ refl (ap asked_of c.in-Register.is) c.take_deed-in-Register.ensures

pub returns-in-Locate : goal.returns-in-Locate
returns-in-Locate g c = taken_as _ _ _ _ _ _ _ _ refl (ap asked_of c.in-Locate.is) c.take_deed-in-Locate.ensures

pub returns-in-Get : goal.returns-in-Get
returns-in-Get g c = taken_as _ _ _ _ _ _ _ _ refl (ap asked_of c.in-Get.is) c.take_deed-in-Get.ensures

pub returns-in-GetAttributes : goal.returns-in-GetAttributes
returns-in-GetAttributes g c = taken_as _ _ _ _ _ _ _ _ refl (ap asked_of c.in-GetAttributes.is) c.take_deed-in-GetAttributes.ensures

pub returns-in-Activate : goal.returns-in-Activate
returns-in-Activate g c = taken_as _ _ _ _ _ _ _ _ refl (ap asked_of c.in-Activate.is) c.take_deed-in-Activate.ensures

pub returns-in-Revoke : goal.returns-in-Revoke
returns-in-Revoke g c = taken_as _ _ _ _ _ _ _ _ refl (ap asked_of c.in-Revoke.is) c.take_deed-in-Revoke.ensures

pub returns-in-Destroy : goal.returns-in-Destroy
returns-in-Destroy g c = taken_as _ _ _ _ _ _ _ _ refl (ap asked_of c.in-Destroy.is) c.take_deed-in-Destroy.ensures

pub returns-in-Idle : goal.returns-in-Idle
returns-in-Idle g c = taken_as _ _ _ _ _ _ _ _ refl (ap asked_of c.in-Idle.is) c.take_deed-in-Idle.ensures

pub returns-in-Other : goal.returns-in-Other
returns-in-Other g c = taken_as _ _ _ _ _ _ _ _ refl (ap asked_of c.in-Other.is) c.take_deed-in-Other.ensures
