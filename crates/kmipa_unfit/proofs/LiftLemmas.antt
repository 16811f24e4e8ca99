-- What is told of fills, of what is given, of an answer and of a turn is told of the whole.
use Rattle.std.proofs.Common.{◌≡◌, ℕ, List, Contains, sym}
use Rattle.kmipa_msgs.specs.Messages.{RequestOf, ResponseOf}
use Rattle.kmipa_record.specs.Witnesses.{TurnOf}
use Rattle.kmipa_check.specs.Calls.{CallOf}
use Rattle.kmipa_check.specs.Grants.{GrantsOf}
use Rattle.kmipa_check.specs.Orders.{NamesBefore}
use Rattle.kmipa_check.specs.Steps.{IsAnswered}
use Rattle.kmipa_check.specs.declared.fault.WitnessKind.{WitnessKind}
use Rattle.kmipa_unfit.specs.Explanations.{TellsCall, TellsTurn}
use Rattle.kmipa_unfit.specs.Finding.{TellsNamedBy}
use Rattle.kmipa_unfit.specs.UnfitFills.{TellsFill}
use Rattle.kmipa_unfit.specs.UnfitTurns.{TellsAnswered, TellsByResponse, TellsGiven}
use Rattle.kmipa_unfit.specs.declared.explanation.Unfit.{Unfit}
use Rattle.kmipa_unfit.specs.declared.explanation.Unfit.TheVariants.{Unknown, Twice, LeftOut, Ended, Open, Answer, Untimely, Ordered, Disordered, FillUnwanted, FillMissing, FillFormless, BirthUnwanted, BirthFormless, Aside}

pub of_fills : (g : GrantsOf) (request : RequestOf) (response : ResponseOf) (t : TurnOf) (kind : WitnessKind) (unfit : Unfit) → TellsFill request response t.fills kind unfit → TellsAnswered g request response t kind unfit
of_fills g request response t kind (Unknown n) h = h
of_fills g request response t kind (Twice n) h = h
of_fills g request response t kind (LeftOut n) h = h
of_fills g request response t kind Ended h = h
of_fills g request response t kind Open h = h
of_fills g request response t kind (Answer o) h = h
of_fills g request response t kind (Untimely f) h = absurd h
of_fills g request response t kind (Ordered o) h = absurd h
of_fills g request response t kind (Disordered d) h = absurd h
of_fills g request response t kind (FillUnwanted u) h = h
of_fills g request response t kind (FillMissing m) h = h
of_fills g request response t kind (FillFormless f) h = h
of_fills g request response t kind (BirthUnwanted u) h = absurd h
of_fills g request response t kind (BirthFormless i) h = absurd h
of_fills g request response t kind (Aside n) h = absurd h

pub of_response : (g : GrantsOf) (c : CallOf) (t : TurnOf) (kind : WitnessKind) (response : ResponseOf) → IsAnswered c t response → (unfit : Unfit) → TellsAnswered g c.request response t kind unfit → TellsGiven g c t kind unfit
of_response g c t kind response answered unfit h = by unfit h
  where
    told : (unfit : Unfit) → TellsAnswered g c.request response t kind unfit → TellsByResponse g c t kind unfit
    told unfit h = record { response = response; answered = answered; tells = h }

    by : (unfit : Unfit) → TellsAnswered g c.request response t kind unfit → TellsGiven g c t kind unfit
    by (Unknown n) h = absurd h
    by (Twice n) h = absurd h
    by (LeftOut n) h = absurd h
    by Ended h = absurd h
    by Open h = absurd h
    by (Answer o) h = absurd h
    by (Untimely f) h = told (Untimely f) h
    by (Ordered o) h = told (Ordered o) h
    by (Disordered d) h = told (Disordered d) h
    by (FillUnwanted u) h = told (FillUnwanted u) h
    by (FillMissing m) h = told (FillMissing m) h
    by (FillFormless f) h = told (FillFormless f) h
    by (BirthUnwanted u) h = told (BirthUnwanted u) h
    by (BirthFormless i) h = told (BirthFormless i) h
    by (Aside n) h = told (Aside n) h

pub of_given : (g : GrantsOf) (calls : List CallOf) (turns : List TurnOf) (place : ℕ) (t : TurnOf) (kind : WitnessKind) (c : CallOf) → Contains calls c → t.call ≡ c.number → (NamesBefore turns place t.call → ⊥)
    → (unfit : Unfit) → TellsGiven g c t kind unfit → TellsTurn g calls turns place t kind unfit
of_given g calls turns place t kind c known named first unfit h = by unfit h
  where
    told : (unfit : Unfit) → TellsGiven g c t kind unfit → TellsCall g calls turns place t kind unfit
    told unfit h = record { call = c; known = known; named = named; first = first; given = h }

    by : (unfit : Unfit) → TellsGiven g c t kind unfit → TellsTurn g calls turns place t kind unfit
    by (Unknown n) h = absurd h.tells
    by (Twice n) h = absurd h.tells
    by (LeftOut n) h = told (LeftOut n) h
    by Ended h = told Ended h
    by Open h = told Open h
    by (Answer o) h = told (Answer o) h
    by (Untimely f) h = told (Untimely f) h
    by (Ordered o) h = told (Ordered o) h
    by (Disordered d) h = told (Disordered d) h
    by (FillUnwanted u) h = told (FillUnwanted u) h
    by (FillMissing m) h = told (FillMissing m) h
    by (FillFormless f) h = told (FillFormless f) h
    by (BirthUnwanted u) h = told (BirthUnwanted u) h
    by (BirthFormless i) h = told (BirthFormless i) h
    by (Aside n) h = told (Aside n) h

pub of_named : (g : GrantsOf) (calls : List CallOf) (turns : List TurnOf) (place : ℕ) (t : TurnOf) (kind : WitnessKind) (c : CallOf) → Contains calls c → t.call ≡ c.number → (unfit : Unfit)
    → TellsNamedBy g c turns place t kind unfit → TellsTurn g calls turns place t kind unfit
of_named g calls turns place t kind c known named unfit h = by unfit h
  where
    told : (unfit : Unfit) → (NamesBefore turns place t.call → ⊥) × TellsGiven g c t kind unfit → TellsTurn g calls turns place t kind unfit
    told unfit h = of_given g calls turns place t kind c known named h.0 unfit h.1

    by : (unfit : Unfit) → TellsNamedBy g c turns place t kind unfit → TellsTurn g calls turns place t kind unfit
    by (Unknown n) h = told (Unknown n) h
    by (Twice n) h = (h.0, (c, known, sym named), h.1)
    by (LeftOut n) h = told (LeftOut n) h
    by Ended h = told Ended h
    by Open h = told Open h
    by (Answer o) h = told (Answer o) h
    by (Untimely f) h = told (Untimely f) h
    by (Ordered o) h = told (Ordered o) h
    by (Disordered d) h = told (Disordered d) h
    by (FillUnwanted u) h = told (FillUnwanted u) h
    by (FillMissing m) h = told (FillMissing m) h
    by (FillFormless f) h = told (FillFormless f) h
    by (BirthUnwanted u) h = told (BirthUnwanted u) h
    by (BirthFormless i) h = told (BirthFormless i) h
    by (Aside n) h = told (Aside n) h

-- what is told of what the turn gives is told of it as the first that names the call
pub of_first : (g : GrantsOf) (c : CallOf) (turns : List TurnOf) (place : ℕ) (t : TurnOf) (kind : WitnessKind) → (NamesBefore turns place t.call → ⊥) → (unfit : Unfit) → TellsGiven g c t kind unfit
    → TellsNamedBy g c turns place t kind unfit
of_first g c turns place t kind first (Unknown n) h = (first, h)
of_first g c turns place t kind first (Twice n) h = absurd h.tells
of_first g c turns place t kind first (LeftOut n) h = (first, h)
of_first g c turns place t kind first Ended h = (first, h)
of_first g c turns place t kind first Open h = (first, h)
of_first g c turns place t kind first (Answer o) h = (first, h)
of_first g c turns place t kind first (Untimely f) h = (first, h)
of_first g c turns place t kind first (Ordered o) h = (first, h)
of_first g c turns place t kind first (Disordered d) h = (first, h)
of_first g c turns place t kind first (FillUnwanted u) h = (first, h)
of_first g c turns place t kind first (FillMissing m) h = (first, h)
of_first g c turns place t kind first (FillFormless f) h = (first, h)
of_first g c turns place t kind first (BirthUnwanted u) h = (first, h)
of_first g c turns place t kind first (BirthFormless i) h = (first, h)
of_first g c turns place t kind first (Aside n) h = (first, h)
