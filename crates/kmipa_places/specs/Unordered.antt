-- What an item asks for that is passed, in a request without order (profile).
use Rattle.std.specs.Prelude.{Bool, if◌then◌else◌}
use Rattle.kmipa_passed.specs.Identifiers.{AskedOf, placeholder, named, unnamed}
use Rattle.kmipa_passed.specs.Passed.{AskOf}
use Rattle.kmipa_passed.specs.declared.sorts.Sort.{Sort}
use Rattle.kmipa_passed.specs.declared.sorts.Sort.TheVariants.{Looks, Changes, Makes, MayMake, EndsJudging}

-- the ID Placeholder means an object that can't be told
abbrev pub untold : AskedOf → AskedOf
untold placeholder = unnamed
untold (named id) = named id
untold unnamed = unnamed

-- Without order nobody can tell what the ID Placeholder holds, so a change that means it may be of any object. Every other item asks for what it says.
abbrev pub about_unordered : Sort → AskedOf → AskedOf
about_unordered Looks asked = asked
about_unordered Changes asked = untold asked
about_unordered Makes asked = asked
about_unordered MayMake asked = asked
about_unordered EndsJudging asked = asked

abbrev pub about : Bool → Sort → AskedOf → AskedOf
about unordered sort asked = if unordered then about_unordered sort asked else asked

-- what an item asks for that says this, in a request with or without order
abbrev pub asks_in : Bool → AskOf → AskOf
asks_in unordered ask = record {
  sort = ask.sort;
  locates = ask.locates;
  asked = about unordered ask.sort ask.asked;
  names = ask.names;
  unclearly = ask.unclearly;
}
