-- What an operation may do to objects that a server holds, where it isn't judged (KMIP 2.1, sections 6.1, 6.2 and 11; the sorts: profile).
use Rattle.std.specs.Prelude.{ℕ, Bool, ◌==◌, if◌then◌else◌, List, [], ◌∷◌}
use Rattle.std.specs.List.{list_any}
use Rattle.kmipa_ttlv.specs.Tree.{Trees}
use Rattle.kmipa_passed.specs.Attributes.{is_of_unjudged}
use Rattle.kmipa_passed.specs.declared.sorts.Sort.{Sort}
use Rattle.kmipa_passed.specs.declared.sorts.Sort.TheVariants.{Looks, Changes, Makes, MayMake, EndsJudging}

-- the number is one of these
abbrev pub is_one_of : List ℕ → ℕ → Bool
is_one_of numbers n = list_any (λ (m : ℕ). n == m) numbers

-- Locate, Check, Get, Get Attributes, Get Attribute List, Obtain Lease, Get Usage Allocation, Validate, Query; Discover Versions, Encrypt, Decrypt,
-- Sign, Signature Verify, MAC, MAC Verify, RNG Retrieve, RNG Seed, Hash; Export, Log, Login, Logout, Delegated Login, Get Constraints, Query
-- Asynchronous Requests, Ping
abbrev pub looking : List ℕ
looking =
    0x08 ∷ 0x09 ∷ 0x0A ∷ 0x0B ∷ 0x0C ∷ 0x10 ∷ 0x11 ∷ 0x17 ∷ 0x18
    ∷ 0x1E ∷ 0x1F ∷ 0x20 ∷ 0x21 ∷ 0x22 ∷ 0x23 ∷ 0x24 ∷ 0x25 ∷ 0x26 ∷ 0x27
    ∷ 0x2B ∷ 0x2C ∷ 0x2D ∷ 0x2E ∷ 0x2F ∷ 0x38 ∷ 0x39 ∷ 0x3B ∷ []

-- Activate, Revoke, Destroy, Archive, Recover
abbrev pub changing : List ℕ
changing = 0x12 ∷ 0x13 ∷ 0x14 ∷ 0x15 ∷ 0x16 ∷ []

-- Add, Modify, Delete, Adjust and Set Attribute
abbrev pub of_attributes : List ℕ
of_attributes = 0x0D ∷ 0x0E ∷ 0x0F ∷ 0x30 ∷ 0x31 ∷ []

-- Create, Register
abbrev pub making : List ℕ
making = 0x01 ∷ 0x03 ∷ []

-- Set Endpoint Role, PKCS#11, Interop, Set Defaults, Set Constraints
abbrev pub ending : List ℕ
ending = 0x32 ∷ 0x33 ∷ 0x34 ∷ 0x36 ∷ 0x37 ∷ []

-- by the number alone; any that isn't listed may make objects
abbrev pub by_number : ℕ → Sort
by_number n =
    if is_one_of looking n then Looks
    else if is_one_of changing n then Changes
    else if is_one_of making n then Makes
    else if is_one_of ending n then EndsJudging
    else MayMake

-- the sort of an operation that is asked for by this payload: one of an attribute only looks where that isn't judged
abbrev pub sort_of : ℕ → Trees → Sort
sort_of n payload = if is_one_of of_attributes n then (if is_of_unjudged payload then Looks else Changes) else by_number n
