-- What the reader's functions answer, each on a part of a value. Each part has a language: which octets may stand
-- there, by limits, so that the value around them can still be completed.
use Rattle.std.specs.Prelude.{◌≡◌, ℕ, ◌+◌, ◌-◌, ◌*◌, ◌/◌, ◌%◌, ◌≤◌, ◌<◌, ◌⊎◌, Bool, true, false, not, ◌&&◌, ◌||◌, nat_eq, nat_le, nat_lt, zero, suc, List, [], ◌∷◌, ◌++◌, length, Option, Some, None, if◌then◌else◌}
use Rattle.vf_ber.specs.declared.fault.Fault.{Fault}
use Rattle.vf_ber.specs.declared.fault.Fault.TheVariants as faults
use Rattle.vf_ber.specs.declared.room.Room.{Room}
use Rattle.vf_ber.specs.declared.room.Room.TheVariants.{Exact, Within}
use Rattle.vf_ber.specs.declared.room.Asked.{Asked}
use Rattle.vf_ber.specs.declared.room.Asked.TheVariants.{Free, Shallow, Bounded}
use Rattle.vf_ber.specs.Tree.{Tag, Tree, plain, built, Trees, depth, depth_in}
use Rattle.vf_ber.specs.Tags.{IsTag}
use Rattle.vf_ber.specs.Spelling.{identifier}
use Rattle.vf_ber.specs.Spellings.{AreOctets, number_in, IsLength, Spells, SpellInTurn}
use Rattle.vf_ber.specs.Reading.{Limits, free, shallow, bounded}

abbrev pub limits_of : Asked → Limits
limits_of Free = free
limits_of Shallow = shallow
limits_of Bounded = bounded

-- ---- room: how many octets a value may take

-- So many octets are allowed. In an exact room either they fill it, or two octets at least are left for another value.
abbrev pub fits : Limits → Room → ℕ → Bool
fits limits (Exact most) n = nat_eq n most || nat_le (n + 2) most
fits free (Within most) n = true
fits shallow (Within most) n = true
fits bounded (Within most) n = nat_le n most

-- so many octets are allowed, or some larger number
abbrev pub is_roomy : Limits → Room → ℕ → Bool
is_roomy limits (Exact most) n = nat_le n most
is_roomy free (Within most) n = true
is_roomy shallow (Within most) n = true
is_roomy bounded (Within most) n = nat_le n most

-- what is left when so many octets are taken
abbrev pub less : Room → ℕ → Room
less (Exact most) n = Exact (most - n)
less (Within most) n = Within (most - n)

-- values of this depth are allowed
abbrev pub has_depth : Limits → ℕ → Bool
has_depth free depth = true
has_depth shallow depth = nat_lt 0 depth
has_depth bounded depth = nat_lt 0 depth

abbrev pub IsShallow : Limits → ℕ → ℕ → Type 0
IsShallow free most n = Unit {0}
IsShallow shallow most n = n ≤ most
IsShallow bounded most n = n ≤ most

-- ---- what may stand where

-- an identifier octet that begins a value
abbrev pub first_fits : Limits → ℕ → Room → ℕ → Bool
first_fits limits depth room octet =
    not (nat_eq octet 0) && not (nat_eq octet 32) && has_depth limits depth
    && is_roomy limits room (if nat_eq (octet % 32) 31 then 3 else 2)

-- the octet after it in the long form
abbrev pub second_fits : Limits → Room → ℕ → Bool
second_fits limits room octet =
    nat_le 31 octet && not (nat_eq octet 128) && is_roomy limits room (if nat_lt octet 128 then 3 else 4)

-- a length, or none, where so many octets come before the contents
abbrev pub size_fits : Limits → ℕ → Room → ℕ → Bool → Option ℕ → Bool
size_fits limits depth room prefix constructed (Some n) =
    fits limits room (prefix + n) && (not constructed || (not (nat_eq n 1) && (nat_eq n 0 || has_depth limits (depth - 1))))
size_fits limits depth room prefix constructed None = constructed && fits limits room (prefix + 2)

-- the least number with these octets before so many others
abbrev pub grown : ℕ → ℕ → ℕ
grown zero n = n
grown (suc others) n = grown others (256 * n)

-- a number without its last octets
abbrev pub shifted : ℕ → ℕ → ℕ
shifted zero n = n
shifted (suc others) n = shifted others n / 256

-- the number that fills the room begins with these octets, and is allowed
abbrev pub fills : Limits → ℕ → Room → ℕ → Bool → ℕ → ℕ → Bool
fills limits depth (Exact most) prefix constructed others high =
    nat_le prefix most && nat_eq (shifted others (most - prefix)) high && size_fits limits depth (Exact most) prefix constructed (Some (most - prefix))
fills limits depth (Within most) prefix constructed others high = false

-- some length with these octets before so many others is allowed
abbrev pub reaches : Limits → ℕ → Room → ℕ → Bool → ℕ → ℕ → Bool
reaches limits depth room prefix constructed others high =
    size_fits limits depth room prefix constructed (Some (grown others high)) || fills limits depth room prefix constructed others high

-- the first octet of a length, after an identifier of so many octets
abbrev pub length_fits : Limits → ℕ → Room → ℕ → Bool → ℕ → Bool
length_fits limits depth room prefix constructed octet =
    if nat_lt octet 128 then size_fits limits depth room (prefix + 1) constructed (Some octet)
    else if nat_eq octet 128 then size_fits limits depth room (prefix + 1) constructed None
    else nat_le octet 136 && reaches limits depth room (prefix + 1 + (octet - 128)) constructed (octet - 128) 0

-- ---- languages

abbrev pub Language : Type 0 → Type 1
Language X = Limits → List ℕ → X → Type 0

-- a value
abbrev pub Values : ℕ → Room → Language Tree
Values most room limits octets tree = Spells octets tree × IsShallow limits most (depth tree) × (fits limits room (length octets) ≡ true)

-- values in turn that take so many octets
abbrev pub Parts : ℕ → ℕ → Language Trees
Parts most len limits octets parts = SpellInTurn octets parts × IsShallow limits most (depth_in parts) × (length octets ≡ len)

-- values in turn, and the end of contents
abbrev pub Ended : ℕ → Room → Language Trees
Ended most room limits octets parts =
    (contents : List ℕ) × SpellInTurn contents parts × IsShallow limits most (depth_in parts)
    × (octets ≡ contents ++ (0 ∷ 0 ∷ [])) × (fits limits room (length octets) ≡ true)

-- what an identifier says
pub record Name : Type 0 where
  pub constructed : Bool
  pub tag : Tag

abbrev pub named : Bool → Tag → Name
named constructed tag = record { constructed = constructed; tag = tag }

abbrev pub Names : ℕ → Room → Language Name
Names most room limits octets name =
    (octets ≡ identifier name.constructed name.tag) × IsTag name.tag × (has_depth limits most ≡ true)
    × (is_roomy limits room (length octets + 1) ≡ true)

-- a definite length, or none
abbrev pub IsSize : List ℕ → Option ℕ → Type 0
IsSize octets (Some n) = IsLength octets n
IsSize octets None = octets ≡ 128 ∷ []

abbrev pub Sizes : ℕ → Room → ℕ → Bool → Language (Option ℕ)
Sizes most room prefix constructed limits octets size =
    IsSize octets size × (size_fits limits most room (prefix + length octets) constructed size ≡ true)

-- the octets of a length after some of them
abbrev pub Digits : ℕ → Room → ℕ → Bool → ℕ → ℕ → Language ℕ
Digits most room prefix constructed others high limits octets n =
    (length octets ≡ others) × AreOctets octets × (number_in high octets ≡ n)
    × (size_fits limits most room prefix constructed (Some n) ≡ true)

-- contents of a definite length
abbrev pub Definite : ℕ → ℕ → Bool → Tag → Language Tree
Definite most n true tag limits octets tree = (parts : Trees) × Parts (most - 1) n limits octets parts × (tree ≡ built tag parts)
Definite most n false tag limits octets tree = (length octets ≡ n) × (tree ≡ plain tag octets)

-- what stands after identifier and length, which take so many octets
abbrev pub Contents : ℕ → Room → ℕ → Name → Option ℕ → Language Tree
Contents most room prefix name (Some n) limits octets tree = Definite most n name.constructed name.tag limits octets tree
Contents most room prefix name None limits octets tree =
    (parts : Trees) × Ended (most - 1) (less room prefix) limits octets parts × (tree ≡ built name.tag parts) × (name.constructed ≡ true)

-- ---- answers

-- octets that others end with
abbrev pub Ends : List ℕ → List ℕ → Type 0
Ends all octets = (prefix : List ℕ) × (all ≡ prefix ++ octets)

-- some word begins with the octets
abbrev pub Open : {X : Type 0} → Language X → Limits → List ℕ → Type 0
Open {X} L limits octets = (rest : List ℕ) × (x : X) × L limits (octets ++ rest) x

-- no word begins with the octets, nor do they with a word
abbrev pub Ruled : {X : Type 0} → Language X → Limits → List ℕ → Type 0
Ruled {X} L limits octets = (word tail rest : List ℕ) (x : X) → L limits word x → word ++ tail ≡ octets ++ rest → ⊥

-- the octets begin with a word, and this stands after it
abbrev pub Got : {X : Type 0} → Language X → List ℕ → X → List ℕ → Type 0
Got L octets x rest = (word : List ℕ) × (octets ≡ word ++ rest) × L bounded word x

-- an octet, with which so many are left, after which there is no word for this reason
pub record FaultAt {X : Type 0} (L : Language X) (octets : List ℕ) (left : ℕ) (reason : List ℕ → Type 0) : Type 0 where
  pub prefix : List ℕ
  pub octet : ℕ
  pub rest : List ℕ
  pub parts : octets ≡ prefix ++ (octet ∷ rest)
  pub left_is : left ≡ length (octet ∷ rest)
  pub before : (prefix ≡ []) ⊎ Open L bounded prefix
  pub after : reason (prefix ++ (octet ∷ []))

abbrev pub Failed : {X : Type 0} → Language X → List ℕ → Fault → Type 0
Failed {X} L octets faults.Short = (next : ℕ) × (rest : List ℕ) × (x : X) × L bounded (octets ++ (next ∷ rest)) x
Failed L octets (faults.Bad left) = FaultAt L octets left (Ruled L free)
Failed L octets (faults.Deep left) = FaultAt L octets left (λ upto. Open L free upto × Ruled L shallow upto)
Failed L octets (faults.Long left) = FaultAt L octets left (λ upto. Open L shallow upto × Ruled L bounded upto)
Failed L octets faults.NoMemory = Unit {0}

abbrev pub fault_of : Bool → Bool → ℕ → Fault
fault_of is_free is_shallow left =
    if is_free then (if is_shallow then faults.Long left else faults.Deep left) else faults.Bad left

-- the fault of an octet that doesn't pass a test
abbrev pub Judged : (Limits → Bool) → ℕ → Fault → Type 0
Judged test left faults.Short = ⊥
Judged test left (faults.Bad n) = (n ≡ left) × (test free ≡ false)
Judged test left (faults.Deep n) = (n ≡ left) × (test free ≡ true) × (test shallow ≡ false)
Judged test left (faults.Long n) = (n ≡ left) × (test shallow ≡ true) × (test bounded ≡ false)
Judged test left faults.NoMemory = ⊥

-- the octets after a first octet 0 don't go on with another
abbrev pub IsNoEnd : List ℕ → Fault → Type 0
IsNoEnd octets faults.Short = octets ≡ []
IsNoEnd octets (faults.Bad left) = (next : ℕ) × (rest : List ℕ) × (octets ≡ next ∷ rest) × (0 < next) × (left ≡ length octets)
IsNoEnd octets (faults.Deep left) = ⊥
IsNoEnd octets (faults.Long left) = ⊥
IsNoEnd octets faults.NoMemory = ⊥
