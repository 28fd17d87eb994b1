-- Data of one string, as most data are: its context has an identifier of one octet, and it has 256 to 65,520 octets, so that
-- each length around it is spelled in three octets. Their octets are those of the string behind 19 others.
use Rattle.std.specs.Prelude.{◌≡◌, ℕ, ◌+◌, ◌/◌, ◌%◌, ◌≤◌, ◌<◌, ℤ, Bool, true, false, List, [], ◌∷◌, ◌++◌, length, map, Ok}
use Rattle.vf_base.specs.declared.spdu_kind.SpduKind.TheVariants.{DT}
use Rattle.vf_ber.specs.Contents.{integer_octets}
use Rattle.vf_ber.specs.Spelling.{spell}
use Rattle.vf_ber.specs.Tree.{Tag, Tree, plain}
use Rattle.vf_upper.specs.CarriedCode.{Carried}
use Rattle.vf_upper.specs.Written.{carried_list, pdv_list, universal, user_data}
use Rattle.vf_upper_grammar.specs.declared.labels.NumberLabel.TheVariants.{AnyContext}
use Rattle.vf_upper_grammar.specs.Marks.{number, value}
use Rattle.vf_upper_grammar.specs.Types.{found_in, user_data_of}

-- a length in three octets, before what follows it
abbrev pub long : ℕ → List ℕ → List ℕ
long count after = 130 ∷ count / 256 ∷ count % 256 ∷ after

-- what stands before so many octets: [APPLICATION 1], the PDV-list with the identifier of its context, [0], and the string's tag
abbrev pub front : (id class count : ℕ) → List ℕ
front id class count = 97 ∷ long (count + 15) (48 ∷ long (count + 11) (2 ∷ 1 ∷ id ∷ 160 ∷ long (count + 4) (class ∷ long count [])))

-- the value that such data are
abbrev pub string_data : ℤ → (class : ℕ) → List ℕ → Tree
string_data context class octets = user_data (pdv_list context (plain (universal class) octets) ∷ [])

-- the identifier of the context in one octet, a tag in one octet, and so many octets of the string
pub record IsPlain (context : ℤ) (id class count : ℕ) : Type 0 where
  pub id_is : integer_octets context ≡ id ∷ []
  pub some : 0 < class
  pub low : class < 31
  pub many : 256 ≤ count
  pub few : count ≤ 65520

-- The data with these values were appended, or nothing was where they are no such data.
abbrev pub Puts : List Carried → (done : Bool) → List ℕ → List ℕ → Type 0
Puts values true out out' = out' ≡ out ++ spell (user_data (map carried_list values))
Puts values false out out' = out' ≡ out

-- What stands before so many octets of a string was appended, whatever octets these are, or nothing was.
abbrev pub PutsFront : (context : ℤ) → (class count : ℕ) → (done : Bool) → List ℕ → List ℕ → Type 0
PutsFront context class count true out out' = (octets : List ℕ) → length octets ≡ count → out' ++ octets ≡ out ++ spell (string_data context class octets)
PutsFront context class count false out out' = out' ≡ out

-- In data this value is found, and its context before it.
abbrev pub IsAlone : List ℕ → Carried → Type 0
IsAlone octets carried = found_in (user_data_of DT) octets ≡ Ok (number AnyContext carried.context ∷ value carried.tree ∷ [])
