-- What a function of writing does: it puts the spelling of a value after the octets that stand. Where the value is in the
-- ranges of its row, the spelling is read again as this value, whatever follows it.
use Rattle.std.specs.Prelude.{◌≡◌, ℕ, ◌<◌, ◌^◌, Bool, true, List, ◌++◌, length, Some}
use Rattle.std.specs.List.{AllByRecursion, flat_map, list_all}
use Rattle.vf_attr.specs.declared.file.File.{File}
use Rattle.vf_base.specs.declared.contents.Contents.{Contents}
use Rattle.vf_base.specs.declared.element.Element.{Element}
use Rattle.vf_base.specs.declared.term.Term.{Term}
use Rattle.vf_tables.specs.Fitting.{has_kind, is_in_range, is_sayable, is_short}
use Rattle.vf_tables.specs.declared.change.Change.{Change}
use Rattle.vf_tables.specs.declared.change.Change.TheVariants.{PutFile}
use Rattle.vf_store_record.specs.Entries.{element_spelled, octets_of, string_of}
use Rattle.vf_store_record.specs.Fields.{term}
use Rattle.vf_store_record.specs.Formats.{Format}
use Rattle.vf_store_record.specs.Records.{change_spelled, file_spelled}

abbrev pub IsReadAgain : {A : Type 0} → Format A → A → Type 0
IsReadAgain format value = (rest : List ℕ) → format.read (format.spell value ++ rest) ≡ Some (value, rest)

pub record Writes {A : Type 0} (format : Format A) (value : A) (IsInRange : Type 0) (before after : List ℕ) : Type 0 where
  pub octets : after ≡ before ++ format.spell value
  pub again : IsInRange → IsReadAgain format value

-- no condition
abbrev pub Always : Type 0
Always = Unit {0}

-- texts have at most 65,535 octets, and strings at most 4,294,967,295
abbrev pub IsShortText : List ℕ → Type 0
IsShortText text = length text < 2 ^ 16

abbrev pub IsShortList : {A : Type 0} → List A → Type 0
IsShortList items = length items < 2 ^ 32

-- a value that passes a test, and whose spelling has fewer than 2^32 octets; and values of which each does, together
pub record IsTaken {A : Type 0} (test : A → Bool) (spell : A → List ℕ) (value : A) : Type 0 where
  pub in_range : test value ≡ true
  pub short : length (spell value) < 2 ^ 32

pub record AreTaken {A : Type 0} (test : A → Bool) (spell : A → List ℕ) (values : List A) : Type 0 where
  pub in_range : list_all test values ≡ true
  pub short : length (flat_map spell values) < 2 ^ 32

abbrev pub has_short_password : Term → Bool
has_short_password value = is_short value.password

abbrev pub IsTerm : Term → Type 0
IsTerm value = IsTaken has_short_password term.spell value

abbrev pub AreTerms : List Term → Type 0
AreTerms values = AreTaken has_short_password term.spell values

pub record AreSettings (contents : Contents) (listed : List Term) : Type 0 where
  pub kind : has_kind contents ≡ true
  pub terms : AreTerms listed

abbrev pub IsElement : Element → Type 0
IsElement value = IsTaken is_sayable element_spelled value

abbrev pub AreElements : List Element → Type 0
AreElements values = AreTaken is_sayable element_spelled values

-- the element is made again of the octets of its string
pub record IsString (contents : Contents) (element : Element) : Type 0 where
  pub made_again : string_of contents (octets_of element) ≡ element
  pub short : length (octets_of element) < 2 ^ 32

pub record AreStrings (contents : Contents) (unit : List Element) : Type 0 where
  pub each : AllByRecursion (IsString contents) unit
  pub few : IsShortList unit

pub record AreUnits (contents : Contents) (units : List (List Element)) : Type 0 where
  pub each : AllByRecursion (AreStrings contents) units
  pub few : IsShortList units

abbrev pub is_file_in_range : File → Bool
is_file_in_range value = is_in_range (PutFile value)

abbrev pub IsWholeFile : File → Type 0
IsWholeFile value = IsTaken is_file_in_range file_spelled value

abbrev pub IsChange : Change → Type 0
IsChange value = IsTaken is_in_range change_spelled value

abbrev pub AreChanges : List Change → Type 0
AreChanges values = AreTaken is_in_range change_spelled values
