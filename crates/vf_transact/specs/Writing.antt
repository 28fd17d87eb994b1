-- How the code writes what a get has received: octets wait in a block until it is large.
use Rattle.std.specs.Prelude.{◌≡◌, ℕ, Bool, true, false, ◌||◌, List, [], ◌∷◌, ◌++◌, Option, None, Some, Result, Ok, Err, if◌then◌else◌}
use Rattle.vf_base.specs.Faults.{HasRisen}
use Rattle.vf_base.specs.declared.element.Element.{Element}
use Rattle.vf_base.specs.declared.element.Element.TheVariants.{Descriptor}
use Rattle.vf_initiator.specs.Output.{is_string, string_in, string_line}
use Rattle.vf_transact.specs.declared.error.TransactError.{TransactError}
use Rattle.vf_transact.specs.declared.error.TransactError.TheVariants as errors

-- all of these octets were written, where the output tells what it has taken
abbrev pub PassesAll : (octets : List ℕ) → Option (List ℕ) → Option (List ℕ) → Type 0
PassesAll octets None new = new ≡ None
PassesAll octets (Some old) new = new ≡ Some (old ++ octets)

-- a front of them was
abbrev pub PassesFront : (octets : List ℕ) → Option (List ℕ) → Option (List ℕ) → Type 0
PassesFront octets None new = new ≡ None
PassesFront octets (Some old) new = (front : List ℕ) × (rest : List ℕ) × (octets ≡ front ++ rest) × (new ≡ Some (old ++ front))

-- some were, and the others wait
abbrev pub Passes : (octets waiting : List ℕ) → Option (List ℕ) → Option (List ℕ) → Type 0
Passes octets waiting None new = new ≡ None
Passes octets waiting (Some old) new = (front : List ℕ) × (octets ≡ front ++ waiting) × (new ≡ Some (old ++ front))

-- The output failed where its count rose; else the count is as before.
abbrev pub HasCause : {T : Type 0} → Result T TransactError → ℕ → ℕ → Type 0
HasCause (Ok done) old new = new ≡ old
HasCause (Err errors.OutputFault) old new = HasRisen old new
HasCause (Err errors.NoMemory) old new = new ≡ old
HasCause (Err error) old new = ⊥

-- what an element of text, or of binary contents, gives
abbrev pub string_given : (is_text : Bool) → Element → List ℕ
string_given true element = string_line element
string_given false element = string_in element

-- RECORDS, element by element: whether a record has begun, and what an element gives after that
abbrev pub is_descriptor : Element → Bool
is_descriptor (Descriptor name filled) = true
is_descriptor element = false

abbrev pub begins : Element → Bool
begins element = is_descriptor element || is_string element

abbrev pub line_ended : (has_begun : Bool) → List ℕ
line_ended has_begun = if has_begun then 10 ∷ [] else []

abbrev pub given_by : (has_begun : Bool) → Element → List ℕ
given_by has_begun element = if is_descriptor element then line_ended has_begun else string_in element

-- what elements give from there to their end
abbrev pub records_from : (has_begun : Bool) → List Element → List ℕ
records_from has_begun [] = line_ended has_begun
records_from has_begun (element ∷ elements) = given_by has_begun element ++ records_from (has_begun || begins element) elements
