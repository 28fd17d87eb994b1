-- What is found in user data is what the value that they are means.
use Rattle.std.specs.Prelude.{◌≡◌, ℕ, List, [], ◌++◌, Option, None, Some, Ok, Err}
use Rattle.vf_base.specs.declared.spdu_kind.SpduKind.{SpduKind}
use Rattle.vf_upper_grammar.specs.Marks.{Mark, Found}
use Rattle.vf_upper_grammar.specs.Modules.{meaning_of, meant}
use Rattle.vf_upper_grammar.specs.Types.{found_in, user_data_of}

abbrev pub IsFault : Found → Type 0
IsFault (Ok marks) = ⊥
IsFault (Err place) = Unit {0}

-- after other things that is found which is meant, or a fault where nothing is
abbrev pub Agrees : Found → List Mark → Option (List Mark) → Type 0
Agrees result found (Some marks) = result ≡ Ok (found ++ marks)
Agrees result found None = IsFault result

-- User data that are one value of the type of their SPDU say what this value means, and all others have a fault.
abbrev pub IsMeant : Type 0
IsMeant = (carrier : SpduKind) (octets : List ℕ) → Agrees (found_in (user_data_of carrier) octets) [] (meant (meaning_of carrier) octets)
