-- Contents that were spelled are read again, and what is read was spelled so.
use Rattle.std.specs.Prelude.{◌≡◌, ℕ, ◌<◌, ℤ, Bool, List, Some}
use Rattle.std.specs.List.{All}
use Rattle.std.specs.Int.{w64}
use Rattle.std.specs.Int.RustNames.{FitsSigned}
use Rattle.vf_base.specs.Oid.{IsOid}
use Rattle.vf_ber.specs.Contents.{boolean_octets, integer_octets, oid_octets}
use Rattle.vf_ber.specs.Primitive.{boolean_of, integer_of, oid_of}
use Rattle.vf_ber.specs.Tree.{Tag, plain}

abbrev pub AllOctets : List ℕ → Type 0
AllOctets octets = All (λ octet. octet < 256) octets

abbrev pub BooleansAreRead : Type 0
BooleansAreRead = (tag : Tag) (truth : Bool) → boolean_of (plain tag (boolean_octets truth)) ≡ Some truth

abbrev pub IntegersAreRead : Type 0
IntegersAreRead = (tag : Tag) (n : ℤ) → FitsSigned w64 n → integer_of (plain tag (integer_octets n)) ≡ Some n

abbrev pub IntegersAreSpelled : Type 0
IntegersAreSpelled = (tag : Tag) (octets : List ℕ) (n : ℤ) → AllOctets octets → integer_of (plain tag octets) ≡ Some n → octets ≡ integer_octets n

abbrev pub OidsAreRead : Type 0
OidsAreRead = (tag : Tag) (arcs : List ℕ) → IsOid arcs → oid_of (plain tag (oid_octets arcs)) ≡ Some arcs

abbrev pub OidsAreSpelled : Type 0
OidsAreSpelled = (tag : Tag) (octets arcs : List ℕ) → AllOctets octets → oid_of (plain tag octets) ≡ Some arcs → IsOid arcs × (octets ≡ oid_octets arcs)
