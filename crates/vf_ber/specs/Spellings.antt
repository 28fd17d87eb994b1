-- The spellings of a value (ISO 8825, 8.1): octets, identifiers with their tag, lengths in every form that is allowed.
use Rattle.std.specs.Prelude.{◌≡◌, ℕ, ◌+◌, ◌*◌, ◌<◌, ◌≤◌, ◌⊎◌, true, false, List, [], ◌∷◌, ◌++◌, length}
use Rattle.vf_ber.specs.Tree.{Tree, plain, built, Trees, none, more}
use Rattle.vf_ber.specs.Tags.{IsTag}
use Rattle.vf_ber.specs.Spelling.{identifier}

abbrev pub AreOctets : List ℕ → Type 0
AreOctets [] = Unit {0}
AreOctets (octet ∷ octets) = (octet < 256) × AreOctets octets

-- the number that octets are after a higher part, most significant octet first
abbrev pub number_in : ℕ → List ℕ → ℕ
number_in high [] = high
number_in high (octet ∷ octets) = number_in (256 * high + octet) octets

-- the short form: one octet, up to 127 (8.1.3.4)
abbrev pub IsShortForm : List ℕ → ℕ → Type 0
IsShortForm octets n = (octets ≡ n ∷ []) × (n < 128)

-- The long form: the number of octets, 1 to 8 (profile), and so many octets with the length (8.1.3.5). More of them
-- than are needed may be used, with leading zeros.
pub record IsLongForm (octets : List ℕ) (n : ℕ) : Type 0 where
  pub digits : List ℕ
  pub some : 1 ≤ length digits
  pub few : length digits ≤ 8
  pub each : AreOctets digits
  pub number : number_in 0 digits ≡ n
  pub spelled : octets ≡ (128 + length digits) ∷ digits

abbrev pub IsLength : List ℕ → ℕ → Type 0
IsLength octets n = IsShortForm octets n ⊎ IsLongForm octets n

abbrev mutual
  -- A primitive value is its identifier, a definite length and its contents. A constructed one is its identifier and
  -- the spellings of its parts, in turn, with a definite length before them, or with 0x80 before and 00 00 after (8.1.3.6).
  pub Spells : List ℕ → Tree → Type 0
  Spells octets (plain tag contents) =
      IsTag tag × ((len : List ℕ) × IsLength len (length contents) × (octets ≡ identifier false tag ++ (len ++ contents)))
  Spells octets (built tag parts) =
      IsTag tag
      × ((contents : List ℕ) × SpellInTurn contents parts
      × (((len : List ℕ) × IsLength len (length contents) × (octets ≡ identifier true tag ++ (len ++ contents)))
      ⊎ (octets ≡ identifier true tag ++ (128 ∷ (contents ++ (0 ∷ 0 ∷ []))))))

  pub SpellInTurn : List ℕ → Trees → Type 0
  SpellInTurn octets none = octets ≡ []
  SpellInTurn octets (more part parts) =
      (first : List ℕ) × (rest : List ℕ) × Spells first part × SpellInTurn rest parts × (octets ≡ first ++ rest)
