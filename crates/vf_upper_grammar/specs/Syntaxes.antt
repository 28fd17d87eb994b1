-- Object identifiers: of the abstract syntaxes that this profile has, of the encoding rules, and of the application.
use Rattle.std.specs.Prelude.{ℕ, Bool, List, [], ◌∷◌}
use Rattle.std.specs.List.{list_any}
use Rattle.vf_upper_grammar.specs.Forms.{are_arcs}

-- ACSE (ISO 8650)
abbrev pub acse : List ℕ
acse = 2 ∷ 2 ∷ 1 ∷ 0 ∷ 1 ∷ []

-- the basic encoding rules (ISO 8825)
abbrev pub ber : List ℕ
ber = 2 ∷ 1 ∷ 1 ∷ []

-- the application context of FTAM (ISO 8571-4)
abbrev pub ftam : List ℕ
ftam = 1 ∷ 0 ∷ 8571 ∷ 1 ∷ 1 ∷ []

-- FTAM PCI (ISO 8571-4)
abbrev pub pci : List ℕ
pci = 1 ∷ 0 ∷ 8571 ∷ 2 ∷ 1 ∷ []

-- FADU (ISO 8571-4; the arcs are profile)
abbrev pub fadu : List ℕ
fadu = 1 ∷ 0 ∷ 8571 ∷ 2 ∷ 2 ∷ []

-- unstructured text (ISO 8571-2)
abbrev pub text : List ℕ
text = 1 ∷ 0 ∷ 8571 ∷ 2 ∷ 3 ∷ []

-- unstructured binary (ISO 8571-2)
abbrev pub binary : List ℕ
binary = 1 ∷ 0 ∷ 8571 ∷ 2 ∷ 4 ∷ []

-- the abstract syntaxes that a called end accepts
abbrev pub is_ours : List ℕ → Bool
is_ours syntax = list_any (are_arcs syntax) (acse ∷ pci ∷ fadu ∷ text ∷ binary ∷ [])
