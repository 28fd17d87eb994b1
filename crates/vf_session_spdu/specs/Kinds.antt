-- The identifiers of the SPDUs (ISO 8327, 8.3), and where in a TSDU each may stand. GT and DT have one identifier:
-- it is a GT at the beginning, and a DT after one.
use Rattle.std.specs.Prelude.{ℕ, nat_eq, Option, None, Some, if◌then◌else◌}
use Rattle.vf_base.specs.declared.spdu_kind.SpduKind.{SpduKind}
use Rattle.vf_base.specs.declared.spdu_kind.SpduKind.TheVariants.{CN, AC, RF, FN, DN, AB, AA, DT, GT, MIP, MIA, RS, RA}

abbrev pub code_of : SpduKind → ℕ
code_of CN = 13
code_of AC = 14
code_of RF = 12
code_of FN = 9
code_of DN = 10
code_of AB = 25
code_of AA = 26
code_of DT = 1
code_of GT = 1
code_of MIP = 49
code_of MIA = 50
code_of RS = 53
code_of RA = 34

-- the SPDUs that begin a TSDU
abbrev pub first_kind : ℕ → Option SpduKind
first_kind code =
    if nat_eq code 13 then Some CN
    else if nat_eq code 14 then Some AC
    else if nat_eq code 12 then Some RF
    else if nat_eq code 9 then Some FN
    else if nat_eq code 10 then Some DN
    else if nat_eq code 25 then Some AB
    else if nat_eq code 26 then Some AA
    else if nat_eq code 1 then Some GT
    else None

-- the SPDUs that follow a GT (for MIA and RA, profile)
abbrev pub second_kind : ℕ → Option SpduKind
second_kind code =
    if nat_eq code 1 then Some DT
    else if nat_eq code 49 then Some MIP
    else if nat_eq code 50 then Some MIA
    else if nat_eq code 53 then Some RS
    else if nat_eq code 34 then Some RA
    else None
