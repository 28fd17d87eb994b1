-- The types of presentation and ACSE are found as they are meant.
use Rattle.std.proofs.Common.{◌≡◌, ℕ, suc, Bool, true, false, List, [], ◌∷◌, length, drop, refl, ap, sym, ◌∙◌, arith}
use Rattle.std.specs.Prelude.{◌&&◌, nat_eq, nat_le, Option, None, Some, Err, if◌then◌else◌}
use Rattle.std.specs.Option.{option_and_then, option_map}
use Rattle.std.proofs.lemmas.Bool.Decides.{nat_tests}
use Rattle.std.proofs.lemmas.List.{length-drop}
use Rattle.vf_base.specs.declared.spdu_kind.SpduKind.TheVariants.{CN, AC, RF, FN, DN, AB, AA, DT, GT, MIP, MIA, RS, RA}
use Rattle.vf_ber.specs.Reader.{reading}
use Rattle.vf_ber.specs.Reading.{Reading, Read, Short, Bad, Deep, Long}
use Rattle.vf_ber.specs.Tree.{root, Tree}
use Rattle.vf_upper_grammar.specs.declared.labels.NameLabel.TheVariants.{Stated, Abstract, Transfer, Application}
use Rattle.vf_upper_grammar.specs.declared.labels.NumberLabel.{NumberLabel}
use Rattle.vf_upper_grammar.specs.declared.labels.NumberLabel.TheVariants.{Fixed, Proposal, Outcome, AcseContext, PciContext, AnyContext}
use Rattle.vf_upper_grammar.specs.Forms as forms
use Rattle.vf_upper_grammar.specs.Forms.{Form, Tags}
use Rattle.vf_upper_grammar.specs.Marks.{Mark}
use Rattle.vf_upper_grammar.specs.Meanings as meanings
use Rattle.vf_upper_grammar.specs.Meanings.{alone, any, is_tagged, Meaning, tagged, values, values_by}
use Rattle.vf_upper_grammar.specs.Meant.{Agrees, IsMeant}
use Rattle.vf_upper_grammar.specs.Modules as modules
use Rattle.vf_upper_grammar.specs.Modules.{meant, meant_by}
use Rattle.vf_upper_grammar.specs.Syntaxes.{ber}
use Rattle.vf_upper_grammar.specs.Texts.{carried, carried_data, OctetForm, one, typed}
use Rattle.vf_upper_grammar.specs.Types as types
use Rattle.vf_upper_grammar.specs.Types.{application, context, found_in, universal, zero_or_one}
use Rattle.vf_upper_grammar.proofs.Agreeing.{agrees-meant, integer-right, is_low, oid-right, Right, sequence_of-right, skipped-right}
use Rattle.vf_upper_grammar.proofs.Chosen.{outcome-right, set-right}
use Rattle.vf_upper_grammar.proofs.HeldMeant.{carried-right, carried_data-right}
use Rattle.vf_upper_grammar.proofs.InTurn.{Takes, takes}
use Rattle.vf_upper_grammar.proofs.Ordered.{exactly-right, RightField, RightFields, sequence-right}
use Rattle.vf_upper_grammar.proofs.ValuesMeant.{more-than-one, one-right, reading-none, RightOctets, typed-right, values-next, values-none, values-some}

-- ---- fields

need : (tags : Tags) (read : Form) (meaning : Meaning) → is_low tags ≡ true → Right read meaning → RightField (types.required tags read) (modules.required tags meaning)
need tags read meaning small right = record { tags = refl; required = refl; small = small; right = right }

may : (tags : Tags) (read : Form) (meaning : Meaning) → is_low tags ≡ true → Right read meaning → RightField (types.optional tags read) (modules.optional tags meaning)
may tags read meaning small right = record { tags = refl; required = refl; small = small; right = right }

-- the same of a list of them, which its types determine
record Fields (fields : List forms.Field) (meant : List meanings.Field) : Type 0 where
  pub rights : RightFields fields meant

end : Fields [] []
end = record { rights = tt }

with : {field : forms.Field} {means : meanings.Field} {fields : List forms.Field} {meant : List meanings.Field} → RightField field means → Fields fields meant → Fields (field ∷ fields) (means ∷ meant)
with right rights = record { rights = (right, rights.rights) }

sequence-of-fields : {fields : List forms.Field} {meant : List meanings.Field} → Fields fields meant → Right (forms.sequence fields) (meanings.sequence meant)
sequence-of-fields {fields} {meant} rights = sequence-right fields meant rights.rights

exactly-fields : {fields : List forms.Field} {meant : List meanings.Field} → Fields fields meant → Right (forms.exactly fields) (meanings.exactly meant)
exactly-fields {fields} {meant} rights = exactly-right fields meant rights.rights

explicit-right : (tags : Tags) (read : Form) (meaning : Meaning) → is_low tags ≡ true → Right read meaning → Right (types.explicit tags read) (modules.explicit tags meaning)
explicit-right tags read meaning small right = exactly-fields (with (need tags read meaning small right) end)

-- ---- values in contexts

pdv_list-right : (label : NumberLabel) (read : Form) (meaning : Meaning) → Right read meaning → Right (types.pdv_list label read) (modules.pdv_list label meaning)
pdv_list-right label read meaning right =
    exactly-fields
    (with (may (universal 6) _ _ refl (oid-right None Stated)) (with (need (universal 2) _ _ refl (integer-right None label)) (with (need zero_or_one read meaning refl right) end)))

all_data-right : Right types.all_data modules.all_data
all_data-right = sequence_of-right (universal 16) _ _ refl (pdv_list-right AnyContext carried_data meanings.carried_data carried_data-right)

one_data-right : (label : NumberLabel) (form : OctetForm) (meaning : Meaning) → RightOctets form (alone meaning) → Right (types.one_data label form) (modules.one_data label meaning)
one_data-right label form meaning right =
    exactly-fields (with (need (universal 16) _ _ refl (pdv_list-right label (carried form) (meanings.carried meaning) (carried-right form meaning right))) end)

external-right : (label : NumberLabel) → Right (types.external label) (modules.external label)
external-right label =
    exactly-fields (with (need (universal 2) _ _ refl (integer-right None label)) (with (need zero_or_one (carried one) (meanings.carried any) refl (carried-right one any one-right)) end))

information-right : (label : NumberLabel) → Right (types.user_information label) (modules.user_information label)
information-right label = exactly-fields (with (need (universal 8) _ _ refl (external-right label)) end)

-- ---- ACSE

name-right : Right types.application_context_name modules.application_context_name
name-right = explicit-right (universal 6) _ _ refl (oid-right None Application)

fixed-right : (n : ℕ) → Right (types.fixed n) (modules.fixed n)
fixed-right n = integer-right (Some n) Fixed

aarq-right : Right types.aarq modules.aarq
aarq-right = sequence-of-fields (with (need (context 1) _ _ refl name-right) (with (need (context 30) _ _ refl (information-right PciContext)) end))

aare-right : (n : ℕ) → Right (types.aare n) (modules.aare n)
aare-right n =
    sequence-of-fields
    (with (need (context 1) _ _ refl name-right)
    (with (need (context 2) _ _ refl (explicit-right (universal 2) _ _ refl (fixed-right n)))
    (with (need (context 3) _ _ refl (explicit-right (context 1) _ _ refl (explicit-right (universal 2) _ _ refl (fixed-right 0))))
    (with (need (context 30) _ _ refl (information-right PciContext)) end))))

release-right : Right types.release modules.release
release-right = sequence-of-fields (with (need (context 30) _ _ refl (information-right AnyContext)) end)

abrt-right : Right types.abrt modules.abrt
abrt-right = sequence-of-fields (with (need (context 0) _ _ refl (fixed-right 0)) (with (need (context 30) _ _ refl (information-right AnyContext)) end))

acse_data-right : (tags : Tags) (read : Form) (meaning : Meaning) → is_low tags ≡ true → Right read meaning → Right (types.acse_data tags read) (modules.acse_data tags meaning)
acse_data-right tags read meaning small right = one_data-right AcseContext (typed tags read) (tagged tags meaning) (typed-right tags read meaning small right)

-- ---- presentation

mode-right : Right types.mode_selector modules.mode_selector
mode-right = sequence-of-fields (with (need (context 0) _ _ refl (fixed-right 1)) end)

proposal-right : Right types.proposal modules.proposal
proposal-right =
    exactly-fields
    (with (need (universal 2) _ _ refl (integer-right None Proposal))
    (with (need (universal 6) _ _ refl (oid-right None Abstract))
    (with (need (universal 16) _ _ refl (sequence_of-right (universal 6) _ _ refl (oid-right None Transfer))) end)))

accepts : Fields types.accepted_outcome modules.accepted_outcome
accepts = (with (need (context 0) _ _ refl (integer-right (Some 0) Outcome)) (with (need (context 1) _ _ refl (oid-right (Some ber) Stated)) end))

refuses : Fields types.refused_outcome modules.refused_outcome
refuses = (with (need (context 0) _ _ refl (integer-right (Some 2) Outcome)) end)

parameters-right : Right types.cp_parameters modules.cp_parameters
parameters-right =
    sequence-of-fields
    (with (need (context 4) _ _ refl (sequence_of-right (universal 16) _ _ refl proposal-right))
    (with (need (application 1) _ _ refl (acse_data-right (application 0) _ _ refl aarq-right)) end))

-- a value isn't of both tags
apart : (tree : Tree) → is_tagged (context 2) tree ≡ true → is_tagged (context 0) tree ≡ false
apart tree e = numbers (root tree).class (root tree).number e
  where
    numbers : (class n : ℕ) → (nat_eq class 2 && nat_le 2 n && nat_le n 2) ≡ true → (nat_eq class 2 && nat_le 0 n && nat_le n 0) ≡ false
    numbers class n e = grind (arith, nat_tests)

cp-right : Right types.cp modules.cp
cp-right = set-right _ _ _ _ (need (context 0) _ _ refl mode-right) (need (context 2) _ _ refl parameters-right) refl refl apart

responses : (n : ℕ) → Fields (types.response n) (modules.response n)
responses n =
    (with (need (context 5) _ _ refl (sequence_of-right (universal 16) _ _ refl (outcome-right accepts.rights refuses.rights)))
    (with (need (application 1) _ _ refl (acse_data-right (application 1) _ _ refl (aare-right n))) end))

cpa-right : Right types.cpa modules.cpa
cpa-right = set-right _ _ _ _ (need (context 0) _ _ refl mode-right) (need (context 2) _ _ refl (sequence-of-fields (responses 0))) refl refl apart

cpr-right : Right types.cpr modules.cpr
cpr-right = sequence-of-fields (responses 1)

aru-right : Right types.aru modules.aru
aru-right = sequence-of-fields (with (need (application 1) _ _ refl (acse_data-right (application 4) _ _ refl abrt-right)) end)

resynchronization-right : Right types.resynchronization modules.resynchronization
resynchronization-right =
    sequence-of-fields (with (may (context 0) _ _ refl skipped-right) (with (need (application 1) _ _ refl (one_data-right AnyContext one any one-right)) end))

-- ---- user data

abbrev meant_if : Bool → Option (List Mark) → Option (List Mark) → Option (List Mark)
meant_if b x y = if b then x else y

alone-read : (meaning : Meaning) (octets : List ℕ) (v : Reading) → Takes octets v → option_and_then (alone meaning) (values_by values octets v) ≡ meant_by meaning (length octets) v
alone-read meaning octets (Read tree n) t = by (drop n octets) refl
  where
    ends_here : length (drop n octets) ≡ 0 → nat_eq n (length octets) ≡ true
    ends_here e = let long = length-drop n octets in let within = t.1 in grind (arith, nat_tests)

    goes_on : (k : ℕ) → length (drop n octets) ≡ suc k → nat_eq n (length octets) ≡ false
    goes_on k e = let long = length-drop n octets in grind (arith, nat_tests)

    by : (rest : List ℕ) → drop n octets ≡ rest → option_and_then (alone meaning) (option_map (λ ts. tree ∷ ts) (values (drop n octets))) ≡ meant_if (nat_eq n (length octets)) (meaning tree) None
    by [] e =
        ap (λ o. option_and_then (alone meaning) (option_map (λ ts. tree ∷ ts) (values o))) e ∙ ap (λ o. option_and_then (alone meaning) (option_map (λ ts. tree ∷ ts) o)) values-none
        ∙ ap (λ b. meant_if b (meaning tree) None) (sym (ends_here (ap length e)))
    by (octet ∷ others) e =
        ap (λ o. option_and_then (alone meaning) (option_map (λ ts. tree ∷ ts) (values o))) e ∙ more-than-one meaning tree (values (octet ∷ others)) (values-some octet others)
        ∙ ap (λ b. meant_if b (meaning tree) None) (sym (goes_on (length others) (ap length e)))
alone-read meaning octets Short t = refl
alone-read meaning octets (Bad at) t = refl
alone-read meaning octets (Deep at) t = refl
alone-read meaning octets (Long at) t = refl

alone-meant : (meaning : Meaning) (octets : List ℕ) → option_and_then (alone meaning) (values octets) ≡ meant meaning octets
alone-meant meaning [] = ap (option_and_then (alone meaning)) values-none ∙ ap (meant_by meaning 0) (sym reading-none)
alone-meant meaning (octet ∷ octets) =
    ap (option_and_then (alone meaning)) (values-next octet octets) ∙ alone-read meaning (octet ∷ octets) (reading (octet ∷ octets)) (takes (octet ∷ octets))

data-agrees : (tags : Tags) (read : Form) (meaning : Meaning) (octets : List ℕ) → is_low tags ≡ true → Right read meaning → Agrees (typed tags read octets []) [] (meant (tagged tags meaning) octets)
data-agrees tags read meaning octets small right =
    let all = typed-right tags read meaning small right in
    agrees-meant _ [] _ _ (sym (alone-meant (tagged tags meaning) octets)) (all.agrees octets [])

none-if : (b : Bool) → meant_if b None None ≡ None
none-if true = refl
none-if false = refl

none-by : (len : ℕ) (v : Reading) → meant_by modules.none len v ≡ None
none-by len (Read tree n) = none-if (nat_eq n len)
none-by len Short = refl
none-by len (Bad at) = refl
none-by len (Deep at) = refl
none-by len (Long at) = refl

no-data : (octets : List ℕ) → Agrees (found_in None octets) [] (meant modules.none octets)
no-data octets = agrees-meant (Err 0) [] _ None (none-by (length octets) (reading octets)) tt

pub found_is_meant : IsMeant
found_is_meant CN octets = data-agrees (universal 17) types.cp modules.cp octets refl cp-right
found_is_meant AC octets = data-agrees (universal 17) types.cpa modules.cpa octets refl cpa-right
found_is_meant RF octets = data-agrees (universal 16) types.cpr modules.cpr octets refl cpr-right
found_is_meant FN octets = data-agrees (application 1) _ _ octets refl (acse_data-right (application 2) types.release modules.release refl release-right)
found_is_meant DN octets = data-agrees (application 1) _ _ octets refl (acse_data-right (application 3) types.release modules.release refl release-right)
found_is_meant AB octets = data-agrees (context 0) types.aru modules.aru octets refl aru-right
found_is_meant DT octets = data-agrees (application 1) types.all_data modules.all_data octets refl all_data-right
found_is_meant RS octets = data-agrees (universal 16) types.resynchronization modules.resynchronization octets refl resynchronization-right
found_is_meant RA octets = data-agrees (universal 16) types.resynchronization modules.resynchronization octets refl resynchronization-right
found_is_meant AA octets = no-data octets
found_is_meant GT octets = no-data octets
found_is_meant MIP octets = no-data octets
found_is_meant MIA octets = no-data octets
