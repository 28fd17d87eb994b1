-- Of the types of presentation and ACSE the least place of a fault is told.
use Rattle.std.proofs.Common.{◌≡◌, ℕ, suc, ◌≤◌, Bool, true, false, true≢false, List, [], ◌∷◌, All, Contains, refl, sym, arith, inl, inr}
use Rattle.std.specs.Prelude.{MatchOption, not, ◌&&◌, ◌||◌, ◌⊎◌, nat_eq, nat_le, Option, None, Some, Ok, Err}
use Rattle.std.proofs.lemmas.Bool.Decides.{nat_tests}
use Rattle.std.proofs.lemmas.List.Elements.{All-cons, All-nil}
use Rattle.vf_base.specs.declared.spdu_kind.SpduKind.TheVariants.{CN, AC, RF, FN, DN, AB, AA, DT, GT, MIP, MIA, RS, RA}
use Rattle.vf_upper_grammar.specs.declared.labels.NameLabel.TheVariants.{Stated, Abstract, Transfer, Application}
use Rattle.vf_upper_grammar.specs.declared.labels.NumberLabel.{NumberLabel}
use Rattle.vf_upper_grammar.specs.declared.labels.NumberLabel.TheVariants.{Fixed, Proposal, Outcome, AcseContext, PciContext, AnyContext}
use Rattle.vf_upper_grammar.specs.FaultPlaces as places
use Rattle.vf_upper_grammar.specs.FaultPlaces.{LeastIsTold, OthersHaveFaults, Tells}
use Rattle.vf_upper_grammar.specs.Faults as faults
use Rattle.vf_upper_grammar.specs.Faults.{Faults, is_of, OctetFaults, Places}
use Rattle.vf_upper_grammar.specs.Forms as forms
use Rattle.vf_upper_grammar.specs.Forms.{Form, has_tag, Tags}
use Rattle.vf_upper_grammar.specs.Marks.{Found, Mark}
use Rattle.vf_upper_grammar.specs.Meant.{Agrees}
use Rattle.vf_upper_grammar.specs.Modules.{meaning_of, meant}
use Rattle.vf_upper_grammar.specs.Parts.{class_of, number_of, Part}
use Rattle.vf_upper_grammar.specs.Syntaxes.{ber}
use Rattle.vf_upper_grammar.specs.Texts.{carried, carried_data, OctetForm, one, typed}
use Rattle.vf_upper_grammar.specs.Types as types
use Rattle.vf_upper_grammar.specs.Types.{application, context, found_in, universal, user_data_of, zero_or_one}
use Rattle.vf_upper_grammar.proofs.Least.{From, In, integer-least, Least, oid-least, sequence_of-least, skipped-least, Told, told-fault}
use Rattle.vf_upper_grammar.proofs.LeastChosen.{outcome-least, set-least}
use Rattle.vf_upper_grammar.proofs.LeastHeld.{carried-least, carried_data-least, LeastOctets, one-least, typed-least}
use Rattle.vf_upper_grammar.proofs.LeastOrdered.{AreApart, exactly-least, LeastField, LeastFields, sequence-least}
use Rattle.vf_upper_grammar.proofs.TypesMeant.{found_is_meant}

-- ---- tags

-- of two classes, or the numbers of one before those of the other
abbrev apart_tags : Tags → Tags → Bool
apart_tags t u = not (nat_eq t.class u.class && nat_le t.from u.to && nat_le u.from t.to)

tag-apart : (t u : Tags) (first : ℕ) → apart_tags t u ≡ true → has_tag u first ≡ true → has_tag t first ≡ false
tag-apart t u first apart has = numbers t.class u.class (class_of first) t.from t.to u.from u.to (number_of first) apart has
  where
    numbers : (a b c tf tt uf ut n : ℕ) → not (nat_eq a b && nat_le tf ut && nat_le uf tt) ≡ true → (nat_eq c b && nat_le uf n && nat_le n ut) ≡ true
        → (nat_eq c a && nat_le tf n && nat_le n tt) ≡ false
    numbers a b c tf tt uf ut n e h = grind (arith, nat_tests)

abbrev apart_from : Tags → List faults.Field → Bool
apart_from tags [] = true
apart_from tags (field ∷ fields) = apart_tags tags field.tags && apart_from tags fields

and-left : (a b : Bool) → (a && b) ≡ true → a ≡ true
and-left true b e = refl
and-left false b e = e

and-right : (a b : Bool) → (a && b) ≡ true → b ≡ true
and-right true b e = e
and-right false b e = absurd (true≢false (sym e))

or-cases : (a b : Bool) → (a || b) ≡ true → (a ≡ true) ⊎ (b ≡ true)
or-cases true b e = inl refl
or-cases false b e = inr e

field-apart : (tags : Tags) (fields : List faults.Field) → apart_from tags fields ≡ true → (part : Part) → is_of fields part ≡ true → has_tag tags part.first ≡ false
field-apart tags [] e part is = absurd (true≢false (sym is))
field-apart tags (field ∷ fields) e part is = by (or-cases (has_tag field.tags part.first) (is_of fields part) is) (field-apart tags fields (and-right (apart_tags tags field.tags) (apart_from tags fields) e) part)
  where
    by : (has_tag field.tags part.first ≡ true) ⊎ (is_of fields part ≡ true) → (is_of fields part ≡ true → has_tag tags part.first ≡ false) → has_tag tags part.first ≡ false
    by (inl here) others = tag-apart tags field.tags part.first (and-left (apart_tags tags field.tags) (apart_from tags fields) e) here
    by (inr there) others = others there

abbrev all_apart : List faults.Field → Bool
all_apart [] = true
all_apart (field ∷ fields) = apart_from field.tags fields && all_apart fields

are-apart : (fields : List faults.Field) → all_apart fields ≡ true → AreApart fields
are-apart [] e = tt
are-apart (field ∷ fields) e =
    (field-apart field.tags fields (and-left (apart_from field.tags fields) (all_apart fields) e), are-apart fields (and-right (apart_from field.tags fields) (all_apart fields) e))

-- ---- fields

need : (tags : Tags) (read : Form) (of : Faults) → Least read of → LeastField (types.required tags read) (places.required tags of)
need tags read of least = record { tags = refl; required = refl; least = least }

may : (tags : Tags) (read : Form) (of : Faults) → Least read of → LeastField (types.optional tags read) (places.optional tags of)
may tags read of least = record { tags = refl; required = refl; least = least }

-- the same of a list of them, which its types determine
record Fields (fields : List forms.Field) (of : List faults.Field) : Type 0 where
  pub leasts : LeastFields fields of

end : Fields [] []
end = record { leasts = tt }

with : {field : forms.Field} {one : faults.Field} {fields : List forms.Field} {of : List faults.Field} → LeastField field one → Fields fields of → Fields (field ∷ fields) (one ∷ of)
with least leasts = record { leasts = (least, leasts.leasts) }

sequence-of-fields : {fields : List forms.Field} {of : List faults.Field} → Fields fields of → all_apart of ≡ true → Least (forms.sequence fields) (faults.sequence of)
sequence-of-fields {fields} {of} least apart = sequence-least fields of least.leasts (are-apart of apart)

exactly-fields : {fields : List forms.Field} {of : List faults.Field} → Fields fields of → all_apart of ≡ true → Least (forms.exactly fields) (faults.exactly of)
exactly-fields {fields} {of} least apart = exactly-least fields of least.leasts (are-apart of apart)

explicit-least : (tags : Tags) (read : Form) (of : Faults) → Least read of → Least (types.explicit tags read) (places.explicit tags of)
explicit-least tags read of least = exactly-fields (with (need tags read of least) end) refl

-- ---- values in contexts

pdv_list-least : (label : NumberLabel) (read : Form) (of : Faults) → Least read of → Least (types.pdv_list label read) (places.pdv_list of)
pdv_list-least label read of least =
    exactly-fields
    (with (may (universal 6) _ _ (oid-least None Stated)) (with (need (universal 2) _ _ (integer-least None label)) (with (need zero_or_one read of least) end))) refl

all_data-least : Least types.all_data places.all_data
all_data-least = sequence_of-least (universal 16) _ _ (pdv_list-least AnyContext carried_data faults.carried_data carried_data-least)

one_data-least : (label : NumberLabel) (form : OctetForm) (of : OctetFaults) → LeastOctets form of → Least (types.one_data label form) (places.one_data of)
one_data-least label form of least =
    exactly-fields (with (need (universal 16) _ _ (pdv_list-least label (carried form) (faults.carried of) (carried-least form of least))) end) refl

external-least : (label : NumberLabel) → Least (types.external label) places.external
external-least label =
    exactly-fields (with (need (universal 2) _ _ (integer-least None label)) (with (need zero_or_one (carried one) (faults.carried faults.one) (carried-least one faults.one one-least)) end)) refl

information-least : (label : NumberLabel) → Least (types.user_information label) places.user_information
information-least label = exactly-fields (with (need (universal 8) _ _ (external-least label)) end) refl

-- ---- ACSE

name-least : Least types.application_context_name places.application_context_name
name-least = explicit-least (universal 6) _ _ (oid-least None Application)

fixed-least : (n : ℕ) → Least (types.fixed n) (places.fixed n)
fixed-least n = integer-least (Some n) Fixed

aarq-least : Least types.aarq places.aarq
aarq-least = sequence-of-fields (with (need (context 1) _ _ name-least) (with (need (context 30) _ _ (information-least PciContext)) end)) refl

aare-least : (n : ℕ) → Least (types.aare n) (places.aare n)
aare-least n =
    sequence-of-fields
    (with (need (context 1) _ _ name-least)
    (with (need (context 2) _ _ (explicit-least (universal 2) _ _ (fixed-least n)))
    (with (need (context 3) _ _ (explicit-least (context 1) _ _ (explicit-least (universal 2) _ _ (fixed-least 0))))
    (with (need (context 30) _ _ (information-least PciContext)) end)))) refl

release-least : Least types.release places.release
release-least = sequence-of-fields (with (need (context 30) _ _ (information-least AnyContext)) end) refl

abrt-least : Least types.abrt places.abrt
abrt-least = sequence-of-fields (with (need (context 0) _ _ (fixed-least 0)) (with (need (context 30) _ _ (information-least AnyContext)) end)) refl

acse_data-least : (tags : Tags) (read : Form) (of : Faults) → Least read of → Least (types.acse_data tags read) (places.acse_data tags of)
acse_data-least tags read of least = one_data-least AcseContext (typed tags read) (faults.typed tags of) (typed-least tags read of least)

-- ---- presentation

mode-least : Least types.mode_selector places.mode_selector
mode-least = sequence-of-fields (with (need (context 0) _ _ (fixed-least 1)) end) refl

proposal-least : Least types.proposal places.proposal
proposal-least =
    exactly-fields
    (with (need (universal 2) _ _ (integer-least None Proposal))
    (with (need (universal 6) _ _ (oid-least None Abstract))
    (with (need (universal 16) _ _ (sequence_of-least (universal 6) _ _ (oid-least None Transfer))) end))) refl

accepts : Fields types.accepted_outcome places.accepted_outcome
accepts = (with (need (context 0) _ _ (integer-least (Some 0) Outcome)) (with (need (context 1) _ _ (oid-least (Some ber) Stated)) end))

refuses : Fields types.refused_outcome places.refused_outcome
refuses = (with (need (context 0) _ _ (integer-least (Some 2) Outcome)) end)

entry-least : Least types.outcome places.outcome
entry-least = outcome-least accepts.leasts (are-apart places.accepted_outcome refl) refuses.leasts (are-apart places.refused_outcome refl)

parameters-least : Least types.cp_parameters places.cp_parameters
parameters-least =
    sequence-of-fields
    (with (need (context 4) _ _ (sequence_of-least (universal 16) _ _ proposal-least))
    (with (need (application 1) _ _ (acse_data-least (application 0) _ _ aarq-least)) end)) refl

modes-apart : (part : Part) → has_tag (context 2) part.first ≡ true → has_tag (context 0) part.first ≡ false
modes-apart part has = tag-apart (context 0) (context 2) part.first refl has

cp-least : Least types.cp places.cp
cp-least = set-least _ _ _ _ (need (context 0) _ _ mode-least) (need (context 2) _ _ parameters-least) refl refl modes-apart

responses : (n : ℕ) → Fields (types.response n) (places.response n)
responses n =
    (with (need (context 5) _ _ (sequence_of-least (universal 16) _ _ entry-least))
    (with (need (application 1) _ _ (acse_data-least (application 1) _ _ (aare-least n))) end))

cpa-least : Least types.cpa places.cpa
cpa-least = set-least _ _ _ _ (need (context 0) _ _ mode-least) (need (context 2) _ _ (sequence-of-fields (responses 0) refl)) refl refl modes-apart

cpr-least : Least types.cpr places.cpr
cpr-least = sequence-of-fields (responses 1) refl

aru-least : Least types.aru places.aru
aru-least = sequence-of-fields (with (need (application 1) _ _ (acse_data-least (application 4) _ _ abrt-least)) end) refl

resynchronization-least : Least types.resynchronization places.resynchronization
resynchronization-least =
    sequence-of-fields (with (may (context 0) _ _ skipped-least) (with (need (application 1) _ _ (one_data-least AnyContext one faults.one one-least)) end)) refl

-- ---- user data

contains : (at : ℕ) (xs : Places) → In at xs → Contains xs at
contains at [] i = absurd i
contains at (x ∷ xs) (inl e) = (0, omega arith, e)
contains at (x ∷ xs) (inr i) = let c = contains at xs i in let lt = c.1 in (suc c.0, omega arith, c.2)

from-all : (at : ℕ) (xs : Places) → From at xs → All (λ place. at ≤ place) xs
from-all at [] f = All-nil (λ place. at ≤ place)
from-all at (x ∷ xs) f = All-cons (λ place. at ≤ place) x xs f.0 (from-all at xs f.1)

tells : (x : Found) (xs : Places) → Told x xs → Tells x xs
tells (Ok marks) xs told = told
tells (Err at) xs told = (contains at xs told.0, from-all at xs told.1)

data-told : (tags : Tags) (read : Form) (of : Faults) (octets : List ℕ) → Least read of → Tells (typed tags read octets []) (faults.typed tags of octets)
data-told tags read of octets least = let all = typed-least tags read of least in tells _ _ (all.told octets [])

no-data : Tells (Err 0) (0 ∷ [])
no-data = tells (Err 0) (0 ∷ []) (told-fault 0)

pub least_is_told : LeastIsTold
least_is_told CN octets = data-told (universal 17) types.cp places.cp octets cp-least
least_is_told AC octets = data-told (universal 17) types.cpa places.cpa octets cpa-least
least_is_told RF octets = data-told (universal 16) types.cpr places.cpr octets cpr-least
least_is_told FN octets = data-told (application 1) _ _ octets (acse_data-least (application 2) types.release places.release release-least)
least_is_told DN octets = data-told (application 1) _ _ octets (acse_data-least (application 3) types.release places.release release-least)
least_is_told AB octets = data-told (context 0) types.aru places.aru octets aru-least
least_is_told DT octets = data-told (application 1) types.all_data places.all_data octets all_data-least
least_is_told RS octets = data-told (universal 16) types.resynchronization places.resynchronization octets resynchronization-least
least_is_told RA octets = data-told (universal 16) types.resynchronization places.resynchronization octets resynchronization-least
least_is_told AA octets = no-data
least_is_told GT octets = no-data
least_is_told MIP octets = no-data
least_is_told MIA octets = no-data

faulty : (x : Found) (xs : Places) (o : Option (List Mark)) → Tells x xs → Agrees x [] o → MatchOption o ((at : ℕ) × Contains xs at) (λ marks. xs ≡ [])
faulty (Ok marks) xs (Some others) told agrees = told
faulty (Ok marks) xs None told agrees = absurd agrees
faulty (Err at) xs (Some others) told agrees = absurd (cc)
faulty (Err at) xs None told agrees = (at, told.0)

pub others_have_faults : OthersHaveFaults
others_have_faults carrier octets =
    faulty (found_in (user_data_of carrier) octets) (places.fault_places carrier octets) (meant (meaning_of carrier) octets) (least_is_told carrier octets) (found_is_meant carrier octets)
