-- Of which SPDU the fault of a TSDU is, by its parameter.
use Rattle.std.proofs.Common.{◌≡◌, ℕ, ◌+◌, Bool, true, false, cond, nat_eq, ◌&&◌, ◌||◌, List, [], ◌∷◌, length, Option, Some, None, Result, Ok, Err, refl, ap, sym, subst, ◌∙◌, arith}
use Rattle.std.proofs.lemmas.Bool.Decides.{nat_tests}
use Rattle.std.specs.List.{list_any, find}
use Rattle.vf_base.specs.declared.spdu_kind.SpduKind.{SpduKind}
use Rattle.vf_base.specs.declared.spdu_kind.SpduKind.TheVariants.{CN, AC, RF, FN, DN, AB, AA, DT, GT, MIP, MIA, RS, RA}
use Rattle.vf_session_spdu.specs.declared.errors.SpduError.{SpduError}
use Rattle.vf_session_spdu.specs.declared.errors.SpduError.TheVariants.{Code, Length, Missing, Value, NoMemory}
use Rattle.vf_session_spdu.specs.declared.spdu.Spdu.{Spdu}
use Rattle.vf_session_spdu.specs.declared.table.Form.{Form}
use Rattle.vf_session_spdu.specs.declared.table.Form.TheVariants.{Fixed, Either, Octet, Pair, Digits, Reasoned, AtMost, UserData}
use Rattle.vf_session_spdu.specs.declared.table.Row.{Row}
use Rattle.vf_session_spdu.specs.Fields.{◌>>=◌, bare, with_value, with_row, with_part, with_parts, is_absent, missing, complete, complete_by}
use Rattle.vf_session_spdu.specs.Grammar.{goes_after}
use Rattle.vf_session_spdu.specs.Kinds.{code_of, first_kind, second_kind}
use Rattle.vf_session_spdu.specs.Parts.{Part, parameter, cut, Measured, short, whole, measured, parts}
use Rattle.vf_session_spdu.specs.Reading.{Followed, assembled, followed, is_gt, one, one_by, nothing_after, second, second_by, follows, first_by, reading, is_good, first_is_good, faulty_place, fault_place, place_after_gt}
use Rattle.vf_session_spdu.specs.Steps.{place_if_gt}
use Rattle.vf_session_spdu.specs.Table.{rows, row_at, fits}
use Rattle.vf_session_spdu.proofs.HoldsLemmas.{begins-kind, follows-kind, gt-is}

-- ---- the faults that an SPDU of a kind may have

abbrev has_code : SpduKind → ℕ → Bool
has_code kind code = list_any (λ row. nat_eq row.code code) (rows kind)

abbrev requires_some : SpduKind → Bool
requires_some kind = list_any (λ row. row.required) (rows kind)

abbrev MayFail : SpduKind → SpduError → Type 0
MayFail kind (Value code) = has_code kind code ≡ true
MayFail kind (Missing code) = requires_some kind ≡ true
MayFail kind fault = Unit {0}

or_true : (a b : Bool) → b ≡ true → (a || b) ≡ true
or_true true b h = refl
or_true false b h = h

any-by : (p q : Row → Bool) (x : Row) (xs : List Row) (row : Row) (b : Bool) → p x ≡ b → (p x ≡ true → q x ≡ true) → (find p xs ≡ Some row → list_any q xs ≡ true) → cond b (Some x) (find p xs) ≡ Some row → (q x || list_any q xs) ≡ true
any-by p q x xs row true e f more h = ap (λ b. b || list_any q xs) (f e)
any-by p q x xs row false e f more h = or_true (q x) (list_any q xs) (more h)

any-found : (p q : Row → Bool) → ((x : Row) → p x ≡ true → q x ≡ true) → (xs : List Row) (row : Row) → find p xs ≡ Some row → list_any q xs ≡ true
any-found p q f [] row h = absurd cc
any-found p q f (x ∷ xs) row h = any-by p q x xs row (p x) refl (f x) (any-found p q f xs row) h

and_first : (a b : Bool) → (a && b) ≡ true → a ≡ true
and_first true b h = refl
and_first false b h = absurd cc

row-code : (kind : SpduKind) (group code : ℕ) (row : Row) → row_at kind group code ≡ Some row → has_code kind code ≡ true
row-code kind group code row h =
    any-found (λ row. nat_eq row.code code && nat_eq row.group group) (λ row. nat_eq row.code code) (λ x. and_first (nat_eq x.code code) (nat_eq x.group group)) (rows kind) row h

-- ---- parameters

value-kind : (form : Form) (code : ℕ) (v : List ℕ) (s : Spdu) → (with_value form code v s).kind ≡ s.kind
value-kind (Fixed octet) code v s = refl
value-kind (Either a b) code v s = refl
value-kind Octet code v s = refl
value-kind Pair code v s = refl
value-kind Digits code v s = refl
value-kind Reasoned code v s = refl
value-kind (AtMost most) code v s = refl
value-kind UserData code v s = refl

-- what a parameter leaves: the kind, or such a fault
abbrev Leaves : Spdu → Result Spdu SpduError → Type 0
Leaves s (Ok s') = s'.kind ≡ s.kind
Leaves s (Err e) = MayFail s.kind e

leaves-by : (s s' : Spdu) (b : Bool) (code : ℕ) → s'.kind ≡ s.kind → has_code s.kind code ≡ true → Leaves s (cond b (Ok s') (Err (Value code)))
leaves-by s s' true code k h = k
leaves-by s s' false code k h = h

row-leaves : (s : Spdu) (group code : ℕ) (v : List ℕ) (row : Option Row) → row_at s.kind group code ≡ row → Leaves s (with_row row code v s)
row-leaves s group code v None e = refl
row-leaves s group code v (Some row) e = leaves-by s (with_value row.form code v s) (fits row.form v) code (value-kind row.form code v s) (row-code s.kind group code row e)

with_part-leaves : (s : Spdu) (p : Part) → Leaves s (with_part s p)
with_part-leaves s (parameter group code v) = row-leaves s group code v (row_at s.kind group code) refl
with_part-leaves s (cut place) = tt

leaves-kind : (s t : Spdu) (r : Result Spdu SpduError) → t.kind ≡ s.kind → Leaves t r → Leaves s r
leaves-kind s t (Ok u) k h = h ∙ k
leaves-kind s t (Err e) k h = let P : SpduKind → Type 0 = λ kind. MayFail kind e in subst P k h

leaves-along : (s : Spdu) (r : Result Spdu SpduError) (f : Spdu → Result Spdu SpduError) → Leaves s r → ((t : Spdu) → Leaves t (f t)) → Leaves s (r >>= f)
leaves-along s (Ok t) f h more = leaves-kind s t (f t) h (more t)
leaves-along s (Err e) f h more = h

with_parts-leaves : (ps : List Part) (s : Spdu) → Leaves s (with_parts s ps)
with_parts-leaves [] s = refl
with_parts-leaves (p ∷ ps) s = leaves-along s (with_part s p) (λ s. with_parts s ps) (with_part-leaves s p) (with_parts-leaves ps)

-- ---- one SPDU

missing-leaves : (s : Spdu) (row : Option Row) → missing s ≡ row → Leaves s (complete_by s row)
missing-leaves s None e = refl
missing-leaves s (Some row) e =
    any-found (λ row. row.required && is_absent s.fields row.code) (λ row. row.required) (λ x. and_first x.required (is_absent s.fields x.code)) (rows s.kind) row e

assembled-leaves : (kind : SpduKind) (place : ℕ) (v : List ℕ) → Leaves (bare kind) (assembled kind place v)
assembled-leaves kind place v = leaves-along (bare kind) (with_parts (bare kind) (parts kind place v)) complete (with_parts-leaves (parts kind place v) (bare kind)) (λ t. missing-leaves t (missing t) refl)

assembled-fails : (kind : SpduKind) (r : Result Spdu SpduError) (f : Spdu → Followed) (e : SpduError) → Leaves (bare kind) r → (r >>= (λ s. Ok (f s))) ≡ Err e → MayFail kind e
assembled-fails kind (Ok s) f e l h = absurd cc
assembled-fails kind (Err x) f e l h = let same : x ≡ e = cc in let P : SpduError → Type 0 = λ e. MayFail kind e in subst P same l

one-by-fails : (kind : SpduKind) (place : ℕ) (x : Measured) (e : SpduError) → one_by kind place x ≡ Err e → MayFail kind e
one-by-fails kind place short e h = let same : Length (place + 1) ≡ e = cc in let P : SpduError → Type 0 = λ e. MayFail kind e in subst P same tt
one-by-fails kind place (whole z v m) e h =
    assembled-fails kind (assembled kind (place + 1 + z) v) (λ spdu. followed kind spdu (place + 1 + z + length v) m) e (assembled-leaves kind (place + 1 + z) v) h

one-fails : (kind : SpduKind) (place : ℕ) (octets : List ℕ) (e : SpduError) → one kind place octets ≡ Err e → MayFail kind e
one-fails kind place octets e h = one-by-fails kind place (measured octets) e h

-- ---- whole TSDUs

-- a fault of a parameter, and one of a parameter that a GT has
abbrev about_parameter : SpduError → Bool
about_parameter (Value code) = true
about_parameter (Missing code) = true
about_parameter fault = false

abbrev pub is_of_gt : SpduError → Bool
is_of_gt (Value code) = nat_eq code 16
is_of_gt fault = false

gt-fault : (e : SpduError) → MayFail GT e → about_parameter e ≡ true → is_of_gt e ≡ true
gt-fault (Code at) m a = absurd cc
gt-fault (Length at) m a = absurd cc
gt-fault (Missing code) m a = absurd cc
gt-fault (Value code) m a = grind (arith, nat_tests)
gt-fault NoMemory m a = absurd cc

-- no SPDU that goes after a GT has its parameter
without-it : (kind : SpduKind) → goes_after kind ≡ true → has_code kind 16 ≡ false
without-it CN h = absurd cc
without-it AC h = absurd cc
without-it RF h = absurd cc
without-it FN h = absurd cc
without-it DN h = absurd cc
without-it AB h = absurd cc
without-it AA h = absurd cc
without-it DT h = refl
without-it GT h = absurd cc
without-it MIP h = refl
without-it MIA h = refl
without-it RS h = refl
without-it RA h = refl

other-by : (kind : SpduKind) (code : ℕ) (b : Bool) → nat_eq code 16 ≡ b → goes_after kind ≡ true → has_code kind code ≡ true → b ≡ false
other-by kind code false e k m = refl
other-by kind code true e k m =
    let same : code ≡ 16 = grind (arith, nat_tests) in
    let none : has_code kind code ≡ false = ap (has_code kind) same ∙ without-it kind k in
    absurd cc

other-fault : (kind : SpduKind) (e : SpduError) → goes_after kind ≡ true → MayFail kind e → is_of_gt e ≡ false
other-fault kind (Code at) k m = refl
other-fault kind (Length at) k m = refl
other-fault kind (Missing code) k m = refl
other-fault kind (Value code) k m = other-by kind code (nat_eq code 16) refl k m
other-fault kind NoMemory k m = refl

-- the place by these
abbrev place-by : List ℕ → SpduError → ℕ
place-by tsdu e = cond (is_of_gt e) 0 (place_if_gt tsdu)

abbrev done : List Spdu → Result (List Spdu) SpduError
done spdus = Ok spdus

abbrev fails : SpduError → Result (List Spdu) SpduError
fails e = Err e

last-fails : (place : ℕ) (more : List ℕ) (spdus : List Spdu) (e : SpduError) → nothing_after place more spdus ≡ fails e → about_parameter e ≡ true → ⊥
last-fails place [] spdus e h a = cc
last-fails place (x ∷ more) spdus e h a =
    let same : Length place ≡ e = cc in
    let b : about_parameter (Length place) ≡ true = ap about_parameter same ∙ a in
    cc

-- the second SPDU has the fault
second-read : (kind : SpduKind) (gt : Spdu) (r : Result Followed SpduError) (e : SpduError) → ((e : SpduError) → r ≡ Err e → MayFail kind e)
    → (r >>= (λ x. nothing_after x.place x.more (gt ∷ x.spdu ∷ []))) ≡ fails e → about_parameter e ≡ true → MayFail kind e
second-read kind gt (Ok x) e f h a = absurd (last-fails x.place x.more (gt ∷ x.spdu ∷ []) e h a)
second-read kind gt (Err x) e f h a = f e (let same : x ≡ e = cc in ap (λ (e : SpduError). let r : Result Followed SpduError = Err e in r) same)

second-by : (gt : Spdu) (place code : ℕ) (octets : List ℕ) (k : Option SpduKind) (e : SpduError) → second_kind code ≡ k → second_by gt place k octets ≡ fails e → about_parameter e ≡ true → is_of_gt e ≡ false
second-by gt place code octets None e t h a =
    let same : Code place ≡ e = cc in
    let b : about_parameter (Code place) ≡ true = ap about_parameter same ∙ a in
    absurd cc
second-by gt place code octets (Some kind) e t h a =
    other-fault kind e (follows-kind code kind t).1 (second-read kind gt (one kind place octets) e (one-fails kind place octets) h a)

second-fails : (gt : Spdu) (place : ℕ) (more : List ℕ) (e : SpduError) → second gt place more ≡ fails e → about_parameter e ≡ true → is_of_gt e ≡ false
second-fails gt place [] e h a = absurd cc
second-fails gt place (code ∷ octets) e h a = second-by gt place code octets (second_kind code) e refl h a

same-if : (b : Bool) → (let n : ℕ = cond b 0 0 in n ≡ 0)
same-if true = refl
same-if false = refl

-- the SPDU with the identifier 1 that begins a TSDU
gt-of : (kind : SpduKind) → code_of kind ≡ 1 → goes_after kind ≡ false → kind ≡ GT
gt-of CN c h = absurd cc
gt-of AC c h = absurd cc
gt-of RF c h = absurd cc
gt-of FN c h = absurd cc
gt-of DN c h = absurd cc
gt-of AB c h = absurd cc
gt-of AA c h = absurd cc
gt-of DT c h = absurd cc
gt-of GT c h = refl
gt-of MIP c h = absurd cc
gt-of MIA c h = absurd cc
gt-of RS c h = absurd cc
gt-of RA c h = absurd cc

-- a fault in the first SPDU
first-place : (kind : SpduKind) (code : ℕ) (octets : List ℕ) (e : SpduError) (b : Bool) → nat_eq code 1 ≡ b → code ≡ code_of kind → goes_after kind ≡ false → MayFail kind e → about_parameter e ≡ true
    → cond (is_of_gt e) 0 (cond b (place_after_gt (code ∷ octets)) 0) ≡ 0
first-place kind code octets e true t c k m a =
    let one : code ≡ 1 = grind (arith, nat_tests) in
    let g = gt-of kind (sym c ∙ one) k in
    let P : SpduKind → Type 0 = λ kind. MayFail kind e in
    ap (λ (b : Bool). cond b 0 (place_after_gt (code ∷ octets))) (gt-fault e (subst P g m) a)
first-place kind code octets e false t c k m a = same-if (is_of_gt e)

-- a fault after a GT
after-place : (kind : SpduKind) (code : ℕ) (octets : List ℕ) (e : SpduError) (b : Followed) (g : Bool) → is_gt kind ≡ g → code ≡ code_of kind → about_parameter e ≡ true
    → cond g (second b.spdu b.place b.more) (nothing_after b.place b.more (b.spdu ∷ [])) ≡ fails e → place-by (code ∷ octets) e ≡ place_after_gt (code ∷ octets)
after-place kind code octets e b true t c a h =
    let one : code ≡ 1 = c ∙ ap code_of (gt-is kind t) in
    let test : nat_eq code 1 ≡ true = grind (arith, nat_tests) in
    rw (second-fails b.spdu b.place b.more e h a, test) refl
after-place kind code octets e b false t c a h = absurd (last-fails b.place b.more (b.spdu ∷ []) e h a)

by-first : (kind : SpduKind) (code : ℕ) (octets : List ℕ) (e : SpduError) (r : Result Followed SpduError) → code ≡ code_of kind → goes_after kind ≡ false → ((e : SpduError) → r ≡ Err e → MayFail kind e) → about_parameter e ≡ true
    → (r >>= follows kind) ≡ fails e → place-by (code ∷ octets) e ≡ cond (is_good r) (place_after_gt (code ∷ octets)) 0
by-first kind code octets e (Ok b) c k f a h = after-place kind code octets e b (is_gt kind) refl c a h
by-first kind code octets e (Err x) c k f a h =
    let same : x ≡ e = cc in
    first-place kind code octets e (nat_eq code 1) refl c k (f e (ap (λ (e : SpduError). let r : Result Followed SpduError = Err e in r) same)) a

by-kind : (code : ℕ) (octets : List ℕ) (e : SpduError) (k : Option SpduKind) → first_kind code ≡ k → about_parameter e ≡ true → first_by k octets ≡ fails e
    → place-by (code ∷ octets) e ≡ cond (first_is_good k octets) (place_after_gt (code ∷ octets)) 0
by-kind code octets e None t a h =
    let same : Code 0 ≡ e = cc in
    let b : about_parameter (Code 0) ≡ true = ap about_parameter same ∙ a in
    absurd cc
by-kind code octets e (Some kind) t a h =
    let k = begins-kind code kind t in
    by-first kind code octets e (one kind 0 octets) k.0 k.1 (one-fails kind 0 octets) a h

parameter-place : (tsdu : List ℕ) (e : SpduError) → about_parameter e ≡ true → reading tsdu ≡ fails e → place-by tsdu e ≡ faulty_place tsdu
parameter-place [] e a h = same-if (is_of_gt e)
parameter-place (code ∷ octets) e a h = by-kind code octets e (first_kind code) refl a h

-- ---- as the code answers

pub missing-place : (tsdu : List ℕ) (fault : SpduError) (code place : ℕ) → fault ≡ Missing code → place ≡ place_if_gt tsdu → reading tsdu ≡ fails fault → place ≡ fault_place tsdu fault
missing-place tsdu fault code place f p h = p ∙ parameter-place tsdu (Missing code) refl (h ∙ ap fails f) ∙ sym (ap (fault_place tsdu) f)

pub value-place : (tsdu : List ℕ) (fault : SpduError) (code place : ℕ) → fault ≡ Value code → place ≡ cond (nat_eq code 16) 0 (place_if_gt tsdu) → reading tsdu ≡ fails fault → place ≡ fault_place tsdu fault
value-place tsdu fault code place f p h = p ∙ parameter-place tsdu (Value code) refl (h ∙ ap fails f) ∙ sym (ap (fault_place tsdu) f)
