-- Whatever is read has serial numbers of six digits.
use Rattle.std.proofs.Common.{◌≡◌, ℕ, ◌+◌, ◌≤◌, Bool, true, false, cond, nat_eq, nat_le, ◌&&◌, List, [], ◌∷◌, length, get_or, Option, Some, None, Result, Ok, Err, refl, subst, arith}
use Rattle.std.proofs.lemmas.Bool.Decides.{nat_tests}
use Rattle.std.specs.List.{list_all, AllByRecursion}
use Rattle.vf_base.specs.declared.spdu_kind.SpduKind.{SpduKind}
use Rattle.vf_session_spdu.specs.declared.errors.SpduError.{SpduError}
use Rattle.vf_session_spdu.specs.declared.errors.SpduError.TheVariants as errors
use Rattle.vf_session_spdu.specs.declared.spdu.Spdu.{Spdu}
use Rattle.vf_session_spdu.specs.declared.spdu.SpduFields.{SpduFields}
use Rattle.vf_session_spdu.specs.declared.table.Form.{Form}
use Rattle.vf_session_spdu.specs.declared.table.Form.TheVariants.{Fixed, Either, Octet, Pair, Digits, Reasoned, AtMost, UserData}
use Rattle.vf_session_spdu.specs.declared.table.Row.{Row}
use Rattle.vf_session_spdu.specs.Fields.{◌>>=◌, IsReadable, is_serial, with_octet, with_number, with_value, with_row, with_part, with_parts, missing, complete, complete_by, bare, with_octets}
use Rattle.vf_session_spdu.specs.Kinds.{first_kind, second_kind}
use Rattle.vf_session_spdu.specs.Numbers.{number, last_serial}
use Rattle.vf_session_spdu.specs.Parts.{Part, parameter, cut, Measured, short, whole, measured, parts}
use Rattle.vf_session_spdu.specs.Reading.{Followed, assembled, followed, is_dt, is_gt, one, one_by, nothing_after, second, second_by, follows, first_by, reading}
use Rattle.vf_session_spdu.specs.Table.{fits, is_digit, row_at}
use Rattle.vf_session_spdu.proofs.NumberLemmas.{digit-all}

and_true : (a b : Bool) → (a && b) ≡ true → (a ≡ true) × (b ≡ true)
and_true true b h = (refl, h)
and_true false b h = absurd cc

-- ---- six digits

small : (v : List ℕ) → length v ≤ 6 → list_all is_digit v ≡ true → number v ≤ 999999
small [] h all = omega arith
small (a ∷ []) h all = let d0 = digit-all 0 (a ∷ []) 0 all (omega arith) in omega arith
small (a ∷ b ∷ []) h all =
    let d0 = digit-all 0 (a ∷ b ∷ []) 0 all (omega arith) in
    let d1 = digit-all 0 (a ∷ b ∷ []) 1 all (omega arith) in
    omega arith
small (a ∷ b ∷ c ∷ []) h all =
    let d0 = digit-all 0 (a ∷ b ∷ c ∷ []) 0 all (omega arith) in
    let d1 = digit-all 0 (a ∷ b ∷ c ∷ []) 1 all (omega arith) in
    let d2 = digit-all 0 (a ∷ b ∷ c ∷ []) 2 all (omega arith) in
    omega arith
small (a ∷ b ∷ c ∷ d ∷ []) h all =
    let d0 = digit-all 0 (a ∷ b ∷ c ∷ d ∷ []) 0 all (omega arith) in
    let d1 = digit-all 0 (a ∷ b ∷ c ∷ d ∷ []) 1 all (omega arith) in
    let d2 = digit-all 0 (a ∷ b ∷ c ∷ d ∷ []) 2 all (omega arith) in
    let d3 = digit-all 0 (a ∷ b ∷ c ∷ d ∷ []) 3 all (omega arith) in
    omega arith
small (a ∷ b ∷ c ∷ d ∷ e ∷ []) h all =
    let d0 = digit-all 0 (a ∷ b ∷ c ∷ d ∷ e ∷ []) 0 all (omega arith) in
    let d1 = digit-all 0 (a ∷ b ∷ c ∷ d ∷ e ∷ []) 1 all (omega arith) in
    let d2 = digit-all 0 (a ∷ b ∷ c ∷ d ∷ e ∷ []) 2 all (omega arith) in
    let d3 = digit-all 0 (a ∷ b ∷ c ∷ d ∷ e ∷ []) 3 all (omega arith) in
    let d4 = digit-all 0 (a ∷ b ∷ c ∷ d ∷ e ∷ []) 4 all (omega arith) in
    omega arith
small (a ∷ b ∷ c ∷ d ∷ e ∷ f ∷ []) h all =
    let d0 = digit-all 0 (a ∷ b ∷ c ∷ d ∷ e ∷ f ∷ []) 0 all (omega arith) in
    let d1 = digit-all 0 (a ∷ b ∷ c ∷ d ∷ e ∷ f ∷ []) 1 all (omega arith) in
    let d2 = digit-all 0 (a ∷ b ∷ c ∷ d ∷ e ∷ f ∷ []) 2 all (omega arith) in
    let d3 = digit-all 0 (a ∷ b ∷ c ∷ d ∷ e ∷ f ∷ []) 3 all (omega arith) in
    let d4 = digit-all 0 (a ∷ b ∷ c ∷ d ∷ e ∷ f ∷ []) 4 all (omega arith) in
    let d5 = digit-all 0 (a ∷ b ∷ c ∷ d ∷ e ∷ f ∷ []) 5 all (omega arith) in
    omega arith
small (a ∷ b ∷ c ∷ d ∷ e ∷ f ∷ g ∷ v) h all = absurd (omega arith)

number-small : (v : List ℕ) → fits Digits v ≡ true → nat_le (number v) last_serial ≡ true
number-small v h =
    let parts = and_true (nat_le 1 (length v) && nat_le (length v) 6) (list_all is_digit v) h in
    let sizes = and_true (nat_le 1 (length v)) (nat_le (length v) 6) parts.0 in
    let size : nat_le (length v) 6 ≡ true = sizes.1 in
    let few : length v ≤ 6 = grind (arith, nat_tests) in
    let n : number v ≤ 999999 = small v few parts.1 in
    grind (arith, nat_tests)

-- ---- the fields

abbrev Numbered : SpduFields → Type 0
Numbered fields = (is_serial fields.first ≡ true) × (is_serial fields.serial ≡ true)

pick : (b : Bool) (x y : SpduFields) → Numbered x → Numbered y → Numbered (cond b x y)
pick true x y p q = p
pick false x y p q = q

octet-numbered : (code n : ℕ) (f : SpduFields) → Numbered f → Numbered (with_octet code n f)
octet-numbered code n f h =
    pick (nat_eq code 16) _ _ h (pick (nat_eq code 17) _ _ h (pick (nat_eq code 26) _ _ h (pick (nat_eq code 27) _ _ h h)))

number-numbered : (code n : ℕ) (f : SpduFields) → nat_le n last_serial ≡ true → Numbered f → Numbered (with_number code n f)
number-numbered code n f b h = pick (nat_eq code 23) _ _ (b, h.1) (pick (nat_eq code 42) _ _ (h.0, b) h)

value-numbered : (form : Form) (code : ℕ) (v : List ℕ) (s : Spdu) → fits form v ≡ true → Numbered s.fields → Numbered (with_value form code v s).fields
value-numbered (Fixed octet) code v s f h = octet-numbered code (get_or v 0 0) s.fields h
value-numbered (Either a b) code v s f h = octet-numbered code (get_or v 0 0) s.fields h
value-numbered Octet code v s f h = octet-numbered code (get_or v 0 0) s.fields h
value-numbered Pair code v s f h = h
value-numbered Digits code v s f h = number-numbered code (number v) s.fields (number-small v f) h
value-numbered Reasoned code v s f h = h
value-numbered (AtMost most) code v s f h = h
value-numbered UserData code v s f h = h

-- ---- reading

pub bound : {A B : Type 0} (r : Result A SpduError) (f : A → Result B SpduError) (y : B) → (r >>= f) ≡ Ok y → (x : A) × (r ≡ Ok x) × (f x ≡ Ok y)
bound (Ok x) f y h = (x, refl, h)
bound (Err e) f y h = absurd cc

pub guarded : (b : Bool) (x y : Spdu) (e : SpduError) → cond b (Ok x) (Err e) ≡ Ok y → (b ≡ true) × (x ≡ y)
guarded true x y e h = (refl, cc)
guarded false x y e h = absurd cc

abbrev done : {A : Type 0} → A → Result A SpduError
done x = Ok x

pub is_ok : {A : Type 0} (x y : A) → done x ≡ done y → x ≡ y
is_ok x y h = cc

along : (x y : Spdu) → x ≡ y → Numbered x.fields → Numbered y.fields
along x y e h = let P : Spdu → Type 0 = λ s. Numbered s.fields in subst P e h

by-numbered : (row : Option Row) (code : ℕ) (v : List ℕ) (s s' : Spdu) → with_row row code v s ≡ Ok s' → Numbered s.fields → Numbered s'.fields
by-numbered None code v s s' h n = along s s' (is_ok s s' h) n
by-numbered (Some row) code v s s' h n =
    let g = guarded (fits row.form v) (with_value row.form code v s) s' (errors.Value code) h in
    along (with_value row.form code v s) s' g.1 (value-numbered row.form code v s g.0 n)

with_part-numbered : (part : Part) (s s' : Spdu) → with_part s part ≡ Ok s' → Numbered s.fields → Numbered s'.fields
with_part-numbered (parameter group code v) s s' h n = by-numbered (row_at s.kind group code) code v s s' h n
with_part-numbered (cut place) s s' h n = absurd cc

with_parts-numbered : (ps : List Part) (s s' : Spdu) → with_parts s ps ≡ Ok s' → Numbered s.fields → Numbered s'.fields
with_parts-numbered [] s s' h n = along s s' (is_ok s s' h) n
with_parts-numbered (p ∷ ps) s s' h n =
    let b = bound (with_part s p) (λ s. with_parts s ps) s' h in
    with_parts-numbered ps b.0 s' b.2 (with_part-numbered p s b.0 b.1 n)

complete-numbered : (row : Option Row) (s s' : Spdu) → complete_by s row ≡ Ok s' → Numbered s.fields → Numbered s'.fields
complete-numbered None s s' h n = along s s' (is_ok s s' h) n
complete-numbered (Some row) s s' h n = absurd cc

assembled-numbered : (kind : SpduKind) (place : ℕ) (v : List ℕ) (s : Spdu) → assembled kind place v ≡ Ok s → Numbered s.fields
assembled-numbered kind place v s h =
    let b = bound (with_parts (bare kind) (parts kind place v)) complete s h in
    complete-numbered (missing b.0) b.0 s b.2 (with_parts-numbered (parts kind place v) (bare kind) b.0 b.1 (refl, refl))

after-numbered : (b : Bool) (s : Spdu) (place : ℕ) (more : List ℕ) → Numbered s.fields → Numbered (let x : Followed = cond b (record { spdu = with_octets s more; place = place; more = [] }) (record { spdu = s; place = place; more = more }) in x).spdu.fields
after-numbered true s place more n = n
after-numbered false s place more n = n

one-numbered : (kind : SpduKind) (place : ℕ) (x : Measured) (y : Followed) → one_by kind place x ≡ Ok y → Numbered y.spdu.fields
one-numbered kind place short y h = absurd cc
one-numbered kind place (whole spelled v more) y h =
    let b = bound (assembled kind (place + 1 + spelled) v) (λ spdu. Ok (followed kind spdu (place + 1 + spelled + length v) more)) y h in
    let P : Followed → Type 0 = λ y. Numbered y.spdu.fields in
    subst P (is_ok (followed kind b.0 (place + 1 + spelled + length v) more) y b.2) (after-numbered (is_dt kind) b.0 (place + 1 + spelled + length v) more (assembled-numbered kind (place + 1 + spelled) v b.0 b.1))

readable : (s : Spdu) → Numbered s.fields → IsReadable s
readable s n = record { first = n.0; serial = n.1 }

last-readable : (place : ℕ) (more : List ℕ) (x y : List Spdu) → nothing_after place more x ≡ Ok y → AllByRecursion IsReadable x → AllByRecursion IsReadable y
last-readable place [] x y h a = let P : List Spdu → Type 0 = λ x. AllByRecursion IsReadable x in subst P (is_ok x y h) a
last-readable place (octet ∷ more) x y h a = absurd cc

second_by-readable : (gt : Spdu) (place : ℕ) (kind : Option SpduKind) (octets : List ℕ) (y : List Spdu) → second_by gt place kind octets ≡ Ok y → Numbered gt.fields → AllByRecursion IsReadable y
second_by-readable gt place None octets y h n = absurd cc
second_by-readable gt place (Some kind) octets y h n =
    let b = bound (one kind place octets) (λ x. nothing_after x.place x.more (gt ∷ x.spdu ∷ [])) y h in
    last-readable b.0.place b.0.more (gt ∷ b.0.spdu ∷ []) y b.2 (readable gt n, (readable b.0.spdu (one-numbered kind place (measured octets) b.0 b.1), tt))

second-readable : (gt : Spdu) (place : ℕ) (octets : List ℕ) (y : List Spdu) → second gt place octets ≡ Ok y → Numbered gt.fields → AllByRecursion IsReadable y
second-readable gt place [] y h n = let P : List Spdu → Type 0 = λ x. AllByRecursion IsReadable x in subst P (is_ok (gt ∷ []) y h) (readable gt n, tt)
second-readable gt place (code ∷ octets) y h n = second_by-readable gt place (second_kind code) octets y h n

follows-readable : (b : Bool) (x : Followed) (y : List Spdu) → cond b (second x.spdu x.place x.more) (nothing_after x.place x.more (x.spdu ∷ [])) ≡ Ok y → Numbered x.spdu.fields → AllByRecursion IsReadable y
follows-readable true x y h n = second-readable x.spdu x.place x.more y h n
follows-readable false x y h n = last-readable x.place x.more (x.spdu ∷ []) y h (readable x.spdu n, tt)

first-readable : (kind : Option SpduKind) (octets : List ℕ) (y : List Spdu) → first_by kind octets ≡ Ok y → AllByRecursion IsReadable y
first-readable None octets y h = absurd cc
first-readable (Some kind) octets y h =
    let b = bound (one kind 0 octets) (follows kind) y h in
    follows-readable (is_gt kind) b.0 y b.2 (one-numbered kind 0 (measured octets) b.0 b.1)

pub reading-readable : (tsdu : List ℕ) (spdus : List Spdu) → reading tsdu ≡ Ok spdus → AllByRecursion IsReadable spdus
reading-readable [] spdus h = absurd cc
reading-readable (code ∷ octets) spdus h = first-readable (first_kind code) octets spdus h
