-- The fault of reading is that of the parts.
use Rattle.std.proofs.Common.{◌≡◌, ℕ, ◌+◌, Bool, true, false, cond, ◌&&◌, List, [], ◌∷◌, length, Option, Some, None, Result, Ok, Err, refl, ap, sym, subst, ◌∙◌}
use Rattle.std.specs.List.{AllByRecursion, flat_map, list_any, find}
use Rattle.std.specs.Option.{option_map, option_or}
use Rattle.vf_base.specs.declared.spdu_kind.SpduKind.{SpduKind}
use Rattle.vf_session_spdu.specs.declared.errors.SpduError.{SpduError}
use Rattle.vf_session_spdu.specs.declared.errors.SpduError.TheVariants.{Code, Length, Missing, Value, NoMemory}
use Rattle.vf_session_spdu.specs.declared.spdu.Spdu.{Spdu}
use Rattle.vf_session_spdu.specs.declared.table.Row.{Row}
use Rattle.vf_session_spdu.specs.Faults.{part_fault, first_fault, part_filled, is_lacking, missing_fault, parts_fault, spdu_fault, left_fault, last_left, second_fault, second_fault_by, first_left, tsdu_fault, tsdu_fault_by, Shows}
use Rattle.vf_session_spdu.specs.Fields.{◌>>=◌, Fails, bare, with_octets, with_value, with_part, with_row, with_parts, is_absent, missing, complete, complete_by}
use Rattle.vf_session_spdu.specs.Grammar.{filled_with, is_of, fields_of}
use Rattle.vf_session_spdu.specs.Kinds.{first_kind, second_kind}
use Rattle.vf_session_spdu.specs.Parts.{Part, parameter, cut, Measured, short, whole, measured, parts}
use Rattle.vf_session_spdu.specs.Reading.{Followed, assembled, followed, is_dt, is_gt, one, one_by, nothing_after, second, second_by, follows, first_by, reading}
use Rattle.vf_session_spdu.specs.Table.{rows, row_at, fits}
use Rattle.vf_session_spdu.proofs.AfterLemmas.{not, after, after-append, after-bare, kind-after, stepped, value-steps, says, IsTold, told}
use Rattle.vf_session_spdu.proofs.HoldsLemmas.{gt-is}
use Rattle.vf_session_spdu.proofs.ReadableLemmas.{bound, is_ok}

abbrev fault-in : {A : Type 0} → Result A SpduError → Option SpduError
fault-in (Ok x) = None
fault-in (Err fault) = Some fault

in-turn : {A B : Type 0} (r : Result A SpduError) (f : A → Result B SpduError) (rest : Option SpduError) → ((x : A) → r ≡ Ok x → fault-in (f x) ≡ rest) → fault-in (r >>= f) ≡ option_or (fault-in r) rest
in-turn (Ok x) f rest h = h x refl
in-turn (Err e) f rest h = refl

or-none : (o : Option SpduError) → option_or o None ≡ o
or-none None = refl
or-none (Some e) = refl

-- ---- the parts of one SPDU

by-form : (b : Bool) (s : Spdu) (e : SpduError) → fault-in (cond b (Ok s) (Err e)) ≡ cond b None (Some e)
by-form true s e = refl
by-form false s e = refl

with_part-by-fault : (row : Option Row) (group code : ℕ) (value : List ℕ) (s : Spdu) → row_at s.kind group code ≡ row → fault-in (with_row row code value s) ≡ part_fault s.kind (parameter group code value)
with_part-by-fault None group code value s e = rw e refl
with_part-by-fault (Some row) group code value s e = rw e (by-form (fits row.form value) (with_value row.form code value s) (Value code))

with_part-fault : (part : Part) (s : Spdu) → fault-in (with_part s part) ≡ part_fault s.kind part
with_part-fault (parameter group code value) s = with_part-by-fault (row_at s.kind group code) group code value s refl
with_part-fault (cut place) s = refl

formed-after : (b : Bool) (s s' s'' : Spdu) (e : SpduError) → cond b (Ok s) (Err e) ≡ Ok s' → s ≡ s'' → s' ≡ s''
formed-after true s s' s'' e h k = sym (is_ok s s' h) ∙ k
formed-after false s s' s'' e h k = absurd cc

with_part-by-after : (row : Option Row) (group code : ℕ) (value : List ℕ) (s s' : Spdu) → row_at s.kind group code ≡ row → with_row row code value s ≡ Ok s' → s' ≡ after s (filled_with value row)
with_part-by-after None group code value s s' e h = sym (is_ok s s' h)
with_part-by-after (Some row) group code value s s' e h =
    formed-after (fits row.form value) (with_value row.form code value s) s' (stepped s (record { row = row; value = value })) (Value code) h (value-steps s.kind group code row e s value)

with_part-after : (part : Part) (s s' : Spdu) → with_part s part ≡ Ok s' → s' ≡ after s (part_filled s.kind part)
with_part-after (parameter group code value) s s' h = with_part-by-after (row_at s.kind group code) group code value s s' refl h
with_part-after (cut place) s s' h = absurd cc

kept : (part : Part) (s s' : Spdu) → with_part s part ≡ Ok s' → s'.kind ≡ s.kind
kept part s s' h = ap (λ (s : Spdu). s.kind) (with_part-after part s s' h) ∙ kind-after (part_filled s.kind part) s

with_parts-fault : (parts : List Part) (s : Spdu) → fault-in (with_parts s parts) ≡ first_fault s.kind parts
with_parts-fault [] s = refl
with_parts-fault (part ∷ parts) s =
    in-turn (with_part s part) (λ s. with_parts s parts) (first_fault s.kind parts) (λ s' e. with_parts-fault parts s' ∙ ap (λ (k : SpduKind). first_fault k parts) (kept part s s' e))
    ∙ ap (λ (o : Option SpduError). option_or o (first_fault s.kind parts)) (with_part-fault part s)

with_parts-after : (parts : List Part) (s s' : Spdu) → with_parts s parts ≡ Ok s' → s' ≡ after s (flat_map (part_filled s.kind) parts)
with_parts-after [] s s' h = sym (is_ok s s' h)
with_parts-after (part ∷ parts) s s' h =
    let b = bound (with_part s part) (λ s. with_parts s parts) s' h in
    let rest = with_parts-after parts b.0 s' b.2 in
    let own = with_part-after part s b.0 b.1 in
    let same = kept part s b.0 b.1 in
    rest
    ∙ ap (λ (k : SpduKind). after b.0 (flat_map (part_filled k) parts)) same
    ∙ ap (λ (t : Spdu). after t (flat_map (part_filled s.kind) parts)) own
    ∙ sym (after-append (part_filled s.kind part) (flat_map (part_filled s.kind) parts) s)

-- ---- what is missing

lacking : (required absent there : Bool) → (required ≡ true → absent ≡ not there) → (required && absent) ≡ (required && cond there false true)
lacking false absent there h = refl
lacking true absent true h = h refl
lacking true absent false h = h refl

found-by : (a b : Bool) (row : Row) (x y : Option Row) → a ≡ b → x ≡ y → cond a (Some row) x ≡ cond b (Some row) y
found-by a b row x y e h = ap (λ (c : Bool). cond c (Some row) x) e ∙ ap (cond b (Some row)) h

found : (kind : SpduKind) (parts : List Part) (rs : List Row) → (let xs = flat_map (part_filled kind) parts in AllByRecursion (IsTold xs) rs →
    find (λ row. row.required && is_absent (fields_of xs) row.code) rs ≡ find (is_lacking kind parts) rs)
found kind parts [] t = refl
found kind parts (row ∷ rs) t =
    let xs = flat_map (part_filled kind) parts in
    found-by (row.required && is_absent (fields_of xs) row.code) (is_lacking kind parts row) row _ _
    (lacking row.required (is_absent (fields_of xs) row.code) (list_any (is_of row.code) xs) t.0) (found kind parts rs t.1)

complete-fault : (s : Spdu) (row : Option Row) → fault-in (complete_by s row) ≡ option_map (λ row. Missing row.code) row
complete-fault s None = refl
complete-fault s (Some row) = refl

says-fault : (kind : SpduKind) (parts : List Part) → fault-in (complete (says kind (flat_map (part_filled kind) parts))) ≡ missing_fault kind parts
says-fault kind parts =
    let xs = flat_map (part_filled kind) parts in
    complete-fault (says kind xs) (missing (says kind xs)) ∙ ap (option_map (λ row. Missing row.code)) (found kind parts (rows kind) (told xs kind))

parts-fault : (kind : SpduKind) (parts : List Part) → fault-in (with_parts (bare kind) parts >>= complete) ≡ parts_fault kind parts
parts-fault kind parts =
    in-turn (with_parts (bare kind) parts) complete (missing_fault kind parts)
    (λ s e. ap (λ (s : Spdu). fault-in (complete s)) (with_parts-after parts (bare kind) s e ∙ after-bare kind (flat_map (part_filled kind) parts)) ∙ says-fault kind parts)
    ∙ ap (λ (o : Option SpduError). option_or o (missing_fault kind parts)) (with_parts-fault parts (bare kind))

-- ---- one SPDU, and what is left after it

one-fault : (kind : SpduKind) (place : ℕ) (f : Measured) → fault-in (one_by kind place f) ≡ spdu_fault kind place f
one-fault kind place short = refl
one-fault kind place (whole z v m) =
    in-turn (assembled kind (place + 1 + z) v) (λ spdu. Ok (followed kind spdu (place + 1 + z + length v) m)) None (λ s e. refl)
    ∙ or-none (fault-in (assembled kind (place + 1 + z) v)) ∙ parts-fault kind (parts kind (place + 1 + z) v)

nothing-fault : (place : ℕ) (more : List ℕ) (spdus : List Spdu) → fault-in (nothing_after place more spdus) ≡ left_fault place more
nothing-fault place [] spdus = refl
nothing-fault place (x ∷ more) spdus = refl

dt-left : (d : Bool) (s : Spdu) (at : ℕ) (more : List ℕ) (spdus : Followed → List Spdu) →
    (let x : Followed = cond d (record { spdu = with_octets s more; place = at; more = [] }) (record { spdu = s; place = at; more = more }) in
    fault-in (nothing_after x.place x.more (spdus x)) ≡ cond d None (left_fault at more))
dt-left true s at more spdus = refl
dt-left false s at more spdus = nothing-fault at more (spdus (record { spdu = s; place = at; more = more }))

last-fault : (kind : SpduKind) (place : ℕ) (f : Measured) (x : Followed) (spdus : Followed → List Spdu) → one_by kind place f ≡ Ok x → fault-in (nothing_after x.place x.more (spdus x)) ≡ last_left kind place f
last-fault kind place short x spdus h = absurd cc
last-fault kind place (whole z v m) x spdus h =
    let at = place + 1 + z + length v in
    let b = bound (assembled kind (place + 1 + z) v) (λ spdu. Ok (followed kind spdu at m)) x h in
    let P : Followed → Type 0 = λ x. fault-in (nothing_after x.place x.more (spdus x)) ≡ last_left kind place (whole z v m) in
    subst P (is_ok (followed kind b.0 at m) x b.2) (dt-left (is_dt kind) b.0 at m spdus)

second-by-fault : (gt : Spdu) (place : ℕ) (kind : Option SpduKind) (octets : List ℕ) → fault-in (second_by gt place kind octets) ≡ second_fault_by place kind octets
second-by-fault gt place None octets = refl
second-by-fault gt place (Some kind) octets =
    in-turn (one kind place octets) (λ x. nothing_after x.place x.more (gt ∷ x.spdu ∷ [])) (last_left kind place (measured octets))
    (λ x e. last-fault kind place (measured octets) x (λ x. gt ∷ x.spdu ∷ []) e)
    ∙ ap (λ (o : Option SpduError). option_or o (last_left kind place (measured octets))) (one-fault kind place (measured octets))

second-is : (gt : Spdu) (place : ℕ) (more : List ℕ) → fault-in (second gt place more) ≡ second_fault place more
second-is gt place [] = refl
second-is gt place (code ∷ octets) = second-by-fault gt place (second_kind code) octets

gt-fault : (kind : SpduKind) (s : Spdu) (at : ℕ) (more : List ℕ) → is_gt kind ≡ true → (let x = followed kind s at more in fault-in (second x.spdu x.place x.more) ≡ second_fault at more)
gt-fault kind s at more g =
    let P : SpduKind → Type 0 = λ kind. (let x = followed kind s at more in fault-in (second x.spdu x.place x.more) ≡ second_fault at more) in
    subst P (sym (gt-is kind g)) (second-is s at more)

follows-by : (g : Bool) (kind : SpduKind) (place : ℕ) (z : ℕ) (v m : List ℕ) (x : Followed) → is_gt kind ≡ g → one_by kind place (whole z v m) ≡ Ok x
    → fault-in (cond g (second x.spdu x.place x.more) (nothing_after x.place x.more (x.spdu ∷ []))) ≡ cond g (second_fault (place + 1 + z + length v) m) (last_left kind place (whole z v m))
follows-by false kind place z v m x g h = last-fault kind place (whole z v m) x (λ x. x.spdu ∷ []) h
follows-by true kind place z v m x g h =
    let at = place + 1 + z + length v in
    let b = bound (assembled kind (place + 1 + z) v) (λ spdu. Ok (followed kind spdu at m)) x h in
    let P : Followed → Type 0 = λ x. fault-in (second x.spdu x.place x.more) ≡ second_fault at m in
    subst P (is_ok (followed kind b.0 at m) x b.2) (gt-fault kind b.0 at m g)

follows-fault : (kind : SpduKind) (place : ℕ) (f : Measured) (x : Followed) → one_by kind place f ≡ Ok x → fault-in (follows kind x) ≡ first_left kind place f
follows-fault kind place short x h = absurd cc
follows-fault kind place (whole z v m) x h = follows-by (is_gt kind) kind place z v m x refl h

-- ---- a TSDU

first-by-fault : (kind : Option SpduKind) (octets : List ℕ) → fault-in (first_by kind octets) ≡ tsdu_fault_by kind octets
first-by-fault None octets = refl
first-by-fault (Some kind) octets =
    in-turn (one kind 0 octets) (follows kind) (first_left kind 0 (measured octets)) (λ x e. follows-fault kind 0 (measured octets) x e)
    ∙ ap (λ (o : Option SpduError). option_or o (first_left kind 0 (measured octets))) (one-fault kind 0 (measured octets))

reading-fault : (tsdu : List ℕ) → fault-in (reading tsdu) ≡ tsdu_fault tsdu
reading-fault [] = refl
reading-fault (code ∷ octets) = first-by-fault (first_kind code) octets

pub none-shown : (tsdu : List ℕ) (spdus : List Spdu) → reading tsdu ≡ Ok spdus → tsdu_fault tsdu ≡ None
none-shown tsdu spdus h = sym (reading-fault tsdu) ∙ ap (λ (r : Result (List Spdu) SpduError). fault-in r) h

pub fault-shown : (tsdu : List ℕ) (fault : SpduError) → Fails fault (reading tsdu) → Shows (let r : Result (List Spdu) SpduError = Err fault in r) (tsdu_fault tsdu)
fault-shown tsdu NoMemory h = h
fault-shown tsdu (Code at) h = sym (reading-fault tsdu) ∙ ap (λ (r : Result (List Spdu) SpduError). fault-in r) h
fault-shown tsdu (Length at) h = sym (reading-fault tsdu) ∙ ap (λ (r : Result (List Spdu) SpduError). fault-in r) h
fault-shown tsdu (Missing code) h = sym (reading-fault tsdu) ∙ ap (λ (r : Result (List Spdu) SpduError). fault-in r) h
fault-shown tsdu (Value code) h = sym (reading-fault tsdu) ∙ ap (λ (r : Result (List Spdu) SpduError). fault-in r) h
