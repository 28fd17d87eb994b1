-- Parameters that are taken one after the other leave what the last of each says.
use Rattle.std.proofs.Common.{◌≡◌, ℕ, ◌+◌, ◌*◌, Bool, true, false, cond, nat_eq, ◌&&◌, ◌||◌, List, [], ◌∷◌, ◌++◌, get_or, Option, Some, None, unwrap_or, is_none, Ok, refl, ap, sym, subst, ◌∙◌, arith}
use Rattle.std.proofs.lemmas.Bool.Decides.{nat_tests}
use Rattle.std.specs.List.{AllByRecursion, list_any, filter_map, cons_option, last_or, find}
use Rattle.std.specs.Option.{option_or}
use Rattle.vf_base.specs.declared.spdu_kind.SpduKind.{SpduKind}
use Rattle.vf_base.specs.declared.spdu_kind.SpduKind.TheVariants.{CN, AC, RF, FN, DN, AB, AA, DT, GT, MIP, MIA, RS, RA}
use Rattle.vf_session_spdu.specs.declared.spdu.Spdu.{Spdu}
use Rattle.vf_session_spdu.specs.declared.table.Row.{Row}
use Rattle.vf_session_spdu.specs.Fields.{with_value, bare, is_absent, missing, complete, complete_by}
use Rattle.vf_session_spdu.specs.Grammar.{Filled, IsThere, is_of, last, octet_in, pair_in, number_in, fields_of, data_in, data_of}
use Rattle.vf_session_spdu.specs.Numbers.{number}
use Rattle.vf_session_spdu.specs.Table.{rows, row_at}

-- ---- one parameter, and several

abbrev pub stepped : Spdu → Filled → Spdu
stepped s x =
    record {
      kind = s.kind;
      fields = record {
        given = option_or (octet_in 16 x) s.fields.given;
        abort = option_or (octet_in 17 x) s.fields.abort;
        units = option_or (pair_in 20 x) s.fields.units;
        first = option_or (number_in 23 x) s.fields.first;
        tokens = option_or (octet_in 26 x) s.fields.tokens;
        resync = option_or (octet_in 27 x) s.fields.resync;
        serial = option_or (number_in 42 x) s.fields.serial;
        reason = option_or (octet_in 50 x) s.fields.reason;
      };
      octets = unwrap_or (data_in x) s.octets;
    }

abbrev pub after : Spdu → List Filled → Spdu
after s [] = s
after s (x ∷ xs) = after (stepped s x) xs

pub after-append : (xs ys : List Filled) (s : Spdu) → after s (xs ++ ys) ≡ after (after s xs) ys
after-append [] ys s = refl
after-append (x ∷ xs) ys s = after-append xs ys (stepped s x)

pub kind-after : (xs : List Filled) (s : Spdu) → (after s xs).kind ≡ s.kind
kind-after [] s = refl
kind-after (x ∷ xs) s = kind-after xs (stepped s x)

-- ---- each row of the table

abbrev Steps : Row → Type 0
Steps row = (s : Spdu) (v : List ℕ) → with_value row.form row.code v s ≡ stepped s (record { row = row; value = v })

steps : (kind : SpduKind) → AllByRecursion Steps (rows kind)
steps CN = ((λ s v. refl), ((λ s v. refl), ((λ s v. refl), ((λ s v. refl), ((λ s v. refl), ((λ s v. refl), ((λ s v. refl), tt)))))))
steps AC = ((λ s v. refl), ((λ s v. refl), ((λ s v. refl), ((λ s v. refl), ((λ s v. refl), ((λ s v. refl), tt))))))
steps RF = ((λ s v. refl), tt)
steps FN = ((λ s v. refl), tt)
steps DN = ((λ s v. refl), tt)
steps AB = ((λ s v. refl), ((λ s v. refl), tt))
steps AA = tt
steps DT = tt
steps GT = ((λ s v. refl), tt)
steps MIP = ((λ s v. refl), tt)
steps MIA = ((λ s v. refl), tt)
steps RS = ((λ s v. refl), ((λ s v. refl), ((λ s v. refl), ((λ s v. refl), tt))))
steps RA = ((λ s v. refl), ((λ s v. refl), ((λ s v. refl), tt)))

found-by : (P : Row → Type 0) (p : Row → Bool) (x : Row) (xs : List Row) (row : Row) (b : Bool) → p x ≡ b → P x → (find p xs ≡ Some row → (P row) × (p row ≡ true))
    → cond b (Some x) (find p xs) ≡ Some row → (P row) × (p row ≡ true)
found-by P p x xs row true e px more h = let same : x ≡ row = cc in (subst P same px, ap p (sym same) ∙ e)
found-by P p x xs row false e px more h = more h

found : (P : Row → Type 0) (p : Row → Bool) (xs : List Row) (row : Row) → AllByRecursion P xs → find p xs ≡ Some row → (P row) × (p row ≡ true)
found P p [] row all h = absurd cc
found P p (x ∷ xs) row all h = found-by P p x xs row (p x) refl all.0 (found P p xs row all.1) h

and_true : (a b : Bool) → (a && b) ≡ true → (a ≡ true) × (b ≡ true)
and_true true b h = (refl, h)
and_true false b h = absurd cc

pub value-steps : (kind : SpduKind) (group code : ℕ) (row : Row) → row_at kind group code ≡ Some row → (s : Spdu) (v : List ℕ) → with_value row.form code v s ≡ stepped s (record { row = row; value = v })
value-steps kind group code row h s v =
    let f = found Steps (λ row. nat_eq row.code code && nat_eq row.group group) (rows kind) row (steps kind) h in
    let t : nat_eq row.code code ≡ true = (and_true (nat_eq row.code code) (nat_eq row.group group) f.1).0 in
    let e : code ≡ row.code = grind (arith, nat_tests) in
    ap (λ (c : ℕ). with_value row.form c v s) e ∙ f.0 s v

-- ---- what the last of each says

last-cons : (a o : Option ℕ) (l : List ℕ) → last_or o (cons_option a l) ≡ last_or (option_or a o) l
last-cons None o l = refl
last-cons (Some x) o l = refl

field-after : (field : Spdu → Option ℕ) (reads : Filled → Option ℕ) → ((s : Spdu) (x : Filled) → field (stepped s x) ≡ option_or (reads x) (field s))
    → (xs : List Filled) (s : Spdu) → field (after s xs) ≡ last_or (field s) (filter_map reads xs)
field-after field reads h [] s = refl
field-after field reads h (x ∷ xs) s =
    field-after field reads h xs (stepped s x) ∙ ap (λ (o : Option ℕ). last_or o (filter_map reads xs)) (h s x) ∙ sym (last-cons (reads x) (field s) (filter_map reads xs))

some-last : (v d : List ℕ) (l : List (List ℕ)) → unwrap_or (last_or (Some v) l) d ≡ unwrap_or (last_or None l) v
some-last v d [] = refl
some-last v d (y ∷ l) = some-last y d l ∙ sym (some-last y v l)

data-cons : (a : Option (List ℕ)) (d : List ℕ) (l : List (List ℕ)) → unwrap_or (last_or None l) (unwrap_or a d) ≡ unwrap_or (last_or None (cons_option a l)) d
data-cons None d l = refl
data-cons (Some v) d l = sym (some-last v d l)

data-after : (xs : List Filled) (s : Spdu) → (after s xs).octets ≡ unwrap_or (last data_in xs) s.octets
data-after [] s = refl
data-after (x ∷ xs) s = data-after xs (stepped s x) ∙ data-cons (data_in x) s.octets (filter_map data_in xs)

same-spdu : (k k' : SpduKind) (g g' a a' u u' f f' t t' r r' n n' c c' : Option ℕ) (o o' : List ℕ)
    → k ≡ k' → g ≡ g' → a ≡ a' → u ≡ u' → f ≡ f' → t ≡ t' → r ≡ r' → n ≡ n' → c ≡ c' → o ≡ o' →
    (let s : Spdu = record { kind = k; fields = record { given = g; abort = a; units = u; first = f; tokens = t; resync = r; serial = n; reason = c }; octets = o } in
    let s' : Spdu = record { kind = k'; fields = record { given = g'; abort = a'; units = u'; first = f'; tokens = t'; resync = r'; serial = n'; reason = c' }; octets = o' } in s ≡ s')
same-spdu k k' g g' a a' u u' f f' t t' r r' n n' c c' o o' e1 e2 e3 e4 e5 e6 e7 e8 e9 e10 = cc

pub after-bare : (kind : SpduKind) (xs : List Filled) → after (bare kind) xs ≡ record { kind = kind; fields = fields_of xs; octets = data_of xs }
after-bare kind xs =
    let s = after (bare kind) xs in
    let f = fields_of xs in
    same-spdu s.kind kind s.fields.given f.given s.fields.abort f.abort s.fields.units f.units s.fields.first f.first s.fields.tokens f.tokens s.fields.resync f.resync s.fields.serial f.serial s.fields.reason f.reason s.octets (data_of xs)
    (kind-after xs (bare kind))
    (field-after (λ s. s.fields.given) (octet_in 16) (λ s x. refl) xs (bare kind))
    (field-after (λ s. s.fields.abort) (octet_in 17) (λ s x. refl) xs (bare kind))
    (field-after (λ s. s.fields.units) (pair_in 20) (λ s x. refl) xs (bare kind))
    (field-after (λ s. s.fields.first) (number_in 23) (λ s x. refl) xs (bare kind))
    (field-after (λ s. s.fields.tokens) (octet_in 26) (λ s x. refl) xs (bare kind))
    (field-after (λ s. s.fields.resync) (octet_in 27) (λ s x. refl) xs (bare kind))
    (field-after (λ s. s.fields.serial) (number_in 42) (λ s x. refl) xs (bare kind))
    (field-after (λ s. s.fields.reason) (octet_in 50) (λ s x. refl) xs (bare kind))
    (data-after xs (bare kind))

-- ---- what is required

abbrev pub not : Bool → Bool
not true = false
not false = true

some-there : (v : ℕ) (l : List ℕ) → is_none (last_or (Some v) l) ≡ false
some-there v [] = refl
some-there v (y ∷ l) = some-there y l

absent-by : (b : Bool) (v : ℕ) (l : List ℕ) (c : Bool) → is_none (last_or None l) ≡ not c → is_none (last_or None (cons_option (cond b (Some v) None) l)) ≡ not (b || c)
absent-by true v l c h = some-there v l
absent-by false v l c h = h

absent : (code : ℕ) (reads : Filled → ℕ) (xs : List Filled) → is_none (last_or None (filter_map (λ x. cond (is_of code x) (Some (reads x)) None) xs)) ≡ not (list_any (is_of code) xs)
absent code reads [] = refl
absent code reads (x ∷ xs) = absent-by (is_of code x) (reads x) (filter_map (λ x. cond (is_of code x) (Some (reads x)) None) xs) (list_any (is_of code) xs) (absent code reads xs)

abbrev pub IsTold : List Filled → Row → Type 0
IsTold xs row = row.required ≡ true → is_absent (fields_of xs) row.code ≡ not (list_any (is_of row.code) xs)

units-told : (xs : List Filled) → is_none (fields_of xs).units ≡ not (list_any (is_of 20) xs)
units-told xs = absent 20 (λ x. get_or x.value 0 0 * 256 + get_or x.value 1 0) xs

resync-told : (xs : List Filled) → is_none (fields_of xs).resync ≡ not (list_any (is_of 27) xs)
resync-told xs = absent 27 (λ x. get_or x.value 0 0) xs

serial-told : (xs : List Filled) → is_none (fields_of xs).serial ≡ not (list_any (is_of 42) xs)
serial-told xs = absent 42 (λ x. number x.value) xs

reason-told : (xs : List Filled) → is_none (fields_of xs).reason ≡ not (list_any (is_of 50) xs)
reason-told xs = absent 50 (λ x. get_or x.value 0 0) xs

pub told : (xs : List Filled) (kind : SpduKind) → AllByRecursion (IsTold xs) (rows kind)
told xs CN = ((λ h. absurd cc), ((λ h. absurd cc), ((λ h. absurd cc), ((λ h. absurd cc), ((λ h. units-told xs), ((λ h. absurd cc), ((λ h. absurd cc), tt)))))))
told xs AC = ((λ h. absurd cc), ((λ h. absurd cc), ((λ h. absurd cc), ((λ h. absurd cc), ((λ h. units-told xs), ((λ h. absurd cc), tt))))))
told xs RF = ((λ h. reason-told xs), tt)
told xs FN = ((λ h. absurd cc), tt)
told xs DN = ((λ h. absurd cc), tt)
told xs AB = ((λ h. absurd cc), ((λ h. absurd cc), tt))
told xs AA = tt
told xs DT = tt
told xs GT = ((λ h. absurd cc), tt)
told xs MIP = ((λ h. serial-told xs), tt)
told xs MIA = ((λ h. serial-told xs), tt)
told xs RS = ((λ h. absurd cc), ((λ h. resync-told xs), ((λ h. serial-told xs), ((λ h. absurd cc), tt))))
told xs RA = ((λ h. absurd cc), ((λ h. serial-told xs), ((λ h. absurd cc), tt)))

-- the row that is missing, of some rows
abbrev lacks : List Filled → Row → Bool
lacks xs row = row.required && is_absent (fields_of xs) row.code

there-by : (xs : List Filled) (row : Row) (required b : Bool) → row.required ≡ required → list_any (is_of row.code) xs ≡ b → IsTold xs row → lacks xs row ≡ false → IsThere xs row
there-by xs row required true r e t h q = e
there-by xs row false false r e t h q = absurd cc
there-by xs row true false r e t h q =
    let absent : is_absent (fields_of xs) row.code ≡ true = t r ∙ ap not e in
    let both : lacks xs row ≡ true = rw (r, absent) refl in
    absurd cc

lacks-by : (xs : List Filled) (row : Row) (required : Bool) → row.required ≡ required → IsTold xs row → IsThere xs row → lacks xs row ≡ false
lacks-by xs row false r t h = ap (λ b. b && is_absent (fields_of xs) row.code) r
lacks-by xs row true r t h = ap (λ b. b && is_absent (fields_of xs) row.code) r ∙ t r ∙ ap not (h r)

none-by : (p : Row → Bool) (x : Row) (xs : List Row) (b : Bool) → p x ≡ b → cond b (Some x) (find p xs) ≡ None → (p x ≡ false) × (find p xs ≡ None)
none-by p x xs true e h = absurd cc
none-by p x xs false e h = (e, h)

none-lacks : (xs : List Filled) (rs : List Row) → AllByRecursion (IsTold xs) rs → find (lacks xs) rs ≡ None → AllByRecursion (IsThere xs) rs
none-lacks xs [] t h = tt
none-lacks xs (r ∷ rs) t h =
    let n = none-by (lacks xs) r rs (lacks xs r) refl h in
    (there-by xs r r.required (list_any (is_of r.code) xs) refl refl t.0 n.0, none-lacks xs rs t.1 n.1)

there-none : (xs : List Filled) (rs : List Row) → AllByRecursion (IsTold xs) rs → AllByRecursion (IsThere xs) rs → find (lacks xs) rs ≡ None
there-none xs [] t h = refl
there-none xs (r ∷ rs) t h =
    let n = lacks-by xs r r.required refl t.0 h.0 in
    ap (λ b. cond b (Some r) (find (lacks xs) rs)) n ∙ there-none xs rs t.1 h.1

-- an SPDU as its filled rows say
abbrev pub says : SpduKind → List Filled → Spdu
says kind xs = record { kind = kind; fields = fields_of xs; octets = data_of xs }

complete-is : (s s' : Spdu) (row : Option Row) → complete_by s row ≡ Ok s' → (row ≡ None) × (s' ≡ s)
complete-is s s' None h = (refl, cc)
complete-is s s' (Some row) h = absurd cc

pub complete-there : (kind : SpduKind) (xs : List Filled) (s : Spdu) → complete (says kind xs) ≡ Ok s → AllByRecursion (IsThere xs) (rows kind) × (s ≡ says kind xs)
complete-there kind xs s h =
    let c = complete-is (says kind xs) s (missing (says kind xs)) h in
    (none-lacks xs (rows kind) (told xs kind) c.0, c.1)

pub there-complete : (kind : SpduKind) (xs : List Filled) → AllByRecursion (IsThere xs) (rows kind) → complete (says kind xs) ≡ Ok (says kind xs)
there-complete kind xs h = ap (complete_by (says kind xs)) (there-none xs (rows kind) (told xs kind) h)
