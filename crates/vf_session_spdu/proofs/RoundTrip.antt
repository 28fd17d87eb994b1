-- Whoever reads what was written reads what it was.
use Rattle.std.proofs.Common.{◌≡◌, ℕ, zero, suc, ◌+◌, ◌≤◌, Bool, true, false, cond, nat_eq, nat_le, nat_lt, List, [], ◌∷◌, ◌++◌, length, Option, Some, None, Result, Ok, Err, refl, ap, sym, subst, ◌∙◌, arith, inl, inr, append_assoc}
use Rattle.std.proofs.lemmas.Bool.{cases_lt}
use Rattle.std.proofs.lemmas.Bool.Decides.{nat_tests}
use Rattle.std.proofs.lemmas.List.{append-nil}
use Rattle.vf_base.specs.declared.spdu_kind.SpduKind.{SpduKind}
use Rattle.vf_base.specs.declared.spdu_kind.SpduKind.TheVariants.{CN, AC, RF, FN, DN, AB, AA, DT, GT, MIP, MIA, RS, RA}
use Rattle.vf_session_spdu.specs.declared.errors.SpduError.{SpduError}
use Rattle.vf_session_spdu.specs.declared.spdu.Spdu.{Spdu}
use Rattle.vf_session_spdu.specs.declared.spdu.SpduFields.{SpduFields}
use Rattle.vf_session_spdu.specs.declared.table.Form.TheVariants.{AtMost, Either, UserData, Digits}
use Rattle.vf_session_spdu.specs.Fields.{◌>>=◌, no_fields, bare, with_parts, complete}
use Rattle.vf_session_spdu.specs.Kinds.{code_of, first_kind}
use Rattle.vf_session_spdu.specs.Numbers.{number, digits, last_serial, length_octets}
use Rattle.vf_session_spdu.specs.Parts.{Opening, inner, outer}
use Rattle.vf_session_spdu.specs.Reading.{Followed, assembled, followed, is_gt, one, one_by, nothing_after, second, second_by, first_by}
use Rattle.vf_session_spdu.specs.Spelling.{spelled, spelled_if, first_data, second_data, spelled_parameters, octets_after, spelling, IsWritten, HasFields, HasUnits, HasSerial, HasReason, HasAbort, HasToken, IsSide, ReadsAlone, ReadsAfter}
use Rattle.vf_session_spdu.specs.Table.{fits, optional}
use Rattle.vf_session_spdu.proofs.DigitLemmas.{digits-fit, digits-spell}
use Rattle.vf_session_spdu.proofs.MeasureLemmas.{measured-unit, length-written}
use Rattle.vf_session_spdu.proofs.ParameterLemmas.{TakesTo, takes-none, takes-spelled}

-- ---- user data

abbrev made : SpduKind → SpduFields → List ℕ → Spdu
made kind fields octets = record { kind = kind; fields = fields; octets = octets }

some : (o : List ℕ) (x : ℕ) → nat_eq (length (x ∷ o)) 0 ≡ false
some o x = grind (arith, nat_tests)

abbrev user-data : List ℕ → List ℕ
user-data o = spelled_if 193 (first_data (optional 193 UserData) o) ++ []

takes-data : (opened : Opening) (kind : SpduKind) (fields : SpduFields) (o : List ℕ)
    → ((at : ℕ) (x : List ℕ) → with_parts (made kind fields []) (opened at 193 x) ≡ Ok (made kind fields x))
    → TakesTo opened (user-data o) (made kind fields []) (made kind fields o)
takes-data opened kind fields [] h = takes-none opened (made kind fields [])
takes-data opened kind fields (x ∷ o) h =
    let P : Bool → Type 0 = λ b. TakesTo opened (spelled_if 193 (cond b None (Some (x ∷ o))) ++ []) (made kind fields []) (made kind fields (x ∷ o)) in
    subst P (sym (some o x)) (takes-spelled opened 193 (x ∷ o) [] (made kind fields []) (made kind fields (x ∷ o)) (made kind fields (x ∷ o)) (λ at. h at (x ∷ o)) (takes-none opened (made kind fields (x ∷ o))))

-- of a CN in the one row or the other
abbrev connect-data : List ℕ → List ℕ
connect-data o = spelled_if 193 (first_data (optional 193 (AtMost 512)) o) ++ (spelled_if 194 (second_data o) ++ [])

guarded : (b : Bool) (x : Spdu) (e : SpduError) → b ≡ true → (let r : Result Spdu SpduError = cond b (Ok x) (Err e) in r >>= (λ s. with_parts s [])) ≡ Ok x
guarded true x e h = refl
guarded false x e h = absurd cc

takes-connect-data : (fields : SpduFields) (o : List ℕ) → length o ≤ 10240 → TakesTo (outer CN) (connect-data o) (made CN fields []) (made CN fields o)
takes-connect-data fields [] h = takes-none (outer CN) (made CN fields [])
takes-connect-data fields (x ∷ o) h =
    let P : Bool → Bool → Bool → Type 0 = λ a b c. TakesTo (outer CN) (spelled_if 193 (cond a None (cond b (Some (x ∷ o)) None)) ++ (spelled_if 194 (cond c (Some (x ∷ o)) None) ++ [])) (made CN fields []) (made CN fields (x ∷ o)) in
    let e = some o x in
    elim (cases_lt 512 (length (x ∷ o))) [
      | inl long ↦
          let a : nat_le (length (x ∷ o)) 512 ≡ false = grind (arith, nat_tests) in
          let b : nat_lt 512 (length (x ∷ o)) ≡ true = grind (arith, nat_tests) in
          let c : nat_le (length (x ∷ o)) 10240 ≡ true = grind (arith, nat_tests) in
          let r : P false false true = takes-spelled (outer CN) 194 (x ∷ o) [] (made CN fields []) (made CN fields (x ∷ o)) (made CN fields (x ∷ o)) (λ at. guarded (nat_le (length (x ∷ o)) 10240) (made CN fields (x ∷ o)) _ c) (takes-none (outer CN) (made CN fields (x ∷ o))) in
          rw (e, a, b) r
      | inr few ↦
          let a : nat_le (length (x ∷ o)) 512 ≡ true = grind (arith, nat_tests) in
          let b : nat_lt 512 (length (x ∷ o)) ≡ false = grind (arith, nat_tests) in
          let r : P false true false = takes-spelled (outer CN) 193 (x ∷ o) [] (made CN fields []) (made CN fields (x ∷ o)) (made CN fields (x ∷ o)) (λ at. guarded (nat_le (length (x ∷ o)) 512) (made CN fields (x ∷ o)) _ a) (takes-none (outer CN) (made CN fields (x ∷ o))) in
          rw (e, a, b) r
    ]

-- ---- serial numbers

takes-number : (opened : Opening) (code n : ℕ) (rest : List ℕ) (s s'' : Spdu) (f : ℕ → Spdu) → n ≤ last_serial
    → ((at : ℕ) (v : List ℕ) → fits Digits v ≡ true → with_parts s (opened at code v) ≡ Ok (f (number v)))
    → TakesTo opened rest (f n) s'' → TakesTo opened (spelled code (digits n) ++ rest) s s''
takes-number opened code n rest s s'' f small first more =
    takes-spelled opened code (digits n) rest s (f n) s'' (λ at. first at (digits n) (digits-fit n small) ∙ ap (λ (k : ℕ). Ok (f k)) (digits-spell n small)) more

-- ---- what is read of each SPDU

pub record IsRead (spdu : Spdu) (octets : List ℕ) : Type 0 where
  pub takes : TakesTo (outer spdu.kind) (spelled_parameters spdu) (bare spdu.kind) (made spdu.kind spdu.fields octets)
  pub complete_is : complete (made spdu.kind spdu.fields octets) ≡ Ok (made spdu.kind spdu.fields octets)

-- the items of a CN and an AC
takes-item : (kind : SpduKind) → ((at : ℕ) → with_parts (bare kind) (inner at 19 (0 ∷ [])) ≡ Ok (bare kind)) → ((at : ℕ) → with_parts (bare kind) (inner at 22 (2 ∷ [])) ≡ Ok (bare kind))
    → (rest : List ℕ) (s : Spdu) → TakesTo inner rest (bare kind) s → TakesTo inner (spelled 19 (0 ∷ []) ++ (spelled 22 (2 ∷ []) ++ rest)) (bare kind) s
takes-item kind a b rest s h =
    takes-spelled inner 19 (0 ∷ []) (spelled 22 (2 ∷ []) ++ rest) (bare kind) (bare kind) s a (takes-spelled inner 22 (2 ∷ []) rest (bare kind) (bare kind) s b h)

abbrev duplex : SpduFields
duplex = record no_fields { units = Some 2 }

abbrev sync : ℕ → SpduFields
sync n = record no_fields { units = Some 42; first = Some n; tokens = Some 0 }

-- the fields of the item with sync
abbrev numbered-first : ℕ → SpduFields
numbered-first n = record no_fields { first = Some n }

abbrev numbered-token : ℕ → SpduFields
numbered-token n = record no_fields { first = Some n; tokens = Some 0 }

cn-item : (n : ℕ) → n ≤ last_serial → TakesTo inner (spelled 19 (0 ∷ []) ++ (spelled 22 (2 ∷ []) ++ (spelled 23 (digits n) ++ (spelled 26 (0 ∷ []) ++ [])))) (bare CN) (made CN (numbered-token n) [])
cn-item n h =
    takes-item CN (λ at. refl) (λ at. refl) (spelled 23 (digits n) ++ (spelled 26 (0 ∷ []) ++ [])) (made CN (numbered-token n) [])
    (takes-number inner 23 n (spelled 26 (0 ∷ []) ++ []) (bare CN) (made CN (numbered-token n) []) (λ k. made CN (numbered-first k) []) h
    (λ at v f. guarded (fits Digits v) (made CN (numbered-first (number v)) []) _ f)
    (takes-spelled inner 26 (0 ∷ []) [] (made CN (numbered-first n) []) (made CN (numbered-token n) []) (made CN (numbered-token n) []) (λ at. refl) (takes-none inner (made CN (numbered-token n) []))))

ac-item : (n : ℕ) → n ≤ last_serial → TakesTo inner (spelled 19 (0 ∷ []) ++ (spelled 22 (2 ∷ []) ++ (spelled 23 (digits n) ++ (spelled 26 (0 ∷ []) ++ [])))) (bare AC) (made AC (numbered-token n) [])
ac-item n h =
    takes-item AC (λ at. refl) (λ at. refl) (spelled 23 (digits n) ++ (spelled 26 (0 ∷ []) ++ [])) (made AC (numbered-token n) [])
    (takes-number inner 23 n (spelled 26 (0 ∷ []) ++ []) (bare AC) (made AC (numbered-token n) []) (λ k. made AC (numbered-first k) []) h
    (λ at v f. guarded (fits Digits v) (made AC (numbered-first (number v)) []) _ f)
    (takes-spelled inner 26 (0 ∷ []) [] (made AC (numbered-first n) []) (made AC (numbered-token n) []) (made AC (numbered-token n) []) (λ at. refl) (takes-none inner (made AC (numbered-token n) []))))

cn-read : (fields : SpduFields) (o : List ℕ) → HasUnits fields → length o ≤ 10240 → IsRead (made CN fields o) o
cn-read fields o (inl e) h =
    let P : SpduFields → Type 0 = λ f. IsRead (made CN f o) o in
    let item = spelled 19 (0 ∷ []) ++ (spelled 22 (2 ∷ []) ++ []) in
    subst P (sym e) (record {
      takes = takes-spelled (outer CN) 5 item (spelled 20 (0 ∷ 2 ∷ []) ++ connect-data o) (bare CN) (bare CN) (made CN duplex o)
          (takes-item CN (λ at. refl) (λ at. refl) [] (bare CN) (takes-none inner (bare CN)))
          (takes-spelled (outer CN) 20 (0 ∷ 2 ∷ []) (connect-data o) (bare CN) (made CN duplex []) (made CN duplex o) (λ at. refl) (takes-connect-data duplex o h));
      complete_is = refl;
    })
cn-read fields o (inr (n, small, e)) h =
    let P : SpduFields → Type 0 = λ f. IsRead (made CN f o) o in
    let item = spelled 19 (0 ∷ []) ++ (spelled 22 (2 ∷ []) ++ (spelled 23 (digits n) ++ (spelled 26 (0 ∷ []) ++ []))) in
    subst P (sym e) (record {
      takes = takes-spelled (outer CN) 5 item (spelled 20 (0 ∷ 42 ∷ []) ++ connect-data o) (bare CN) (made CN (numbered-token n) []) (made CN (sync n) o)
          (cn-item n small)
          (takes-spelled (outer CN) 20 (0 ∷ 42 ∷ []) (connect-data o) (made CN (numbered-token n) []) (made CN (sync n) []) (made CN (sync n) o) (λ at. refl) (takes-connect-data (sync n) o h));
      complete_is = refl;
    })

ac-read : (fields : SpduFields) (o : List ℕ) → HasUnits fields → IsRead (made AC fields o) o
ac-read fields o (inl e) =
    let P : SpduFields → Type 0 = λ f. IsRead (made AC f o) o in
    let item = spelled 19 (0 ∷ []) ++ (spelled 22 (2 ∷ []) ++ []) in
    subst P (sym e) (record {
      takes = takes-spelled (outer AC) 5 item (spelled 20 (0 ∷ 2 ∷ []) ++ user-data o) (bare AC) (bare AC) (made AC duplex o)
          (takes-item AC (λ at. refl) (λ at. refl) [] (bare AC) (takes-none inner (bare AC)))
          (takes-spelled (outer AC) 20 (0 ∷ 2 ∷ []) (user-data o) (bare AC) (made AC duplex []) (made AC duplex o) (λ at. refl) (takes-data (outer AC) AC duplex o (λ at x. refl)));
      complete_is = refl;
    })
ac-read fields o (inr (n, small, e)) =
    let P : SpduFields → Type 0 = λ f. IsRead (made AC f o) o in
    let item = spelled 19 (0 ∷ []) ++ (spelled 22 (2 ∷ []) ++ (spelled 23 (digits n) ++ (spelled 26 (0 ∷ []) ++ []))) in
    subst P (sym e) (record {
      takes = takes-spelled (outer AC) 5 item (spelled 20 (0 ∷ 42 ∷ []) ++ user-data o) (bare AC) (made AC (numbered-token n) []) (made AC (sync n) o)
          (ac-item n small)
          (takes-spelled (outer AC) 20 (0 ∷ 42 ∷ []) (user-data o) (made AC (numbered-token n) []) (made AC (sync n) []) (made AC (sync n) o) (λ at. refl) (takes-data (outer AC) AC (sync n) o (λ at x. refl)));
      complete_is = refl;
    })

rf-read : (fields : SpduFields) (o : List ℕ) → HasReason fields o → IsRead (made RF fields o) o
rf-read fields o (inl (e, some)) =
    let f : SpduFields = record no_fields { reason = Some 2 } in
    let P : SpduFields → Type 0 = λ f. IsRead (made RF f o) o in
    subst P (sym e) (record {
      takes = takes-spelled (outer RF) 50 (2 ∷ o) [] (bare RF) (made RF f o) (made RF f o) (λ at. guarded (nat_le 1 (length (2 ∷ o))) (made RF f o) _ (grind (arith, nat_tests))) (takes-none (outer RF) (made RF f o));
      complete_is = refl;
    })
rf-read fields o (inr (e, none)) =
    let P : SpduFields → List ℕ → Type 0 = λ f o. IsRead (made RF f o) o in
    let f : SpduFields = record no_fields { reason = Some 0 } in
    let r : P f [] = record {
      takes = takes-spelled (outer RF) 50 (0 ∷ []) [] (bare RF) (made RF f []) (made RF f []) (λ at. refl) (takes-none (outer RF) (made RF f []));
      complete_is = refl;
    } in
    rw (e, none) r

ab-by : (k : ℕ) (o : List ℕ) → IsRead (made AB (record no_fields { abort = Some k }) o) o
ab-by k o =
    let f : SpduFields = record no_fields { abort = Some k } in
    record {
      takes = takes-spelled (outer AB) 17 (k ∷ []) (user-data o) (bare AB) (made AB f []) (made AB f o) (λ at. refl) (takes-data (outer AB) AB f o (λ at x. refl));
      complete_is = refl;
    }

ab-read : (fields : SpduFields) (o : List ℕ) → HasAbort fields o → IsRead (made AB fields o) o
ab-read fields o (inl (e, some)) = let P : SpduFields → Type 0 = λ f. IsRead (made AB f o) o in subst P (sym e) (ab-by 3 o)
ab-read fields o (inr (e, none)) = let P : SpduFields → Type 0 = λ f. IsRead (made AB f o) o in subst P (sym e) (ab-by 5 o)

fn-read : (o : List ℕ) → IsRead (made FN no_fields o) o
fn-read o = record { takes = takes-data (outer FN) FN no_fields o (λ at x. refl); complete_is = refl }

dn-read : (o : List ℕ) → IsRead (made DN no_fields o) o
dn-read o = record { takes = takes-data (outer DN) DN no_fields o (λ at x. refl); complete_is = refl }

gt-read : (fields : SpduFields) → HasToken fields → IsRead (made GT fields []) []
gt-read fields (inl e) =
    let P : SpduFields → Type 0 = λ f. IsRead (made GT f []) [] in
    subst P (sym e) (record { takes = takes-none (outer GT) (bare GT); complete_is = refl })
gt-read fields (inr e) =
    let P : SpduFields → Type 0 = λ f. IsRead (made GT f []) [] in
    let f : SpduFields = record no_fields { given = Some 4 } in
    subst P (sym e) (record { takes = takes-spelled (outer GT) 16 (4 ∷ []) [] (bare GT) (made GT f []) (made GT f []) (λ at. refl) (takes-none (outer GT) (made GT f [])); complete_is = refl })

abbrev serial : ℕ → SpduFields
serial n = record no_fields { serial = Some n }

mip-by : (n : ℕ) → n ≤ last_serial → IsRead (made MIP (serial n) []) []
mip-by n h = record {
  takes = takes-number (outer MIP) 42 n [] (bare MIP) (made MIP (serial n) []) (λ k. made MIP (serial k) []) h (λ at v f. guarded (fits Digits v) (made MIP (serial (number v)) []) _ f) (takes-none (outer MIP) (made MIP (serial n) []));
  complete_is = refl;
}

mia-by : (n : ℕ) → n ≤ last_serial → IsRead (made MIA (serial n) []) []
mia-by n h = record {
  takes = takes-number (outer MIA) 42 n [] (bare MIA) (made MIA (serial n) []) (λ k. made MIA (serial k) []) h (λ at v f. guarded (fits Digits v) (made MIA (serial (number v)) []) _ f) (takes-none (outer MIA) (made MIA (serial n) []));
  complete_is = refl;
}

serial-read : (kind : SpduKind) → ((n : ℕ) → n ≤ last_serial → IsRead (made kind (serial n) []) []) → (fields : SpduFields) (o : List ℕ) → HasSerial fields o → IsRead (made kind fields o) o
serial-read kind by fields o (n, small, e, none) =
    let r = by n small in rw (e, none) r

-- ---- RS and RA

a-side : (t : ℕ) → IsSide t → fits (Either 0 4) (t ∷ []) ≡ true
a-side t (inl e) = let P : ℕ → Type 0 = λ t. fits (Either 0 4) (t ∷ []) ≡ true in subst P (sym e) refl
a-side t (inr e) = let P : ℕ → Type 0 = λ t. fits (Either 0 4) (t ∷ []) ≡ true in subst P (sym e) refl

a-type : (r : ℕ) → r ≤ 1 → fits (Either 0 1) (r ∷ []) ≡ true
a-type zero h = refl
a-type (suc zero) h = refl
a-type (suc (suc r)) h = absurd (omega arith)

abbrev token : ℕ → SpduFields
token t = record no_fields { tokens = Some t }

ra-by : (t n : ℕ) (o : List ℕ) → IsSide t → n ≤ last_serial → IsRead (made RA (record no_fields { tokens = Some t; serial = Some n }) o) o
ra-by t n o side small =
    let f : ℕ → SpduFields = λ k. record no_fields { tokens = Some t; serial = Some k } in
    record {
      takes = takes-spelled (outer RA) 26 (t ∷ []) (spelled 42 (digits n) ++ user-data o) (bare RA) (made RA (token t) []) (made RA (f n) o)
          (λ at. guarded (fits (Either 0 4) (t ∷ [])) (made RA (token t) []) _ (a-side t side))
          (takes-number (outer RA) 42 n (user-data o) (made RA (token t) []) (made RA (f n) o) (λ k. made RA (f k) []) small
          (λ at v g. guarded (fits Digits v) (made RA (f (number v)) []) _ g)
          (takes-data (outer RA) RA (f n) o (λ at x. refl)));
      complete_is = refl;
    }

rs-by : (t r n : ℕ) (o : List ℕ) → IsSide t → r ≤ 1 → n ≤ last_serial → IsRead (made RS (record no_fields { tokens = Some t; resync = Some r; serial = Some n }) o) o
rs-by t r n o side type small =
    let f : ℕ → SpduFields = λ k. record no_fields { tokens = Some t; resync = Some r; serial = Some k } in
    let g : SpduFields = record no_fields { tokens = Some t; resync = Some r } in
    record {
      takes = takes-spelled (outer RS) 26 (t ∷ []) (spelled 27 (r ∷ []) ++ (spelled 42 (digits n) ++ user-data o)) (bare RS) (made RS (token t) []) (made RS (f n) o)
          (λ at. guarded (fits (Either 0 4) (t ∷ [])) (made RS (token t) []) _ (a-side t side))
          (takes-spelled (outer RS) 27 (r ∷ []) (spelled 42 (digits n) ++ user-data o) (made RS (token t) []) (made RS g []) (made RS (f n) o)
          (λ at. guarded (fits (Either 0 1) (r ∷ [])) (made RS g []) _ (a-type r type))
          (takes-number (outer RS) 42 n (user-data o) (made RS g []) (made RS (f n) o) (λ k. made RS (f k) []) small
          (λ at v g. guarded (fits Digits v) (made RS (f (number v)) []) _ g)
          (takes-data (outer RS) RS (f n) o (λ at x. refl))));
      complete_is = refl;
    }

-- ---- by kind

-- what the parameters hold of the octets
abbrev in-parameters : SpduKind → List ℕ → List ℕ
in-parameters DT o = []
in-parameters kind o = o

read-by : (kind : SpduKind) (fields : SpduFields) (o : List ℕ) → HasFields kind fields o → IsRead (made kind fields o) (in-parameters kind o)
read-by CN fields o h = cn-read fields o h.0 h.1
read-by AC fields o h = ac-read fields o h
read-by RF fields o h = rf-read fields o h
read-by FN fields o h = let P : SpduFields → Type 0 = λ f. IsRead (made FN f o) o in subst P (sym h) (fn-read o)
read-by DN fields o h = let P : SpduFields → Type 0 = λ f. IsRead (made DN f o) o in subst P (sym h) (dn-read o)
read-by AB fields o h = ab-read fields o h
read-by AA fields o (e, none) =
    let r : IsRead (bare AA) [] = record { takes = takes-none (outer AA) (bare AA); complete_is = refl } in rw (e, none) r
read-by DT fields o h =
    let P : SpduFields → Type 0 = λ f. IsRead (made DT f o) [] in
    subst P (sym h) (record { takes = takes-none (outer DT) (bare DT); complete_is = refl })
read-by GT fields o (h, none) = let P : List ℕ → Type 0 = λ o. IsRead (made GT fields o) o in subst P (sym none) (gt-read fields h)
read-by MIP fields o h = serial-read MIP mip-by fields o h
read-by MIA fields o h = serial-read MIA mia-by fields o h
read-by RS fields o (t, r, n, side, type, small, e) = let P : SpduFields → Type 0 = λ f. IsRead (made RS f o) o in subst P (sym e) (rs-by t r n o side type small)
read-by RA fields o (t, n, side, small, e) = let P : SpduFields → Type 0 = λ f. IsRead (made RA f o) o in subst P (sym e) (ra-by t n o side small)

-- ---- a whole TSDU

assembled-read : (spdu : Spdu) (octets : List ℕ) (place : ℕ) → IsRead spdu octets → assembled spdu.kind place (spelled_parameters spdu) ≡ Ok (made spdu.kind spdu.fields octets)
assembled-read spdu octets place r = rw (r.takes place) r.complete_is

one-read : (spdu : Spdu) (octets : List ℕ) (place : ℕ) (more : List ℕ) → IsRead spdu octets →
    (let i = length_octets (length (spelled_parameters spdu)) in
    one spdu.kind place ((i ++ spelled_parameters spdu) ++ more) ≡ Ok (followed spdu.kind (made spdu.kind spdu.fields octets) (place + 1 + length i + length (spelled_parameters spdu)) more))
one-read spdu octets place more r =
    let i = length_octets (length (spelled_parameters spdu)) in
    ap (one spdu.kind place) (append_assoc i (spelled_parameters spdu) more)
    ∙ ap (one_by spdu.kind place) (measured-unit i (spelled_parameters spdu) more (length-written (length (spelled_parameters spdu))))
    ∙ rw (assembled-read spdu octets (place + 1 + length i) r) refl

-- an SPDU after which nothing stands, and the data of a DT
pub record Ends (spdu : Spdu) (place : ℕ) (octets : List ℕ) : Type 0 where
  pub at : ℕ
  pub one_is : one spdu.kind place octets ≡ Ok (record { spdu = spdu; place = at; more = [] })

ends-by : (kind : SpduKind) (fields : SpduFields) (o : List ℕ) (at : ℕ) → followed kind (made kind fields (in-parameters kind o)) at (octets_after (made kind fields o) kind) ≡ record { spdu = made kind fields o; place = at; more = [] }
ends-by CN fields o at = refl
ends-by AC fields o at = refl
ends-by RF fields o at = refl
ends-by FN fields o at = refl
ends-by DN fields o at = refl
ends-by AB fields o at = refl
ends-by AA fields o at = refl
ends-by DT fields o at = refl
ends-by GT fields o at = refl
ends-by MIP fields o at = refl
ends-by MIA fields o at = refl
ends-by RS fields o at = refl
ends-by RA fields o at = refl

-- what stands after the identifier
abbrev rest-of : Spdu → List ℕ
rest-of spdu = (length_octets (length (spelled_parameters spdu)) ++ spelled_parameters spdu) ++ octets_after spdu spdu.kind

ends : (spdu : Spdu) (place : ℕ) → IsWritten spdu → Ends spdu place (rest-of spdu)
ends spdu place w =
    let i = length_octets (length (spelled_parameters spdu)) in
    let at = place + 1 + length i + length (spelled_parameters spdu) in
    let r : IsRead spdu (in-parameters spdu.kind spdu.octets) = read-by spdu.kind spdu.fields spdu.octets w.has_fields in
    record {
      at = at;
      one_is = one-read spdu (in-parameters spdu.kind spdu.octets) place (octets_after spdu spdu.kind) r ∙ ap (λ (x : Followed). Ok x) (ends-by spdu.kind spdu.fields spdu.octets at);
    }

alone-by : (b : Bool) (spdu : Spdu) (at : ℕ) → cond b (second spdu at []) (nothing_after at [] (spdu ∷ [])) ≡ Ok (spdu ∷ [])
alone-by true spdu at = refl
alone-by false spdu at = refl

pub reads-alone : (spdu : Spdu) → ReadsAlone spdu
reads-alone spdu w first =
    let e = ends spdu 0 w in
    ap (λ (k : Option SpduKind). first_by k (rest-of spdu)) first ∙ rw e.one_is (alone-by (is_gt spdu.kind) spdu e.at)

-- a GT before more
onward-by : (kind : SpduKind) (fields : SpduFields) (o : List ℕ) (at : ℕ) (more : List ℕ) → kind ≡ GT
    → followed kind (made kind fields (in-parameters kind o)) at more ≡ record { spdu = made kind fields o; place = at; more = more }
onward-by CN fields o at more k = refl
onward-by AC fields o at more k = refl
onward-by RF fields o at more k = refl
onward-by FN fields o at more k = refl
onward-by DN fields o at more k = refl
onward-by AB fields o at more k = refl
onward-by AA fields o at more k = refl
onward-by DT fields o at more k = absurd cc
onward-by GT fields o at more k = refl
onward-by MIP fields o at more k = refl
onward-by MIA fields o at more k = refl
onward-by RS fields o at more k = refl
onward-by RA fields o at more k = refl

no-data : (gt : Spdu) (kind : SpduKind) → kind ≡ GT → octets_after gt kind ≡ []
no-data gt kind k = ap (octets_after gt) k

pub record Onward (gt : Spdu) (octets more : List ℕ) : Type 0 where
  pub at : ℕ
  pub one_is : one GT 0 octets ≡ Ok (record { spdu = gt; place = at; more = more })

gt-measured : (gt : Spdu) (more : List ℕ) → IsWritten gt → gt.kind ≡ GT → Onward gt (rest-of gt ++ more) more
gt-measured gt more w k =
    let i = length_octets (length (spelled_parameters gt)) in
    let at = 0 + 1 + length i + length (spelled_parameters gt) in
    let o = in-parameters gt.kind gt.octets in
    let r : IsRead gt o = read-by gt.kind gt.fields gt.octets w.has_fields in
    let shape : rest-of gt ++ more ≡ (i ++ spelled_parameters gt) ++ more = ap (λ (d : List ℕ). ((i ++ spelled_parameters gt) ++ d) ++ more) (no-data gt gt.kind k) ∙ ap (λ (f : List ℕ). f ++ more) (append-nil (i ++ spelled_parameters gt)) in
    record {
      at = at;
      one_is = ap (λ (kind : SpduKind). one kind 0 (rest-of gt ++ more)) (sym k) ∙ ap (one gt.kind 0) shape ∙ one-read gt o 0 more r
          ∙ ap (λ (x : Followed). Ok x) (onward-by gt.kind gt.fields gt.octets at more k);
    }

pub reads-after : (gt spdu : Spdu) → ReadsAfter gt spdu
reads-after gt spdu w k w' second-is =
    let g = gt-measured gt (spelling spdu) w k in
    let e = ends spdu g.at w' in
    let first : first_kind (code_of gt.kind) ≡ Some GT = ap (λ (kind : SpduKind). first_kind (code_of kind)) k in
    ap (λ (kind : Option SpduKind). first_by kind (rest-of gt ++ spelling spdu)) first
    ∙ rw g.one_is (ap (λ (kind : Option SpduKind). second_by gt g.at kind (rest-of spdu)) second-is ∙ rw e.one_is refl)
