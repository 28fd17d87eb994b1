-- How long the parameters of an SPDU are, and what there is room for.
use Rattle.std.proofs.Common.{◌≡◌, ℕ, zero, suc, ◌+◌, ◌-◌, ◌/◌, ◌%◌, ◌≤◌, ◌<◌, Bool, true, false, cond, nat_eq, nat_le, nat_lt, ◌&&◌, List, [], ◌∷◌, ◌++◌, length, Option, Some, None, if◌then◌else◌, refl, ap, sym, ◌∙◌, arith, inl, inr, ◌⊎◌, length-drop}
use Rattle.std.proofs.lemmas.Bool.{cases_lt}
use Rattle.std.proofs.lemmas.Bool.Decides.{nat_tests}
use Rattle.std.proofs.lemmas.List.{length-append}
use Rattle.std.specs.Option.{option_map}
use Rattle.vf_session_spdu.specs.declared.spdu.Spdu.{Spdu}
use Rattle.vf_session.specs.declared.units.ResyncKind.{ResyncKind}
use Rattle.vf_session.specs.declared.units.SessionSay.{SessionSay}
use Rattle.vf_session.specs.declared.units.SessionSay.TheVariants as say
use Rattle.vf_session.specs.declared.units.TokenSide.{TokenSide}
use Rattle.vf_base.specs.declared.spdu_kind.SpduKind.TheVariants as kinds
use Rattle.vf_session_spdu.specs.Fields.{no_fields}
use Rattle.vf_session_spdu.specs.Numbers.{digits, digit_count, six_digits, leading_zeros}
use Rattle.vf_session.specs.Rooms.{connect_size, token_size, carried, room, may_by}
use Rattle.vf_session.specs.Units.{parameters, user_data, with_data}
use Rattle.vf_session.specs.declared.parameters.SayParameters.{SayParameters}
use Rattle.vf_session.specs.declared.parameters.SayParameters.TheVariants as head
use Rattle.vf_session.specs.declared.state.SessionState.{SessionState}
use Rattle.vf_session.specs.Sending.{may, is_allowed, fits, has_room, units_fields, reason_fields, abort_fields, resync_code, token_item}
use Rattle.vf_session_spdu.specs.Spelling.{spelled, spelled_if, second_data, spelled_parameters}

-- ---- one parameter

abbrev pub size_of : ℕ → ℕ
size_of n = if nat_lt n 255 then n + 2 else n + 4

spelled-by : (b : Bool) (code x y z : ℕ) (v : List ℕ) → length (code ∷ (cond b (x ∷ []) (255 ∷ y ∷ z ∷ []) ++ v)) ≡ cond b (length v + 2) (length v + 4)
spelled-by true code x y z v = omega arith
spelled-by false code x y z v = omega arith

pub length-spelled : (code : ℕ) (v : List ℕ) → length (spelled code v) ≡ size_of (length v)
length-spelled code v = spelled-by (nat_lt (length v) 255) code (length v) (length v / 256) (length v % 256) v

pub length-spelled_short : (code : ℕ) (v : List ℕ) → length v < 255 → length (spelled code v) ≡ length v + 2
length-spelled_short code v h =
    let short : nat_lt (length v) 255 ≡ true = grind (arith, nat_tests) in
    length-spelled code v ∙ rw short refl

pub length-digits : (n : ℕ) → length (digits n) ≡ digit_count n
length-digits n = length-drop (leading_zeros n) (six_digits n)

digits-size : (code n : ℕ) → length (spelled code (digits n)) ≡ digit_count n + 2
digits-size code n =
    let e = length-digits n in
    length-spelled_short code (digits n) (omega arith) ∙ ap (λ k. k + 2) e

-- ---- user data

abbrev pub data_size : ℕ → ℕ
data_size n = if nat_eq n 0 then 0 else size_of n

data-by : (b : Bool) (o : List ℕ) → length (spelled_if 193 (cond b None (Some o))) ≡ cond b 0 (size_of (length o))
data-by true o = refl
data-by false o = length-spelled 193 o

abbrev user-data : List ℕ → List ℕ
user-data o = spelled_if 193 (cond (nat_eq (length o) 0) None (Some o))

user-data-size : (o : List ℕ) → length (user-data o ++ []) ≡ data_size (length o)
user-data-size o =
    let a = length-append (user-data o) [] in
    let b = data-by (nat_eq (length o) 0) o in
    a ∙ omega arith ∙ b

-- what the user data of a CN takes, in the one row or the other
abbrev connect-data : List ℕ → List ℕ
connect-data o = spelled_if 193 (cond (nat_eq (length o) 0) None (cond (nat_le (length o) 512) (Some o) None)) ++ (spelled_if 194 (second_data o) ++ [])

is_some_data : (n : ℕ) → nat_eq (suc n) 0 ≡ false
is_some_data n = grind (arith, nat_tests)

some : (o : List ℕ) (x : ℕ) → nat_eq (length (x ∷ o)) 0 ≡ false
some o x = is_some_data (length o)

connect-data-size : (o : List ℕ) → length (connect-data o) ≡ data_size (length o)
connect-data-size [] = refl
connect-data-size (x ∷ o) =
    elim (cases_lt 512 (length (x ∷ o))) [
      | inl long ↦
          let a : nat_le (length (x ∷ o)) 512 ≡ false = grind (arith, nat_tests) in
          let b : nat_lt 512 (length (x ∷ o)) ≡ true = grind (arith, nat_tests) in
          let e = length-append (spelled 194 (x ∷ o)) [] in
          let f = length-spelled 194 (x ∷ o) in
          rw (some o x, a, b) (e ∙ omega arith ∙ f)
      | inr short ↦
          let a : nat_le (length (x ∷ o)) 512 ≡ true = grind (arith, nat_tests) in
          let b : nat_lt 512 (length (x ∷ o)) ≡ false = grind (arith, nat_tests) in
          let e = length-append (spelled 193 (x ∷ o)) [] in
          let f = length-spelled 193 (x ∷ o) in
          rw (some o x, a, b) (e ∙ omega arith ∙ f)
    ]

-- ---- tests

same-le : (a b c d : ℕ) → (a ≤ b → c ≤ d) → (c ≤ d → a ≤ b) → nat_le a b ≡ nat_le c d
same-le a b c d f g =
    elim (cases_lt b a) [
      | inl lt ↦ elim (cases_lt d c) [
        | inl lt' ↦ let p : nat_le a b ≡ false = grind (arith, nat_tests) in let q : nat_le c d ≡ false = grind (arith, nat_tests) in p ∙ sym q
        | inr le' ↦ absurd (let h = g le' in omega arith)
      ]
      | inr le ↦ let h = f le in let p : nat_le a b ≡ true = grind (arith, nat_tests) in let q : nat_le c d ≡ true = grind (arith, nat_tests) in p ∙ sym q
    ]

abbrev Sized : ℕ → ℕ → Type 0
Sized n x = ((n ≡ 0) × (x ≡ 0)) ⊎ (((n < 255) × (x ≡ n + 2)) ⊎ ((255 ≤ n) × (x ≡ n + 4)))

sized : (n : ℕ) → Sized n (data_size n)
sized zero = inl (refl, refl)
sized (suc n) =
    elim (cases_lt (suc n) 255) [
      | inl lt ↦ let t : nat_lt (suc n) 255 ≡ true = grind (arith, nat_tests) in inr (inl (lt, rw (is_some_data n, t) refl))
      | inr le ↦ let t : nat_lt (suc n) 255 ≡ false = grind (arith, nat_tests) in inr (inr (le, rw (is_some_data n, t) refl))
    ]

room-by : (p n x : ℕ) → Sized n x → p ≤ 60000 → nat_le (p + x) 65535 ≡ nat_le n (65531 - p)
room-by p n x (inl (a, b)) s = same-le (p + x) 65535 n (65531 - p) (λ h. omega arith) (λ h. omega arith)
room-by p n x (inr (inl (a, b))) s = same-le (p + x) 65535 n (65531 - p) (λ h. omega arith) (λ h. omega arith)
room-by p n x (inr (inr (a, b))) s = same-le (p + x) 65535 n (65531 - p) (λ h. omega arith) (λ h. omega arith)

and_true : (b : Bool) → (b && true) ≡ b
and_true true = refl
and_true false = refl

-- an SPDU whose other parameters have so many octets has room for the rest
rest-fits : (spdu : Spdu) (p most : ℕ) (o : List ℕ) → length (spelled_parameters spdu) ≡ p + data_size (length o) → p ≤ 60000 → most ≡ 65531 - p → (has_room spdu && true) ≡ nat_le (length o) most
rest-fits spdu p most o e s m =
    and_true (has_room spdu) ∙ ap (λ k. nat_le k 65535) e ∙ room-by p (length o) (data_size (length o)) (sized (length o)) s ∙ ap (nat_le (length o)) (sym m)

-- ---- each SPDU

digits-few : (n : ℕ) → digit_count n ≤ 6
digits-few n = omega arith

item-size : (n : ℕ) (rest : List ℕ) → length (spelled 5 (19 ∷ 1 ∷ 0 ∷ 22 ∷ 1 ∷ 2 ∷ (spelled 23 (digits n) ++ (26 ∷ 1 ∷ 0 ∷ []))) ++ (20 ∷ 2 ∷ 0 ∷ 42 ∷ rest)) ≡ connect_size true n + length rest
item-size n rest =
    let inner = length-append (spelled 23 (digits n)) (26 ∷ 1 ∷ 0 ∷ []) in
    let number = digits-size 23 n in
    let few = digits-few n in
    let content : length (19 ∷ 1 ∷ 0 ∷ 22 ∷ 1 ∷ 2 ∷ (spelled 23 (digits n) ++ (26 ∷ 1 ∷ 0 ∷ []))) ≡ digit_count n + 11 = ap (λ k. suc (suc (suc (suc (suc (suc k)))))) (inner ∙ ap (λ k. k + 3) number) ∙ omega arith in
    let whole = length-spelled_short 5 (19 ∷ 1 ∷ 0 ∷ 22 ∷ 1 ∷ 2 ∷ (spelled 23 (digits n) ++ (26 ∷ 1 ∷ 0 ∷ []))) (omega arith) in
    let both = length-append (spelled 5 (19 ∷ 1 ∷ 0 ∷ 22 ∷ 1 ∷ 2 ∷ (spelled 23 (digits n) ++ (26 ∷ 1 ∷ 0 ∷ [])))) (20 ∷ 2 ∷ 0 ∷ 42 ∷ rest) in
    both ∙ ap (λ k. k + suc (suc (suc (suc (length rest))))) (whole ∙ ap (λ k. k + 2) content) ∙ omega arith

connect-size : (sync : Bool) (n : ℕ) (o : List ℕ) → length (spelled_parameters (record { kind = kinds.CN; fields = units_fields sync n; octets = o })) ≡ connect_size sync n + data_size (length o)
connect-size true n o = item-size n (connect-data o) ∙ ap (λ k. connect_size true n + k) (connect-data-size o)
connect-size false n o = ap (λ k. suc (suc (suc (suc (suc (suc (suc (suc (suc (suc (suc (suc k)))))))))))) (connect-data-size o) ∙ omega arith

accept-size : (sync : Bool) (n : ℕ) (o : List ℕ) → length (spelled_parameters (record { kind = kinds.AC; fields = units_fields sync n; octets = o })) ≡ connect_size sync n + data_size (length o)
accept-size true n o = item-size n (user-data o ++ []) ∙ ap (λ k. connect_size true n + k) (user-data-size o)
accept-size false n o = ap (λ k. suc (suc (suc (suc (suc (suc (suc (suc (suc (suc (suc (suc k)))))))))))) (user-data-size o) ∙ omega arith

connect-few : (sync : Bool) (n : ℕ) → connect_size sync n ≤ 60000
connect-few true n = omega arith
connect-few false n = omega arith

abort-size : (o : List ℕ) (reason : ℕ) → length (spelled_parameters (record { kind = kinds.AB; fields = abort_fields reason; octets = o })) ≡ 3 + data_size (length o)
abort-size o reason = ap (λ k. suc (suc (suc k))) (user-data-size o) ∙ omega arith

numbered-size : (n : ℕ) (o : List ℕ) → length (spelled 42 (digits n) ++ (user-data o ++ [])) ≡ digit_count n + 2 + data_size (length o)
numbered-size n o =
    let a = length-append (spelled 42 (digits n)) (user-data o ++ []) in
    a ∙ ap (λ k. k + length (user-data o ++ [])) (digits-size 42 n) ∙ ap (λ k. digit_count n + 2 + k) (user-data-size o)

resync-size : (own : TokenSide) (kind : ResyncKind) (n : ℕ) (tok : Option TokenSide) (o : List ℕ)
    → length (spelled_parameters (record { kind = kinds.RS; fields = record no_fields { tokens = option_map (token_item own) tok; resync = Some (resync_code kind); serial = Some n }; octets = o })) ≡ token_size tok + 5 + digit_count n + data_size (length o)
resync-size own kind n None o = ap (λ k. suc (suc (suc k))) (numbered-size n o) ∙ omega arith
resync-size own kind n (Some side) o = ap (λ k. suc (suc (suc (suc (suc (suc k)))))) (numbered-size n o) ∙ omega arith

resynced-size : (own : TokenSide) (n : ℕ) (tok : Option TokenSide) (o : List ℕ)
    → length (spelled_parameters (record { kind = kinds.RA; fields = record no_fields { tokens = option_map (token_item own) tok; serial = Some n }; octets = o })) ≡ token_size tok + 2 + digit_count n + data_size (length o)
resynced-size own n None o = numbered-size n o ∙ omega arith
resynced-size own n (Some side) o = ap (λ k. suc (suc (suc k))) (numbered-size n o) ∙ omega arith

token-few : (tok : Option TokenSide) → token_size tok ≤ 3
token-few None = omega arith
token-few (Some side) = omega arith

-- a reason, and the user data after it
refuse-size : (o : List ℕ) (reason : ℕ) → length (spelled_parameters (record { kind = kinds.RF; fields = reason_fields reason; octets = o })) ≡ size_of (suc (length o))
refuse-size o reason =
    let a = length-append (spelled 50 (reason ∷ o)) [] in
    a ∙ omega arith ∙ length-spelled 50 (reason ∷ o)

refuse-by : (n : ℕ) → nat_le (size_of (suc n)) 65535 ≡ nat_le n 65530
refuse-by n =
    elim (cases_lt (suc n) 255) [
      | inl lt ↦ let t : nat_lt (suc n) 255 ≡ true = grind (arith, nat_tests) in rw t (same-le (suc n + 2) 65535 n 65530 (λ h. omega arith) (λ h. omega arith))
      | inr le ↦ let t : nat_lt (suc n) 255 ≡ false = grind (arith, nat_tests) in rw t (same-le (suc n + 4) 65535 n 65530 (λ h. omega arith) (λ h. omega arith))
    ]

refuse-fits : (o : List ℕ) (reason : ℕ) → (has_room (record { kind = kinds.RF; fields = reason_fields reason; octets = o }) && true) ≡ nat_le (length o) 65530
refuse-fits o reason =
    and_true (has_room (record { kind = kinds.RF; fields = reason_fields reason; octets = o })) ∙ ap (λ k. nat_le k 65535) (refuse-size o reason) ∙ refuse-by (length o)

number-fits : (n : ℕ) → (nat_le (length (spelled 42 (digits n) ++ [])) 65535 && true) ≡ true
number-fits n =
    let a = length-append (spelled 42 (digits n)) [] in
    let b = digits-size 42 n in
    let few = digits-few n in
    let small : length (spelled 42 (digits n) ++ []) ≤ 65535 = omega arith in
    let t : nat_le (length (spelled 42 (digits n) ++ [])) 65535 ≡ true = grind (arith, nat_tests) in
    rw t refl

pub fits-is : (own : TokenSide) (sent : SessionSay) → fits own sent ≡ nat_le (carried (parameters sent) (length (user_data sent))) (room (parameters sent))
fits-is own (say.Connect sync n o) = rest-fits (record { kind = kinds.CN; fields = units_fields sync n; octets = o }) (connect_size sync n) (room (parameters (say.Connect sync n o))) o (connect-size sync n o) (connect-few sync n) refl
fits-is own (say.Accept sync n o) = rest-fits (record { kind = kinds.AC; fields = units_fields sync n; octets = o }) (connect_size sync n) (room (parameters (say.Accept sync n o))) o (accept-size sync n o) (connect-few sync n) refl
fits-is own (say.Refuse o) = refuse-fits o (if nat_eq (length o) 0 then 0 else 2)
fits-is own (say.Finish o) = rest-fits (record { kind = kinds.FN; fields = no_fields; octets = o }) 0 65531 o (user-data-size o ∙ omega arith) (omega arith) refl
fits-is own (say.Finished o) = rest-fits (record { kind = kinds.DN; fields = no_fields; octets = o }) 0 65531 o (user-data-size o ∙ omega arith) (omega arith) refl
fits-is own (say.Data true o) = refl
fits-is own (say.Data false o) = refl
fits-is own (say.Check n) = number-fits n
fits-is own (say.Acknowledge n) = number-fits n
fits-is own (say.Resync kind n tok o) =
    let few = digits-few n in
    let t = token-few tok in
    rest-fits (record { kind = kinds.RS; fields = record no_fields { tokens = option_map (token_item own) tok; resync = Some (resync_code kind); serial = Some n }; octets = o }) (token_size tok + 5 + digit_count n) (room (parameters (say.Resync kind n tok o))) o (resync-size own kind n tok o) (omega arith) (omega arith)
fits-is own (say.Resynced n tok o) =
    let few = digits-few n in
    let t = token-few tok in
    rest-fits (record { kind = kinds.RA; fields = record no_fields { tokens = option_map (token_item own) tok; serial = Some n }; octets = o }) (token_size tok + 2 + digit_count n) (room (parameters (say.Resynced n tok o))) o (resynced-size own n tok o) (omega arith) (omega arith)
fits-is own (say.Abort o) = rest-fits (record { kind = kinds.AB; fields = abort_fields (if nat_eq (length o) 0 then 5 else 3); octets = o }) 3 65528 o (abort-size o (if nat_eq (length o) 0 then 5 else 3)) (omega arith) refl
fits-is own (say.Token to) = refl

-- ---- what may be sent

pub may-is : (own : TokenSide) (offer : Bool) (s : SessionState) (unit : SessionSay) → may own offer s unit ≡ may_by own offer s (parameters unit) (length (user_data unit))
may-is own offer s unit = ap (λ (b : Bool). is_allowed own offer s unit && b) (fits-is own unit)

may-with : (own : TokenSide) (offer : Bool) (s : SessionState) (unit : SayParameters) (o : List ℕ)
    → may_by own offer s (parameters (with_data unit o)) (length (user_data (with_data unit o))) ≡ may_by own offer s unit (length o)
may-with own offer s (head.Connect sync n) o = refl
may-with own offer s (head.Accept sync n) o = refl
may-with own offer s head.Refuse o = refl
may-with own offer s head.Finish o = refl
may-with own offer s head.Finished o = refl
may-with own offer s (head.Data pass) o = refl
may-with own offer s (head.Check n) o = refl
may-with own offer s (head.Acknowledge n) o = refl
may-with own offer s (head.Resync kind n tok) o = refl
may-with own offer s (head.Resynced n tok) o = refl
may-with own offer s head.Abort o = refl
may-with own offer s (head.Token to) o = refl

pub may-carried : (own : TokenSide) (offer : Bool) (s : SessionState) (unit : SayParameters) (count : ℕ) (test : Bool) → test ≡ may_by own offer s unit count
    → (o : List ℕ) → length o ≡ count → test ≡ may own offer s (with_data unit o)
may-carried own offer s unit count test e o n =
    e ∙ ap (may_by own offer s unit) (sym n) ∙ sym (may-is own offer s (with_data unit o) ∙ may-with own offer s unit o)

pub may-of : (own : TokenSide) (offer : Bool) (s : SessionState) (unit : SessionSay) (count : ℕ) (test : Bool) → test ≡ may_by own offer s (parameters unit) count → count ≡ length (user_data unit)
    → test ≡ may own offer s unit
may-of own offer s unit count test e n = e ∙ ap (may_by own offer s (parameters unit)) n ∙ sym (may-is own offer s unit)
