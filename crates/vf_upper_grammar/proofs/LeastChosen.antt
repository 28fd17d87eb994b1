-- The two types of which the parts decide how they are read, a SET and an entry of the result list: the least place of
-- their faults is told.
use Rattle.std.proofs.Common.{◌≡◌, ℕ, Bool, true, false, true≢false, List, [], ◌∷◌, ◌++◌, refl, ap, sym, ◌∙◌, append-nil, append_assoc}
use Rattle.std.specs.Prelude.{◌||◌, Option, None, Some, if◌then◌else◌}
use Rattle.vf_upper_grammar.specs.FaultPlaces as places
use Rattle.vf_upper_grammar.specs.FaultPlaces.{first_of}
use Rattle.vf_upper_grammar.specs.Faults as faults
use Rattle.vf_upper_grammar.specs.Faults.{among, by_field, either, fields_among, following, in_any_order, is_of, known, missing, Order, Places, standing}
use Rattle.vf_upper_grammar.specs.Forms as forms
use Rattle.vf_upper_grammar.specs.Forms.{has_tag, in_order, leads, leading, ordered}
use Rattle.vf_upper_grammar.specs.Marks.{Mark}
use Rattle.vf_upper_grammar.specs.Parts.{ends, next, Part, Parts}
use Rattle.vf_upper_grammar.specs.Types as types
use Rattle.vf_upper_grammar.proofs.Least.{ArePlaced, constructed-least, Least, LeastParts, Told, told-along, told-places, Within}
use Rattle.vf_upper_grammar.proofs.LeastOrdered.{among-least, among-within, AreApart, Going, known-placed, known-same, LeastField, LeastFields, order-told}

-- ---- the leading part

abbrev part_if : Bool → Option Part → Option Part → Option Part
part_if b x y = if b then x else y

leading-first : (fields : List forms.Field) (of : List faults.Field) → LeastFields fields of → (parts : Parts) → leading fields parts ≡ first_of (known of parts)
leading-first fields of least (ends place) = refl
leading-first fields of least (next part parts) =
    ap (λ b. part_if b (Some part) (leading fields parts)) (known-same fields of part least) ∙ by (is_of of part) (leading-first fields of least parts)
  where
    by : (b : Bool) → leading fields parts ≡ first_of (known of parts) → part_if b (Some part) (leading fields parts) ≡ first_of (if b then next part (known of parts) else known of parts)
    by true e = refl
    by false e = e

-- ---- SET

among-same : (f g : Order) (all : List faults.Field) (before : List Part) (parts : Parts) → ((others : List Part) → f (before ++ others) ≡ g (before ++ others))
    → among f all before parts ≡ among g all before parts
among-same f g all before (ends place) same = ap (λ o. missing o place) (ap f (sym (append-nil before)) ∙ same [] ∙ ap g (append-nil before))
among-same f g all before (next part parts) same =
    ap (λ o. standing all o part ++ among f all (before ++ part ∷ []) parts) (same (part ∷ []))
    ∙ ap (λ xs. standing all (g (before ++ part ∷ [])) part ++ xs)
    (among-same f g all (before ++ part ∷ []) parts (λ others. ap f (grouped part others) ∙ same (part ∷ others) ∙ ap g (sym (grouped part others))))
  where
    grouped : (part : Part) (others : List Part) → (before ++ part ∷ []) ++ others ≡ before ++ part ∷ others
    grouped part others = append_assoc before (part ∷ []) others

abbrev fields_if : Bool → Option (List faults.Field) → Option (List faults.Field) → Option (List faults.Field)
fields_if b x y = if b then x else y

-- another part than a required field can't be the first
other-first : (field : faults.Field) (fields : List faults.Field) (part : Part) (parts : List Part) → field.is_required ≡ true → has_tag field.tags part.first ≡ false
    → following (field ∷ fields) (part ∷ parts) ≡ None
other-first field fields part parts required other =
    ap (λ b. fields_if b (following fields parts) (fields_if field.is_required None (following fields (part ∷ parts)))) other
    ∙ ap (λ r. fields_if r None (following fields (part ∷ parts))) required

either-none : (x y : Option (List faults.Field)) → y ≡ None → either x y ≡ x
either-none None y e = e
either-none (Some fields) y e = refl

abbrev forms_as : Bool → forms.Field → forms.Field → List forms.Field
forms_as b one other = if b then other ∷ one ∷ [] else one ∷ other ∷ []

abbrev faults_as : Bool → faults.Field → faults.Field → List faults.Field
faults_as b m n = if b then n ∷ m ∷ [] else m ∷ n ∷ []

-- the first part decides in which order they stand
order-same : (m n : faults.Field) → m.is_required ≡ true → n.is_required ≡ true → ((part : Part) → has_tag n.tags part.first ≡ true → has_tag m.tags part.first ≡ false)
    → (b : Bool) (part : Part) → has_tag n.tags part.first ≡ b → (parts : List Part) → in_any_order m n (part ∷ parts) ≡ following (faults_as b m n) (part ∷ parts)
order-same m n required needed apart true part e parts =
    ap (λ o. either o (following (n ∷ m ∷ []) (part ∷ parts))) (other-first m (n ∷ []) part parts required (apart part e))
order-same m n required needed apart false part e parts = either-none (following (m ∷ n ∷ []) (part ∷ parts)) _ (other-first n (m ∷ []) part parts needed e)

set-same : (m n : faults.Field) → m.is_required ≡ true → n.is_required ≡ true → ((part : Part) → has_tag n.tags part.first ≡ true → has_tag m.tags part.first ≡ false)
    → (b : Bool) (all : List faults.Field) (parts : Parts) → leads n.tags (first_of parts) ≡ b → among (in_any_order m n) all [] parts ≡ among (following (faults_as b m n)) all [] parts
set-same m n required needed apart true all (ends place) e = absurd (true≢false (sym e))
set-same m n required needed apart false all (ends place) e = refl
set-same m n required needed apart b all (next part parts) e =
    let same = order-same m n required needed apart b part e in
    ap (λ o. standing all o part ++ among (in_any_order m n) all (part ∷ []) parts) (same [])
    ∙ ap (λ xs. standing all (following (faults_as b m n) (part ∷ [])) part ++ xs) (among-same (in_any_order m n) (following (faults_as b m n)) all (part ∷ []) parts same)

or-swap : (a b : Bool) → (a || (b || false)) ≡ (b || (a || false))
or-swap true true = refl
or-swap true false = refl
or-swap false true = refl
or-swap false false = refl

abbrev places_if : Bool → Places → Places → Places
places_if b xs ys = if b then xs else ys

-- the faults of a part are those of its field in either order
field-swap : (a b : Bool) (xs ys : Places) → (b ≡ true → a ≡ false) → places_if a xs (places_if b ys []) ≡ places_if b ys (places_if a xs [])
field-swap true true xs ys apart = absurd (true≢false (apart refl))
field-swap true false xs ys apart = refl
field-swap false true xs ys apart = refl
field-swap false false xs ys apart = refl

one-of : (b : Bool) → (b || false) ≡ true → b ≡ true
one-of true e = refl
one-of false e = e

not-both : (a b : Bool) → (b ≡ true → a ≡ false) → a ≡ true → b ≡ false
not-both a true apart e = absurd (true≢false (sym e ∙ apart refl))
not-both a false apart e = refl

module _ (one other : forms.Field) (m n : faults.Field) (least : LeastField one m) (also : LeastField other n) (required : m.is_required ≡ true) (needed : n.is_required ≡ true)
    (apart : (part : Part) → has_tag n.tags part.first ≡ true → has_tag m.tags part.first ≡ false) where
  both : LeastFields (one ∷ other ∷ []) (m ∷ n ∷ [])
  both = (least, (also, tt))

  going : (b : Bool) → Going (forms_as b one other) (m ∷ n ∷ []) (forms_as b one other) (faults_as b m n) (following (faults_as b m n)) []
  going false = record {
    known_as = λ part. known-same (one ∷ other ∷ []) (m ∷ n ∷ []) part both;
    leasts = both;
    apart = (λ part k. apart part (one-of (has_tag n.tags part.first) k), ((λ part k. absurd (true≢false (sym k))), tt));
    fewer = λ part k. k;
    own = λ part k. refl;
    follow = λ parts. refl;
  }
  going true = record {
    known_as = λ part. known-same (other ∷ one ∷ []) (n ∷ m ∷ []) part (also, (least, tt)) ∙ or-swap (has_tag n.tags part.first) (has_tag m.tags part.first);
    leasts = (also, (least, tt));
    apart = (λ part k. not-both (has_tag m.tags part.first) (has_tag n.tags part.first) (apart part) (one-of (has_tag m.tags part.first) k), ((λ part k. absurd (true≢false (sym k))), tt));
    fewer = λ part k. or-swap (has_tag m.tags part.first) (has_tag n.tags part.first) ∙ k;
    own = λ part k. field-swap (has_tag m.tags part.first) (has_tag n.tags part.first) (m.faults part) (n.faults part) (apart part);
    follow = λ parts. refl;
  }

  set-told : (b : Bool) (low high : ℕ) (parts : Parts) (found : List Mark) → leads n.tags (first_of (known (m ∷ n ∷ []) parts)) ≡ b → ArePlaced low high parts
      → Told (in_order parts true (forms_as b one other) (forms_as b one other) found) (faults.both_among m n parts)
  set-told b low high parts found e are =
      told-places _ _ _ (set-same m n required needed apart b (m ∷ n ∷ []) (known (m ∷ n ∷ []) parts) e)
      (order-told true (forms_as b one other) (one ∷ other ∷ []) (m ∷ n ∷ []) both (forms_as b one other) (faults_as b m n) (following (faults_as b m n)) [] (going b) low high parts found are)

  pub set-least : Least (forms.set one other) (faults.set m n)
  set-least = constructed-least _ _ (record {
    told = λ low high parts found are.
        told-along _ _ _
        (ap (λ b. in_order parts true (forms_as b one other) (forms_as b one other) found)
        (ap (leads other.tags) (leading-first (one ∷ other ∷ []) (m ∷ n ∷ []) both parts) ∙ ap (λ tags. leads tags (first_of (known (m ∷ n ∷ []) parts))) also.tags))
        (set-told (leads n.tags (first_of (known (m ∷ n ∷ []) parts))) low high parts found refl are);
    within = λ low high parts are.
        among-within (in_any_order m n) (one ∷ other ∷ []) (m ∷ n ∷ []) both low high [] (known (m ∷ n ∷ []) parts) (known-placed (m ∷ n ∷ []) low high parts are);
  })

-- ---- an entry of the result list

abbrev outcome_forms : Bool → List forms.Field
outcome_forms b = if b then types.refused_outcome else types.accepted_outcome

abbrev outcome_faults : Bool → List faults.Field
outcome_faults b = if b then places.refused_outcome else places.accepted_outcome

pub outcome-least : LeastFields types.accepted_outcome places.accepted_outcome → AreApart places.accepted_outcome
    → LeastFields types.refused_outcome places.refused_outcome → AreApart places.refused_outcome → Least types.outcome places.outcome
outcome-least accepts accepts_apart refuses refuses_apart = constructed-least _ _ (record {
  told = λ low high parts found are.
      told-along _ _ _ (ap (λ o. in_order parts true (outcome_forms (types.refuses o)) (outcome_forms (types.refuses o)) found) (leading-first types.accepted_outcome places.accepted_outcome accepts parts))
      (told (types.refuses (first_of (known places.accepted_outcome parts))) low high parts found are);
  within = λ low high parts are. within (types.refuses (first_of (known places.accepted_outcome parts))) low high parts are;
})
  where
    each : (b : Bool) → LeastParts (λ parts. in_order parts true (outcome_forms b) (outcome_forms b)) (fields_among (outcome_faults b))
    each true = among-least types.refused_outcome places.refused_outcome refuses refuses_apart
    each false = among-least types.accepted_outcome places.accepted_outcome accepts accepts_apart

    told : (b : Bool) (low high : ℕ) (parts : Parts) (found : List Mark) → ArePlaced low high parts
        → Told (in_order parts true (outcome_forms b) (outcome_forms b) found) (fields_among (outcome_faults b) parts)
    told b low high parts found are = let l = each b in l.told low high parts found are

    within : (b : Bool) (low high : ℕ) (parts : Parts) → ArePlaced low high parts → Within low high (fields_among (outcome_faults b) parts)
    within b low high parts are = let l = each b in l.within low high parts are
