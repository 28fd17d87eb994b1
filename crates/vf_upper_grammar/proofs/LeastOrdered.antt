-- Of fields in order the least place of their faults is told.
use Rattle.std.proofs.Common.{◌≡◌, ℕ, Bool, true, false, List, [], ◌∷◌, ◌++◌, refl, ap, sym, ◌∙◌, append-nil, append_assoc, arith, inl, inr}
use Rattle.std.specs.Prelude.{not, ◌&&◌, ◌||◌, ◌⊎◌, Option, None, Some, Err, if◌then◌else◌}
use Rattle.std.specs.List.{list_any}
use Rattle.vf_upper_grammar.specs.Faults as faults
use Rattle.vf_upper_grammar.specs.Faults.{among, by_field, Faults, following, is_of, known, missing, Order, Places, standing, unless}
use Rattle.vf_upper_grammar.specs.Forms as forms
use Rattle.vf_upper_grammar.specs.Forms.{◌>>=◌, due, Due, has_tag, in_order, lacking, step}
use Rattle.vf_upper_grammar.specs.Marks.{Found, Mark}
use Rattle.vf_upper_grammar.specs.Parts.{ends, next, Part, Parts}
use Rattle.vf_upper_grammar.proofs.Least.{ArePlaced, constructed-least, From, from-less, IsPlaced, Least, LeastParts, parts-more, parts-order, placed-order, Told, told-along, told-before, told-fault, told-places, told-then, unless-within, Within, within-both, within-from, within-more}

-- a field of which the least place is told
pub record LeastField (field : forms.Field) (of : faults.Field) : Type 0 where
  pub tags : field.tags ≡ of.tags
  pub required : field.is_required ≡ of.is_required
  pub least : Least field.read of.faults

abbrev pub LeastFields : List forms.Field → List faults.Field → Type 0
LeastFields [] [] = Unit {0}
LeastFields [] (of ∷ others) = ⊥
LeastFields (field ∷ fields) [] = ⊥
LeastFields (field ∷ fields) (of ∷ others) = LeastField field of × LeastFields fields others

pub tag-same : (field : forms.Field) (of : faults.Field) (first : ℕ) → LeastField field of → has_tag field.tags first ≡ has_tag of.tags first
tag-same field of first least = ap (λ tags. has_tag tags first) least.tags

pub known-same : (fields : List forms.Field) (of : List faults.Field) (part : Part) → LeastFields fields of → forms.is_known fields part.first ≡ is_of of part
known-same [] [] part least = refl
known-same [] (o ∷ of) part least = absurd least
known-same (field ∷ fields) [] part least = absurd least
known-same (field ∷ fields) (o ∷ of) part least =
    ap (λ b. b || forms.is_known fields part.first) (tag-same field o part.first least.0)
    ∙ ap (λ b. has_tag o.tags part.first || b) (known-same fields of part least.1)

-- no part has the tags of two of these fields
abbrev pub AreApart : List faults.Field → Type 0
AreApart [] = Unit {0}
AreApart (field ∷ fields) = ((part : Part) → is_of fields part ≡ true → has_tag field.tags part.first ≡ false) × AreApart fields

-- ---- faults of one part

abbrev places_if : Bool → Places → Places → Places
places_if b xs ys = if b then xs else ys

by_field-within : (fields : List forms.Field) (of : List faults.Field) (part : Part) → LeastFields fields of → IsPlaced part → Within part.at part.after (by_field of part)
by_field-within [] [] part least is = tt
by_field-within [] (o ∷ of) part least is = absurd least
by_field-within (field ∷ fields) [] part least is = absurd least
by_field-within (field ∷ fields) (o ∷ of) part least is = by (has_tag o.tags part.first) (by_field-within fields of part least.1 is)
  where
    by : (b : Bool) → Within part.at part.after (by_field of part) → Within part.at part.after (places_if b (o.faults part) (by_field of part))
    by true others = let l = least.0.least in l.within part is
    by false others = others

standing-within : (fields : List forms.Field) (of : List faults.Field) (part : Part) (o : Option (List faults.Field)) → LeastFields fields of → IsPlaced part
    → Within part.at part.after (standing of o part)
standing-within fields of part None least is = (omega arith, placed-order part is, tt)
standing-within fields of part (Some others) least is = by_field-within fields of part least is

missing-within : (low high : ℕ) (o : Option (List faults.Field)) (end : Option ℕ) → ArePlaced low high (ends end) → Within low high (missing o end)
missing-within low high None end are = tt
missing-within low high (Some fields) None are = tt
missing-within low high (Some fields) (Some place) are = unless-within low high place _ are.0 are.1

-- ---- where the faults of parts are

abbrev parts_if : Bool → Parts → Parts → Parts
parts_if b x y = if b then x else y

pub known-placed : (of : List faults.Field) (low high : ℕ) (parts : Parts) → ArePlaced low high parts → ArePlaced low high (known of parts)
known-placed of low high (ends None) are = are
known-placed of low high (ends (Some place)) are = are
known-placed of low high (next part parts) are = by (is_of of part) (known-placed of part.after high parts are.2)
  where
    by : (b : Bool) → ArePlaced part.after high (known of parts) → ArePlaced low high (if b then next part (known of parts) else known of parts)
    by true others = (are.0, are.1, others)
    by false others =
        let here = placed-order part are.1 in let begin = are.0 in
        parts-more part.after high low high (known of parts) (omega arith) (omega arith) others

pub among-within : (order : Order) (fields : List forms.Field) (of : List faults.Field) → LeastFields fields of → (low high : ℕ) (before : List Part) (parts : Parts) → ArePlaced low high parts
    → Within low high (among order of before parts)
among-within order fields of least low high before (ends place) are = missing-within low high (order before) place are
among-within order fields of least low high before (next part parts) are =
    let here = placed-order part are.1 in let begin = are.0 in let later = parts-order part.after high parts are.2 in
    let seen : List Part = before ++ part ∷ [] in
    within-both low high (standing of (order seen) part) (among order of seen parts)
    (within-more part.at part.after low high (standing of (order seen) part) begin later (standing-within fields of part (order seen) least are.1))
    (within-more part.after high low high (among order of seen parts) (omega arith) (omega arith) (among-within order fields of least part.after high seen parts are.2))

-- ---- which field is due

-- The field that is due at a part reads it, its faults are those of the part, and the fields after it may follow; or
-- the part can't stand there.
pub record DueAs (left : List forms.Field) (of : List faults.Field) (part : Part) : Type 0 where
  pub field : forms.Field
  pub after : List forms.Field
  pub by : faults.Field
  pub others : List faults.Field
  pub is_due : due part.first left ≡ Some (record { field = field; left = after })
  pub least : LeastField field by
  pub leasts : LeastFields after others
  pub follow : (parts : List Part) → following of (part ∷ parts) ≡ following others parts
  pub tagged : is_of of part ≡ true
  pub faulty : by_field of part ≡ by.faults part
  pub fewer : (other : Part) → is_of others other ≡ true → is_of of other ≡ true
  pub own : (other : Part) → is_of others other ≡ true → by_field of other ≡ by_field others other
  pub apart : AreApart others

pub record NotDue (left : List forms.Field) (of : List faults.Field) (part : Part) : Type 0 where
  pub none : due part.first left ≡ None
  pub follow : (parts : List Part) → following of (part ∷ parts) ≡ None

abbrev due_if : Bool → Option Due → Option Due → Option Due
due_if b x y = if b then x else y

abbrev fields_if : Bool → Option (List faults.Field) → Option (List faults.Field) → Option (List faults.Field)
fields_if b x y = if b then x else y

or-right : (a b : Bool) → b ≡ true → (a || b) ≡ true
or-right true b e = refl
or-right false b e = e

pub due-as : (left : List forms.Field) (of : List faults.Field) (part : Part) → LeastFields left of → AreApart of → DueAs left of part ⊎ NotDue left of part
due-as [] [] part least apart = inr (record { none = refl; follow = λ parts. refl })
due-as [] (o ∷ of) part least apart = absurd least
due-as (field ∷ left) [] part least apart = absurd least
due-as (field ∷ left) (o ∷ of) part least apart = by (due-as left of part least.1 apart.1) (has_tag o.tags part.first) o.is_required refl refl
  where
    here : Due
    here = record { field = field; left = left }

    due-is : (b r : Bool) → has_tag o.tags part.first ≡ b → o.is_required ≡ r
        → due part.first (field ∷ left) ≡ due_if b (Some here) (due_if r None (due part.first left))
    due-is b r e f =
        ap (λ x. due_if x (Some here) (due_if field.is_required None (due part.first left))) (tag-same field o part.first least.0 ∙ e)
        ∙ ap (λ x. due_if b (Some here) (due_if x None (due part.first left))) (least.0.required ∙ f)

    follow-is : (b r : Bool) (parts : List Part) → has_tag o.tags part.first ≡ b → o.is_required ≡ r
        → following (o ∷ of) (part ∷ parts) ≡ fields_if b (following of parts) (fields_if r None (following of (part ∷ parts)))
    follow-is b r parts e f =
        ap (λ x. fields_if x (following of parts) (fields_if o.is_required None (following of (part ∷ parts)))) e
        ∙ ap (λ x. fields_if b (following of parts) (fields_if x None (following of (part ∷ parts)))) f

    faulty-is : (b : Bool) → has_tag o.tags part.first ≡ b → by_field (o ∷ of) part ≡ places_if b (o.faults part) (by_field of part)
    faulty-is b e = ap (λ x. places_if x (o.faults part) (by_field of part)) e

    own-is : (other : Part) → is_of of other ≡ true → by_field (o ∷ of) other ≡ by_field of other
    own-is other k = ap (λ x. places_if x (o.faults other) (by_field of other)) (apart.0 other k)

    later : has_tag o.tags part.first ≡ false → o.is_required ≡ false → DueAs left of part ⊎ NotDue left of part → DueAs (field ∷ left) (o ∷ of) part ⊎ NotDue (field ∷ left) (o ∷ of) part
    later e f (inl d) = inl (record {
      field = d.field;
      after = d.after;
      by = d.by;
      others = d.others;
      is_due = due-is false false e f ∙ d.is_due;
      least = d.least;
      leasts = d.leasts;
      follow = λ parts. follow-is false false parts e f ∙ d.follow parts;
      tagged = or-right (has_tag o.tags part.first) (is_of of part) d.tagged;
      faulty = faulty-is false e ∙ d.faulty;
      fewer = λ other k. or-right (has_tag o.tags other.first) (is_of of other) (d.fewer other k);
      own = λ other k. own-is other (d.fewer other k) ∙ d.own other k;
      apart = d.apart;
    })
    later e f (inr d) = inr (record { none = due-is false false e f ∙ d.none; follow = λ parts. follow-is false false parts e f ∙ d.follow parts })

    by : DueAs left of part ⊎ NotDue left of part → (b r : Bool) → has_tag o.tags part.first ≡ b → o.is_required ≡ r → DueAs (field ∷ left) (o ∷ of) part ⊎ NotDue (field ∷ left) (o ∷ of) part
    by d true r e f = inl (record {
      field = field;
      after = left;
      by = o;
      others = of;
      is_due = due-is true r e f;
      least = least.0;
      leasts = least.1;
      follow = λ parts. follow-is true r parts e f;
      tagged = ap (λ x. x || is_of of part) e;
      faulty = faulty-is true e;
      fewer = λ other k. or-right (has_tag o.tags other.first) (is_of of other) k;
      own = own-is;
      apart = apart.1;
    })
    by d false true e f = inr (record { none = due-is false true e f; follow = λ parts. follow-is false true parts e f })
    by d false false e f = later e f d

-- ---- fields in order

-- where no part follows
lacking-told : (end : Option ℕ) (left : List forms.Field) (of : List faults.Field) (found : List Mark) → LeastFields left of
    → Told (lacking (list_any (λ field. field.is_required) left) end found) (missing (Some of) end)
lacking-told None left of found least = refl
lacking-told (Some place) left of found least =
    told-along _ _ _ (ap (λ b. lacking b (Some place) found) (required-same left of least)) (by (list_any (λ (f : faults.Field). f.is_required) of))
  where
    required-same : (left : List forms.Field) (of : List faults.Field) → LeastFields left of
        → list_any (λ (f : forms.Field). f.is_required) left ≡ list_any (λ (f : faults.Field). f.is_required) of
    required-same [] [] least = refl
    required-same [] (o ∷ of) least = absurd least
    required-same (field ∷ left) [] least = absurd least
    required-same (field ∷ left) (o ∷ of) least = ap (λ b. b || list_any (λ (f : forms.Field). f.is_required) left) least.0.required ∙ ap (λ b. o.is_required || b) (required-same left of least.1)

    by : (b : Bool) → Told (lacking b (Some place) found) (unless (not b) place)
    by true = told-fault place
    by false = refl

-- the parts of which the fields speak
abbrev pub kept : Bool → List faults.Field → Parts → Parts
kept skips of parts = if skips then known of parts else parts

kept-known : (skips : Bool) (of : List faults.Field) (part : Part) (parts : Parts) → is_of of part ≡ true → kept skips of (next part parts) ≡ next part (kept skips of parts)
kept-known true of part parts e = ap (λ b. parts_if b (next part (known of parts)) (known of parts)) e
kept-known false of part parts e = refl

kept-placed : (skips : Bool) (of : List faults.Field) (low high : ℕ) (parts : Parts) → ArePlaced low high parts → ArePlaced low high (kept skips of parts)
kept-placed true of low high parts are = known-placed of low high parts are
kept-placed false of low high parts are = are

abbrev found_if : Bool → Found → Found → Found
found_if b x y = if b then x else y

-- What is known of a walk: the fields that it goes by, those that may still come, and that parts may follow those before
-- as these say.
pub record Going (fields : List forms.Field) (all : List faults.Field) (left : List forms.Field) (of : List faults.Field) (order : Order) (before : List Part) : Type 0 where
  pub known_as : (part : Part) → forms.is_known fields part.first ≡ is_of all part
  pub leasts : LeastFields left of
  pub apart : AreApart of
  pub fewer : (part : Part) → is_of of part ≡ true → is_of all part ≡ true
  pub own : (part : Part) → is_of of part ≡ true → by_field all part ≡ by_field of part
  pub follow : (parts : List Part) → order (before ++ parts) ≡ following of parts

goes-on : (fields : List forms.Field) (all : List faults.Field) (left : List forms.Field) (of : List faults.Field) (order : Order) (before : List Part) (part : Part)
    → Going fields all left of order before → (d : DueAs left of part) → Going fields all d.after d.others order (before ++ part ∷ [])
goes-on fields all left of order before part g d = record {
  known_as = g.known_as;
  leasts = d.leasts;
  apart = d.apart;
  fewer = λ other k. g.fewer other (d.fewer other k);
  own = λ other k. g.own other (d.fewer other k) ∙ d.own other k;
  follow = λ parts. ap order (append_assoc before (part ∷ []) parts) ∙ g.follow (part ∷ parts) ∙ d.follow parts;
}

following-nil : (of : List faults.Field) → following of [] ≡ Some of
following-nil [] = refl
following-nil (o ∷ of) = refl

-- what may follow the parts before
follow-now : (fields : List forms.Field) (all : List faults.Field) (left : List forms.Field) (of : List faults.Field) (order : Order) (before : List Part)
    → Going fields all left of order before → order before ≡ Some of
follow-now fields all left of order before g = ap order (sym (append-nil before)) ∙ g.follow [] ∙ following-nil of

ends-told : (skips : Bool) (fields : List forms.Field) (all : List faults.Field) (left : List forms.Field) (of : List faults.Field) (order : Order) (before : List Part)
    → Going fields all left of order before → (end : Option ℕ) (found : List Mark)
    → Told (lacking (list_any (λ field. field.is_required) left) end found) (missing (order before) end)
ends-told skips fields all left of order before g end found =
    told-places _ _ _ (ap (λ o. missing o end) (follow-now fields all left of order before g)) (lacking-told end left of found g.leasts)

-- a part at which a field is due
due-told : (skips : Bool) (fields : List forms.Field) (all : List faults.Field) (left : List forms.Field) (of : List faults.Field) (order : Order) (before : List Part)
    → Going fields all left of order before → (high : ℕ) (part : Part) (parts : Parts) (found : List Mark) → IsPlaced part
    → (d : DueAs left of part) → From part.after (among order all (before ++ part ∷ []) (kept skips all parts))
    → ((marks : List Mark) → Told (in_order parts skips fields d.after marks) (among order all (before ++ part ∷ []) (kept skips all parts)))
    → Told (in_order (next part parts) skips fields left found) (among order all before (kept skips all (next part parts)))
due-told skips fields all left of order before g high part parts found is d from others =
    told-along _ _ _ (ap (step skips fields part (in_order parts skips fields) left found) d.is_due)
    (told-places _ _ (d.by.faults part ++ rest) (ap (among order all before) (kept-known skips all part parts (g.fewer part d.tagged)) ∙ ap (λ xs. xs ++ rest) faults_are)
    (told-then (d.field.read part found) (in_order parts skips fields d.after) (d.by.faults part) rest part.at part.after (here.told part found is) (here.within part is) others from))
  where
    rest : Places
    rest = among order all (before ++ part ∷ []) (kept skips all parts)

    here : Least d.field.read d.by.faults
    here = d.least.least

    faults_are : standing all (order (before ++ part ∷ [])) part ≡ d.by.faults part
    faults_are =
        ap (λ o. standing all o part) (g.follow (part ∷ []) ∙ d.follow [] ∙ following-nil d.others) ∙ g.own part d.tagged ∙ d.faulty

-- a part at which no field is due is skipped, or is a fault
not-due-told : (skips : Bool) (fields : List forms.Field) (all : List faults.Field) (left : List forms.Field) (of : List faults.Field) (order : Order) (before : List Part)
    → Going fields all left of order before → (part : Part) (parts : Parts) (found : List Mark) → IsPlaced part
    → NotDue left of part → From part.after (among order all (before ++ part ∷ []) (kept skips all parts))
    → Told (in_order parts skips fields left found) (among order all before (kept skips all parts))
    → Told (in_order (next part parts) skips fields left found) (among order all before (kept skips all (next part parts)))
not-due-told skips fields all left of order before g part parts found is d from others =
    told-along _ _ _ (ap (step skips fields part (in_order parts skips fields) left found) d.none) (by skips from others (is_of all part) refl)
  where
    fault_is : standing all (order (before ++ part ∷ [])) part ≡ part.at ∷ []
    fault_is = ap (λ o. standing all o part) (g.follow (part ∷ []) ∙ d.follow [])

    wrong : (b : Bool) → From part.after (among order all (before ++ part ∷ []) (kept b all parts)) → Told (Err part.at) (among order all before (next part (kept b all parts)))
    wrong b from =
        let rest = among order all (before ++ part ∷ []) (kept b all parts) in
        told-places (Err part.at) _ (part.at ∷ rest) (ap (λ xs. xs ++ rest) fault_is) (told-before part.at rest (from-less part.at part.after rest (placed-order part is) from))

    by : (b : Bool) → From part.after (among order all (before ++ part ∷ []) (kept b all parts)) → Told (in_order parts skips fields left found) (among order all before (kept b all parts))
        → (k : Bool) → is_of all part ≡ k
        → Told (found_if (b && not (forms.is_known fields part.first)) (in_order parts skips fields left found) (Err part.at)) (among order all before (kept b all (next part parts)))
    by false from others k e = wrong false from
    by true from others true e =
        told-along _ (Err part.at) _ (ap (λ b. found_if (not b) (in_order parts skips fields left found) (Err part.at)) (g.known_as part ∙ e))
        (told-places (Err part.at) _ _ (ap (λ b. among order all before (if b then next part (known all parts) else known all parts)) e) (wrong true from))
    by true from others false e =
        told-along _ (in_order parts skips fields left found) _ (ap (λ b. found_if (not b) (in_order parts skips fields left found) (Err part.at)) (g.known_as part ∙ e))
        (told-places _ _ _ (ap (λ b. among order all before (if b then next part (known all parts) else known all parts)) e) others)

pub order-told : (skips : Bool) (fields base : List forms.Field) (all : List faults.Field) → LeastFields base all
    → (left : List forms.Field) (of : List faults.Field) (order : Order) (before : List Part) → Going fields all left of order before
    → (low high : ℕ) (parts : Parts) (found : List Mark) → ArePlaced low high parts
    → Told (in_order parts skips fields left found) (among order all before (kept skips all parts))
order-told true fields base all least left of order before g low high (ends end) found are = ends-told true fields all left of order before g end found
order-told false fields base all least left of order before g low high (ends end) found are = ends-told false fields all left of order before g end found
order-told skips fields base all least left of order before g low high (next part parts) found are =
    by (due-as left of part g.leasts g.apart)
    (λ after others seen h marks. order-told skips fields base all least after others order seen h part.after high parts marks are.2)
  where
    later : From part.after (among order all (before ++ part ∷ []) (kept skips all parts))
    later =
        within-from part.after high (among order all (before ++ part ∷ []) (kept skips all parts))
        (among-within order base all least part.after high (before ++ part ∷ []) (kept skips all parts) (kept-placed skips all part.after high parts are.2))

    by : DueAs left of part ⊎ NotDue left of part
        → ((after : List forms.Field) (others : List faults.Field) (seen : List Part) → Going fields all after others order seen → (marks : List Mark)
        → Told (in_order parts skips fields after marks) (among order all seen (kept skips all parts)))
        → Told (in_order (next part parts) skips fields left found) (among order all before (kept skips all (next part parts)))
    by (inl d) go =
        due-told skips fields all left of order before g high part parts found are.1 d later
        (λ marks. go d.after d.others (before ++ part ∷ []) (goes-on fields all left of order before part g d) marks)
    by (inr d) go = not-due-told skips fields all left of order before g part parts found are.1 d later (go left of before g found)

-- ---- SEQUENCE, and what stands within an explicit tag

starting : (fields : List forms.Field) (of : List faults.Field) → LeastFields fields of → AreApart of → Going fields of fields of (following of) []
starting fields of least apart = record {
  known_as = λ part. known-same fields of part least;
  leasts = least;
  apart = apart;
  fewer = λ part k. k;
  own = λ part k. refl;
  follow = λ parts. refl;
}

pub alone-told : (fields : List forms.Field) (of : List faults.Field) → LeastFields fields of → AreApart of → (low high : ℕ) (parts : Parts) (found : List Mark) → ArePlaced low high parts
    → Told (in_order parts false fields fields found) (faults.fields_alone of parts)
alone-told fields of least apart low high parts found are =
    order-told false fields fields of least fields of (following of) [] (starting fields of least apart) low high parts found are

pub among-least : (fields : List forms.Field) (of : List faults.Field) → LeastFields fields of → AreApart of → LeastParts (λ parts. in_order parts true fields fields) (faults.fields_among of)
among-least fields of least apart = record {
  told = order-told true fields fields of least fields of (following of) [] (starting fields of least apart);
  within = λ low high parts are. among-within (following of) fields of least low high [] (known of parts) (known-placed of low high parts are);
}

pub sequence-least : (fields : List forms.Field) (of : List faults.Field) → LeastFields fields of → AreApart of → Least (forms.sequence fields) (faults.sequence of)
sequence-least fields of least apart = constructed-least _ _ (among-least fields of least apart)

pub exactly-least : (fields : List forms.Field) (of : List faults.Field) → LeastFields fields of → AreApart of → Least (forms.exactly fields) (faults.exactly of)
exactly-least fields of least apart =
    constructed-least _ _ (record { told = alone-told fields of least apart; within = λ low high parts are. among-within (following of) fields of least low high [] parts are })
