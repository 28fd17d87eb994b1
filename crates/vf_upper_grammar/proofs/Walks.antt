-- The walk over parts, one by one.
use Rattle.std.proofs.Common.{◌≡◌, ℕ, ◌<◌, ◌≤◌, Bool, true, false, List, [], ◌∷◌, refl, ap, sym, subst, ◌∙◌, arith}
use Rattle.std.specs.Prelude.{nat_lt, Option, None, Some, Result, Ok, Err, if◌then◌else◌}
use Rattle.std.proofs.lemmas.Bool.Decides.{nat_tests}
use Rattle.std.proofs.lemmas.Bool.{and_parts}
use Rattle.vf_base.specs.declared.spdu_kind.SpduKind.{SpduKind}
use Rattle.vf_upper_grammar.specs.declared.form.Field.{Field}
use Rattle.vf_upper_grammar.specs.declared.marks.Stop.{Stop}
use Rattle.vf_upper_grammar.specs.declared.marks.Stop.TheVariants.{At, NoMemory}
use Rattle.vf_upper_grammar.specs.Forms as forms
use Rattle.vf_upper_grammar.specs.Forms.{◌>>=◌, constructed, each, exactly, has_tag, in_order, Form, sequence, Tags}
use Rattle.vf_upper_grammar.specs.Marks.{Mark, Found}
use Rattle.vf_upper_grammar.specs.MarkViews.{Gives, Stops}
use Rattle.vf_upper_grammar.specs.Parts.{closing, ends, is_constructed, next, Part, Parts, parts_by, parts_of, FirstPart, first_part, Text}
use Rattle.vf_ber.specs.Reader.{reading}
use Rattle.vf_upper_grammar.specs.Rows.{are_below, rank, read_of, tags_of}
use Rattle.vf_upper_grammar.specs.Texts.{Prefix, prefix, typed, typed_by, unless}
use Rattle.vf_upper_grammar.specs.WalkViews.{fields_of, IsLacking, most, StepsTo, StepStops}
use Rattle.vf_upper_grammar.proofs.Turns.{parts-step}

-- ---- what is found, and then

pub then_ok : (x : Found) (f : List Mark → Found) (found : List Mark) → x ≡ Ok found → (x >>= f) ≡ f found
then_ok x f found e = ap (λ y. y >>= f) e

pub then_stops : (x : Found) (f : List Mark → Found) (stop : Stop) → Stops stop x → Stops stop (x >>= f)
then_stops x f (At place) e = ap (λ y. y >>= f) e
then_stops x f NoMemory e = tt

pub stops_along : (x y : Found) (stop : Stop) → x ≡ y → Stops stop y → Stops stop x
stops_along x y stop e s = let P : Found → Type 0 = λ z. Stops stop z in subst P (sym e) s

pub gives_along : {X : Type 0} (result : Result X Stop) (marks : List Mark) (x y : Found) → x ≡ y → Gives result marks y → Gives result marks x
gives_along result marks x y e g = let P : Found → Type 0 = λ z. Gives result marks z in subst P (sym e) g

-- ---- parts

pub parts-next : (text : Text) (t : FirstPart) → Some t ≡ first_part text → parts_of text ≡ next t.part (parts_of t.rest)
parts-next text t e = parts-step text ∙ ap (parts_by parts_of text) (sym e)

pub parts-none : (text : Text) → None ≡ first_part text → parts_of text ≡ ends (closing text)
parts-none text e = parts-step text ∙ ap (parts_by parts_of text) (sym e)

-- ---- fields in order

pub order-next : (carrier : SpduKind) (skips : Bool) (fields left after : List Field) (text : Text) (t : FirstPart) (old new : List Mark) → Some t ≡ first_part text
    → StepsTo carrier skips fields left t.part old after new
    → in_order (parts_of text) skips (fields_of carrier fields) (fields_of carrier left) old
    ≡ in_order (parts_of t.rest) skips (fields_of carrier fields) (fields_of carrier after) new
order-next carrier skips fields left after text t old new e steps =
    ap (λ parts. in_order parts skips (fields_of carrier fields) (fields_of carrier left) old) (parts-next text t e)
    ∙ steps (in_order (parts_of t.rest) skips (fields_of carrier fields))

pub order-stops : (carrier : SpduKind) (skips : Bool) (fields left : List Field) (text : Text) (t : FirstPart) (old : List Mark) (stop : Stop) → Some t ≡ first_part text
    → StepStops carrier skips fields left t.part old stop
    → Stops stop (in_order (parts_of text) skips (fields_of carrier fields) (fields_of carrier left) old)
order-stops carrier skips fields left text t old stop e stops =
    stops_along _ _ stop (ap (λ parts. in_order parts skips (fields_of carrier fields) (fields_of carrier left) old) (parts-next text t e))
    (stops (in_order (parts_of t.rest) skips (fields_of carrier fields)))

pub order-ends : (carrier : SpduKind) (skips : Bool) (fields left : List Field) (text : Text) (marks : List Mark) (result : Result Unit Stop) → None ≡ first_part text
    → IsLacking carrier left text result
    → Gives result marks (in_order (parts_of text) skips (fields_of carrier fields) (fields_of carrier left) marks)
order-ends carrier skips fields left text marks result e lacks =
    gives_along result marks _ _ (ap (λ parts. in_order parts skips (fields_of carrier fields) (fields_of carrier left) marks) (parts-none text e)) (lacks marks)

-- ---- lists

if_found : Bool → Found → Found → Found
if_found b x y = if b then x else y

pub each-next : (tags : Tags) (read : Form) (text : Text) (t : FirstPart) (old new : List Mark) → Some t ≡ first_part text → has_tag tags t.part.first ≡ true
    → read t.part old ≡ Ok new → each (parts_of text) tags read old ≡ each (parts_of t.rest) tags read new
unfolding if_found
each-next tags read text t old new e tag good =
    ap (λ parts. each parts tags read old) (parts-next text t e)
    ∙ ap (λ b. if_found b (read t.part old >>= each (parts_of t.rest) tags read) (Err t.part.at)) tag
    ∙ then_ok (read t.part old) (each (parts_of t.rest) tags read) new good

pub each-stops : (tags : Tags) (read : Form) (text : Text) (t : FirstPart) (old : List Mark) (stop : Stop) → Some t ≡ first_part text → has_tag tags t.part.first ≡ true
    → Stops stop (read t.part old) → Stops stop (each (parts_of text) tags read old)
unfolding if_found
each-stops tags read text t old stop e tag bad =
    stops_along _ _ stop
    (ap (λ parts. each parts tags read old) (parts-next text t e)
    ∙ ap (λ b. if_found b (read t.part old >>= each (parts_of t.rest) tags read) (Err t.part.at)) tag)
    (then_stops (read t.part old) (each (parts_of t.rest) tags read) stop bad)

pub each-wrong : (tags : Tags) (read : Form) (text : Text) (t : FirstPart) (old : List Mark) → Some t ≡ first_part text → has_tag tags t.part.first ≡ false
    → each (parts_of text) tags read old ≡ Err t.part.at
unfolding if_found
each-wrong tags read text t old e tag =
    ap (λ parts. each parts tags read old) (parts-next text t e)
    ∙ ap (λ b. if_found b (read t.part old >>= each (parts_of t.rest) tags read) (Err t.part.at)) tag

pub each-ends : (tags : Tags) (read : Form) (text : Text) (found : List Mark) → None ≡ first_part text → each (parts_of text) tags read found ≡ Ok found
each-ends tags read text found e = ap (λ parts. each parts tags read found) (parts-none text e)

-- ---- the leading part

option_if : Bool → Option Part → Option Part → Option Part
option_if b x y = if b then x else y

pub leading-next : (fields : List forms.Field) (text : Text) (t : FirstPart) → Some t ≡ first_part text → forms.is_known fields t.part.first ≡ false
    → forms.leading fields (parts_of text) ≡ forms.leading fields (parts_of t.rest)
unfolding option_if
leading-next fields text t e other =
    ap (forms.leading fields) (parts-next text t e) ∙ ap (λ b. option_if b (Some t.part) (forms.leading fields (parts_of t.rest))) other

pub leading-found : (fields : List forms.Field) (text : Text) (t : FirstPart) → Some t ≡ first_part text → forms.is_known fields t.part.first ≡ true
    → forms.leading fields (parts_of text) ≡ Some t.part
unfolding option_if
leading-found fields text t e one =
    ap (forms.leading fields) (parts-next text t e) ∙ ap (λ b. option_if b (Some t.part) (forms.leading fields (parts_of t.rest))) one

pub leading-none : (fields : List forms.Field) (text : Text) → None ≡ first_part text → forms.leading fields (parts_of text) ≡ None
leading-none fields text e = ap (forms.leading fields) (parts-none text e)

-- ---- constructed types

-- a type by its fields is read as they are
pub fields-by : (b : Bool) (fields : List forms.Field) (part : Part) (found : List Mark)
    → (if b then sequence fields else exactly fields) part found ≡ constructed (λ parts. in_order parts b fields fields) part found
fields-by true fields part found = refl
fields-by false fields part found = refl

pub constructed-good : (read : Parts → List Mark → Found) (part : Part) (found : List Mark) → is_constructed part.first ≡ true
    → constructed read part found ≡ read (parts_of part.contents) found
unfolding if_found
constructed-good read part found e = ap (λ b. if_found b (read (parts_of part.contents) found) (Err part.at)) e

-- ---- ranks

lt_true : (m n : ℕ) → nat_lt m n ≡ true → m < n
lt_true m n e = grind (arith, nat_tests)

pub most-below : (bound : ℕ) (fields : List Field) → are_below bound fields ≡ true → most fields ≤ bound
most-below bound [] e = omega arith
most-below bound (field ∷ fields) e =
    let both = and_parts (nat_lt (rank field.form) bound) (are_below bound fields) e in
    let here : rank field.form < bound = lt_true (rank field.form) bound both.0 in
    let there : most fields ≤ bound = most-below bound fields both.1 in
    omega arith

-- ---- one value with a tag

pub typed-order : (carrier : SpduKind) (field : Field) (octets : List ℕ) (found : List Mark) (seen : Prefix) → field.is_required ≡ true → seen ≡ prefix octets (reading octets)
    → typed (tags_of field) (read_of carrier field.form) octets found
    ≡ (in_order (parts_of (record { octets = seen.octets; at = 0; whole = seen.whole })) false (fields_of carrier (field ∷ [])) (fields_of carrier (field ∷ [])) found >>= unless seen.fault)
unfolding typed
typed-order carrier field octets found seen required same =
    let one : Bool → List forms.Field = λ b. record { tags = tags_of field; is_required = b; read = read_of carrier field.form } ∷ [] in
    ap (λ s. typed_by (tags_of field) (read_of carrier field.form) s found) (sym same)
    ∙ ap (λ b. in_order (parts_of (record { octets = seen.octets; at = 0; whole = seen.whole })) false (one b) (one b) found >>= unless seen.fault) (sym required)
