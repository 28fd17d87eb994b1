-- Fields that are put one after another are the fields of their row.
use Rattle.std.proofs.Common.{◌≡◌, Bool, true, false, cond, List, [], ◌∷◌, ◌++◌, map, refl, ap, sym, ◌∙◌}
use Rattle.std.specs.Prelude.{Some, None}
use Rattle.vf_ber.specs.Tree.{Tree, built, Trees, none, more, joined}
use Rattle.vf_pdu_fields.specs.Content.{Slots, items_of, Slot, slots}
use Rattle.vf_pdu_fields.specs.Meaning.{context, universal}
use Rattle.vf_pdu_fields.specs.Rows.{Row, end, field}
use Rattle.vf_pdu_fields.specs.Writing.{◌▸◌, appended, fields, is_default, spelled, spelled_items}

pub joined_none : (parts : Trees) → joined parts none ≡ parts
joined_none none = refl
joined_none (more part parts) = ap (more part) (joined_none parts)

pub joined_joined : (a b c : Trees) → joined (joined a b) c ≡ joined a (joined b c)
joined_joined none b c = refl
joined_joined (more part a) b c = ap (more part) (joined_joined a b c)

-- one field, written or left out, and those after it
one_more : (row : Row) (rest : List Slot) (parts : Trees) (part : Tree) (b : Bool) → ((earlier : Trees) → appended earlier row rest ≡ joined earlier (fields row (slots rest)))
    → appended (parts ▸ cond b None (Some part)) row rest ≡ joined parts (cond b (fields row (slots rest)) (more part (fields row (slots rest))))
one_more row rest parts part true after = after parts
one_more row rest parts part false after = after (joined parts (more part none)) ∙ joined_joined parts (more part none) (fields row (slots rest))

pub appended_is : (row : Row) (all : List Slot) (parts : Trees) → appended parts row all ≡ joined parts (fields row (slots all))
appended_is end all parts = sym (joined_none parts)
appended_is (field number form need row) [] parts = sym (joined_none parts)
appended_is (field number form need row) (None ∷ rest) parts = appended_is row rest parts
appended_is (field number form need row) (Some content ∷ rest) parts =
    one_more row rest parts (spelled (context number) form content) (is_default need content) (appended_is row rest)

-- after none
pub all_appended : (row : Row) (all : List Slot) (made : Trees) → made ≡ appended none row all → made ≡ fields row (slots all)
all_appended row all made e = e ∙ appended_is row all none

-- one more item of a list
pub items_push : {X : Type 0} (inner : Slots → Trees) (view : X → Slots) (items : List X) (last : X)
    → spelled_items inner (items_of (map view (items ++ last ∷ []))) ≡ joined (spelled_items inner (items_of (map view items))) (more (built (universal 16) (inner (view last))) none)
items_push inner view [] last = refl
items_push inner view (first ∷ items) last = ap (more (built (universal 16) (inner (view first)))) (items_push inner view items last)
