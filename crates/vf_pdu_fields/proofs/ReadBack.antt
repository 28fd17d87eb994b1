-- What parts have by a row is what is read of them.
use Rattle.std.proofs.Common.{◌≡◌, true, List, ap, sym, ◌∙◌}
use Rattle.std.specs.Prelude.{Ok, Some}
use Rattle.vf_ber.specs.Tree.{Trees}
use Rattle.vf_pdu_fields.specs.Contained.{slot_list}
use Rattle.vf_pdu_fields.specs.Content.{Slot, slots}
use Rattle.vf_pdu_fields.specs.Meaning.{Holds, all_fit}
use Rattle.vf_pdu_fields.specs.Reading.{reading, shapes}
use Rattle.vf_pdu_fields.specs.Rows.{Row}
use Rattle.vf_pdu_fields.proofs.Back.{slot_list-slots}
use Rattle.vf_pdu_fields.proofs.Complete.{holds_shapes}
use Rattle.vf_pdu_fields.proofs.Found.{reading_kept}
use Rattle.vf_pdu_fields.proofs.Nested.{shapes_read}
use Rattle.vf_pdu_fields.proofs.Plain.{some_is}
use Rattle.vf_pdu_fields.proofs.Tables.{is_table}

pub slots_same : (xs ys : List Slot) → slots xs ≡ slots ys → xs ≡ ys
slots_same xs ys e = sym (slot_list-slots xs) ∙ ap slot_list e ∙ slot_list-slots ys

pub read_back : (row : Row) (parts : Trees) (all : List Slot) → is_table 0 row ≡ true → Holds row parts (slots all) → all_fit row (slots all) ≡ true
    → reading row parts ≡ Ok all
read_back row parts all t h f =
    let shown : shapes row parts ≡ Some (slots all) = holds_shapes row 0 parts (slots all) t h in
    let r = shapes_read row parts (slots all) shown f in
    let kept = reading_kept row parts r.0 t r.1 in
    let same : slots r.0 ≡ slots all = some_is (slots r.0) (slots all) (sym (holds_shapes row 0 parts (slots r.0) t kept.0) ∙ shown) in
    r.1 ∙ ap (λ (l : List Slot). Ok l) (slots_same r.0 all same)
