-- The value of an element means it.
use Rattle.std.proofs.Common.{Bool, true, false, List, ℕ, refl, inl, inr}
use Rattle.std.specs.Prelude.{Option, Some, None, Result, Ok, Err, IfOk, ◌&&◌, IsTrue, [], ◌∷◌}
use Rattle.vf_base.specs.Name.{is_name}
use Rattle.vf_base.specs.declared.element.Element.{Element}
use Rattle.vf_base.specs.declared.element.Element.TheVariants.{Descriptor, Enter, Exit, Text, Binary}
use Rattle.vf_ber.specs.Tree.{Tree, plain, built, none}
use Rattle.vf_elements.specs.ElementValue.{IsNamed, IsWritable, ValueMeans, descriptor_parts, filled_part}
use Rattle.vf_elements.specs.Elements.{IsDescriptor, Means, application, descriptor, descriptor_slots}
use Rattle.vf_pdu_fields.specs.Content.{Octets, Truth, nil, slots}
use Rattle.vf_pdu_fields.specs.Meaning.{Holds, context}
use Rattle.vf_pdu_fields.specs.declared.errors.PduError.{PduError}
use Rattle.vf_pdu_fields.specs.Rows.{Boolean, Row, end, field, default, one}

and_true : (b : Bool) → IsTrue b → IsTrue (b && true)
and_true true h = h
and_true false h = h

-- the fields after the name
abbrev filled_row : Row
filled_row = field 1 (one Boolean) (default (Truth true)) end

filled_has : (filled : Bool) → Holds filled_row (filled_part filled) (slots (Some (Truth filled) ∷ []))
filled_has true = inr (Some (Truth true), nil, refl, refl, (refl, refl))
filled_has false = inl (plain (context 1) (0 ∷ []), none, Truth false, nil, refl, refl, refl, refl, (refl, refl))

descriptor_has : (name : Option (List ℕ)) (filled : Bool) → Holds descriptor (descriptor_parts name filled) (slots (descriptor_slots (Descriptor name filled)))
descriptor_has None filled = inr (None, slots (Some (Truth filled) ∷ []), refl, refl, filled_has filled)
descriptor_has (Some name) filled =
    inl (plain (context 0) name, filled_part filled, Octets name, slots (Some (Truth filled) ∷ []), refl, refl, refl, refl, filled_has filled)

descriptor_is : (name : Option (List ℕ)) (filled : Bool) → IsNamed name → IsDescriptor (built (application 0) (descriptor_parts name filled)) (Descriptor name filled)
descriptor_is None filled named = record { parts = descriptor_parts None filled; built_of = refl; has = descriptor_has None filled; in_range = refl }
descriptor_is (Some name) filled named = record {
  parts = descriptor_parts (Some name) filled;
  built_of = refl;
  has = descriptor_has (Some name) filled;
  in_range = and_true (is_name name) named;
}

pub value_is : ValueMeans
value_is (Descriptor name filled) w = descriptor_is name filled w
value_is Enter w = refl
value_is Exit w = refl
value_is (Text class octets) w = (w, refl, refl)
value_is (Binary octets) w = (refl, refl)

first_true : (a b : Bool) → IsTrue (a && b) → IsTrue a
first_true true b h = refl
first_true false b h = h

pub writable : (tree : Tree) (element : Element) → Means tree element → IsWritable element
writable tree (Descriptor None filled) m = tt
writable tree (Descriptor (Some name) filled) m = first_true (is_name name) true m.in_range
writable tree Enter m = tt
writable tree Exit m = tt
writable tree (Text class octets) m = m.0
writable tree (Binary octets) m = tt

-- what a value means is written
pub ok_writable : (tree : Tree) (r : Result Element PduError) → IfOk r (λ element. Means tree element) → IfOk r (λ element. IsWritable element)
ok_writable tree (Ok element) m = writable tree element m
ok_writable tree (Err error) m = tt
