use Rattle.std.proofs.Common.{◌≡◌, ap, sym, ◌∙◌, [], ◌∷◌, List, ℕ, Some, ℤ, rules}
use Rattle.std.specs.Option.{option_map}
use Rattle.vf_ber.specs.Views.{tree_of}
use Rattle.vf_pdu_fields.specs.Content.{Arcs, Content, Fields, Number, nil, slots}
use Rattle.vf_pdu_fields.specs.Reading.{rest}
use Rattle.vf_pdu_fields.specs.Rows.{Oid, Row, end, field, int, one, or, required}
use Rattle.vf_pdu_fields.proofs.Steps.{step, stored, whole}
use Rattle.vf_pdu_parameters.proofs.contents_types.contents_form.Goals as goal

abbrev last : Row
last = field 3 (int 0 255) (or 0) end

abbrev later : Row
later = field 2 (int 0 4294967295) (or 0) last

abbrev after_kind : Row
after_kind = field 1 (int 0 255) (or 25) later

view : List ℕ → ℤ → ℤ → ℤ → Content
view kind class longest significance = Fields (slots (Some (Arcs kind) ∷ Some (Number class) ∷ Some (Number longest) ∷ Some (Number significance) ∷ []))

view_same : (kind : List ℕ) (a b c x y z : ℤ) → a ≡ x → b ≡ y → c ≡ z → view kind a b c ≡ view kind x y z
view_same kind a b c x y z p q r = ap (λ n. view kind n b c) p ∙ ap (λ n. view kind x n c) q ∙ ap (λ n. view kind x y n) r

pub returns : goal.returns
unfolding view
returns c =
    let p = c.as_slice-parts.result.now in
    let fourth = step 3 (int 0 255) (or 0) end (rest p c.integer_or-2.new.at) (rest p c.integer_or-3.new.at) (Some (Number c.in-Some-integer_or-3.significance)) nil (sym c.in-Some-integer_or-3.ensures.value) c.in-Some-integer_or-3.ensures.others (sym c.in-Some-close.ensures) in
    let third = step 2 (int 0 4294967295) (or 0) last (rest p c.integer_or.new.at) (rest p c.integer_or-2.new.at) (Some (Number c.in-Some-integer_or-2.longest)) _ (sym c.in-Some-integer_or-2.ensures.value) c.in-Some-integer_or-2.ensures.others fourth in
    let second = step 1 (int 0 255) (or 25) later (rest p c.oid.new.at) (rest p c.integer_or.new.at) (Some (Number c.in-Some-integer_or.class)) _ (sym c.in-Some-integer_or.ensures.value) c.in-Some-integer_or.ensures.others third in
    let first = step 0 (one Oid) required after_kind (rest p 0) (rest p c.oid.new.at) (Some (Arcs c.in-Some-2.kind)) _ (sym c.in_ok-kind.ensures.value ∙ ap (option_map (λ (arcs : List ℕ). Some (Arcs arcs))) c.in-Some-2.is) c.in_ok-kind.ensures.others second in
    let same = view_same c.in-Some-2.kind _ _ _ _ _ _ (stored c.in-Some-integer_or.class (search rules)) (stored c.in-Some-integer_or-2.longest (search rules)) (stored c.in-Some-integer_or-3.significance (search rules)) in
    ap (λ (k : Content). Some k) same
    ∙ sym (whole (field 0 (one Oid) required after_kind) (tree_of c.args.part.now) c.in-Some.fields.now (rest p 0) _ (sym c.in-Some.ensures) c.as_slice-parts.ensures.values first)
