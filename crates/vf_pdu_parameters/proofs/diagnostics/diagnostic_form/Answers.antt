use Rattle.std.proofs.Common.{◌≡◌, ap, sym, ◌∙◌, ◌∷◌, [], Some, ℤ, rules}
use Rattle.vf_ber.specs.Views.{tree_of}
use Rattle.vf_pdu_fields.specs.Content.{nil, slots, Number, Fields, Content}
use Rattle.vf_pdu_fields.specs.Reading.{rest}
use Rattle.vf_pdu_fields.specs.Rows.{Any, Integer, Row, end, field, int, one, or, required}
use Rattle.vf_pdu_fields.proofs.Steps.{step, stored, whole}
use Rattle.vf_pdu_parameters.proofs.diagnostics.diagnostic_form.Goals as goal

view : ℤ → ℤ → ℤ → Content
view number first second = Fields (slots (Some (Number number) ∷ Some (Number first) ∷ Some (Number second) ∷ []))

view_same : (a b c x y z : ℤ) → a ≡ x → b ≡ y → c ≡ z → view a b c ≡ view x y z
view_same a b c x y z p q r = ap (λ n. view n b c) p ∙ ap (λ n. view x n c) q ∙ ap (λ n. view x y n) r

abbrev last : Row
last = field 2 (one (Integer Any)) (or 0) end

abbrev later : Row
later = field 1 (one (Integer Any)) (or 0) last

pub returns : goal.returns
unfolding view
returns c =
    let p = c.as_slice-parts.result.now in
    let third = step 2 (one (Integer Any)) (or 0) end (rest p c.integer_or.new.at) (rest p c.integer_or-2.new.at) _ nil (sym c.in_ok-second.ensures.value) c.in_ok-second.ensures.others (sym c.in_ok-close.ensures) in
    let second = step 1 (one (Integer Any)) (or 0) last (rest p c.integer.new.at) (rest p c.integer_or.new.at) _ _ (sym c.in_ok-first.ensures.value) c.in_ok-first.ensures.others third in
    let first = step 0 (int 1 65535) required later (rest p 0) (rest p c.integer.new.at) _ _ (sym c.in_ok-number.ensures.value) c.in_ok-number.ensures.others second in
    let same = view_same _ _ _ _ _ _ (stored c.in_ok-number.number (search rules)) (stored c.in_ok-first.first (search rules)) (stored c.in_ok-second.second (search rules)) in
    ap (λ (k : Content). Some k) same ∙ sym (whole (field 0 (int 1 65535) required later) (tree_of c.args.part.now) c.in_ok-parts_of.field-0.now (rest p 0) _ (sym c.in_ok-parts_of.ensures) c.as_slice-parts.ensures.values first)
