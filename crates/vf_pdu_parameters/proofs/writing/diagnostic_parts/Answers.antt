use Rattle.std.proofs.Common.{◌≡◌, ℕ, ℤ, ap, ◌∙◌, rules}
use Rattle.std.specs.Prelude.{Some}
use Rattle.vf_ber.specs.Tree.{Trees, none}
use Rattle.vf_pdu_fields.specs.Content.{Number}
use Rattle.vf_pdu_fields.specs.Rows.{Any, Integer, int, one, or, required}
use Rattle.vf_pdu_fields.specs.Slots.{num}
use Rattle.vf_pdu_fields.specs.Writing.{◌▸◌, part_of}
use Rattle.vf_pdu_fields.proofs.Steps.{stored}
use Rattle.vf_pdu_fields.proofs.Written.{all_appended}
use Rattle.vf_pdu_parameters.specs.ParameterSlots.{diagnostic_slots}
use Rattle.vf_pdu_parameters.specs.Parameters.{diagnostic_fields}
use Rattle.vf_pdu_parameters.proofs.writing.diagnostic_parts.Goals as goal

-- a stored number, which may be the default
stored_or : (parts made : Trees) (number : ℕ) (n m : ℤ) → n ≡ m → made ≡ parts ▸ part_of number (one (Integer Any)) (or 0) (Some (Number n))
    → made ≡ parts ▸ part_of number (one (Integer Any)) (or 0) (Some (Number m))
stored_or parts made number n m e h = h ∙ ap (λ (k : ℤ). parts ▸ part_of number (one (Integer Any)) (or 0) (Some (Number k))) e

pub returns : goal.returns
returns c =
    let d = c.args.diagnostic.now in
    let first : c.put_integer.new.parts ≡ none ▸ part_of 0 (int 1 65535) required (num d.number) = search rules in
    let second : c.put_integer_or.new.parts ≡ c.put_integer.new.parts ▸ part_of 1 (one (Integer Any)) (or 0) (Some (Number d.first)) =
    stored_or c.put_integer.new.parts c.put_integer_or.new.parts 1 _ d.first (stored d.first (search rules)) c.in_ok-put_integer_or.ensures.ok in
    let third : c.put_integer_or-2.new.parts ≡ c.put_integer_or.new.parts ▸ part_of 2 (one (Integer Any)) (or 0) (Some (Number d.second)) =
    stored_or c.put_integer_or.new.parts c.put_integer_or-2.new.parts 2 _ d.second (stored d.second (search rules)) c.in_ok-put_integer_or-2.ensures.ok in
    all_appended diagnostic_fields (diagnostic_slots d) c.put_integer_or-2.new.parts
    (third ∙ ap (λ (parts : Trees). parts ▸ part_of 2 (one (Integer Any)) (or 0) (Some (Number d.second))) second
    ∙ ap (λ (parts : Trees). parts ▸ part_of 1 (one (Integer Any)) (or 0) (Some (Number d.first)) ▸ part_of 2 (one (Integer Any)) (or 0) (Some (Number d.second))) first)
