-- The PDU that is made of fields in range has these fields.
use Rattle.std.proofs.Common.{◌≡◌, ℕ, zero, suc, ◌+◌, ◌<◌, ◌≤◌, true, false, List, [], ◌∷◌, length, get_or, refl, sym, subst, arith}
use Rattle.vf_base.specs.declared.action.Actions.{Actions}
use Rattle.vf_pdu_fields.specs.Contained.{actions_in, attribute_controls_in, content_controls_in, number_in, truth_in}
use Rattle.vf_pdu_fields.specs.Content.{Truth, Slot, slots}
use Rattle.vf_pdu_fields.specs.Meaning.{all_fit}
use Rattle.vf_pdu_fields.specs.Rows.{Boolean, Controls, required, default, one, int, or, natural}
use Rattle.vf_pdu_fields.specs.Slots.{attribute_controls, content_controls}
use Rattle.vf_pdu_fields.specs.declared.limits.TheConstants.{MOST_ACTIVITY, MOST_PLACE, MOST_POINT}
use Rattle.vf_pdu_fields.proofs.Whole.{Each, attribute_whole, by_fields, content_whole, context_whole, fadu_whole, has_number, may_string, may_text, may_whole, needs_number, needs_text, next, number_whole, operation_whole, there_whole, truth_whole}
use Rattle.vf_pdu_parameters.specs.ContainedParameters.{attributes_in, contents_in, terms_in}
use Rattle.vf_pdu_parameters.specs.ParameterSlots.{attributes_content, contents_content, terms_content}
use Rattle.vf_pdu_parameters.specs.Parameters.{attributes, contents, no_terms, terms}
use Rattle.vf_pdu_parameters.proofs.WholeParameters.{attributes_whole, contents_whole, may_contents, may_diagnostic, terms_whole}
use Rattle.vf_pdu.specs.PduComputed.{pdu_of}
use Rattle.vf_pdu.specs.PduEntry.{Entry}
use Rattle.vf_pdu.specs.PduNumbers.{number_of}
use Rattle.vf_pdu.specs.PduRows.{entries, entry_of, no_entry, row_of}
use Rattle.vf_pdu.specs.PduSlots.{slots_of}

abbrev Makes : ℕ → Entry → Type 0
Makes number entry = Each entry.its_row (λ all. slots_of (entry.made all) ≡ all) × ((all : List Slot) → number_of (entry.made all) ≡ number)

-- the entries from this number on
abbrev AllMake : ℕ → List Entry → Type 0
AllMake number [] = Unit {0}
AllMake number (entry ∷ all) = Makes number entry × AllMake (number + 1) all

all_make : AllMake 0 entries
all_make = (
  ((λ a fa b fb c fc d fd. next (needs_number 0 65535 a fa) (next (may_text b fb) (next (may_string c fc) (next (has_number 1 65535 1 d fd) refl)))), λ all. refl),
  (
    ((λ a fa b fb c fc. next (may_diagnostic a fa) (next (has_number 0 65535 0 b fb) (next (has_number 1 65535 1 c fc) refl))), λ all. refl),
    (
      (refl, λ all. refl),
      (
        (refl, λ all. refl),
        (
          ((λ a fa. next (has_number 0 65535 0 a fa) refl), λ all. refl),
          (
            ((λ a fa b fb. next (needs_number 0 65535 a fa) (next (has_number 0 MOST_PLACE 0 b fb) refl)), λ all. refl),
            (
              ((λ a fa b fb c fc d fd. next (needs_text a fa) (next (has_number 0 255 0 b fb) (next (may_whole (one (Controls 3)) attribute_controls attribute_controls_in attribute_whole c fc) (next (may_string d fd) refl)))), λ all. refl),
              (
                ((λ a fa. next (may_diagnostic a fa) refl), λ all. refl),
                (
                  (refl, λ all. refl),
                  (
                    ((λ a fa. next (may_diagnostic a fa) refl), λ all. refl),
                    (
                      ((λ a fa b fb c fc d fd e fe g fg h fh i fi. next (has_number 0 1 0 a fa) (next (needs_text b fb) (next (there_whole contents required (λ x. x) contents_content contents_in contents_whole c fc) (next (has_number 0 255 255 d fd) (next (there_whole terms no_terms (λ x. x) terms_content terms_in terms_whole e fe) (next (has_number 0 255 0 g fg) (next (may_whole (one (Controls 3)) attribute_controls attribute_controls_in attribute_whole h fh) (next (may_string i fi) refl)))))))), λ all. refl),
                      (
                        ((λ a fa. next (may_diagnostic a fa) refl), λ all. refl),
                        (
                          (refl, λ all. refl),
                          (
                            ((λ a fa. next (may_diagnostic a fa) refl), λ all. refl),
                            (
                              ((λ a fa. next (needs_number 0 65535 a fa) refl), λ all. refl),
                              (
                                ((λ a fa b fb. next (may_diagnostic a fa) (next (may_whole attributes attributes_content attributes_in attributes_whole b fb) refl)), λ all. refl),
                                (
                                  ((λ a fa b fb c fc d fd. next (may_text a fa) (next (may_whole (int 0 255) (λ (set : Actions). natural set.value) actions_in (number_whole 0 255) b fb) (next (may_whole terms terms_content terms_in terms_whole c fc) (next (has_number 0 65535 0 d fd) refl)))), λ all. refl),
                                  (
                                    ((λ a fa. next (may_diagnostic a fa) refl), λ all. refl),
                                    (
                                      ((λ a fa b fb c fc d fd. next (needs_number 0 31 a fa) (next (may_contents b fb) (next (may_whole (one (Controls 5)) content_controls content_controls_in content_whole c fc) (next (may_whole (int 1 MOST_ACTIVITY) natural number_in (number_whole 1 MOST_ACTIVITY) d fd) refl)))), λ all. refl),
                                      (
                                        ((λ a fa b fb. next (may_diagnostic a fa) (next (may_contents b fb) refl)), λ all. refl),
                                        (
                                          (refl, λ all. refl),
                                          (
                                            ((λ a fa. next (may_diagnostic a fa) refl), λ all. refl),
                                            (
                                              ((λ a fa. next (needs_number 1 16 a fa) refl), λ all. refl),
                                              (
                                                (refl, λ all. refl),
                                                (
                                                  (refl, λ all. refl),
                                                  (
                                                    (refl, λ all. refl),
                                                    (
                                                      ((λ a fa b fb c fc. next (needs_number 1 MOST_ACTIVITY a fa) (next (needs_number 1 MOST_POINT b fb) (next (has_number 0 MOST_POINT 0 c fc) refl))), λ all. refl),
                                                      (
                                                        ((λ a fa b fb c fc d fd e fe. next (may_diagnostic a fa) (next (may_whole (int 1 (MOST_POINT + 1)) natural number_in (number_whole 1 (MOST_POINT + 1)) b fb) (next (has_number 0 MOST_POINT 0 c fc) (next (there_whole (one Boolean) (default (Truth false)) (λ x. x) Truth truth_in truth_whole d fd) (next (has_number 0 65535 0 e fe) refl))))), λ all. refl),
                                                        (
                                                          ((λ a fa. next (fadu_whole required (λ x. x) a fa) refl), λ all. refl),
                                                          (
                                                            ((λ a fa b fb. next (may_diagnostic a fa) (next (has_number 0 4294967295 0 b fb) refl)), λ all. refl),
                                                            (
                                                              ((λ a fa. next (fadu_whole (or 0) (λ x. x) a fa) refl), λ all. refl),
                                                              (
                                                                ((λ a fa. next (may_diagnostic a fa) refl), λ all. refl),
                                                                (
                                                                  ((λ a fa b fb. next (fadu_whole (or 0) (λ x. x) a fa) (next (context_whole b fb) refl)), λ all. refl),
                                                                  (
                                                                    ((λ a fa b fb. next (operation_whole a fa) (next (fadu_whole (or 0) (λ x. x) b fb) refl)), λ all. refl),
                                                                    (
                                                                      ((λ a fa. next (may_diagnostic a fa) refl), λ all. refl),
                                                                      (
                                                                        (refl, λ all. refl),
                                                                        (
                                                                          ((λ a fa. next (may_diagnostic a fa) refl), λ all. refl),
                                                                          (
                                                                            ((λ a fa. next (may_diagnostic a fa) refl), λ all. refl),
                                                                            (
                                                                              (refl, λ all. refl),
                                                                              (
                                                                                ((λ a fa. next (has_number 0 MOST_POINT 0 a fa) refl), λ all. refl),
                                                                                (
                                                                                  ((λ a fa. next (has_number 0 MOST_POINT 0 a fa) refl), λ all. refl),
                                                                                  tt,
                                                                                ),
                                                                              ),
                                                                            ),
                                                                          ),
                                                                        ),
                                                                      ),
                                                                    ),
                                                                  ),
                                                                ),
                                                              ),
                                                            ),
                                                          ),
                                                        ),
                                                      ),
                                                    ),
                                                  ),
                                                ),
                                              ),
                                            ),
                                          ),
                                        ),
                                      ),
                                    ),
                                  ),
                                ),
                              ),
                            ),
                          ),
                        ),
                      ),
                    ),
                  ),
                ),
              ),
            ),
          ),
        ),
      ),
    ),
  ),
)

make_in : (first number place : ℕ) (all : List Entry) → AllMake first all → number ≡ first + place → place < length all → Makes number (get_or all place no_entry)
make_in first number place [] h e lt = absurd (omega arith)
make_in first number zero (entry ∷ all) h e lt =
    let same : number ≡ first = omega arith in
    let M : ℕ → Type 0 = λ n. Makes n entry in
    subst M (sym same) h.0
make_in first number (suc place) (entry ∷ all) h e lt = make_in (first + 1) number place all h.1 (omega arith) (omega arith)

-- each number's PDU has the fields that it is made of
pub whole : (number : ℕ) (all : List Slot) → number ≤ 40 → all_fit (row_of number) (slots all) ≡ true
    → (slots_of (pdu_of number all) ≡ all) × (number_of (pdu_of number all) ≡ number)
unfolding row_of
whole number all le h =
    let entry : Entry = entry_of number in
    let makes : Makes number entry = make_in 0 number number entries all_make (omega arith) (omega arith) in
    (by_fields entry.its_row (λ read. slots_of (entry.made read) ≡ read) makes.0 all h, makes.1 all)
