-- Whether an abort is among what is said, entry by entry.
use Rattle.std.proofs.Common.{◌≡◌, List, [], ◌∷◌, refl}
use Rattle.std.specs.List.{list_any}
use Rattle.vf_elements.specs.declared.message.Said.{Said}
use Rattle.vf_elements.specs.declared.message.Said.TheVariants as answers
use Rattle.vf_filestore.specs.Conclusion.{has_abort}
use Rattle.vf_party.specs.Turns.{is_abort}

pub any_aborts : (said : List Said) → has_abort said ≡ list_any is_abort said
any_aborts [] = refl
any_aborts (answers.Abort number place ∷ later) = refl
any_aborts (answers.Pdu pdu ∷ later) = any_aborts later
any_aborts (answers.Element element ∷ later) = any_aborts later
any_aborts (answers.Check point ∷ later) = any_aborts later
any_aborts (answers.Acknowledge point ∷ later) = any_aborts later
