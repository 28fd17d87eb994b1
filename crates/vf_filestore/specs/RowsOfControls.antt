-- Concurrency control: who stands against whom.
use Rattle.std.specs.Prelude.{◌≡◌, ℕ, pos, neg_ℤ, List, [], ◌∷◌, ◌++◌, Option, None, Some}
use Rattle.vf_base.specs.declared.action.Control.TheVariants.{NotRequired, Exclusive, NoAccess}
use Rattle.vf_base.specs.declared.diagnostic.Diagnostic.{Diagnostic}
use Rattle.vf_elements.specs.declared.message.Message.{Message}
use Rattle.vf_elements.specs.declared.message.Message.TheVariants as messages
use Rattle.vf_pdu.specs.declared.pdu.Pdu.TheVariants.{InitializeResponse, SelectResponse, OpenRequest, OpenResponse, CloseRequest, DeleteRequest, DeleteResponse, ChangeAttribRequest, ChangeAttribResponse}
use Rattle.vf_filestore.specs.Runs.{Event, beginning}
use Rattle.vf_filestore.specs.Samples.{a, b, binary_file, diagnostic, ftam_3, heard_on, initialize, on, open_for, recoverable, replies, select, then_on}
use Rattle.vf_filestore.specs.State.{State}

-- replace alone, and nobody reads meanwhile
abbrev pub open_to_replace : Message
open_to_replace = messages.Pdu (OpenRequest 4 None (Some (record {
  read = NoAccess;
  insert = NotRequired;
  replace = Exclusive;
  extend = NotRequired;
  erase = NotRequired;
})) None)

abbrev pub with_a : State
with_a = beginning [] (binary_file a 1 [] ∷ [])

abbrev pub reader : (link : ℕ) → List Event
reader link = on link (initialize 255 ∷ select a 1 ∷ open_for 1 ∷ [])

abbrev pub conflict : (action : ℕ) → Option Diagnostic
conflict action = Some (record { number = 16; first = pos action; second = pos 1 })

-- two read; a third wants to replace, and again once they have closed
abbrev pub third : List Event
third =
    reader 1 ++ reader 2 ++ on 3 (initialize 255 ∷ select a 4 ∷ open_to_replace ∷ [])
    ++ then_on 1 (messages.Pdu CloseRequest ∷ []) ++ then_on 2 (messages.Pdu CloseRequest ∷ []) ++ then_on 3 (open_to_replace ∷ [])

-- a recoverable open breaks, and its docket holds what it held
abbrev pub docket : List Event
docket = on 1 (initialize 255 ∷ select a 1 ∷ recoverable 1 7 ∷ messages.Break ∷ [])

pub record RowsOfControls : Type 0 where
  pub against_readers : heard_on 3 third with_a ≡ replies (
      InitializeResponse None 255 1 ∷ SelectResponse None ∷ OpenResponse (conflict 0) None ∷ OpenResponse None (Some ftam_3) ∷ [])
  pub delete_of_another : heard_on 2 (reader 1 ++ on 2 (initialize 255 ∷ select a 128 ∷ messages.Pdu DeleteRequest ∷ [])) with_a ≡
      replies (InitializeResponse None 255 1 ∷ SelectResponse None ∷ DeleteResponse (conflict 7) ∷ [])
  pub rename_of_another :
      heard_on 2 (reader 1 ++ on 2 (initialize 255 ∷ select a 64 ∷ messages.Pdu (ChangeAttribRequest (Some b) None None 0) ∷ [])) with_a ≡
      replies (InitializeResponse None 255 1 ∷ SelectResponse None ∷ ChangeAttribResponse (conflict 6) ∷ [])
  pub against_docket : heard_on 2 (docket ++ on 2 (initialize 255 ∷ select a 4 ∷ open_to_replace ∷ [])) with_a ≡ replies (
      InitializeResponse None 255 1 ∷ SelectResponse None
      ∷ OpenResponse (Some (record { number = 16; first = pos 0; second = neg_ℤ (pos 7) })) None ∷ [])
  pub activity_in_use : heard_on 2 (docket ++ on 2 (initialize 255 ∷ select a 1 ∷ recoverable 1 7 ∷ recoverable 1 8 ∷ [])) with_a ≡
      replies (InitializeResponse None 255 1 ∷ SelectResponse None ∷ OpenResponse (diagnostic 28) None ∷ OpenResponse None (Some ftam_3) ∷ [])
