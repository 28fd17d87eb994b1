-- Users, access by terms, attributes and their changes.
use Rattle.std.specs.Prelude.{◌≡◌, ℕ, pos, List, [], ◌∷◌, Option, None, Some}
use Rattle.vf_attr.specs.declared.file.File.{File}
use Rattle.vf_base.specs.Moment.{moment_text}
use Rattle.vf_elements.specs.declared.message.Message.{Message}
use Rattle.vf_elements.specs.declared.message.Message.TheVariants as messages
use Rattle.vf_elements.specs.declared.message.Said.{Said}
use Rattle.vf_pdu.specs.declared.pdu.Pdu.TheVariants.{InitializeRequest, InitializeResponse, SelectRequest, SelectResponse, DeleteRequest, DeleteResponse, ReadAttribRequest, ReadAttribResponse, ChangeAttribRequest, ChangeAttribResponse}
use Rattle.vf_tables.specs.declared.user.User.{User}
use Rattle.vf_filestore.specs.History.{guest}
use Rattle.vf_filestore.specs.Runs.{beginning}
use Rattle.vf_filestore.specs.Samples.{a, ann, b, binary_file, bob, changed, diagnostic, ftam_3, heard_on, initialize, left_by, on, replies, select, set}
use Rattle.vf_filestore.specs.State.{State}

abbrev pub password : List ℕ
password = 112 ∷ 119 ∷ []

-- one user with a password
abbrev pub users : List User
users = record { identity = ann; password = Some password } ∷ []

abbrev pub initialize_with : (identity password : Option (List ℕ)) → Message
initialize_with identity password = messages.Pdu (InitializeRequest 15 identity password 1)

-- a file that one identity may read, with a password
abbrev pub guarded : File
guarded =
    let file = binary_file a 1 [] in
    record file { terms = record { identity = Some ann; actions = set 1; password = Some password } ∷ [] }

abbrev pub selecting : (identity given : List ℕ) → (requested : ℕ) → List Said
selecting identity given requested = heard_on 1
    (on 1 (initialize_with (Some identity) None ∷ messages.Pdu (SelectRequest a (set requested) None (Some given)) ∷ []))
    (beginning [] (guarded ∷ []))

abbrev pub asking : (names : ℕ) → List Said
asking names = heard_on 1 (on 1 (initialize 15 ∷ select a 32 ∷ messages.Pdu (ReadAttribRequest names) ∷ []))
    (beginning [] (binary_file a 1 [] ∷ []))

-- the file gets another name, by which it is then deleted
abbrev pub renaming : (name : List ℕ) → List Message
renaming name =
    initialize 31 ∷ select a 192 ∷ messages.Pdu (ChangeAttribRequest (Some name) None None 0) ∷ []

abbrev pub two_files : State
two_files = beginning [] (binary_file a 1 [] ∷ binary_file b 1 [] ∷ [])

pub record RowsOfAttributes : Type 0 where
  pub known_user : heard_on 1 (on 1 (initialize_with (Some ann) (Some password) ∷ [])) (beginning users []) ≡
      replies (InitializeResponse None 15 1 ∷ [])
  pub unknown_user : heard_on 1 (on 1 (initialize_with None None ∷ initialize 15 ∷ [])) (beginning users []) ≡
      replies (InitializeResponse (diagnostic 36) 0 1 ∷ [])
  pub without_password : heard_on 1 (on 1 (initialize_with (Some ann) None ∷ [])) (beginning users []) ≡
      replies (InitializeResponse (diagnostic 36) 0 1 ∷ [])
  pub right_password : selecting ann password 1 ≡ replies (InitializeResponse None 15 1 ∷ SelectResponse None ∷ [])
  pub wrong_password : selecting ann [] 1 ≡ replies (InitializeResponse None 15 1 ∷ SelectResponse (diagnostic 15) ∷ [])
  pub other_identity : selecting bob password 1 ≡ replies (InitializeResponse None 15 1 ∷ SelectResponse (diagnostic 14) ∷ [])
  pub other_action : selecting ann password 32 ≡ replies (InitializeResponse None 15 1 ∷ SelectResponse (diagnostic 14) ∷ [])
  pub all_attributes : asking 511 ≡ replies (
      InitializeResponse None 15 1 ∷ SelectResponse None ∷ ReadAttribResponse None (Some (record {
        name = Some a;
        permitted = Some (pos 255);
        contents = Some ftam_3;
        terms = Some [];
        created = Some (record { date = moment_text 0; identity = guest });
        modified = None;
        read = None;
        changed = None;
        size = Some (pos 0);
      })) ∷ [])
  pub unsupported : asking 512 ≡ replies (
      InitializeResponse None 15 1 ∷ SelectResponse None ∷ ReadAttribResponse (diagnostic 31) None ∷ [])
  pub renamed : left_by (on 1 (renaming (99 ∷ []))) two_files ≡
      changed (binary_file (99 ∷ []) 1 []) ∷ binary_file b 1 [] ∷ []
  pub name_taken : heard_on 1 (on 1 (renaming b)) two_files ≡ replies (
      InitializeResponse None 31 1 ∷ SelectResponse None ∷ ChangeAttribResponse (diagnostic 12) ∷ [])
  pub deleted : left_by (on 1 (initialize 15 ∷ select a 128 ∷ messages.Pdu DeleteRequest ∷ [])) two_files ≡ binary_file b 1 [] ∷ []
  pub without_unit : heard_on 1 (on 1 (initialize 1 ∷ select a 128 ∷ messages.Pdu DeleteRequest ∷ [])) two_files ≡ replies (
      InitializeResponse None 1 1 ∷ SelectResponse None ∷ DeleteResponse (diagnostic 33) ∷ [])
