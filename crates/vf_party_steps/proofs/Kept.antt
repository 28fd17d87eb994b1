-- What a store keeps stays with a message that changes no file, and after which its party would leave what it would have
-- left before.
use Rattle.std.proofs.Common.{◌≡◌, ℕ, List, [], ◌∷◌, ◌++◌, flat_map, fold, Option, None, Some, refl, ap, sym, ◌∙◌, subst, append-nil}
use Rattle.std.specs.List.{IsDistinct}
use Rattle.std.proofs.lemmas.List.Concat.{flat_map-append}
use Rattle.vf_attr.specs.declared.file.File.{File}
use Rattle.vf_filestore.specs.Changes.{delta, file_changes, is_same_open}
use Rattle.vf_filestore.specs.Dockets.{docket_by, docket_left_by}
use Rattle.vf_filestore.specs.Due.{due_after, next_serial, with_due}
use Rattle.vf_filestore.specs.History.{Entry, History}
use Rattle.vf_filestore.specs.Sound.{IsSound}
use Rattle.vf_filestore.specs.State.{Docket, State, StandingParty, activity_of, party_of, with_party}
use Rattle.vf_filestore.specs.Tables.{in_order, row_of, tables_of}
use Rattle.vf_filestore.specs.Transfers.{Transfer, under_way}
use Rattle.vf_filestore.proofs.Parties.{located, with_at}
use Rattle.vf_filestore.proofs.Recorded.{rows_apart}
use Rattle.vf_filestore.proofs.Unchanged.{all_found, dockets_themselves, makes_no_change, no_pieces}
use Rattle.vf_tables.specs.declared.tables.Tables.{Tables}

-- what is kept of a state with these dockets, those that parties would leave among them
abbrev tables_with : State → List Docket → Tables
tables_with state all = record {
  users = state.users;
  files = state.files;
  dockets = flat_map row_of (fold (λ ordered docket. in_order docket ordered) [] all);
  tasks = state.tasks;
}

-- a party with another history
abbrev pub with_history : History → StandingParty → StandingParty
with_history history party = record party { history = history }

-- the parties leave the same, if this one does
pub rows_stay : (parties : List StandingParty) (party next : StandingParty) → party_of party.link parties ≡ Some party → next.link ≡ party.link
    → docket_left_by next ≡ docket_left_by party → flat_map docket_left_by (with_party next parties) ≡ flat_map docket_left_by parties
rows_stay parties party next found same left =
    let at = located party.link parties party found in
    let now : with_party next parties ≡ at.before ++ next ∷ at.after = ap (with_party next) at.is ∙ with_at party.link at.before at.after party next at.absent refl same in
    ap (flat_map docket_left_by) now ∙ flat_map-append docket_left_by at.before (next ∷ at.after)
    ∙ ap (λ (own : List Docket). flat_map docket_left_by at.before ++ (own ++ flat_map docket_left_by at.after)) left
    ∙ sym (flat_map-append docket_left_by at.before (party ∷ at.after)) ∙ sym (ap (flat_map docket_left_by) at.is)

-- with another history the party leaves the same
pub tables_stay : (state : State) (party : StandingParty) (history : History) → party_of party.link state.parties ≡ Some party
    → docket_left_by (with_history history party) ≡ docket_left_by party
    → tables_of (record state { parties = with_party (with_history history party) state.parties }) ≡ tables_of state
tables_stay state party history found left =
    ap (λ (left : List Docket). tables_with state (state.dockets ++ left)) (rows_stay state.parties party (with_history history party) found refl left)

-- and so it is where the message changes files, but for those
pub tables_filed : (state : State) (party : StandingParty) (history : History) (files : List File) → party_of party.link state.parties ≡ Some party
    → docket_left_by (with_history history party) ≡ docket_left_by party
    → tables_of (record state { files = files; parties = with_party (with_history history party) state.parties }) ≡ record (tables_of state) { files = files }
tables_filed state party history files found left = λ i. record (tables_stay state party history found left i) { files = files }

abbrev left_in : Option ℕ → StandingParty → List Docket
left_in activity party = docket_by activity party

-- a party without a recoverable open leaves none
pub none_left : (party : StandingParty) → activity_of party ≡ None → docket_left_by party ≡ []
none_left party closed = ap (λ (activity : Option ℕ). left_in activity party) closed

-- where what is kept stays there is no change
pub no_change : (tables : Tables) (state after : State) → IsSound state → tables_of state ≡ tables → tables_of after ≡ tables_of state → delta tables (tables_of after) ≡ []
no_change tables state after sound kept same =
    ap (delta tables) (same ∙ kept) ∙ makes_no_change tables (subst (λ (t : Tables). IsDistinct is_same_open t.dockets) kept (rows_apart state sound))

-- where files alone change, the changes are theirs
pub files_change : (tables : Tables) (state after : State) (files : List File) → IsSound state → tables_of state ≡ tables
    → tables_of after ≡ record (tables_of state) { files = files } → delta tables (tables_of after) ≡ file_changes tables.files files
files_change tables state after files sound kept becomes =
    let apart : IsDistinct is_same_open tables.dockets = subst (λ (t : Tables). IsDistinct is_same_open t.dockets) kept (rows_apart state sound) in
    ap (delta tables) (becomes ∙ (λ i. record (kept i) { files = files }))
    ∙ (λ i. file_changes tables.files files ++ (dockets_themselves tables.dockets i ++ no_pieces tables.dockets tables.dockets (all_found tables.dockets apart) i))
    ∙ append-nil (file_changes tables.files files)

-- nothing is due outside of a transfer
pub nothing_due : (earlier : History) (serial : ℕ) (entry : Entry) → under_way (entry ∷ earlier) ≡ None → entry.said ≡ (with_due earlier serial entry).said
nothing_due earlier serial entry quiet =
    sym (append-nil entry.said)
    ∙ ap (λ (moved : Option Transfer). entry.said ++ due_after (entry ∷ earlier) (next_serial earlier serial entry.message) moved) (sym quiet)
