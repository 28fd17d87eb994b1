-- What is kept of a state, and who holds each file in it, looks at no trace: a message that is concluded once it has joined
-- its party's trace leaves what it would leave had it not.
use Rattle.std.proofs.Common.{◌≡◌, ℕ, List, [], ◌∷◌, ◌++◌, flat_map, fold, Some, refl, ap, sym, ◌∙◌}
use Rattle.std.proofs.lemmas.List.Concat.{flat_map-append}
use Rattle.vf_elements.specs.declared.message.Message.{Message}
use Rattle.vf_filestore.specs.Aborts.{Setting}
use Rattle.vf_filestore.specs.Conclusion.{concluding_entry, dockets_after, taken_up}
use Rattle.vf_filestore.specs.Dockets.{docket_left_by}
use Rattle.vf_filestore.specs.Effects.{files_after}
use Rattle.vf_filestore.specs.History.{Given}
use Rattle.vf_filestore.specs.Holders.{held_by_docket, held_by_party, holders, put_in_order}
use Rattle.vf_filestore.specs.HoldersAfter.{concluded_by, hearing}
use Rattle.vf_filestore.specs.State.{Docket, State, StandingParty, party_of, with_party}
use Rattle.vf_filestore.specs.Tables.{in_order, row_of, tables_of}
use Rattle.vf_filestore.specs.Transition.{with_message}
use Rattle.vf_filestore.proofs.Concluded.{after_entry, concluded_is}
use Rattle.vf_filestore.proofs.Decisions.{left_same, put_again}
use Rattle.vf_filestore.proofs.Parties.{located}
use Rattle.vf_filestore.proofs.Same.{with_trace}
use Rattle.vf_locks.specs.declared.held.Held.{Held}
use Rattle.vf_party_steps.proofs.Kept.{rows_stay}

-- the same is kept, and each file has the same holders
pub record AreKeptAlike (one other : State) : Type 0 where
  pub tables : tables_of one ≡ tables_of other
  pub holders : (file : List ℕ) → holders one file ≡ holders other file

module _ (state : State) (party : StandingParty) (setting : Setting) (message : Message) (given : Given) (trace other : List Message) (before after : List StandingParty) where
  abbrev next : (trace : List Message) → StandingParty
  next trace = record party { trace = trace; history = concluding_entry state party setting message given ∷ taken_up state party message }

  abbrev later : (trace : List Message) → State
  later trace = after_entry state party setting message given trace before after

  left_alike : flat_map docket_left_by (before ++ next trace ∷ after) ≡ flat_map docket_left_by (before ++ next other ∷ after)
  left_alike =
      flat_map-append docket_left_by before (next trace ∷ after)
      ∙ ap (λ (own : List Docket). flat_map docket_left_by before ++ (own ++ flat_map docket_left_by after)) (left_same (next other) trace)
      ∙ sym (flat_map-append docket_left_by before (next other ∷ after))

  held_alike : (file : List ℕ) → flat_map (held_by_party file) (before ++ next trace ∷ after) ≡ flat_map (held_by_party file) (before ++ next other ∷ after)
  held_alike file =
      flat_map-append (held_by_party file) before (next trace ∷ after) ∙ sym (flat_map-append (held_by_party file) before (next other ∷ after))

  pub traces_alike : AreKeptAlike (later trace) (later other)
  traces_alike = record {
    tables = ap (λ (left : List Docket). record {
      users = state.users;
      files = files_after state party setting.moment given message;
      dockets = flat_map row_of (fold (λ ordered docket. in_order docket ordered) [] (dockets_after party message state.dockets ++ left));
      tasks = state.tasks;
    }) left_alike;
    holders = λ file. ap (λ (helds : List Held). put_in_order (helds ++ flat_map (held_by_docket file) (dockets_after party message state.dockets))) (held_alike file);
  }

-- the state that a message leaves which is concluded once it has joined the trace
pub heard_alike : (state : State) (party : StandingParty) (setting : Setting) (message : Message) (given : Given) → party_of party.link state.parties ≡ Some party
    → AreKeptAlike (concluded_by (hearing state party message) (with_message message party) setting message given) (concluded_by state party setting message given)
heard_alike state party setting message given found =
    let at = located party.link state.parties party found in
    let trace = message ∷ party.trace in
    let heard = concluded_is state party.link party setting message given (with_party (with_trace party trace) state.parties) trace at refl in
    let plain = concluded_is state party.link party setting message given state.parties party.trace at (put_again party.link state.parties party found) in
    let alike = traces_alike state party setting message given trace party.trace at.before at.after in
    record {
      tables = ap tables_of heard ∙ alike.tables ∙ sym (ap tables_of plain);
      holders = λ file. (λ i. holders (heard i) file) ∙ alike.holders file ∙ sym (λ i. holders (plain i) file);
    }

-- and one that does nothing but join it
pub tables_heard : (state : State) (party : StandingParty) (message : Message) → party_of party.link state.parties ≡ Some party → tables_of (hearing state party message) ≡ tables_of state
tables_heard state party message found =
    ap (λ (left : List Docket). record {
      users = state.users;
      files = state.files;
      dockets = flat_map row_of (fold (λ ordered docket. in_order docket ordered) [] (state.dockets ++ left));
      tasks = state.tasks;
    }) (rows_stay state.parties party (with_message message party) found refl (left_same party (message ∷ party.trace)))
