-- What holds of each entry of histories after those before it stays so with breaks, stops and drops, and with each message
-- of whose entry it holds.
use Rattle.std.proofs.Common.{◌≡◌, ℕ, true, not, List, ◌∷◌, ◌++◌, Option, None, Some, refl, ap, sym, subst, ◌∙◌}
use Rattle.std.specs.Prelude.{flat_map}
use Rattle.std.specs.List.{AllByRecursion}
use Rattle.vf_elements.specs.Stages.{takes}
use Rattle.vf_elements.specs.declared.message.Message.{Message}
use Rattle.vf_elements.specs.declared.message.Message.TheVariants as messages
use Rattle.vf_pdu.specs.declared.pdu.Pdu.{Pdu}
use Rattle.vf_pdu.specs.declared.pdu.Pdu.TheVariants.{RecoverRequest}
use Rattle.vf_filestore.specs.Aborts.{Setting}
use Rattle.vf_filestore.specs.Conclusion.{concluding_entry, history_of, taken_up}
use Rattle.vf_filestore.specs.Dockets.{broken, docket_left_by, dockets_left, dropped, stopped}
use Rattle.vf_filestore.specs.History.{Entry, Given, History, regime, selection}
use Rattle.vf_filestore.specs.Keeping.{AreHistoriesOf, EachAfter}
use Rattle.vf_filestore.specs.Sound.{IsSound, IsSoundDocket}
use Rattle.vf_filestore.specs.Stage.{regime_stage}
use Rattle.vf_filestore.specs.State.{Docket, State, StandingParty, docket_of, identity_of, is_docket_of, is_of_link, party_of, with_party}
use Rattle.vf_filestore.specs.Transfers.{under_way}
use Rattle.vf_filestore.proofs.Concluded.{after_entry, message_dockets}
use Rattle.vf_filestore.proofs.Decisions.{party_sound}
use Rattle.vf_filestore.proofs.Lasting.{Lasts, each_left, each_left_by_all, each_resumed}
use Rattle.vf_filestore.proofs.Lists.{all-filter, all_append, all_left, all_right}
use Rattle.vf_filestore.proofs.Nested.{placed}
use Rattle.vf_filestore.proofs.Owned.{found_all, within_stage}
use Rattle.vf_filestore.proofs.Parties.{located, with_at}
use Rattle.vf_filestore.proofs.Same.{with_parties, with_trace}
use Rattle.vf_filestore.proofs.Views.{in_association_only}

abbrev IsParty : (History → Entry → Type 0) → StandingParty → Type 0
IsParty Holds party = EachAfter Holds party.history

abbrev IsDocket : (History → Entry → Type 0) → Docket → Type 0
IsDocket Holds docket = EachAfter Holds docket.history

-- ---- other traces, and drops

-- the same histories with another trace
pub heard_each : (Holds : History → Entry → Type 0) (state : State) (link : ℕ) (party : StandingParty) (trace : List Message) → AreHistoriesOf Holds state → party_of link state.parties ≡ Some party
    → AreHistoriesOf Holds (with_parties state (with_party (with_trace party trace) state.parties))
heard_each Holds state link party trace each found =
    let at = located link state.parties party found in
    let next = with_trace party trace in
    let now : with_party next state.parties ≡ at.before ++ next ∷ at.after = ap (with_party next) at.is ∙ with_at link at.before at.after party next at.absent at.same at.same in
    let all = subst (λ (parties : List StandingParty). AllByRecursion (IsParty Holds) parties) at.is each.parties in
    let rest = all_right (IsParty Holds) at.before (party ∷ at.after) all in
    record {
      parties = subst (λ (parties : List StandingParty). AllByRecursion (IsParty Holds) parties) (sym now) (all_append (IsParty Holds) at.before (next ∷ at.after) (all_left (IsParty Holds) at.before (party ∷ at.after) all) (rest.0, rest.1));
      dockets = each.dockets;
    }

pub dropped_each : (Holds : History → Entry → Type 0) (state : State) (identity : List ℕ) (activity : ℕ) → AreHistoriesOf Holds state → AreHistoriesOf Holds (dropped identity activity state)
dropped_each Holds state identity activity each = record {
  parties = each.parties;
  dockets = all-filter (IsDocket Holds) (λ docket. not (is_docket_of identity activity docket)) state.dockets each.dockets;
}

module _ (Holds : History → Entry → Type 0) (lasts : Lasts Holds) where
  -- ---- ends

  pub broken_each : (link : ℕ) (state : State) → IsSound state → AreHistoriesOf Holds state → AreHistoriesOf Holds (broken link state)
  broken_each link state sound each = record {
    parties = all-filter (IsParty Holds) (λ party. not (is_of_link link party)) state.parties each.parties;
    dockets = all_append (IsDocket Holds) state.dockets (dockets_left (party_of link state.parties)) each.dockets (by (party_of link state.parties) refl);
  }
    where
      by : (one : Option StandingParty) → party_of link state.parties ≡ one → AllByRecursion (IsDocket Holds) (dockets_left one)
      by None is = tt
      by (Some party) is = each_left Holds lasts party (party_sound state link party sound is).sound.nested (found_all (IsParty Holds) (is_of_link link) state.parties party is each.parties)

  pub stopped_each : (state : State) → IsSound state → AreHistoriesOf Holds state → AreHistoriesOf Holds (stopped state)
  stopped_each state sound each = record {
    parties = tt;
    dockets = all_append (IsDocket Holds) state.dockets (flat_map docket_left_by state.parties) each.dockets (each_left_by_all Holds lasts state.files state.parties sound.parties each.parties);
  }

  -- ---- a message that is granted

  -- what a party takes up
  taken_request : (state : State) (party : StandingParty) (request : Pdu) → AllByRecursion (IsDocket Holds) state.dockets → AllByRecursion (IsSoundDocket state.files) state.dockets → IsParty Holds party
      → takes (regime_stage party.history) (messages.Pdu request) ≡ true → EachAfter Holds (taken_up state party (messages.Pdu request))
  taken_request state party (RecoverRequest activity number point) dockets sound own taken =
      let message = messages.Pdu (RecoverRequest activity number point) in
      let there = in_association_only message (record { reading = refl; shown = refl; writing = refl; written = refl }) refl refl (placed message party.history (within_stage party.history message refl taken)) in
      by (docket_of (identity_of party) activity state.dockets) refl there.no_selection there.no_regime there.no_transfer
    where
      by : (one : Option Docket) → docket_of (identity_of party) activity state.dockets ≡ one → selection party.history ≡ None → regime party.history ≡ None → under_way party.history ≡ None → EachAfter Holds (history_of one ++ party.history)
      by None is s r t = own
      by (Some docket) is s r t =
          let each = found_all (IsDocket Holds) (is_docket_of (identity_of party) activity) state.dockets docket is dockets in
          let nested = (found_all (IsSoundDocket state.files) (is_docket_of (identity_of party) activity) state.dockets docket is sound).sound.nested in
          each_resumed Holds lasts docket.history party.history s r t nested each own
  taken_request state party request dockets sound own taken = own

  taken_message : (state : State) (party : StandingParty) (message : Message) → AllByRecursion (IsDocket Holds) state.dockets → AllByRecursion (IsSoundDocket state.files) state.dockets → IsParty Holds party
      → takes (regime_stage party.history) message ≡ true → EachAfter Holds (taken_up state party message)
  taken_message state party (messages.Pdu request) dockets sound own taken = taken_request state party request dockets sound own taken
  taken_message state party message dockets sound own taken = own

  pub granted_each : (state : State) (party : StandingParty) (setting : Setting) (message : Message) (given : Given) (trace : List Message) (before after : List StandingParty) → IsSound state → AreHistoriesOf Holds state
      → state.parties ≡ before ++ party ∷ after → takes (regime_stage party.history) message ≡ true → Holds (taken_up state party message) (concluding_entry state party setting message given)
      → AreHistoriesOf Holds (after_entry state party setting message given trace before after)
  granted_each state party setting message given trace before after sound each is taken holds =
      let all = subst (λ (parties : List StandingParty). AllByRecursion (IsParty Holds) parties) is each.parties in
      let rest = all_right (IsParty Holds) before (party ∷ after) all in
      let next : StandingParty = record party { trace = trace; history = concluding_entry state party setting message given ∷ taken_up state party message } in
      let history : IsParty Holds next = (holds, taken_message state party message each.dockets sound.dockets rest.0 taken) in
      record {
        parties = all_append (IsParty Holds) before (next ∷ after) (all_left (IsParty Holds) before (party ∷ after) all) (history, rest.1);
        dockets = message_dockets (IsDocket Holds) party message state.dockets each.dockets;
      }
