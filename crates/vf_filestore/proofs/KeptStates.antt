-- The tables of each state of a run are valid.
use Rattle.std.proofs.Common.{ℕ, [], ◌∷◌}
use Rattle.std.specs.List.{AllByRecursion}
use Rattle.vf_filestore.specs.Keeping.{AreKept, BeginsKept, BreaksStayKept, DropsStayKept, FaultsStayKept, HasFew, HasFewTerms, IsKept, IsKeptEntry, IsOpenIn, KeptIsValid, MessagesStayKept, RunsStayKept, StopsStayKept}
use Rattle.vf_filestore.specs.Runs.{Event, Arrives, Takes, Faults, Stops, after_event, arrives}
use Rattle.vf_filestore.specs.Sound.{IsSound}
use Rattle.vf_filestore.specs.State.{State, StandingParty, arrived}
use Rattle.vf_filestore.proofs.FilesKept.{files_stay, files_valid}
use Rattle.vf_filestore.proofs.HistoriesStay.{dropped_each, stopped_each}
use Rattle.vf_filestore.proofs.KeptMoves.{kept_lasts}
use Rattle.vf_filestore.proofs.Lists.{all_append}
use Rattle.vf_filestore.proofs.OpensKept.{broken_open, dropped_open, opens_stay, stopped_open}
use Rattle.vf_filestore.proofs.Preserved.{Stays, any, faults_stay, transitions_stay}
use Rattle.vf_filestore.proofs.StaysKept.{histories_stay}
use Rattle.vf_filestore.proofs.Transitions.{event_sound}
use Rattle.vf_filestore.proofs.Valid.{tables_valid}
use Rattle.vf_filestore.proofs.ValidDockets.{dockets_valid}

pub kept_valid : KeptIsValid
kept_valid state sound kept =
    tables_valid state sound kept.others (files_valid state.files kept.files.files sound.limited.each) (dockets_valid state sound kept.histories kept.opens)

-- ---- it stays so

pub breaks_stay : BreaksStayKept
breaks_stay state link sound kept =
    record { others = kept.others; histories = histories_stay.breaks link state sound kept.histories; opens = broken_open link state sound kept.opens; files = files_stay.breaks link state sound kept.files }

-- with each message that is granted, no one of which changes users or tasks
pub kept_stays : Stays HasFewTerms IsKept
kept_stays = record {
  breaks = λ link state sound kept. breaks_stay state link sound kept;
  hears = λ state link party message few kept found. record {
    others = kept.others;
    histories = histories_stay.hears state link party message tt kept.histories found;
    opens = opens_stay.hears state link party message tt kept.opens found;
    files = files_stay.hears state link party message few kept.files found;
  };
  traces = λ state link party kept found. files_stay.traces state link party kept.files found;
  grants = λ state party setting message given trace before after sound kept sound_after is few traces granting due. record {
    others = kept.others;
    histories = histories_stay.grants state party setting message given trace before after sound kept.histories sound_after is tt (any trace) granting due;
    opens = opens_stay.grants state party setting message given trace before after sound kept.opens sound_after is tt (any trace) granting due;
    files = files_stay.grants state party setting message given trace before after sound kept.files sound_after is few traces granting due;
  };
}

pub messages_stay : MessagesStayKept
messages_stay state link setting message few sound kept = transitions_stay HasFewTerms IsKept kept_stays state link setting message few sound kept

pub faults_stay_kept : FaultsStayKept
faults_stay_kept state link number place sound kept = faults_stay HasFewTerms IsKept kept_stays state link number place sound kept

pub stops_stay : StopsStayKept
stops_stay state sound kept = record {
  others = kept.others;
  histories = stopped_each IsKeptEntry kept_lasts state sound kept.histories;
  opens = stopped_open state sound kept.opens;
  files = record { files = kept.files.files; traces = tt };
}

pub drops_stay : DropsStayKept
drops_stay state identity activity kept = record {
  others = kept.others;
  histories = dropped_each IsKeptEntry state identity activity kept.histories;
  opens = dropped_open state identity activity kept.opens;
  files = record { files = kept.files.files; traces = kept.files.traces };
}

pub begins_kept : BeginsKept
begins_kept users files others filled = record {
  others = others;
  histories = record { parties = tt; dockets = tt };
  opens = record { parties = tt; dockets = tt };
  files = record { files = filled; traces = tt };
}

-- ---- runs

arrives_kept : (state : State) (link : ℕ) → IsKept state → IsKept (arrives link state)
arrives_kept state link kept = record {
  others = kept.others;
  histories = record { parties = all_append (λ (party : StandingParty). AreKept party.history) state.parties (arrived link ∷ []) kept.histories.parties (tt, tt); dockets = kept.histories.dockets };
  opens = record { parties = all_append (λ (party : StandingParty). IsOpenIn state.files party.history) state.parties (arrived link ∷ []) kept.opens.parties (tt, tt); dockets = kept.opens.dockets };
  files = record { files = kept.files.files; traces = all_append (λ (party : StandingParty). AllByRecursion HasFewTerms party.trace) state.parties (arrived link ∷ []) kept.files.traces (tt, tt) };
}

pub event_kept : (state : State) (event : Event) → HasFew event → IsSound state → IsKept state → IsKept (after_event state event).state
event_kept state (Arrives link) few sound kept = arrives_kept state link kept
event_kept state (Takes link setting message) few sound kept = messages_stay state link setting message few sound kept
event_kept state (Faults link number place) few sound kept = faults_stay_kept state link number place sound kept
event_kept state Stops few sound kept = stops_stay state sound kept

pub runs_stay : RunsStayKept
runs_stay [] state new few sound kept = (kept, kept_valid state sound kept)
runs_stay (event ∷ events) state new few sound kept =
    runs_stay events (after_event state event).state new.1 few.1 (event_sound state event new.0 sound) (event_kept state event few.0 sound kept)
