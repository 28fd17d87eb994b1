-- To what each answer of a responder is one, in the words of the filestore (profile): to a message, to octets that are none, to
-- an arrival or to a break; or to none of these, as to octets before a message is whole, and where a lower layer answers by
-- itself. In the order of the answers, and as many as they are.
use Rattle.std.specs.Prelude.{ℕ, false, List, [], ◌∷◌, ◌++◌, length, Option, None, Some, if◌then◌else◌, nat_lt}
use Rattle.vf_base.specs.declared.events.ScriptEvent.{ScriptEvent}
use Rattle.vf_base.specs.declared.events.ScriptEvent.TheVariants as script
use Rattle.vf_elements.specs.declared.message.Message.TheVariants.{Break}
use Rattle.vf_filestore.specs.Aborts.{Setting}
use Rattle.vf_filestore.specs.Diagnostics.{superseded}
use Rattle.vf_filestore.specs.Runs.{Event, Arrives, Takes, Faults}
use Rattle.vf_filestore.specs.State.{StandingParty, party_of}
use Rattle.vf_session.specs.Trace.{next}
use Rattle.vf_stack.specs.Association.{is_ended}
use Rattle.vf_stack.specs.declared.indication.Indication.{Indication}
use Rattle.vf_responder.specs.Answers.{at_end, giving_way, in_the_way, most_links, octet_heard, setting_at, told, told_all, with_octet}
use Rattle.vf_responder.specs.Meanings.{Meaning, meaning, transfer_check}
use Rattle.vf_responder.specs.Meanings as meant
use Rattle.vf_responder.specs.Serving.{Serving, stands}

-- AN INDICATION is to its party a message or a fault. An association that gives way to it is told so first.
abbrev pub to_way : Option StandingParty → List (Option Event)
to_way None = []
to_way (Some other) = Some (Faults other.link superseded 0) ∷ []

abbrev pub to_meaning : (moment : ℕ) → Indication → Serving → StandingParty → Meaning → Option Event
to_meaning moment indication serving party (meant.Takes message) =
    Some (Takes party.link (setting_at moment (serving.associations party.link) indication) message)
to_meaning moment indication serving party (meant.Faults number place) = Some (Faults party.link number place)
to_meaning moment indication serving party meant.Nothing = None

abbrev pub to_meant : (moment : ℕ) → Indication → Serving → StandingParty → Meaning → List (Option Event)
to_meant moment indication serving party meaning =
    let way = in_the_way serving.filestore party meaning in
    to_way way ++ to_meaning moment indication (at_end serving (giving_way serving way)) party meaning ∷ []

abbrev pub to_indication_of : (moment : ℕ) → Indication → Serving → Option StandingParty → List (Option Event)
to_indication_of moment indication serving None = []
to_indication_of moment indication serving (Some party) =
    let trace = (serving.associations party.link).exchange.trace in
    to_meant moment indication serving party (meaning (next trace) (transfer_check party.history) indication)

abbrev pub to_indication : (moment link : ℕ) → Serving → Indication → List (Option Event)
to_indication moment link serving indication = to_indication_of moment indication serving (party_of link serving.filestore.parties)

abbrev pub to_indications : (moment link : ℕ) → Serving → List Indication → List (Option Event)
to_indications moment link serving [] = []
to_indications moment link serving (indication ∷ later) =
    to_indication moment link serving indication
    ++ to_indications moment link (at_end serving (told moment link serving indication)) later

-- A BREAK, in which nothing is said; so its setting is any.
abbrev pub any_setting : Setting
any_setting = record { moment = 0; serial = 0; token = false; sync = false }

abbrev pub to_break : Option StandingParty → List (Option Event)
to_break None = []
to_break (Some party) = Some (Takes party.link any_setting Break) ∷ []

-- OCTETS. Transport answers by itself; then come the indications; and where nothing more is received the association breaks.
abbrev pub to_ending : Serving → Option StandingParty → List (Option Event)
to_ending serving None = []
to_ending serving (Some party) =
    if is_ended (serving.associations party.link).exchange.ending then to_break (Some party) else []

abbrev pub to_octet : (moment link : ℕ) → Serving → (octet : ℕ) → List (Option Event)
to_octet moment link serving octet =
    let heard = with_octet link octet serving in
    let now = at_end heard.0.state (told_all moment link heard.0.state heard.1) in
    None ∷ to_indications moment link heard.0.state heard.1 ++ to_ending now (party_of link now.filestore.parties)

abbrev pub to_octets : (moment link : ℕ) → Serving → List ℕ → List (Option Event)
to_octets moment link serving [] = []
to_octets moment link serving (octet ∷ later) =
    if stands link serving.filestore
    then to_octet moment link serving octet ++ to_octets moment link (at_end serving (octet_heard moment link serving octet)) later
    else []

-- AN ARRIVAL, of a link for which there is room.
abbrev pub to_arrival : (link : ℕ) → Serving → Option Event
to_arrival link serving = if nat_lt (length serving.filestore.parties) most_links then Some (Arrives link) else None

-- EVENTS
abbrev pub to_event : ScriptEvent → Serving → List (Option Event)
to_event (script.Arrived link) serving = if stands link serving.filestore then [] else to_arrival link serving ∷ []
to_event (script.Octets link moment octets) serving = to_octets moment link serving octets
to_event (script.Ended link) serving = to_break (party_of link serving.filestore.parties)
