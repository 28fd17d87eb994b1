-- A state stays sound with each message that is granted.
use Rattle.std.proofs.Common.{◌≡◌, ℕ, ◌+◌, Bool, true, false, cond, not, List, [], ◌∷◌, ◌++◌, map, nat_eq, Option, None, Some, refl, ap, sym, subst, ◌∙◌, arith}
use Rattle.std.specs.Prelude.{IfSome, flat_map}
use Rattle.std.specs.List.{AllByRecursion, IsDistinct}
use Rattle.std.specs.Str.{bytes_eq}
use Rattle.vf_attr.specs.declared.file.File.{File}
use Rattle.vf_elements.specs.Stages.{takes}
use Rattle.vf_elements.specs.declared.message.Message.{Message}
use Rattle.vf_elements.specs.declared.message.Message.TheVariants as messages
use Rattle.vf_pdu.specs.declared.pdu.Pdu.{Pdu}
use Rattle.vf_pdu.specs.declared.pdu.Pdu.TheVariants.{RecoverRequest}
use Rattle.vf_filestore.specs.Aborts.{Setting}
use Rattle.vf_filestore.specs.Conclusion.{concluded, concluding_entry, dockets_after, grants, has_abort, taken_up}
use Rattle.vf_filestore.specs.Decision.{Grants, request_decision}
use Rattle.vf_filestore.specs.Dockets.{broken}
use Rattle.vf_filestore.specs.Effects.{files_after}
use Rattle.vf_filestore.specs.History.{Entry, Given, Nothing, History, Selection, selection}
use Rattle.vf_filestore.specs.Sound.{AreLimited, AreNumbered, HasItems, IsSound, IsSoundDocket, IsSoundIn, IsSoundParty, Standing, Use, do_clash, link_of, name_of, standing_of_docket, standing_of_party, use_of_docket, use_of_party, Holding, IsUsable, holding_of_docket, holding_of_party}
use Rattle.vf_filestore.specs.Stage.{pending, regime_stage}
use Rattle.vf_filestore.specs.State.{Docket, State, StandingParty, identity_of, is_docket_of, name_in, party_of, with_party}
use Rattle.vf_filestore.proofs.Agreed.{IsAmong, request_agreed, uses_after, uses_around}
use Rattle.vf_filestore.proofs.Alone.{IsNotOn}
use Rattle.vf_filestore.proofs.Broken.{broken_sound}
use Rattle.vf_filestore.proofs.Effected.{Effect, KeepsOthers, effect_of, keeps, kept_all, parts}
use Rattle.vf_filestore.proofs.Filed.{Continues}
use Rattle.vf_filestore.proofs.Limited.{request_limited}
use Rattle.vf_filestore.proofs.Lists.{all-filter, all_append, all_both, all_left, all_right, all_weaker, flat_map-append, all-flat_map, all-from_flat_map}
use Rattle.vf_filestore.proofs.Named.{AsksKnown, named_message}
use Rattle.vf_filestore.proofs.Owned.{AsksCheck, due_later, due_later_plain, goes_for, still_sound, within_stage}
use Rattle.vf_filestore.proofs.Parties.{IsOff, Located, located, off_after, same_links, with_at}
use Rattle.vf_filestore.proofs.Regimes.{around, around_after, request_numbered}
use Rattle.vf_filestore.proofs.Requests.{own_request}
use Rattle.vf_filestore.proofs.Same.{entry_same, files_same, with_parties, with_trace}
use Rattle.vf_filestore.proofs.Soundness.{sound_continues}
use Rattle.vf_filestore.proofs.Usable.{holding_after, request_usable}
use Rattle.vf_filestore.proofs.Standing.{numbered_more}

-- ---- what a granted message rests on

pub record IsGranting (state : State) (party : StandingParty) (setting : Setting) (message : Message) (given : Given) : Type 0 where
  pub own : IsSoundIn (files_after state party setting.moment given message) (concluding_entry state party setting message given ∷ taken_up state party message)
  pub effect : Effect state party (files_after state party setting.moment given message)
  pub limited : AreLimited (files_after state party setting.moment given message)
  pub numbered : (before after : List StandingParty) → state.parties ≡ before ++ party ∷ after → AreNumbered (state.concluded + 1) (around_after state party setting message given before after)
  pub agreed : (before after : List StandingParty) → IsAmong state party before after → IsDistinct do_clash (uses_after state party setting message given before after)
  pub usable : AllByRecursion IsUsable (holding_of_party party) → AllByRecursion IsUsable (holding_after state party setting message given)
  pub dockets : AllByRecursion (IsSoundDocket state.files) (dockets_after party message state.dockets)

-- the regimes of a state, with those of one party apart
pub parted : (state : State) (party : StandingParty) (before after : List StandingParty) → IsSound state → state.parties ≡ before ++ party ∷ after
    → AreNumbered state.concluded (around state before after (standing_of_party party))
parted state party before after sound is =
    subst (λ (all : List Standing). AreNumbered state.concluded (flat_map standing_of_docket state.dockets ++ all)) (flat_map-append standing_of_party before (party ∷ after))
    (subst (λ (all : List StandingParty). AreNumbered state.concluded (flat_map standing_of_docket state.dockets ++ flat_map standing_of_party all)) is sound.numbered)

-- the uses of files, with those of one party apart
pub uses_parted : (state : State) (party : StandingParty) (before after : List StandingParty) → IsSound state → IsAmong state party before after
    → IsDistinct do_clash (uses_around state before after (use_of_party party))
uses_parted state party before after sound among =
    subst (λ (all : List Use). IsDistinct do_clash (flat_map use_of_docket state.dockets ++ all)) (flat_map-append use_of_party before (party ∷ after))
    (subst (λ (all : List StandingParty). IsDistinct do_clash (flat_map use_of_docket state.dockets ++ flat_map use_of_party all)) among.is sound.agreed)

dockets_kept : (files : List File) (party : StandingParty) (request : Pdu) (dockets : List Docket) → AllByRecursion (IsSoundDocket files) dockets
    → AllByRecursion (IsSoundDocket files) (dockets_after party (messages.Pdu request) dockets)
dockets_kept files party (RecoverRequest activity number point) dockets sound = all-filter (IsSoundDocket files) (λ docket. not (is_docket_of (identity_of party) activity docket)) dockets sound
dockets_kept files party request dockets sound = sound

pub granting_request : (state : State) (party : StandingParty) (setting : Setting) (request : Pdu) (given : Given) → IsSound state → IsSoundParty state.files party
    → request_decision state party setting request ≡ Grants given → takes (regime_stage party.history) (messages.Pdu request) ≡ true → AsksCheck request party.history
    → IsGranting state party setting (messages.Pdu request) given
granting_request state party setting request given sound own is taken asks = record {
  own = own_request state party setting request given is taken asks sound.filed sound.dockets own.sound;
  effect = effect_of state party setting request given is sound.filed;
  limited = request_limited state party setting request given is sound.limited;
  numbered = λ before after among. request_numbered state party setting request given before after is taken among own.sound.nested sound.dockets (parted state party before after sound among);
  agreed = λ before after among. request_agreed state party setting request given before after is taken among sound.dockets sound.parties (uses_parted state party before after sound among);
  usable = request_usable state party setting request given is taken
      (all-from_flat_map holding_of_docket IsUsable state.dockets (all_left IsUsable (flat_map holding_of_docket state.dockets) (flat_map holding_of_party state.parties) sound.usable));
  dockets = dockets_kept state.files party request state.dockets sound.dockets;
}

-- a message that isn't a PDU leaves all but the transfer under way as it was
abbrev pub IsNoPdu : Message → Type 0
IsNoPdu (messages.Pdu request) = ⊥
IsNoPdu _ = Unit {0}

pub granting_other : (state : State) (party : StandingParty) (setting : Setting) (message : Message) → IsNoPdu message → IsSound state → IsSoundParty state.files party
    → takes (regime_stage party.history) message ≡ true → AsksKnown message Nothing party.history → IsGranting state party setting message Nothing
granting_other state party setting (messages.Pdu request) is sound own taken asks = absurd is
granting_other state party setting (messages.Element element) is sound own taken asks =
    let message = messages.Element element in record {
      own = still_sound state.files party.history (concluding_entry state party setting message Nothing) refl refl (within_stage party.history message refl taken)
          (λ named. named_message state party setting party.history message Nothing (due_later state party setting message Nothing) (due_later_plain state party setting message Nothing) refl asks named) own.sound;
      effect = keeps (kept_all state.files sound.filed);
      limited = sound.limited;
      numbered = λ before after among. numbered_more state.concluded (state.concluded + 1) (around state before after (standing_of_party party)) (omega arith) (parted state party before after sound among);
      agreed = λ before after among. uses_parted state party before after sound among;
      usable = λ usable. usable;
      dockets = sound.dockets;
    }
granting_other state party setting messages.Check is sound own taken asks =
    let message = messages.Check in record {
      own = still_sound state.files party.history (concluding_entry state party setting message Nothing) refl refl (within_stage party.history message refl taken)
          (λ named. named_message state party setting party.history message Nothing (due_later state party setting message Nothing) (due_later_plain state party setting message Nothing) refl asks named) own.sound;
      effect = keeps (kept_all state.files sound.filed);
      limited = sound.limited;
      numbered = λ before after among. numbered_more state.concluded (state.concluded + 1) (around state before after (standing_of_party party)) (omega arith) (parted state party before after sound among);
      agreed = λ before after among. uses_parted state party before after sound among;
      usable = λ usable. usable;
      dockets = sound.dockets;
    }
granting_other state party setting (messages.Acknowledge point) is sound own taken asks =
    let message = messages.Acknowledge point in record {
      own = still_sound state.files party.history (concluding_entry state party setting message Nothing) refl refl (within_stage party.history message refl taken)
          (λ named. named_message state party setting party.history message Nothing (due_later state party setting message Nothing) (due_later_plain state party setting message Nothing) refl asks named) own.sound;
      effect = keeps (kept_all state.files sound.filed);
      limited = sound.limited;
      numbered = λ before after among. numbered_more state.concluded (state.concluded + 1) (around state before after (standing_of_party party)) (omega arith) (parted state party before after sound among);
      agreed = λ before after among. uses_parted state party before after sound among;
      usable = λ usable. usable;
      dockets = sound.dockets;
    }
granting_other state party setting (messages.Restart point) is sound own taken asks =
    let message = messages.Restart point in record {
      own = still_sound state.files party.history (concluding_entry state party setting message Nothing) refl refl (within_stage party.history message refl taken)
          (λ named. named_message state party setting party.history message Nothing (due_later state party setting message Nothing) (due_later_plain state party setting message Nothing) refl asks named) own.sound;
      effect = keeps (kept_all state.files sound.filed);
      limited = sound.limited;
      numbered = λ before after among. numbered_more state.concluded (state.concluded + 1) (around state before after (standing_of_party party)) (omega arith) (parted state party before after sound among);
      agreed = λ before after among. uses_parted state party before after sound among;
      usable = λ usable. usable;
      dockets = sound.dockets;
    }
granting_other state party setting messages.Break is sound own taken asks =
    let message = messages.Break in record {
      own = still_sound state.files party.history (concluding_entry state party setting message Nothing) refl refl refl
          (λ named. named_message state party setting party.history message Nothing (due_later state party setting message Nothing) (due_later_plain state party setting message Nothing) refl asks named) own.sound;
      effect = keeps (kept_all state.files sound.filed);
      limited = sound.limited;
      numbered = λ before after among. numbered_more state.concluded (state.concluded + 1) (around state before after (standing_of_party party)) (omega arith) (parted state party before after sound among);
      agreed = λ before after among. uses_parted state party before after sound among;
      usable = λ usable. usable;
      dockets = sound.dockets;
    }

-- ---- the others go on

-- the selection of a history goes on
abbrev pub GoesOn : (files later : List File) → History → Type 0
GoesOn files later history = IfSome (selection history) (λ one. Continues files later one.file)

goes_off : (files later : List File) (old : List ℕ) (history : History) → KeepsOthers files later old → IsNotOn old history → GoesOn files later history
goes_off files later old history others off = by (selection history) off
  where
    by : (one : Option Selection) → IfSome one (λ one. bytes_eq one.file old ≡ false) → IfSome one (λ one. Continues files later one.file)
    by None off = tt
    by (Some one) off = others.goes one.file off

pub goes_party : (state : State) (party : StandingParty) (later : List File) (before after : List StandingParty) → Effect state party later → state.parties ≡ before ++ party ∷ after
    → AllByRecursion (λ (one : StandingParty). IsOff party.link one → GoesOn state.files later one.history) (before ++ party ∷ after)
goes_party state party later before after (keeps all) is = everyone (before ++ party ∷ after)
  where
    everyone : (parties : List StandingParty) → AllByRecursion (λ (one : StandingParty). IsOff party.link one → GoesOn state.files later one.history) parties
    everyone [] = tt
    everyone (one ∷ parties) = (λ off. goes_for state.files later (selection one.history) all, everyone parties)
goes_party state party later before after (parts others alone) is =
    subst (λ (parties : List StandingParty). AllByRecursion (λ (one : StandingParty). IsOff party.link one → GoesOn state.files later one.history) parties) is
    (all_weaker (λ (one : StandingParty). IsOff party.link one → IsNotOn (name_in party.history) one.history) (λ (one : StandingParty). IsOff party.link one → GoesOn state.files later one.history) state.parties
    (λ one not_on off. goes_off state.files later (name_in party.history) one.history others (not_on off)) alone.parties)

pub goes_docket : (state : State) (party : StandingParty) (later : List File) → Effect state party later → AllByRecursion (λ (docket : Docket). GoesOn state.files later docket.history) state.dockets
goes_docket state party later (keeps all) = everyone state.dockets
  where
    everyone : (dockets : List Docket) → AllByRecursion (λ (docket : Docket). GoesOn state.files later docket.history) dockets
    everyone [] = tt
    everyone (docket ∷ dockets) = (goes_for state.files later (selection docket.history) all, everyone dockets)
goes_docket state party later (parts others alone) =
    all_weaker (λ (docket : Docket). IsNotOn (name_in party.history) docket.history) (λ (docket : Docket). GoesOn state.files later docket.history) state.dockets
    (λ docket not_on. goes_off state.files later (name_in party.history) docket.history others not_on) alone.dockets

dockets_go : (files : List File) (later : List File) (party : StandingParty) (request : Pdu) (dockets : List Docket) → AllByRecursion (λ (docket : Docket). GoesOn files later docket.history) dockets
    → AllByRecursion (λ (docket : Docket). GoesOn files later docket.history) (dockets_after party (messages.Pdu request) dockets)
dockets_go files later party (RecoverRequest activity number point) dockets goes =
    all-filter (λ (docket : Docket). GoesOn files later docket.history) (λ docket. not (is_docket_of (identity_of party) activity docket)) dockets goes
dockets_go files later party request dockets goes = goes

pub message_dockets_go : (files : List File) (later : List File) (party : StandingParty) (message : Message) (dockets : List Docket) → AllByRecursion (λ (docket : Docket). GoesOn files later docket.history) dockets
    → AllByRecursion (λ (docket : Docket). GoesOn files later docket.history) (dockets_after party message dockets)
message_dockets_go files later party (messages.Pdu request) dockets goes = dockets_go files later party request dockets goes
message_dockets_go files later party message dockets goes = goes

-- what holds of all dockets holds of those after a message
request_dockets : (P : Docket → Type 0) (party : StandingParty) (request : Pdu) (dockets : List Docket) → AllByRecursion P dockets → AllByRecursion P (dockets_after party (messages.Pdu request) dockets)
request_dockets P party (RecoverRequest activity number point) dockets all = all-filter P (λ docket. not (is_docket_of (identity_of party) activity docket)) dockets all
request_dockets P party request dockets all = all

pub message_dockets : (P : Docket → Type 0) (party : StandingParty) (message : Message) (dockets : List Docket) → AllByRecursion P dockets → AllByRecursion P (dockets_after party message dockets)
message_dockets P party (messages.Pdu request) dockets all = request_dockets P party request dockets all
message_dockets P party message dockets all = all

party_goes : (files later : List File) (party : StandingParty) → GoesOn files later party.history → IsSoundParty files party → IsSoundParty later party
party_goes files later party goes sound = record { sound = sound_continues files later party.history goes sound.sound; grouped = sound.grouped }

docket_goes : (files later : List File) (docket : Docket) → GoesOn files later docket.history → IsSoundDocket files docket → IsSoundDocket later docket
docket_goes files later docket goes sound =
    record { bare = sound.bare; selected = sound.selected; opened = sound.opened; sound = sound_continues files later docket.history goes sound.sound }

-- those whose link is another
goes_where : (files later : List File) (link : ℕ) (parties : List StandingParty) → AllByRecursion (IsOff link) parties
    → AllByRecursion (λ (one : StandingParty). IsOff link one → GoesOn files later one.history) parties → AllByRecursion (IsSoundParty files) parties → AllByRecursion (IsSoundParty later) parties
goes_where files later link [] off goes sound = tt
goes_where files later link (one ∷ parties) off goes sound =
    (party_goes files later one (goes.0 off.0) sound.0, goes_where files later link parties off.1 goes.1 sound.1)

-- ---- the state after it

dockets_same : (party : StandingParty) (trace : List Message) (message : Message) (dockets : List Docket) → dockets_after (with_trace party trace) message dockets ≡ dockets_after party message dockets
dockets_same party trace message dockets = refl

-- the state with this party in the place of the one of its link
abbrev pub after_entry : State → StandingParty → Setting → Message → Given → (trace : List Message) (before after : List StandingParty) → State
after_entry state party setting message given trace before after = record state {
  files = files_after state party setting.moment given message;
  parties = before ++ record party { trace = trace; history = concluding_entry state party setting message given ∷ taken_up state party message } ∷ after;
  dockets = dockets_after party message state.dockets;
  concluded = state.concluded + 1;
}

pub after_sound : (state : State) (party : StandingParty) (setting : Setting) (message : Message) (given : Given) (trace : List Message) (before after : List StandingParty) → IsSound state
    → state.parties ≡ before ++ party ∷ after → AllByRecursion (IsOff party.link) before → IfSome (pending trace) HasItems → IsGranting state party setting message given
    → IsSound (after_entry state party setting message given trace before after)
after_sound state party setting message given trace before after sound is absent grouped granting =
    let files = files_after state party setting.moment given message in
    let next : StandingParty = record party { trace = trace; history = concluding_entry state party setting message given ∷ taken_up state party message } in
    let parties = subst (λ (all : List StandingParty). AllByRecursion (IsSoundParty state.files) all) is sound.parties in
    let linked = subst (λ (all : List StandingParty). IsDistinct nat_eq (map link_of all)) is sound.linked in
    let off = off_after party.link before after party refl linked in
    let goes = goes_party state party files before after granting.effect is in
    let goes_before = all_left (λ (one : StandingParty). IsOff party.link one → GoesOn state.files files one.history) before (party ∷ after) goes in
    let goes_after = all_right (λ (one : StandingParty). IsOff party.link one → GoesOn state.files files one.history) before (party ∷ after) goes in
    let own : IsSoundParty files next = record { sound = granting.own; grouped = grouped } in
    let held : AllByRecursion IsUsable (flat_map holding_of_party before ++ (holding_of_party party ++ flat_map holding_of_party after))
    = subst (λ (all : List Holding). AllByRecursion IsUsable all) (flat_map-append holding_of_party before (party ∷ after))
    (subst (λ (all : List StandingParty). AllByRecursion IsUsable (flat_map holding_of_party all)) is
    (all_right IsUsable (flat_map holding_of_docket state.dockets) (flat_map holding_of_party state.parties) sound.usable)) in
    record {
      linked = subst (λ links. IsDistinct nat_eq links) (sym (same_links before after party next refl)) linked;
      filed = filed state party files granting.effect;
      limited = granting.limited;
      numbered =
          subst (λ (all : List Standing). AreNumbered (state.concluded + 1) (flat_map standing_of_docket (dockets_after party message state.dockets) ++ all)) (sym (flat_map-append standing_of_party before (next ∷ after)))
          (granting.numbered before after is);
      agreed =
          subst (λ (all : List Use). IsDistinct do_clash (flat_map use_of_docket (dockets_after party message state.dockets) ++ all)) (sym (flat_map-append use_of_party before (next ∷ after)))
          (granting.agreed before after (record { is = is; absent = absent; off = off }));
      usable =
          all_append IsUsable (flat_map holding_of_docket (dockets_after party message state.dockets)) (flat_map holding_of_party (before ++ next ∷ after))
          (all-flat_map holding_of_docket IsUsable (dockets_after party message state.dockets)
          (message_dockets (λ (docket : Docket). AllByRecursion IsUsable (holding_of_docket docket)) party message state.dockets
          (all-from_flat_map holding_of_docket IsUsable state.dockets (all_left IsUsable (flat_map holding_of_docket state.dockets) (flat_map holding_of_party state.parties) sound.usable))))
          (subst (λ (all : List Holding). AllByRecursion IsUsable all) (sym (flat_map-append holding_of_party before (next ∷ after)))
          (all_append IsUsable (flat_map holding_of_party before) (holding_of_party next ++ flat_map holding_of_party after)
          (all_left IsUsable (flat_map holding_of_party before) (holding_of_party party ++ flat_map holding_of_party after) held)
          (all_append IsUsable (holding_of_party next) (flat_map holding_of_party after)
          (granting.usable (all_left IsUsable (holding_of_party party) (flat_map holding_of_party after) (all_right IsUsable (flat_map holding_of_party before) (holding_of_party party ++ flat_map holding_of_party after) held)))
          (all_right IsUsable (holding_of_party party) (flat_map holding_of_party after) (all_right IsUsable (flat_map holding_of_party before) (holding_of_party party ++ flat_map holding_of_party after) held)))));
      parties =
          all_append (IsSoundParty files) before (next ∷ after)
          (goes_where state.files files party.link before absent goes_before (all_left (IsSoundParty state.files) before (party ∷ after) parties))
          (own, goes_where state.files files party.link after off goes_after.1 (all_right (IsSoundParty state.files) before (party ∷ after) parties).1);
      dockets =
          all_both (IsSoundDocket state.files) (λ (docket : Docket). GoesOn state.files files docket.history) (IsSoundDocket files) (dockets_after party message state.dockets)
          (λ docket was goes. docket_goes state.files files docket goes was) granting.dockets
          (message_dockets_go state.files files party message state.dockets (goes_docket state party files granting.effect));
    }
  where
    filed : (state : State) (party : StandingParty) (later : List File) → Effect state party later → IsDistinct bytes_eq (map name_of later)
    filed state party later (keeps all) = all.filed
    filed state party later (parts others alone) = others.filed

-- the same, as the definitions have it: the party is looked up, and has another trace
pub concluded_is : (state : State) (link : ℕ) (party : StandingParty) (setting : Setting) (message : Message) (given : Given) (parties : List StandingParty) (trace : List Message) (at : Located link state.parties party)
    → parties ≡ with_party (with_trace party trace) state.parties
    → concluded (with_parties state parties) (with_trace party trace) (concluding_entry (with_parties state parties) (with_trace party trace) setting message given) ≡ after_entry state party setting message given trace at.before at.after
concluded_is state link party setting message given parties trace at are =
    let entry = concluding_entry state party setting message given in
    let next : StandingParty = record party { trace = trace; history = entry ∷ taken_up state party message } in
    let first : parties ≡ at.before ++ with_trace party trace ∷ at.after
    = are ∙ ap (with_party (with_trace party trace)) at.is ∙ with_at link at.before at.after party (with_trace party trace) at.absent at.same at.same in
    let now : with_party next parties ≡ at.before ++ next ∷ at.after
    = ap (with_party next) first ∙ with_at link at.before at.after (with_trace party trace) next at.absent at.same at.same in
    let is : concluded (with_parties state parties) (with_trace party trace) entry ≡ after_entry state party setting message given trace at.before at.after
    = λ i. record state {
      files = files_same state party parties trace setting.moment given message i;
      parties = now i;
      dockets = dockets_same party trace message state.dockets i;
      concluded = state.concluded + 1;
    } in
    ap (concluded (with_parties state parties) (with_trace party trace)) (entry_same state party parties trace setting message given) ∙ is

pub concluded_sound : (state : State) (link : ℕ) (party : StandingParty) (setting : Setting) (message : Message) (given : Given) (parties : List StandingParty) (trace : List Message) → IsSound state
    → party_of link state.parties ≡ Some party → parties ≡ with_party (with_trace party trace) state.parties → IfSome (pending trace) HasItems → IsGranting state party setting message given
    → IsSound (concluded (with_parties state parties) (with_trace party trace) (concluding_entry (with_parties state parties) (with_trace party trace) setting message given))
concluded_sound state link party setting message given parties trace sound found are grouped granting =
    let at = located link state.parties party found in
    let absent : AllByRecursion (IsOff party.link) at.before = subst (λ link. AllByRecursion (IsOff link) at.before) (sym at.same) at.absent in
    subst (λ (one : State). IsSound one) (sym (concluded_is state link party setting message given parties trace at are))
    (after_sound state party setting message given trace at.before at.after sound at.is absent grouped granting)

pub grants_sound : (state : State) (link : ℕ) (party : StandingParty) (setting : Setting) (message : Message) (given : Given) (parties : List StandingParty) (trace : List Message) → IsSound state
    → party_of link state.parties ≡ Some party → parties ≡ with_party (with_trace party trace) state.parties → IfSome (pending trace) HasItems → IsGranting state party setting message given
    → IsSound (grants (with_parties state parties) (with_trace party trace) setting message given).state
grants_sound state link party setting message given parties trace sound found are grouped granting =
    by (has_abort entry.said)
  where
    entry : Entry
    entry = concluding_entry (with_parties state parties) (with_trace party trace) setting message given

    kept : IsSound (concluded (with_parties state parties) (with_trace party trace) (concluding_entry (with_parties state parties) (with_trace party trace) setting message given))
    kept = concluded_sound state link party setting message given parties trace sound found are grouped granting

    by : (b : Bool) → IsSound (cond b (broken party.link (concluded (with_parties state parties) (with_trace party trace) (concluding_entry (with_parties state parties) (with_trace party trace) setting message given)))
        (concluded (with_parties state parties) (with_trace party trace) (concluding_entry (with_parties state parties) (with_trace party trace) setting message given)))
    by true = broken_sound party.link (concluded (with_parties state parties) (with_trace party trace) (concluding_entry (with_parties state parties) (with_trace party trace) setting message given)) kept
    by false = kept
