-- A recovery takes up the regime of its docket, and each message that is granted leads by its moves.
use Rattle.std.proofs.Common.{◌≡◌, ℕ, true, List, [], ◌∷◌, ◌++◌, map, Option, inl, inr, refl, ap, sym, subst, ◌∙◌, arith}
use Rattle.std.specs.Prelude.{flat_map}
use Rattle.std.proofs.lemmas.List.{append_assoc, map-append}
use Rattle.vf_elements.specs.Stages.{takes}
use Rattle.vf_elements.specs.declared.message.Message.{Message}
use Rattle.vf_elements.specs.declared.message.Message.TheVariants as messages
use Rattle.vf_pdu.specs.declared.pdu.Pdu.TheVariants.{RecoverRequest}
use Rattle.vf_filestore.specs.Aborts.{Setting}
use Rattle.vf_filestore.specs.Conclusion.{concluding_entry, history_of as history_of_docket, taken_up}
use Rattle.vf_filestore.specs.Decision.{Grants, message_decision, request_decision}
use Rattle.vf_filestore.specs.History.{Given, position, regime, selection}
use Rattle.vf_filestore.specs.Performed.{operation}
use Rattle.vf_filestore.specs.Stage.{regime_stage}
use Rattle.vf_filestore.specs.State.{Docket, State, StandingParty, docket_of, identity_of, mode_in, without_docket}
use Rattle.vf_filestore.proofs.Concluded.{after_entry}
use Rattle.vf_filestore.proofs.HeldParty.{DocketAt, docket_at}
use Rattle.vf_filestore.proofs.Nested.{placed}
use Rattle.vf_filestore.proofs.Owned.{recovers, within_stage}
use Rattle.vf_filestore.proofs.Soundness.{alike_resumed}
use Rattle.vf_filestore.proofs.Views.{in_association_only}
use Rattle.vf_serial.proofs.Among.{IsAmong}
use Rattle.vf_serial.proofs.Earned.{AllOfIts}
use Rattle.vf_serial.proofs.Ended.{items_at, none_stands}
use Rattle.vf_serial.proofs.Granted.{Stage, still_leads}
use Rattle.vf_serial.proofs.Leading.{Splits, mid_splits, split_was, stays}
use Rattle.vf_serial.proofs.Led.{AreSame, Stand}
use Rattle.vf_serial.proofs.Present.{Item, docked, items, present, stand_by, stands, standing}
use Rattle.vf_serial.proofs.Acting.{AreOf}
use Rattle.vf_serial.proofs.Placed.{placed_resumed, unplaced}
use Rattle.vf_serial.proofs.Working.{apart_of, of_equal, own_of, rest_of, same_works, workers, workers_in, working}
use Rattle.vf_serial.specs.Uses.{Standing}
use Rattle.vf_filestore.specs.Keeping.{IsGiven, IsUnplaced}
use Rattle.vf_serial.proofs.Requested.{LeadsBy, request_leads}

-- ---- the docket's regime is the party's

taken_same : (state later : State) (party next : StandingParty) (docket : Docket) (before after : List StandingParty) (activity : ℕ) → Stage state party before after
    → DocketAt (identity_of party) activity state.dockets docket → later.parties ≡ before ++ next ∷ after → later.dockets ≡ without_docket (identity_of party) activity state.dockets
    → stands (standing party) ≡ [] → stands (standing next) ≡ stands (docked docket) → AreOf (workers (standing next)) (workers (docked docket))
    → AreSame (present state) (present later) × AreOf (working later) (working state)
taken_same state later party next docket before after activity stage at is dockets none same own_were = (
  record {
    stay = λ x there.
        elim (was.parts x there) [
          | inl own ↦ absurd own
          | inr rest ↦ elim (mid.parts x (subst (λ (all : List Item). IsAmong x (flat_map stands all)) first_is rest)) [
            | inl own ↦ now.own_in x (subst (IsAmong x) (sym same) own)
            | inr others ↦ now.rest_in x (subst (λ (all : List Item). IsAmong x (flat_map stands all)) (sym last_is) others)
          ]
        ];
    were = λ x there.
        elim (now.parts x there) [
          | inl own ↦ back x (mid.own_in x (subst (IsAmong x) same own))
          | inr others ↦ back x (mid.rest_in x (subst (λ (all : List Item). IsAmong x (flat_map stands all)) last_is others))
        ];
  },
  were_is,
)
  where
    d1 : List Item
    d1 = map docked at.first

    d2 : List Item
    d2 = map docked at.later

    b : List Item
    b = map standing before

    a : List Item
    a = map standing after

    was : Splits (present state) [] (flat_map stands ((map docked state.dockets ++ map standing before) ++ map standing after))
    was =
        subst (λ (own : List Stand). Splits (present state) own (flat_map stands ((map docked state.dockets ++ map standing before) ++ map standing after))) none
        (split_was state (standing party) (map docked state.dockets ++ map standing before) (map standing after) (ap (items state.dockets) stage.among_is.is ∙ items_at state.dockets before after party))

    first_is : (map docked state.dockets ++ map standing before) ++ map standing after ≡ map docked at.first ++ docked docket ∷ (map docked at.later ++ (map standing before ++ map standing after))
    first_is =
        append_assoc (map docked state.dockets) b a
        ∙ ap (λ (all : List Item). all ++ (map standing before ++ map standing after)) (ap (map docked) at.is ∙ map-append docked at.first (docket ∷ at.later))
        ∙ append_assoc d1 (docked docket ∷ d2) (b ++ a)

    mid : Splits (flat_map stands (map docked at.first ++ docked docket ∷ (map docked at.later ++ (map standing before ++ map standing after)))) (stands (docked docket))
        (flat_map stands (map docked at.first ++ (map docked at.later ++ (map standing before ++ map standing after))))
    mid = mid_splits (docked docket) d1 (d2 ++ (b ++ a))

    now : Splits (present later) (stands (standing next)) (flat_map stands ((map docked (at.first ++ at.later) ++ map standing before) ++ map standing after))
    now =
        split_was later (standing next) (map docked (at.first ++ at.later) ++ map standing before) (map standing after)
        ((λ i. items ((dockets ∙ at.without) i) (is i)) ∙ items_at (at.first ++ at.later) before after next)

    last_is : (map docked (at.first ++ at.later) ++ map standing before) ++ map standing after ≡ map docked at.first ++ (map docked at.later ++ (map standing before ++ map standing after))
    last_is =
        append_assoc (map docked (at.first ++ at.later)) b a ∙ ap (λ (all : List Item). all ++ (map standing before ++ map standing after)) (map-append docked at.first at.later)
        ∙ append_assoc d1 d2 (b ++ a)

    back : (x : Stand) → IsAmong x (flat_map stands (map docked at.first ++ docked docket ∷ (map docked at.later ++ (map standing before ++ map standing after)))) → IsAmong x (present state)
    back x there = was.rest_in x (subst (λ (all : List Item). IsAmong x (flat_map stands all)) (sym first_is) there)

    worked : (x : Standing) → IsAmong x (flat_map workers (map docked at.first ++ docked docket ∷ (map docked at.later ++ (map standing before ++ map standing after)))) → IsAmong x (working state)
    worked x there =
        subst (λ (all : List Item). IsAmong x (flat_map workers all)) (sym (ap (items state.dockets) stage.among_is.is ∙ items_at state.dockets before after party))
        (rest_of (standing party) (map docked state.dockets ++ map standing before) (map standing after) x (subst (λ (all : List Item). IsAmong x (flat_map workers all)) (sym first_is) there))

    were_is : AreOf (working later) (working state)
    were_is x there =
        elim (apart_of (standing next) (map docked (at.first ++ at.later) ++ map standing before) (map standing after) x
        (subst (λ (all : List Item). IsAmong x (flat_map workers all)) ((λ i. items ((dockets ∙ at.without) i) (is i)) ∙ items_at (at.first ++ at.later) before after next) there)) [
          | inl mine ↦ worked x (own_of (docked docket) d1 (d2 ++ (b ++ a)) x (own_were x mine))
          | inr others ↦ worked x (rest_of (docked docket) d1 (d2 ++ (b ++ a)) x (subst (λ (all : List Item). IsAmong x (flat_map workers all)) last_is others))
        ]

recover_leads : (state : State) (party : StandingParty) (setting : Setting) (activity number point : ℕ) (given : Given) (trace : List Message) (before after : List StandingParty) → Stage state party before after
    → request_decision state party setting (RecoverRequest activity number point) ≡ Grants given → takes (regime_stage party.history) (messages.Pdu (RecoverRequest activity number point)) ≡ true
    → IsUnplaced given → LeadsBy state party setting (messages.Pdu (RecoverRequest activity number point)) given trace before after
recover_leads state party setting activity number point given trace before after stage is taken unplaced_is =
    let message = messages.Pdu (RecoverRequest activity number point) in
    let later = after_entry state party setting message given trace before after in
    let facts = recovers state party setting number point (docket_of (identity_of party) activity state.dockets) given is in
    let docket = facts.found in
    let there = in_association_only message (record { reading = refl; shown = refl; writing = refl; written = refl }) refl refl (placed message party.history (within_stage party.history message refl taken)) in
    let alike = alike_resumed docket.history party.history there.no_selection there.no_regime there.no_transfer in
    let next : StandingParty = record party { trace = trace; history = concluding_entry state party setting message given ∷ taken_up state party message } in
    let both = taken_same state later party next docket before after activity stage (docket_at state stage.sound (identity_of party) activity docket facts.is) refl refl (none_stands party.history there.no_regime)
    (ap (λ (one : Option Docket). stand_by (regime (history_of_docket one ++ party.history)) (selection (history_of_docket one ++ party.history))) facts.is ∙ (λ i. stand_by (alike.opens i) (alike.selects i)))
    (of_equal (workers (standing next)) (workers (docked docket))
    (same_works docket.history next.history
    (ap (λ (one : Option Docket). regime (history_of_docket one ++ party.history)) facts.is ∙ alike.opens)
    (ap (λ (one : Option Docket). selection (history_of_docket one ++ party.history)) facts.is ∙ alike.selects)
    (λ some. unplaced given (position (taken_up state party message)) unplaced_is ∙ ap (λ (one : Option Docket). position (history_of_docket one ++ party.history)) facts.is ∙ placed_resumed docket.history party.history some))) in
    stays state later stage.sound (record { same = both.0; were = both.1; trees = λ other. refl; less = omega arith })

-- ---- messages

pub message_leads : (state : State) (party : StandingParty) (setting : Setting) (message : Message) (given : Given) (trace : List Message) (before after : List StandingParty) → Stage state party before after
    → message_decision state party setting message ≡ Grants given → takes (regime_stage party.history) message ≡ true → AllOfIts (mode_in (regime party.history)) (operation party.history message given)
    → IsGiven message given → LeadsBy state party setting message given trace before after
message_leads state party setting (messages.Pdu (RecoverRequest activity number point)) given trace before after stage is taken its was =
    recover_leads state party setting activity number point given trace before after stage is taken was
message_leads state party setting (messages.Pdu request) given trace before after stage is taken its was =
    request_leads state party setting request given trace before after stage is taken its was (λ activity number point e. cc)
message_leads state party setting message given trace before after stage is taken its was =
    still_leads state (after_entry state party setting message given trace before after) party (record party { trace = trace; history = concluding_entry state party setting message given ∷ party.history }) before after stage
    (record { is = refl; same = refl; less = omega arith }) refl
    (of_equal (workers_in (concluding_entry state party setting message given ∷ party.history)) (workers_in party.history)
    (same_works party.history (concluding_entry state party setting message given ∷ party.history) refl refl (λ some. unplaced given (position party.history) was))) (λ other. refl)
