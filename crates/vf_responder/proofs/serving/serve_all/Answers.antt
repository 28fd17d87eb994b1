use Rattle.std.proofs.Common.{◌≡◌, ◌∙◌, ℕ, List, Option, Some, Result, Ok, Err, refl, ap, sym, subst}
use Rattle.std.proofs.lemmas.Result.{err_from_is_err_and}
use Rattle.vf_base.specs.declared.events.LinkEvent.{LinkEvent}
use Rattle.vf_responder.proofs.Serves.{IsServed, comes, ends_along, ends_kept, ends_well, fails_along, fails_full, fails_kept, fails_next, served_first, served_on, stops_along, stops_full, stops_kept, stops_serving}
use Rattle.vf_responder.specs.Sends.{IsEventNext, RisesNext, TakesNext}
use Rattle.vf_responder.specs.Served.{IsFullBy, KeepsAnswered, Serves, WhereServedFull}
use Rattle.vf_responder.specs.declared.error.ServeError.{ServeError}
use Rattle.vf_responder.specs.declared.error.ServeError.TheVariants.{Respond}
use Rattle.vf_responder.specs.declared.serving.Served.{Served}
use Rattle.vf_responder.proofs.serving.serve_all.Goals as goal

pub events-init : goal.events-init
events-init g c = record {
  served = λ left serving told represents none. served_first g.D.Disk.shown g.D.Disk.may_leave g.D.Disk.moment g.D.Disk.left_since g.met.D.Disk.only_now serving c.args.responder.now _ left _ _ told refl represents none;
  limit = refl;
  disk = refl;
  links = refl;
}

pub events-preserved : goal.events-preserved
events-preserved g c = record {
  served = λ left serving told represents none.
      let served = c.events.invariant.served left serving told represents none in
      let takes = subst (λ (piece : List ℕ). TakesNext (g.L.Links.told c.events.links) (g.L.Links.told c.next_event.new.links) piece (Ok (Some c.in-Some.event))) (sym c.as_slice.ensures.value)
      (subst (λ (next : Option LinkEvent). TakesNext (g.L.Links.told c.events.links) (g.L.Links.told c.next_event.new.links) c.next_event.new.piece.items (Ok next)) c.in-Some.is c.in_ok-next.ensures.traffic) in
      let rises = subst (λ (next : Option LinkEvent). RisesNext (g.L.Links.last_link c.events.links) (g.L.Links.last_link c.next_event.new.links) (Ok next)) c.in-Some.is c.in_ok-next.ensures.link in
      let more = subst (λ (next : Option LinkEvent). IsEventNext (Ok next)) c.in-Some.is c.in_ok-next.ensures.event in
      let came = comes served.traffic (g.L.Links.told c.events.links) (g.L.Links.told c.next_event.new.links) c.in-Some.event c.as_slice.result.now
      (g.L.Links.last_link c.events.links) (g.L.Links.last_link c.next_event.new.links) served.is takes rises more in
      subst (λ last. IsServed g.D.Disk.shown g.D.Disk.may_leave g.D.Disk.moment g.D.Disk.left_since serving c.args.responder.now c.round.new.responder (g.L.Links.told c.round.new.links) last c.count.new.self)
      (sym c.in_ok-round.ensures.link)
      (served_on g.D.Disk.shown g.D.Disk.may_leave g.D.Disk.moment g.D.Disk.left_since g.met.D.Disk.only_now serving c.args.responder.now c.events.responder (g.L.Links.told c.events.links) (g.L.Links.last_link c.events.links) c.events.served served (g.L.Links.told c.next_event.new.links) c.in-Some.event c.as_slice.result.now (g.L.Links.last_link c.next_event.new.links) came c.round.new.responder (g.L.Links.told c.round.new.links) c.count.new.self (λ meant events is before. c.count.ensures c.as_slice.result.now meant events is before) c.in_ok-round.ensures.round);
  limit = c.in_ok-round.ensures.limit ∙ c.events.invariant.limit;
  disk = c.in_ok-round.ensures.causes ∙ c.events.invariant.disk;
  links = c.in_ok-round.ensures.count ∙ c.in_ok-next.ensures.causes ∙ c.events.invariant.links;
}

pub returns-in_err-next-clause-serves : goal.returns-in_err-next-clause-serves
returns-in_err-next-clause-serves g c = λ left serving told represents none stands.
    let error = c.in_err-next.field-0.0 in
    let served = c.events.invariant.served left serving told represents none in
    let by = err_from_is_err_and c.from_residual.result c.from_residual.ensures.1 in
    let same : c.from_residual.result ≡ Err error = by.1 ∙ ap (λ (error : ServeError). (let result : Result Served ServeError = Err error in result)) by.2 in
    subst (λ (result : Result Served ServeError). Serves g.D.Disk.shown g.D.Disk.may_leave serving c.events.responder.store.disk result (g.L.Links.told c.next_event.new.links)) (sym same)
    (fails_next g.D.Disk.shown g.D.Disk.may_leave g.D.Disk.moment g.D.Disk.left_since g.met.D.Disk.only_now serving c.args.responder.now c.events.responder (g.L.Links.told c.events.links) (g.L.Links.last_link c.events.links) c.events.served served (g.L.Links.told c.next_event.new.links) c.next_event.new.piece.items error c.in_err-next.ensures.traffic _ _ c.in_err-next.ensures.causes stands)

pub returns-in_err-next-clause-keeps : goal.returns-in_err-next-clause-keeps
returns-in_err-next-clause-keeps g c = λ left serving told represents none stands.
    let error = c.in_err-next.field-0.0 in
    let served = c.events.invariant.served left serving told represents none in
    let by = err_from_is_err_and c.from_residual.result c.from_residual.ensures.1 in
    let same : c.from_residual.result ≡ Err error = by.1 ∙ ap (λ (error : ServeError). (let result : Result Served ServeError = Err error in result)) by.2 in
    subst (λ (result : Result Served ServeError). KeepsAnswered g.D.Disk.may_leave serving c.events.responder.store.disk result (g.L.Links.told c.next_event.new.links)) (sym same)
    (fails_kept g.D.Disk.shown g.D.Disk.may_leave g.D.Disk.moment g.D.Disk.left_since g.met.D.Disk.only_now serving c.args.responder.now c.events.responder (g.L.Links.told c.events.links) (g.L.Links.last_link c.events.links) c.events.served served (g.L.Links.told c.next_event.new.links) c.next_event.new.piece.items error c.in_err-next.ensures.traffic _ _ c.in_err-next.ensures.causes stands)

pub returns-in_err-next-clause-any_moment : goal.returns-in_err-next-clause-any_moment
returns-in_err-next-clause-any_moment g c = λ left serving told represents none stands.
    let served = c.events.invariant.served left serving told represents none in
    fails_along g.D.Disk.shown g.D.Disk.may_leave g.D.Disk.moment g.D.Disk.left_since g.met.D.Disk.only_now serving c.args.responder.now c.events.responder (g.L.Links.told c.events.links) (g.L.Links.last_link c.events.links) c.events.served served (g.L.Links.told c.next_event.new.links) c.next_event.new.piece.items c.in_err-next.field-0.0 c.in_err-next.ensures.traffic stands

pub returns-in_default-clause-serves : goal.returns-in_default-clause-serves
returns-in_default-clause-serves g c = λ left serving told represents none stands.
    let served = c.events.invariant.served left serving told represents none in
    let takes = subst (λ (next : Option LinkEvent). TakesNext (g.L.Links.told c.events.links) (g.L.Links.told c.next_event.new.links) c.next_event.new.piece.items (Ok next)) c.in_default.is c.in_ok-next.ensures.traffic in
    ends_well g.D.Disk.shown g.D.Disk.may_leave g.D.Disk.moment g.D.Disk.left_since g.met.D.Disk.only_now serving c.args.responder.now c.events.responder (g.L.Links.told c.events.links) (g.L.Links.last_link c.events.links) c.events.served served (g.L.Links.told c.next_event.new.links) c.next_event.new.piece.items takes stands

pub returns-in_default-clause-keeps : goal.returns-in_default-clause-keeps
returns-in_default-clause-keeps g c = λ left serving told represents none stands.
    let served = c.events.invariant.served left serving told represents none in
    let takes = subst (λ (next : Option LinkEvent). TakesNext (g.L.Links.told c.events.links) (g.L.Links.told c.next_event.new.links) c.next_event.new.piece.items (Ok next)) c.in_default.is c.in_ok-next.ensures.traffic in
    ends_kept g.D.Disk.shown g.D.Disk.may_leave g.D.Disk.moment g.D.Disk.left_since g.met.D.Disk.only_now serving c.args.responder.now c.events.responder (g.L.Links.told c.events.links) (g.L.Links.last_link c.events.links) c.events.served served (g.L.Links.told c.next_event.new.links) c.next_event.new.piece.items takes stands

pub returns-in_default-clause-any_moment : goal.returns-in_default-clause-any_moment
returns-in_default-clause-any_moment g c = λ left serving told represents none stands.
    let served = c.events.invariant.served left serving told represents none in
    let takes = subst (λ (next : Option LinkEvent). TakesNext (g.L.Links.told c.events.links) (g.L.Links.told c.next_event.new.links) c.next_event.new.piece.items (Ok next)) c.in_default.is c.in_ok-next.ensures.traffic in
    ends_along g.D.Disk.shown g.D.Disk.may_leave g.D.Disk.moment g.D.Disk.left_since g.met.D.Disk.only_now serving c.args.responder.now c.events.responder (g.L.Links.told c.events.links) (g.L.Links.last_link c.events.links) c.events.served served (g.L.Links.told c.next_event.new.links) c.next_event.new.piece.items takes stands

pub returns-in_err-round-clause-serves : goal.returns-in_err-round-clause-serves
returns-in_err-round-clause-serves g c = λ left serving told represents none stands.
    let error = c.in_err-round.field-0.0 in
    let served = c.events.invariant.served left serving told represents none in
    let takes = subst (λ (piece : List ℕ). TakesNext (g.L.Links.told c.events.links) (g.L.Links.told c.next_event.new.links) piece (Ok (Some c.in-Some.event))) (sym c.as_slice.ensures.value)
    (subst (λ (next : Option LinkEvent). TakesNext (g.L.Links.told c.events.links) (g.L.Links.told c.next_event.new.links) c.next_event.new.piece.items (Ok next)) c.in-Some.is c.in_ok-next.ensures.traffic) in
    let rises = subst (λ (next : Option LinkEvent). RisesNext (g.L.Links.last_link c.events.links) (g.L.Links.last_link c.next_event.new.links) (Ok next)) c.in-Some.is c.in_ok-next.ensures.link in
    let more = subst (λ (next : Option LinkEvent). IsEventNext (Ok next)) c.in-Some.is c.in_ok-next.ensures.event in
    let came = comes served.traffic (g.L.Links.told c.events.links) (g.L.Links.told c.next_event.new.links) c.in-Some.event c.as_slice.result.now
    (g.L.Links.last_link c.events.links) (g.L.Links.last_link c.next_event.new.links) served.is takes rises more in
    let by = err_from_is_err_and c.from_residual-in_err-round.result c.from_residual-in_err-round.ensures.1 in
    let same : c.from_residual-in_err-round.result ≡ Err (Respond error) = by.1 ∙ ap (λ (error : ServeError). (let result : Result Served ServeError = Err error in result)) by.2 in
    subst (λ (result : Result Served ServeError). Serves g.D.Disk.shown g.D.Disk.may_leave serving c.round.new.responder.store.disk result (g.L.Links.told c.round.new.links)) (sym same)
    (stops_serving g.D.Disk.shown g.D.Disk.may_leave g.D.Disk.moment g.D.Disk.left_since g.met.D.Disk.only_now serving c.args.responder.now c.events.responder (g.L.Links.told c.events.links) (g.L.Links.last_link c.events.links) c.events.served served (g.L.Links.told c.next_event.new.links) c.in-Some.event c.as_slice.result.now (g.L.Links.last_link c.next_event.new.links) came c.round.new.responder (g.L.Links.told c.round.new.links) error c.in_err-round.ensures.round)

pub returns-in_err-round-clause-keeps : goal.returns-in_err-round-clause-keeps
returns-in_err-round-clause-keeps g c = λ left serving told represents none stands.
    let error = c.in_err-round.field-0.0 in
    let served = c.events.invariant.served left serving told represents none in
    let takes = subst (λ (piece : List ℕ). TakesNext (g.L.Links.told c.events.links) (g.L.Links.told c.next_event.new.links) piece (Ok (Some c.in-Some.event))) (sym c.as_slice.ensures.value)
    (subst (λ (next : Option LinkEvent). TakesNext (g.L.Links.told c.events.links) (g.L.Links.told c.next_event.new.links) c.next_event.new.piece.items (Ok next)) c.in-Some.is c.in_ok-next.ensures.traffic) in
    let rises = subst (λ (next : Option LinkEvent). RisesNext (g.L.Links.last_link c.events.links) (g.L.Links.last_link c.next_event.new.links) (Ok next)) c.in-Some.is c.in_ok-next.ensures.link in
    let more = subst (λ (next : Option LinkEvent). IsEventNext (Ok next)) c.in-Some.is c.in_ok-next.ensures.event in
    let came = comes served.traffic (g.L.Links.told c.events.links) (g.L.Links.told c.next_event.new.links) c.in-Some.event c.as_slice.result.now
    (g.L.Links.last_link c.events.links) (g.L.Links.last_link c.next_event.new.links) served.is takes rises more in
    let by = err_from_is_err_and c.from_residual-in_err-round.result c.from_residual-in_err-round.ensures.1 in
    let same : c.from_residual-in_err-round.result ≡ Err (Respond error) = by.1 ∙ ap (λ (error : ServeError). (let result : Result Served ServeError = Err error in result)) by.2 in
    subst (λ (result : Result Served ServeError). KeepsAnswered g.D.Disk.may_leave serving c.round.new.responder.store.disk result (g.L.Links.told c.round.new.links)) (sym same)
    (stops_kept g.D.Disk.shown g.D.Disk.may_leave g.D.Disk.moment g.D.Disk.left_since g.met.D.Disk.only_now serving c.args.responder.now c.events.responder (g.L.Links.told c.events.links) (g.L.Links.last_link c.events.links) c.events.served served (g.L.Links.told c.next_event.new.links) c.in-Some.event c.as_slice.result.now (g.L.Links.last_link c.next_event.new.links) came c.round.new.responder (g.L.Links.told c.round.new.links) error c.in_err-round.ensures.round g.met.D.Disk.counts_now stands)

pub returns-in_err-round-clause-any_moment : goal.returns-in_err-round-clause-any_moment
returns-in_err-round-clause-any_moment g c = λ left serving told represents none stands.
    let error = c.in_err-round.field-0.0 in
    let served = c.events.invariant.served left serving told represents none in
    let takes = subst (λ (piece : List ℕ). TakesNext (g.L.Links.told c.events.links) (g.L.Links.told c.next_event.new.links) piece (Ok (Some c.in-Some.event))) (sym c.as_slice.ensures.value)
    (subst (λ (next : Option LinkEvent). TakesNext (g.L.Links.told c.events.links) (g.L.Links.told c.next_event.new.links) c.next_event.new.piece.items (Ok next)) c.in-Some.is c.in_ok-next.ensures.traffic) in
    let rises = subst (λ (next : Option LinkEvent). RisesNext (g.L.Links.last_link c.events.links) (g.L.Links.last_link c.next_event.new.links) (Ok next)) c.in-Some.is c.in_ok-next.ensures.link in
    let more = subst (λ (next : Option LinkEvent). IsEventNext (Ok next)) c.in-Some.is c.in_ok-next.ensures.event in
    let came = comes served.traffic (g.L.Links.told c.events.links) (g.L.Links.told c.next_event.new.links) c.in-Some.event c.as_slice.result.now
    (g.L.Links.last_link c.events.links) (g.L.Links.last_link c.next_event.new.links) served.is takes rises more in
    stops_along g.D.Disk.shown g.D.Disk.may_leave g.D.Disk.moment g.D.Disk.left_since g.met.D.Disk.only_now serving c.args.responder.now c.events.responder (g.L.Links.told c.events.links) (g.L.Links.last_link c.events.links) c.events.served served (g.L.Links.told c.next_event.new.links) c.in-Some.event c.as_slice.result.now (g.L.Links.last_link c.next_event.new.links) came c.round.new.responder (g.L.Links.told c.round.new.links) error c.in_err-round.ensures.round stands

pub returns-in_err-next-clause-full : goal.returns-in_err-next-clause-full
returns-in_err-next-clause-full g c = λ left serving told represents none.
    let error = c.in_err-next.field-0.0 in
    let by = err_from_is_err_and c.from_residual.result c.from_residual.ensures.1 in
    let same : c.from_residual.result ≡ Err error = by.1 ∙ ap (λ (error : ServeError). (let result : Result Served ServeError = Err error in result)) by.2 in
    subst (λ (result : Result Served ServeError). WhereServedFull result (IsFullBy serving c.events.responder.store (g.L.Links.told c.next_event.new.links))) (sym same)
    (fails_full (IsFullBy serving c.events.responder.store (g.L.Links.told c.next_event.new.links)) _ _ error c.in_err-next.ensures.causes)

pub returns-in_err-round-clause-full : goal.returns-in_err-round-clause-full
returns-in_err-round-clause-full g c = λ left serving told represents none.
    let error = c.in_err-round.field-0.0 in
    let served = c.events.invariant.served left serving told represents none in
    let takes = subst (λ (piece : List ℕ). TakesNext (g.L.Links.told c.events.links) (g.L.Links.told c.next_event.new.links) piece (Ok (Some c.in-Some.event))) (sym c.as_slice.ensures.value)
    (subst (λ (next : Option LinkEvent). TakesNext (g.L.Links.told c.events.links) (g.L.Links.told c.next_event.new.links) c.next_event.new.piece.items (Ok next)) c.in-Some.is c.in_ok-next.ensures.traffic) in
    let rises = subst (λ (next : Option LinkEvent). RisesNext (g.L.Links.last_link c.events.links) (g.L.Links.last_link c.next_event.new.links) (Ok next)) c.in-Some.is c.in_ok-next.ensures.link in
    let more = subst (λ (next : Option LinkEvent). IsEventNext (Ok next)) c.in-Some.is c.in_ok-next.ensures.event in
    let came = comes served.traffic (g.L.Links.told c.events.links) (g.L.Links.told c.next_event.new.links) c.in-Some.event c.as_slice.result.now
    (g.L.Links.last_link c.events.links) (g.L.Links.last_link c.next_event.new.links) served.is takes rises more in
    let by = err_from_is_err_and c.from_residual-in_err-round.result c.from_residual-in_err-round.ensures.1 in
    let same : c.from_residual-in_err-round.result ≡ Err (Respond error) = by.1 ∙ ap (λ (error : ServeError). (let result : Result Served ServeError = Err error in result)) by.2 in
    subst (λ (result : Result Served ServeError). WhereServedFull result (IsFullBy serving c.round.new.responder.store (g.L.Links.told c.round.new.links))) (sym same)
    (stops_full g.D.Disk.shown g.D.Disk.may_leave g.D.Disk.moment g.D.Disk.left_since g.met.D.Disk.only_now serving c.args.responder.now c.events.responder (g.L.Links.told c.events.links) (g.L.Links.last_link c.events.links) c.events.served served (g.L.Links.told c.next_event.new.links) c.in-Some.event c.as_slice.result.now (g.L.Links.last_link c.next_event.new.links) came c.round.new.responder (g.L.Links.told c.round.new.links) error c.in_err-round.ensures.round
    (c.in_err-round.ensures.full came.meant came.is served.now served.represents))

pub returns-in_err-round-clause-limit : goal.returns-in_err-round-clause-limit
returns-in_err-round-clause-limit g c = c.in_err-round.ensures.limit ∙ c.events.invariant.limit
