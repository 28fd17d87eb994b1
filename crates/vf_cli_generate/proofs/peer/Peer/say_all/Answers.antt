use Rattle.std.proofs.Common.{◌≡◌, ◌∙◌, ◌+◌, ◌<◌, ◌++◌, ℕ, List, [], ◌∷◌, Err, drop, get_or, length, take, ap, subst, sym}
use Rattle.std.proofs.lemmas.List.{take-append-drop, take_all, take_more}
use Rattle.vf_stack.specs.declared.request.Request.{Request}
use Rattle.vf_cli_generate.proofs.Going.{goes_stops}
use Rattle.vf_cli_generate.proofs.Saying.{front_first, goes_one_more}
use Rattle.vf_cli_generate.specs.Generating.{Answer, Goes, HasSaid, SaysFront, good}
use Rattle.vf_cli_generate.proofs.peer.Peer.say_all.Goals as goal

-- one request more, as the loop counts them
next_is : (requests : List Request) (place : ℕ) (request : Request) → place < length requests → request ≡ get_or requests place request → take (place + 1) requests ≡ take place requests ++ request ∷ []
next_is requests place request within is = take_more requests place request within ∙ ap (λ (r : Request). take place requests ++ r ∷ []) (sym is)

pub loop-request-preserved : goal.loop-request-preserved
loop-request-preserved g c =
    let link = c.args.self.now.link in
    let requests = c.args.requests.now in
    let place : ℕ = c.loop-request.request-index in
    let request = c.request-item.result in
    record {
      says = λ both represents is stands.
          subst (λ (rs : List Request). Goes g.D.Disk.shown g.D.Disk.may_leave g.D.Disk.moment g.D.Disk.left_since (HasSaid link rs both c.say.new.self.stack) (SaysFront link rs both) both.serving
          c.args.responder.now c.say.new.responder good) (sym (next_is requests place request c.loop-request-test.true c.request-item.is))
          (goes_one_more g.D.Disk.shown g.D.Disk.may_leave g.D.Disk.moment g.D.Disk.left_since g.met.D.Disk.only_now link (take place requests) request both c.args.responder.now
          c.loop-request.responder c.say.new.responder c.loop-request.self.stack c.say.new.self.stack good (c.loop-request.invariant.says both represents is stands)
          (λ between here calls standing.
          subst (λ (l : ℕ). Goes g.D.Disk.shown g.D.Disk.may_leave g.D.Disk.moment g.D.Disk.left_since (HasSaid l (request ∷ []) between c.say.new.self.stack) (SaysFront l (request ∷ []) between)
          between.serving c.loop-request.responder c.say.new.responder good) c.loop-request.invariant.link (c.in-Ok.ensures.says between here calls standing)));
      limit = c.say.ensures.limit ∙ c.loop-request.invariant.limit;
      disk = c.in-Ok.ensures.causes ∙ c.loop-request.invariant.disk;
      link = c.say.ensures.link ∙ c.loop-request.invariant.link;
    }

pub returns-in-Err-clause-says : goal.returns-in-Err-clause-says
returns-in-Err-clause-says g c = λ both represents is stands.
    let link = c.args.self.now.link in
    let requests : List Request = c.args.requests.now in
    let place : ℕ = c.loop-request.request-index in
    let request = c.request-item.result in
    let first : List Request = take place requests ++ request ∷ [] in
    let failed : Answer = Err c.in-Err.error in
    let all : first ++ drop (place + 1) requests ≡ requests =
    ap (λ (rs : List Request). rs ++ drop (place + 1) requests) (sym (next_is requests place request c.loop-request-test.true c.request-item.is)) ∙ take-append-drop (place + 1) requests in
    goes_stops g.D.Disk.shown g.D.Disk.may_leave g.D.Disk.moment g.D.Disk.left_since (HasSaid link first both c.say.new.self.stack) (HasSaid link requests both c.say.new.self.stack)
    (SaysFront link first both) (SaysFront link requests both) both.serving c.args.responder.now c.say.new.responder c.in-Err.error
    (goes_one_more g.D.Disk.shown g.D.Disk.may_leave g.D.Disk.moment g.D.Disk.left_since g.met.D.Disk.only_now link (take place requests) request both c.args.responder.now
    c.loop-request.responder c.say.new.responder c.loop-request.self.stack c.say.new.self.stack failed (c.loop-request.invariant.says both represents is stands)
    (λ between here calls standing.
    subst (λ (l : ℕ). Goes g.D.Disk.shown g.D.Disk.may_leave g.D.Disk.moment g.D.Disk.left_since (HasSaid l (request ∷ []) between c.say.new.self.stack) (SaysFront l (request ∷ []) between)
    between.serving c.loop-request.responder c.say.new.responder failed) c.loop-request.invariant.link (c.in-Err.ensures.says between here calls standing)))
    (λ events front. subst (λ (rs : List Request). SaysFront link rs both events) all (front_first link first (drop (place + 1) requests) both events front))

pub returns-clause-says : goal.returns-clause-says
returns-clause-says g c = λ both represents is stands.
    let link = c.args.self.now.link in
    let requests : List Request = c.args.requests.now in
    subst (λ (rs : List Request). Goes g.D.Disk.shown g.D.Disk.may_leave g.D.Disk.moment g.D.Disk.left_since (HasSaid link rs both c.loop-request.self.stack) (SaysFront link rs both) both.serving
    c.args.responder.now c.loop-request.responder good) (take_all c.loop-request.request-index requests c.loop-request-test.false) (c.loop-request.invariant.says both represents is stands)
