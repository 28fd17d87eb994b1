-- What was told, and how it is answered.
use Rattle.std.proofs.Common.{◌≡◌, ℕ, Bool, true, List, [], ◌∷◌, ◌++◌, refl, sym, ap, subst, ◌∙◌, append_assoc, append-nil}
use Rattle.std.specs.List.{list_all}
use Rattle.vf_initiator.specs.Hearing.{heard_in}
use Rattle.vf_initiator.proofs.Decided.{all_last, are_sent}
use Rattle.vf_initiator.proofs.Saying.{lags_of}
use Rattle.vf_initiator.specs.Owed.{IsSameEnd, LagsOnward, LeadsAnswer, LeadsAnswers, LeadsOnward, SaysAll, Sends, is_open, offer_by}
use Rattle.vf_initiator.specs.Represents.{Holds, Lags}
use Rattle.vf_initiator.specs.Rows.{Step, hears}
use Rattle.vf_initiator.specs.Talking.{Answers, AnswersAll, AreSent, Talk, answer_to, setting_of}
use Rattle.vf_initiator.specs.declared.conduct.Conduct.{Conduct}
use Rattle.vf_initiator.specs.declared.conduct.Setting.{Setting}
use Rattle.vf_initiator.specs.declared.given.Given.{Given}
use Rattle.vf_initiator.specs.declared.initiator.Initiator.{Initiator}
use Rattle.vf_initiator.specs.declared.heard.Heard.{Heard}
use Rattle.vf_session.specs.Sending.{holds_token}
use Rattle.vf_session.specs.Trace.{next, state}
use Rattle.vf_session.specs.declared.units.TokenSide.{TokenSide}
use Rattle.vf_session.specs.declared.units.TokenSide.TheVariants.{Initiator as Calls}
use Rattle.vf_stack.specs.Association.{Association}
use Rattle.vf_stack.specs.Represents.{Kept, Represents as IsStackOf, offer_of, side_of}
use Rattle.vf_stack.specs.declared.indication.Indication.{Indication}
use Rattle.vf_stack.specs.declared.request.Request.{Request}

pub heard_so : (i i' : Initiator) (talk : Talk) (indication : Indication) (s : Setting) (said : List Request) (out out' : List ℕ) → Holds i talk → s ≡ setting_of talk.association
    → said ≡ (hears i.given s i.conduct (heard_in indication)).said → i'.conduct ≡ (hears i.given s i.conduct (heard_in indication)).conduct
    → Sends (AreSent (offer_of i.stack) talk.association said) out i'.stack out' → IsSameEnd i.stack i'.stack → i'.given ≡ i.given → i'.greeting ≡ i.greeting → i'.octets ≡ i.octets → i'.waiting.items ≡ []
    → LeadsAnswer i talk indication out i' out'
heard_so i i' talk indication s said out out' holds at say leads sends same given greeting count none =
    let answer : Step = answer_to i.given talk indication in
    let now : hears i.given s i.conduct (heard_in indication) ≡ answer =
    ap (λ (t : Setting). hears i.given t i.conduct (heard_in indication)) at ∙ ap (λ (c : Conduct). hears i.given (setting_of talk.association) c (heard_in indication)) holds.conduct in
    let are : AreSent (offer_by i.given) talk.association answer.said sends.octets sends.after =
    subst (λ (r : List Request). AreSent (offer_by i.given) talk.association r sends.octets sends.after) (say ∙ ap (λ (step : Step). step.said) now)
    (subst (λ (offer : Bool). AreSent offer talk.association said sends.octets sends.after) holds.offer sends.step) in
    let after : Talk = record talk { association = sends.after; conduct = answer.conduct } in
    let stands : Holds i' after =
    record {
      association = sends.represents;
      side = same.0 ∙ holds.side;
      offer = same.1 ∙ (holds.offer ∙ ap offer_by (sym given));
      greeting = greeting ∙ holds.greeting;
      conduct = leads ∙ ap (λ (step : Step). step.conduct) now;
    } in
    record {
      octets = sends.octets;
      later = [];
      after = after;
      step = (sends.after, (are, refl));
      lags = lags_of i' after stands none;
      lasts = refl;
      given_is = given;
      count_is = count;
      sent = append-nil out' ∙ sends.sent;
    }

-- The requests wait, and none of them ends the association.
pub heard_waits : (i i' : Initiator) (talk : Talk) (indication : Indication) (s : Setting) (said : List Request) (out : List ℕ) → Holds i talk → s ≡ setting_of talk.association
    → said ≡ (hears i.given s i.conduct (heard_in indication)).said → i'.conduct ≡ (hears i.given s i.conduct (heard_in indication)).conduct
    → list_all is_open said ≡ true → i'.waiting.items ≡ said → i'.stack ≡ i.stack → i'.given ≡ i.given → i'.greeting ≡ i.greeting → i'.octets ≡ i.octets
    → LeadsAnswer i talk indication out i' out
heard_waits i i' talk indication s said out holds at say leads are_open waits same given greeting count =
    let answer : Step = answer_to i.given talk indication in
    let now : hears i.given s i.conduct (heard_in indication) ≡ answer =
    ap (λ (t : Setting). hears i.given t i.conduct (heard_in indication)) at ∙ ap (λ (c : Conduct). hears i.given (setting_of talk.association) c (heard_in indication)) holds.conduct in
    let say_now : said ≡ answer.said = say ∙ ap (λ (step : Step). step.said) now in
    let sent = are_sent (offer_by i.given) talk.association said in
    let are : AreSent (offer_by i.given) talk.association answer.said sent.0 sent.1 = subst (λ (r : List Request). AreSent (offer_by i.given) talk.association r sent.0 sent.1) say_now sent.2 in
    let after : Talk = record talk { association = sent.1; conduct = answer.conduct } in
    let stays : AreSent (offer_by i'.given) talk.association i'.waiting.items sent.0 sent.1 =
    subst (λ (g : Given). AreSent (offer_by g) talk.association i'.waiting.items sent.0 sent.1) (sym given)
    (subst (λ (r : List Request). AreSent (offer_by i.given) talk.association r sent.0 sent.1) (sym waits) sent.2) in
    let stands : Holds i' (record talk { conduct = answer.conduct }) =
    record {
      association = subst (λ (k : Kept). IsStackOf k talk.association) (sym same) holds.association;
      side = ap side_of same ∙ holds.side;
      offer = ap offer_of same ∙ (holds.offer ∙ ap offer_by (sym given));
      greeting = greeting ∙ holds.greeting;
      conduct = leads ∙ ap (λ (step : Step). step.conduct) now;
    } in
    record {
      octets = sent.0;
      later = sent.0;
      after = after;
      step = (sent.1, (are, refl));
      lags = record { now = talk.association; holds = stands; sends = stays };
      lasts = sym (all_last (offer_by i.given) talk.association said sent.0 sent.1 are_open sent.2);
      given_is = given;
      count_is = count;
      sent = refl;
    }

-- ---- from indication to indication

pub answers_none : (i : Initiator) (talk : Talk) (told : List Indication) (out : List ℕ) → Holds i talk → i.waiting.items ≡ [] → LagsOnward i talk told out i out told
answers_none i talk told out holds none =
    record { octets = []; later = []; now = talk; lags = lags_of i talk holds none; lasts = refl; given_is = refl; count_is = refl; sent = refl; onward = λ more after answers. answers }

-- what waited is spelled
pub answers_said : (i now then : Initiator) (talk : Talk) (told : List Indication) (out out' out'' : List ℕ) (rest : List Indication)
    → LagsOnward i talk told out now out' rest → ((t : Talk) (r : List ℕ) → Lags now t r → SaysAll now t r out' then out'')
    → LeadsOnward i talk told out then out'' rest
answers_said i now then talk told out out' out'' rest before says =
    let all = says before.now before.later before.lags in
    record {
      octets = before.octets;
      now = before.now;
      holds = all.holds;
      given_is = all.given_is ∙ before.given_is;
      count_is = all.count_is ∙ before.count_is;
      sent = all.sent ∙ before.sent;
      onward = before.onward;
    }

pub answers_one : (i now then : Initiator) (talk : Talk) (told : List Indication) (out out' out'' : List ℕ) (indication : Indication) (rest : List Indication)
    → LeadsOnward i talk told out now out' (indication ∷ rest) → ((t : Talk) → Holds now t → LeadsAnswer now t indication out' then out'')
    → LagsOnward i talk told out then out'' rest
answers_one i now then talk told out out' out'' indication rest before one =
    let next = one before.now before.holds in
    let step : Answers i.given (offer_by i.given) before.now indication next.octets next.after =
    subst (λ (given : Given). Answers given (offer_by given) before.now indication next.octets next.after) before.given_is next.step in
    record {
      octets = before.octets ++ next.octets;
      later = next.later;
      now = next.after;
      lags = next.lags;
      lasts = next.lasts;
      given_is = next.given_is ∙ before.given_is;
      count_is = next.count_is ∙ before.count_is;
      sent = next.sent ∙ (ap (λ (o : List ℕ). o ++ next.octets) before.sent ∙ append_assoc out before.octets next.octets);
      onward = λ later after answers.
          subst (λ (o : List ℕ). AnswersAll i.given (offer_by i.given) talk told o after) (sym (append_assoc before.octets next.octets later))
          (before.onward (next.octets ++ later) after (next.octets, later, next.after, (step, answers, refl)));
    }

pub answers_all : (i now : Initiator) (talk : Talk) (told : List Indication) (out out' : List ℕ) (rest : List Indication) → rest ≡ []
    → LagsOnward i talk told out now out' rest → LeadsAnswers i talk told out now out'
answers_all i now talk told out out' rest none before =
    let last = subst (λ (rest : List Indication). LagsOnward i talk told out now out' rest) none before in
    record {
      octets = last.octets;
      later = last.later;
      after = last.now;
      step = subst (λ (o : List ℕ). AnswersAll i.given (offer_by i.given) talk told o last.now) (append-nil last.octets) (last.onward [] last.now (refl, refl));
      lags = last.lags;
      lasts = last.lasts;
      given_is = last.given_is;
      count_is = last.count_is;
      sent = last.sent;
    }

-- ---- the same by what the code reads of the stack

setting_so : (own : TokenSide) (a : Association) (serial : ℕ) (token : Bool) → own ≡ Calls → serial ≡ next a.exchange.trace → token ≡ holds_token own (state own a.exchange.trace)
    → record { serial = serial; token = token } ≡ setting_of a
setting_so own a serial token is one other =
    let other' : token ≡ holds_token Calls (state Calls a.exchange.trace) = subst (λ (o : TokenSide). token ≡ holds_token o (state o a.exchange.trace)) is other in
    let Made : ℕ → Bool → Setting = λ (n : ℕ) (t : Bool). record { serial = n; token = t } in
    ap (λ (n : ℕ). Made n token) one ∙ ap (Made (next a.exchange.trace)) other'

pub heard_by : (i i' : Initiator) (talk : Talk) (indication : Indication) (serial : ℕ) (token : Bool) (heard : Heard) (none said read : List Request) (out out' : List ℕ) → Holds i talk
    → serial ≡ next talk.association.exchange.trace → token ≡ holds_token (side_of i.stack) (state (side_of i.stack) talk.association.exchange.trace) → heard ≡ heard_in indication → none ≡ [] → read ≡ said
    → said ≡ none ++ (hears i.given (record { serial = serial; token = token }) i.conduct heard).said → i'.conduct ≡ (hears i.given (record { serial = serial; token = token }) i.conduct heard).conduct
    → Sends (AreSent (offer_of i.stack) talk.association read) out i'.stack out' → IsSameEnd i.stack i'.stack → i'.given ≡ i.given → i'.greeting ≡ i.greeting → i'.octets ≡ i.octets → i'.waiting.items ≡ []
    → LeadsAnswer i talk indication out i' out'
heard_by i i' talk indication serial token heard none said read out out' holds next_is token_is heard_is none_is read_is said_is conduct_is sends same given greeting count waits =
    let s : Setting = record { serial = serial; token = token } in
    let step : hears i.given s i.conduct heard ≡ hears i.given s i.conduct (heard_in indication) = ap (λ (h : Heard). hears i.given s i.conduct h) heard_is in
    let say : read ≡ (hears i.given s i.conduct (heard_in indication)).said =
    read_is ∙ (said_is ∙ (ap (λ (n : List Request). n ++ (hears i.given s i.conduct heard).said) none_is ∙ ap (λ (x : Step). x.said) step)) in
    heard_so i i' talk indication s read out out' holds (setting_so (side_of i.stack) talk.association serial token holds.side next_is token_is) say
    (conduct_is ∙ ap (λ (x : Step). x.conduct) step) sends same given greeting count waits

pub waits_by : (i i' : Initiator) (talk : Talk) (indication : Indication) (serial : ℕ) (token : Bool) (heard : Heard) (none said read : List Request) (out : List ℕ) → Holds i talk
    → serial ≡ next talk.association.exchange.trace → token ≡ holds_token (side_of i.stack) (state (side_of i.stack) talk.association.exchange.trace) → heard ≡ heard_in indication → none ≡ [] → read ≡ said
    → said ≡ none ++ (hears i.given (record { serial = serial; token = token }) i.conduct heard).said → i'.conduct ≡ (hears i.given (record { serial = serial; token = token }) i.conduct heard).conduct
    → list_all is_open read ≡ true → i'.waiting.items ≡ said → i'.stack ≡ i.stack → i'.given ≡ i.given → i'.greeting ≡ i.greeting → i'.octets ≡ i.octets
    → LeadsAnswer i talk indication out i' out
waits_by i i' talk indication serial token heard none said read out holds next_is token_is heard_is none_is read_is said_is conduct_is are_open waits same given greeting count =
    let s : Setting = record { serial = serial; token = token } in
    let step : hears i.given s i.conduct heard ≡ hears i.given s i.conduct (heard_in indication) = ap (λ (h : Heard). hears i.given s i.conduct h) heard_is in
    let say : said ≡ (hears i.given s i.conduct (heard_in indication)).said =
    said_is ∙ (ap (λ (n : List Request). n ++ (hears i.given s i.conduct heard).said) none_is ∙ ap (λ (x : Step). x.said) step) in
    heard_waits i i' talk indication s said out holds (setting_so (side_of i.stack) talk.association serial token holds.side next_is token_is) say
    (conduct_is ∙ ap (λ (x : Step). x.conduct) step) (subst (λ (r : List Request). list_all is_open r ≡ true) read_is are_open) waits same given greeting count
