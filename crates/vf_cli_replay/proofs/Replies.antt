-- Replies that are heard one after another.
use Rattle.std.proofs.lemmas.List.{at_drop_all, at_drop_more}
use Rattle.std.proofs.Common.{◌≡◌, ◌∙◌, ℕ, ◌+◌, ◌<◌, ◌≤◌, length, get_or, Bool, true, false, cond, List, [], ◌∷◌, ◌++◌, drop, ap, append_assoc, append-nil, refl, sym, subst}
use Rattle.vf_cli_calling.specs.declared.caller.Caller.{Caller}
use Rattle.vf_responder.specs.declared.event.Reply.{Reply}
use Rattle.vf_cli_replay.specs.Hearing.{AreEnds, HasHeard, HearsOn}
use Rattle.vf_cli_replay.specs.Running.{Ends, behind, goes_on, heard_all, heard_on, joined, joined_behind}

joined_goes : (octets : List ℕ) (reply : Reply) (later : List Reply) → goes_on reply later ≡ true → joined_behind octets (reply ∷ later) ≡ joined_behind (octets ++ reply.octets) later
joined_goes octets reply later goes =
    ap (λ (b : Bool). cond b (joined_behind (octets ++ reply.octets) later) (behind octets reply ∷ joined_behind [] later)) goes

joined_ends : (octets : List ℕ) (reply : Reply) (later : List Reply) → goes_on reply later ≡ false → joined_behind octets (reply ∷ later) ≡ behind octets reply ∷ joined_behind [] later
joined_ends octets reply later ends =
    ap (λ (b : Bool). cond b (joined_behind (octets ++ reply.octets) later) (behind octets reply ∷ joined_behind [] later)) ends

-- before the first of them, and behind the last
pub hears_first : (replies : List Reply) (ends : Ends) (text : List ℕ) (callers : List (ℕ × Caller)) → AreEnds callers ends → HearsOn replies ends text 0 [] callers text
hears_first replies ends text callers are = record { now = ends; are = are; lines = refl; last_ends = refl }

pub hears_last : (replies : List Reply) (ends : Ends) (text : List ℕ) (place : ℕ) (octets : List ℕ) (callers : List (ℕ × Caller)) (text' : List ℕ)
    → drop place replies ≡ [] → HearsOn replies ends text place octets callers text' → HasHeard (heard_all (joined replies) ends) text callers text'
hears_last replies ends text place octets callers text' none hears =
    let over : joined_behind octets (drop place replies) ≡ [] = ap (joined_behind octets) none in
    record {
      lines = sym (append-nil text') ∙ ap (λ (rs : List Reply). text' ++ (heard_all rs hears.now).lines) (sym over) ∙ hears.lines;
      ends = subst (AreEnds callers) (ap (λ (rs : List Reply). (heard_all rs hears.now).ends) (sym over) ∙ hears.last_ends) hears.are;
    }

-- one more, with which the next one goes on
pub hears_on : (replies : List Reply) (ends : Ends) (text : List ℕ) (place : ℕ) (octets : List ℕ) (callers : List (ℕ × Caller)) (text' : List ℕ) (reply : Reply)
    → drop place replies ≡ reply ∷ drop (place + 1) replies → goes_on reply (drop (place + 1) replies) ≡ true → HearsOn replies ends text place octets callers text'
    → HearsOn replies ends text (place + 1) (octets ++ reply.octets) callers text'
hears_on replies ends text place octets callers text' reply at goes hears =
    let same : joined_behind octets (drop place replies) ≡ joined_behind (octets ++ reply.octets) (drop (place + 1) replies) = ap (joined_behind octets) at ∙ joined_goes octets reply (drop (place + 1) replies) goes in
    record {
      now = hears.now;
      are = hears.are;
      lines = ap (λ (rs : List Reply). text' ++ (heard_all rs hears.now).lines) (sym same) ∙ hears.lines;
      last_ends = ap (λ (rs : List Reply). (heard_all rs hears.now).ends) (sym same) ∙ hears.last_ends;
    }

-- and one with which they are heard
pub hears_it : (replies : List Reply) (ends : Ends) (text : List ℕ) (place : ℕ) (octets : List ℕ) (callers : List (ℕ × Caller)) (text' : List ℕ) (reply : Reply)
    (callers' : List (ℕ × Caller)) (text'' : List ℕ) → drop place replies ≡ reply ∷ drop (place + 1) replies → goes_on reply (drop (place + 1) replies) ≡ false
    → (hears : HearsOn replies ends text place octets callers text') → HasHeard (heard_on (behind octets reply) hears.now) text' callers' text''
    → HearsOn replies ends text (place + 1) [] callers' text''
hears_it replies ends text place octets callers text' reply callers' text'' at over hears heard =
    let later = drop (place + 1) replies in
    let same : joined_behind octets (drop place replies) ≡ behind octets reply ∷ joined_behind [] later = ap (joined_behind octets) at ∙ joined_ends octets reply later over in
    let first = heard_on (behind octets reply) hears.now in
    let others = heard_all (joined_behind [] later) first.ends in
    record {
      now = first.ends;
      are = heard.ends;
      lines = ap (λ (t : List ℕ). t ++ others.lines) heard.lines ∙ append_assoc text' first.lines others.lines ∙ ap (λ (rs : List Reply). text' ++ (heard_all rs hears.now).lines) (sym same) ∙ hears.lines;
      last_ends = ap (λ (rs : List Reply). (heard_all rs hears.now).ends) (sym same) ∙ hears.last_ends;
    }

-- the reply at a place, and those behind it
pub reply_at : (replies : List Reply) (place : ℕ) (reply : Reply) → place < length replies → reply ≡ get_or replies place reply → drop place replies ≡ reply ∷ drop (place + 1) replies
reply_at replies place reply within is =
    at_drop_more (λ (l : List Reply). l) replies place reply within ∙ ap (λ (r : Reply). r ∷ drop (place + 1) replies) (sym is)

pub none_at : (replies : List Reply) (place : ℕ) → length replies ≤ place → drop place replies ≡ []
none_at replies place past = at_drop_all (λ (l : List Reply). l) replies place past

-- the same, by other names
pub hears_by : (replies : List Reply) (ends : Ends) (text : List ℕ) (place : ℕ) (octets octets' : List ℕ) (callers callers' : List (ℕ × Caller)) (text' text'' : List ℕ)
    → octets ≡ octets' → callers ≡ callers' → text' ≡ text'' → HearsOn replies ends text place octets callers text' → HearsOn replies ends text place octets' callers' text''
hears_by replies ends text place octets octets' callers callers' text' text'' o k t hears =
    subst (λ (x : List ℕ). HearsOn replies ends text place octets' callers' x) t
    (subst (λ (x : List (ℕ × Caller)). HearsOn replies ends text place octets' x text') k (subst (λ (x : List ℕ). HearsOn replies ends text place x callers text') o hears))
