-- An element that is a string, as data that pass no token.
use Rattle.std.proofs.Common.{◌≡◌, ℕ, false, true, List, [], ◌∷◌, ◌++◌, Option, None, Some, ap, refl, subst, sym, ◌∙◌}
use Rattle.std.specs.Prelude.{ℤ, Bool}
use Rattle.vf_base.specs.declared.element.Element.{Element as ElementMeant}
use Rattle.vf_ber.specs.Spelling.{spell}
use Rattle.vf_ber.specs.Tree.{Tree, plain}
use Rattle.vf_elements.specs.ElementValue.{value as element_value}
use Rattle.vf_session.specs.Sending.{may}
use Rattle.vf_session.specs.declared.state.SessionState.{SessionState}
use Rattle.vf_session.specs.declared.units.SessionSay.{SessionSay}
use Rattle.vf_session.specs.declared.units.SessionSay.TheVariants.{Data}
use Rattle.vf_session.specs.declared.units.TokenSide.{TokenSide}
use Rattle.vf_stack.specs.Association.{Association, Exchange}
use Rattle.vf_stack.specs.Represents.{IsSame, Kept, Represents, Stands, side_of}
use Rattle.vf_stack.specs.Requests.{element_carried, in_first}
use Rattle.vf_stack.specs.Sending.{permits, tsdu_of}
use Rattle.vf_stack.specs.Sends.{IsPermitted, Joins, PutsHead, Sends, unit_kept}
use Rattle.vf_stack.specs.declared.ending.Ending.{Ending}
use Rattle.vf_stack.specs.declared.ending.Ending.TheVariants.{Refused}
use Rattle.vf_stack.specs.declared.exchange.KeptExchange.{KeptExchange}
use Rattle.vf_stack.specs.declared.indication.Item.TheVariants as items
use Rattle.vf_stack.specs.declared.request.Request.{Request}
use Rattle.vf_stack.specs.declared.request.Request.TheVariants as requests
use Rattle.vf_stack.proofs.HeadLemmas.{plain_head}
use Rattle.vf_stack.proofs.SendLemmas.{keeps-permitted, may-permitted, sends-all}
use Rattle.vf_tpkt.specs.Sending.{most_of, sent as packets}
use Rattle.vf_upper.specs.PlainData.{string_data}
use Rattle.vf_upper.specs.Written.{pdv_list, universal, user_data}
use Rattle.vf_upper.specs.declared.contexts.ContextEntry.{ContextEntry}
use Rattle.vf_session.specs.Represents.{Represents as Keeps}

-- ---- what stands before the string

tree-carried : (found : Option ℤ) (contexts : List ContextEntry) (tree : Tree) → (in_first found contexts tree).tree ≡ tree
tree-carried None contexts tree = refl
tree-carried (Some id) contexts tree = refl

pub string-put : (kept : KeptExchange) (request : Request) (element : ElementMeant) (class : ℕ) (context : ℤ) (string head head' : List ℕ)
    → request ≡ requests.Item (items.Element element) → element_value element ≡ plain (universal class) string → context ≡ (element_carried kept.accepted element).context
    → head' ++ string ≡ (head ++ 1 ∷ 0 ∷ 1 ∷ 0 ∷ []) ++ spell (string_data context class string)
    → PutsHead kept request string head head'
string-put kept request element class context string head head' is value context-is put =
    let own = kept.session.side in
    let carried = element_carried kept.accepted element in
    let octets : List ℕ = spell (user_data (pdv_list carried.context carried.tree ∷ [])) in
    let unit : unit_kept kept request ≡ Data false octets = ap (unit_kept kept) is in
    let tree : plain (universal class) string ≡ carried.tree = sym value ∙ sym (tree-carried _ kept.accepted (element_value element)) in
    let same : spell (string_data context class string) ≡ octets =
    ap (λ (id : ℤ). spell (user_data (pdv_list id (plain (universal class) string) ∷ []))) context-is
    ∙ ap (λ (tree : Tree). spell (user_data (pdv_list carried.context tree ∷ []))) tree in
    record {
      octets = octets;
      unit_is = unit;
      together = put ∙ ap (λ (o : List ℕ). (head ++ 1 ∷ 0 ∷ 1 ∷ 0 ∷ []) ++ o) same ∙ plain_head own head octets ∙ ap (λ (u : SessionSay). head ++ tsdu_of own u) (sym unit);
    }

-- ---- data that may be sent

not-refused : (own : TokenSide) (offer : Bool) (s : SessionState) (octets : List ℕ) → permits own offer s (Data false octets) Refused ≡ true → ⊥
not-refused own offer s octets p = cc

no-refusal : (kept : KeptExchange) (octets : List ℕ) → IsPermitted kept (Data false octets) → kept.ending ≡ Refused → ⊥
no-refusal kept octets p e =
    let P : Ending → Type 0 = λ ending. permits kept.session.side kept.session.offer kept.session.state (Data false octets) ending ≡ true in
    not-refused kept.session.side kept.session.offer kept.session.state octets (subst P e p)

pub may-data : (kept : KeptExchange) (octets : List ℕ) → IsPermitted kept (Data false octets) → may kept.session.side kept.session.offer kept.session.state (Data false octets) ≡ true
may-data kept octets p = may-permitted kept.session.side kept.session.offer kept.session.state (Data false octets) kept.ending (no-refusal kept octets p) p

pub keeps-data : (kept : KeptExchange) (x : Exchange) (octets : List ℕ) → Stands kept x → IsPermitted kept (Data false octets) → Keeps kept.session x.trace
keeps-data kept x octets s p = keeps-permitted kept x (Data false octets) s (no-refusal kept octets p) p

-- The packets of a request that is P-DATA of one string: its TSDU is what was put before the string, and the string.
by-string : (kept kept' : Kept) (a : Association) (request : Request) (string head out out' : List ℕ) → Represents kept a → IsPermitted kept.exchange (unit_kept kept.exchange request)
    → PutsHead kept.exchange request string [] head → ((octets : List ℕ) → IsPermitted kept.exchange (Data false octets) → Joins kept.exchange (Data false octets) kept'.exchange)
    → IsSame kept.exchange kept'.exchange → kept'.transport ≡ kept.transport → out' ≡ out ++ packets (most_of kept.transport.connection.phase) (head ++ string) → Sends (side_of kept) a request out kept' out'
by-string kept kept' a request string head out out' rep permitted puts joins same transport octets =
    let joined = joins puts.octets (subst (IsPermitted kept.exchange) puts.unit_is permitted) in
    sends-all kept kept' a request (unit_kept kept.exchange request) out out' rep refl
    (octets ∙ ap (λ (o : List ℕ). out ++ packets (most_of kept.transport.connection.phase) o) puts.together)
    transport (subst (λ (unit : SessionSay). Joins kept.exchange unit kept'.exchange) (sym puts.unit_is) joined) same

pub string-sent : (inside kept kept' : Kept) (a : Association) (request : Request) (string head out out' : List ℕ) → inside ≡ kept → Represents kept a
    → IsPermitted kept.exchange (unit_kept kept.exchange request)
    → PutsHead inside.exchange request string [] head → ((octets : List ℕ) → IsPermitted inside.exchange (Data false octets) → Joins inside.exchange (Data false octets) kept'.exchange)
    → IsSame inside.exchange kept'.exchange → kept'.transport ≡ inside.transport → out' ≡ out ++ packets (most_of inside.transport.connection.phase) (head ++ string) → Sends (side_of kept) a request out kept' out'
string-sent inside kept kept' a request string head out out' view rep permitted =
    subst
    (λ (k : Kept). PutsHead k.exchange request string [] head → ((octets : List ℕ) → IsPermitted k.exchange (Data false octets) → Joins k.exchange (Data false octets) kept'.exchange)
    → IsSame k.exchange kept'.exchange → kept'.transport ≡ k.transport → out' ≡ out ++ packets (most_of k.transport.connection.phase) (head ++ string) → Sends (side_of kept) a request out kept' out')
    (sym view) (by-string kept kept' a request string head out out' rep permitted)
