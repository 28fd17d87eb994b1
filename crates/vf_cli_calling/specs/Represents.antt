-- Which calling ends one represents, and what its calls owe for each of them.
use Rattle.std.specs.Prelude.{◌≡◌, ℕ, Bool, true, false, List, ◌++◌}
use Rattle.vf_session.specs.declared.units.TokenSide.TheVariants.{Initiator}
use Rattle.vf_stack.specs.Represents.{Represents as IsStackOf, offer_of, side_of}
use Rattle.vf_stack.specs.Sending.{octets_sent}
use Rattle.vf_stack.specs.declared.indication.Indication.{Indication}
use Rattle.vf_stack.specs.declared.request.Request.{Request}
use Rattle.vf_cli_calling.specs.Calling.{Calling, Heard, MaySend, with_sent}
use Rattle.vf_cli_calling.specs.Lines.{heard_line}
use Rattle.vf_cli_calling.specs.declared.caller.Caller.{Caller}

-- Its stack is the calling end of the association, and all else is as it is kept.
pub record Represents (caller : Caller) (calling : Calling) : Type 0 where
  pub association : IsStackOf caller.stack calling.association
  pub side : side_of caller.stack ≡ Initiator
  pub offer : offer_of caller.stack ≡ calling.sync
  pub sync : caller.sync ≡ calling.sync
  pub base : caller.base ≡ calling.base

-- Something was said: its octets were appended, and the calling end after it is represented.
pub record Speaks (Says : List ℕ → Calling → Type 0) (out : List ℕ) (caller' : Caller) (out' : List ℕ) : Type 0 where
  pub octets : List ℕ
  pub later : Calling
  pub says : Says octets later
  pub represents : Represents caller' later
  pub sent : out' ≡ out ++ octets

-- Something was heard: its lines were appended, and the calling end after it is represented.
pub record Hears (heard : Heard) (text : List ℕ) (caller' : Caller) (text' : List ℕ) : Type 0 where
  pub lines_are : text' ≡ text ++ heard.lines
  pub represents : Represents caller' heard.caller

-- A request was sent, or it may not be and nothing has changed.
abbrev pub Asks : Calling → Request → List ℕ → Caller → List ℕ → Bool → Type 0
Asks calling request out caller' out' true =
    MaySend calling request × (out' ≡ out ++ octets_sent Initiator calling.association request) × Represents caller' (with_sent calling request)
Asks calling request out caller' out' false = (MaySend calling request → ⊥) × (out' ≡ out) × Represents caller' calling

-- The line of an indication was appended, with the base of the calling end that has noted it.
pub record Tells (link : ℕ) (now : Calling) (indication : Indication) (text : List ℕ) (caller' : Caller) (text' : List ℕ) : Type 0 where
  pub line_is : text' ≡ text ++ heard_line link now.base indication
  pub represents : Represents caller' now
