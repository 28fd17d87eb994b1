-- The calling ends that the code keeps, and what hearing owes, in the words of what happens on links.
use Rattle.std.specs.Prelude.{◌≡◌, ℕ, false, nat_eq, List, ◌++◌, Option, None, Some, drop}
use Rattle.std.specs.Map.{lookup}
use Rattle.vf_cli_calling.specs.Calling.{Calling}
use Rattle.vf_cli_calling.specs.Represents.{Represents}
use Rattle.vf_cli_calling.specs.declared.caller.Caller.{Caller}
use Rattle.vf_responder.specs.declared.event.Reply.{Reply}
use Rattle.vf_cli_replay.specs.Running.{Ends, Printing, end_on, heard_all, joined, joined_behind}

-- each the one of its link
abbrev pub IsEnd : Option Caller → Option Calling → Type 0
IsEnd None None = Unit {0}
IsEnd (Some caller) (Some calling) = Represents caller calling
IsEnd caller calling = ⊥

abbrev pub caller_on : ℕ → List (ℕ × Caller) → Option Caller
caller_on link callers = lookup (nat_eq link) callers

pub record AreEnds (callers : List (ℕ × Caller)) (ends : Ends) : Type 0 where
  pub each : (link : ℕ) → IsEnd (caller_on link callers) (end_on link ends)

-- those of all links but one
pub record AreOthers (link : ℕ) (callers : List (ℕ × Caller)) (ends : Ends) : Type 0 where
  pub each : (other : ℕ) → nat_eq link other ≡ false → IsEnd (caller_on other callers) (end_on other ends)

-- Something was heard: its lines were appended.
pub record HasHeard (printing : Printing) (text : List ℕ) (callers' : List (ℕ × Caller)) (text' : List ℕ) : Type 0 where
  pub lines : text' ≡ text ++ printing.lines
  pub ends : AreEnds callers' printing.ends

-- Some of the replies were heard, up to these octets of the next of them; what is left to be heard comes to the same.
pub record HearsOn (replies : List Reply) (ends : Ends) (text : List ℕ) (place : ℕ) (octets : List ℕ) (callers' : List (ℕ × Caller)) (text' : List ℕ) : Type 0 where
  pub now : Ends
  pub are : AreEnds callers' now
  pub lines : text' ++ (heard_all (joined_behind octets (drop place replies)) now).lines ≡ text ++ (heard_all (joined replies) ends).lines
  pub last_ends : (heard_all (joined_behind octets (drop place replies)) now).ends ≡ (heard_all (joined replies) ends).ends
