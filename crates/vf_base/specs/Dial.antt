-- A dial (profile): one connection after another to one peer. It may tell what was said and heard on each.
use Rattle.std.specs.Prelude.{◌≡◌, ℕ, Bool, false, not, nat_eq, List, [], ◌∷◌, ◌++◌, take, drop, Option, None, Some, Result, Ok, Err}
use Rattle.vf_base.specs.declared.errors.Failed.{Failed}

-- A connection: the octets that its peer took and gave, and those that the peer gives yet before it ends the
-- stream.
pub record Call : Type 0 where
  pub said : List ℕ
  pub heard : List ℕ
  pub left : List ℕ

-- What is told: the connections, newest first, and what the peer gives on each one to come; after them it gives
-- nothing.
pub record Connections : Type 0 where
  pub calls : List Call
  pub coming : List (List ℕ)

abbrev pub next_of : List (List ℕ) → List ℕ
next_of [] = []
next_of (octets ∷ coming) = octets

abbrev pub after_connect : Connections → Connections
after_connect connections =
    record { calls = record { said = []; heard = []; left = next_of connections.coming } ∷ connections.calls; coming = drop 1 connections.coming }

-- A good connect begins a connection. A call that fails leaves all as it is, except that a failed send has said
-- a prefix of its octets.
abbrev pub Connects : Option Connections → Option Connections → Result (Unit {0}) Failed → Type 0
Connects None new result = new ≡ None
Connects (Some old) new (Ok done) = new ≡ Some (after_connect old)
Connects (Some old) new (Err failed) = new ≡ Some old

-- where a connection stands there is a newest one
abbrev pub OnNewest : List Call → (Call → List Call → Type 0) → Type 0
OnNewest [] holds = ⊥
OnNewest (call ∷ calls) holds = holds call calls

abbrev pub says : List ℕ → Call → Call
says octets call = record call { said = call.said ++ octets }

abbrev pub Says : Option Connections → Option Connections → List ℕ → Result (Unit {0}) Failed → Type 0
Says None new octets result = new ≡ None
Says (Some old) new octets (Ok done) =
    OnNewest old.calls (λ call calls. new ≡ Some (record old { calls = says octets call ∷ calls }))
Says (Some old) new octets (Err failed) =
    OnNewest old.calls (λ call calls.
    (prefix rest : List ℕ) × (octets ≡ prefix ++ rest) × (new ≡ Some (record old { calls = says prefix call ∷ calls })))

-- a connection on which the next octets were heard, none of them only at the end of the stream
abbrev pub Hears : Call → Call → List ℕ → ℕ → Type 0
Hears old new into count =
    (left : List ℕ) × (old.left ≡ take count into ++ left) × (count ≡ 0 → old.left ≡ [])
    × (new ≡ record { said = old.said; heard = old.heard ++ take count into; left = left })

abbrev pub Reads : Option Connections → Option Connections → List ℕ → Result ℕ Failed → Type 0
Reads None new into result = new ≡ None
Reads (Some old) new into (Ok count) =
    OnNewest old.calls (λ call calls.
    (heard : Call) × (Hears call heard into count) × (new ≡ Some (record old { calls = heard ∷ calls })))
Reads (Some old) new into (Err failed) = new ≡ Some old

-- a read after which the connection stands
abbrev pub goes_on : Result ℕ Failed → Bool
goes_on (Ok count) = not (nat_eq count 0)
goes_on (Err failed) = false
