-- One more unit, by what a session keeps: what the session's functions promise to one another.
use Rattle.std.specs.Prelude.{◌≡◌, ◌+◌, ◌≤◌, ◌<◌, true, ◌⊎◌, Some, None, unwrap_or, if◌then◌else◌}
use Rattle.vf_session.specs.declared.phase.Phase.TheVariants.{Asked, Open, Leaving, Left, Aborted, Over}
use Rattle.vf_session.specs.declared.state.SessionState.{SessionState}
use Rattle.vf_session.specs.declared.units.SessionSay.{SessionSay}
use Rattle.vf_session.specs.declared.units.SessionSay.TheVariants as say
use Rattle.vf_session.specs.declared.units.TokenSide.{TokenSide}
use Rattle.vf_session_spdu.specs.Numbers.{last_serial}
use Rattle.vf_session.specs.Kept.{Kept}
use Rattle.vf_session.specs.Trace.{other, is_side, is_from, is_resync}

-- A unit that may be received or sent has numbers within their range, and comes while no RS waits where it must.
abbrev pub Grows : TokenSide → SessionState → SessionSay → Type 0
Grows own s (say.Connect sync n octets) = n ≤ last_serial
Grows own s (say.Accept sync n octets) = n ≤ last_serial
Grows own s (say.Refuse octets) = Unit {0}
Grows own s (say.Finish octets) = s.resync ≡ None
Grows own s (say.Finished octets) = Unit {0}
Grows own s (say.Data pass octets) = s.resync ≡ None
Grows own s (say.Check n) = (n ≡ s.next) × (n ≤ last_serial) × (s.resync ≡ None)
Grows own s (say.Acknowledge n) = (s.oldest ≤ n) × (n < s.next) × (s.resync ≡ None)
Grows own s (say.Resync kind n token octets) = (s.resync ≡ None) ⊎ (is_from own s.resync ≡ true)
Grows own s (say.Resynced n token octets) = n ≤ last_serial
Grows own s (say.Abort octets) = Unit {0}
Grows own s (say.Token to) = s.resync ≡ None

-- where the connection stands after a unit of one end; `before` has the token where an RS that waits has lost
abbrev pub advanced : TokenSide → TokenSide → TokenSide → SessionState → SessionSay → SessionState
advanced own from before s (say.Connect sync n octets) = record s { phase = Asked; proposed = sync; first = n; next = n; oldest = n; resync = None }
advanced own from before s (say.Accept sync n octets) = record s { phase = Open; agreed = sync; first = n; next = n; oldest = n; resync = None }
advanced own from before s (say.Refuse octets) = record s { phase = Over; resync = None }
advanced own from before s (say.Finish octets) = record s { phase = if is_side own from then Leaving else Left }
advanced own from before s (say.Finished octets) = record s { phase = Over; resync = None }
advanced own from before s (say.Data pass octets) = record s { token = if pass then other from else s.token }
advanced own from before s (say.Check n) = record s { next = n + 1 }
advanced own from before s (say.Acknowledge n) = record s { oldest = n + 1 }
advanced own from before s (say.Resync kind n token octets) =
    record s { phase = Open; token = unwrap_or token before; resync = Some (record { from = from; kind = kind; serial = n; token = token }) }
advanced own from before s (say.Resynced n token octets) = record s { next = n; oldest = n; token = unwrap_or token s.token; resync = None }
advanced own from before s (say.Abort octets) = record s { phase = if is_side own from then Aborted else Over; resync = None }
advanced own from before s (say.Token to) = record s { token = to }

abbrev pub kept_after : TokenSide → Kept → SessionSay → Kept
kept_after from kept told =
    let s = advanced kept.side from kept.token kept.state told in
    record { side = kept.side; offer = kept.offer; state = s; token = if is_resync told then kept.token else s.token }
