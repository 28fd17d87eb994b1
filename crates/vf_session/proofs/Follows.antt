-- What a session keeps follows a trace: beside the filters' values, what makes them follow when a unit is added.
use Rattle.std.proofs.Common.{◌≡◌, ◌-◌, ◌≤◌, false}
use Rattle.vf_session.specs.Allowed.{numbers_up, newest_resync}
use Rattle.vf_session.specs.Kept.{Kept}
use Rattle.vf_session.specs.Trace.{Trace, phase, proposed, agreed, first, next, oldest, token, resync, settled, since, acknowledgements, unacknowledged, acknowledged_by}

pub record Follows (kept : Kept) (trace : Trace) : Type 0 where
  pub phase_is : phase kept.side trace ≡ kept.state.phase
  pub proposed_is : proposed trace ≡ kept.state.proposed
  pub agreed_is : agreed trace ≡ kept.state.agreed
  pub first_is : first trace ≡ kept.state.first
  pub next_is : next trace ≡ kept.state.next
  pub oldest_is : oldest trace ≡ kept.state.oldest
  pub token_is : token trace ≡ kept.state.token
  pub resync_is : resync trace ≡ kept.state.resync
  -- an RS without its RA is the newest entry, and without it the token is where it was
  pub newest_is : newest_resync trace ≡ kept.state.resync
  pub settled_is : token (settled trace) ≡ kept.token
  -- the checks without an acknowledgement are those from the oldest up to the next
  pub open_checks : unacknowledged trace ≡ numbers_up kept.state.oldest (kept.state.next - kept.state.oldest)
  -- no check to come is acknowledged
  pub none_ahead : acknowledged_by (acknowledgements (since trace)) kept.state.next ≡ false
  pub in_order : kept.state.oldest ≤ kept.state.next
