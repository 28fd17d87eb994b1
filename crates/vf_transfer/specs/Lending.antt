-- What an end that sends is once the value that it lent is let go.
use Rattle.std.specs.Prelude.{◌≡◌, ⊤}
use Rattle.std.specs.Borrow.{follows_so, MutBor, Fml}
use mathlib.Core.Option.{none}
use Rattle.vf_transfer.specs.Checks.{Sender, advanced}
use Rattle.vf_transfer.specs.contracts.sending.Sending.{the_row}

abbrev pub Advances : MutBor Sender → Fml
Advances sending = follows_so the_row the_row sending.ghost_name none (λ _ _. ⊤) (λ last. last ≡ advanced sending.now)
