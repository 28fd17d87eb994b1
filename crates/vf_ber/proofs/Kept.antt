-- Octets that end those that are kept.
use Rattle.std.proofs.Common.{ℕ, List, ◌++◌, ap, sym, ◌∙◌, append_assoc, Bor}
use Rattle.std.specs.Prelude.{IfSome, Option, None, Some}
use Rattle.vf_ber.specs.Steps.{Ends, Got, Language}

-- after what is read they go on to their end
pub ends_tail : {X : Type 0} (L : Language X) (octets rest : List ℕ) (x : X) (kept : Option (Bor (List ℕ)))
    → Got L octets x rest → IfSome kept (λ all. Ends all.now octets) → IfSome kept (λ all. Ends all.now rest)
ends_tail L octets rest x None got ends = tt
ends_tail L octets rest x (Some all) (word, is, found) (prefix, parts) =
    (prefix ++ word, parts ∙ ap (λ o. prefix ++ o) is ∙ sym (append_assoc prefix word rest))
