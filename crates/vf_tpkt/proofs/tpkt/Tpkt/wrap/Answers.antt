use Rattle.std.proofs.Common.{◌≡◌, ◌++◌, List, ℕ, OnOk, subst}
use Rattle.std.proofs.lemmas.List.{append-nil}
use Rattle.vf_tpkt.specs.Sending.{most_of, sent}
use Rattle.vf_tpkt.proofs.tpkt.Tpkt.wrap.Goals as goal

pub returns-clause-ok : goal.returns-clause-ok
returns-clause-ok c =
    let P : List ℕ → Type 0 = λ tsdu. OnOk c.wrap_joined.result (c.wrap_joined.new.out.items ≡ c.args.out.now.items ++ sent (most_of c.args.self.now.connection.phase) tsdu) in
    subst P (append-nil c.args.tsdu.now) c.wrap_joined.ensures.ok
