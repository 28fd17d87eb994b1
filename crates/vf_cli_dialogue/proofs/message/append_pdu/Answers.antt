use Rattle.std.proofs.Common.{ℕ, List, ◌++◌, ap, sym, ◌∙◌}
use Rattle.vf_cli_dialogue.specs.Lines.{hex_line}
use Rattle.vf_cli_dialogue.proofs.HeaderLemmas.{alone_spells}
use Rattle.vf_cli_dialogue.proofs.message.append_pdu.Goals as goal

pub returns-in-Some : goal.returns-in-Some
returns-in-Some c =
    c.in_ok-append_header_line.ensures.ok ∙ ap (λ (octets : List ℕ). c.args.replies.now.lines.items ++ hex_line octets)
    (sym (alone_spells c.args.pdu.now c.in-Some.first (sym c.without_parts.ensures ∙ c.in-Some.is)))
