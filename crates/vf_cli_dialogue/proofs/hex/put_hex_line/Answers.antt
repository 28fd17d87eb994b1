use Rattle.vf_cli_dialogue.proofs.RunLemmas.{line_put}
use Rattle.vf_cli_dialogue.proofs.hex.put_hex_line.Goals as goal

pub returns : goal.returns
returns c =
    line_put c.args.octets.now c.split_at.result.1.now c.args.text.now.items c.put_runs-done.new.text.items c.put_each.new.text.items c.push_reserved.new.self.items
    c.put_runs-done.result c.put_runs-done.ensures.items c.split_at.ensures.back c.put_each.ensures.items c.push_reserved.ensures.items
