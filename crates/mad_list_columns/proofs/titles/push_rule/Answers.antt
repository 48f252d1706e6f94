use Rattle.std.proofs.Common.{length, string_bytes}
use Rattle.mad_list_columns.specs.Drawing.{rule_bytes, title_over, titles}
use Rattle.mad_list_columns.proofs.TitleLemmas.{all_taken, zero_of}
use Rattle.mad_list_columns.proofs.titles.push_rule.Goals as goal

pub returns : goal.returns
returns g c =
    all_taken c.args.table.now 0x253C c.style_char-cross.result (rule_bytes c.args.table.now) (string_bytes c.args.bytes.now) (string_bytes c.push_rule_part.new.bytes) (string_bytes c.loop-rest.bytes) (title_over c.split_title.result.0.now) (titles c.split_title.result.1.now) (titles c.args.columns.now) c.loop-rest.rest.now c.style_char-cross.ensures c.split_title.ensures.titles c.in_ok-push_rule_part.ensures (zero_of (length c.loop-rest.rest.now) c.loop-rest-test.ensures) c.loop-rest.invariant
