use Rattle.std.proofs.Common.{sym, ◌∙◌}
use Rattle.mad_json.proofs.ReadBars.{if_made, simple_read, rich_read}
use Rattle.mad_json.proofs.writing.bar_value.Goals as goal

pub returns-in-Simple-clause-reads_back : goal.returns-in-Simple-clause-reads_back
returns-in-Simple-clause-reads_back c =
    if_made c.value_of.result _ _ (simple_read c.args.bar.now c.in-Simple.styled_char (sym c.from.ensures ∙ c.in-Simple.is)) c.value_of.ensures.reads_back

pub returns-in_ok-put_part-in-Rich-2-clause-reads_back :
    goal.returns-in_ok-put_part-in-Rich-2-clause-reads_back
returns-in_ok-put_part-in-Rich-2-clause-reads_back c =
    rich_read c.args.bar.now c.in-Rich.track c.in-Rich.thumb (sym c.from.ensures ∙ c.in-Rich.is) c.in_ok-put_part-in-Rich-2.ensures.reads_back c.in_ok-put_part-in-Rich.ensures.reads_back
