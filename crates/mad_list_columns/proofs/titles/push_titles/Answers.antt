use Rattle.std.proofs.Common.{◌∙◌, length, string_bytes}
use Rattle.mad_style.specs.Repeats.{styled_char_bytes}
use Rattle.mad_list_columns.specs.Drawing.{title_bytes, title_over, titles}
use Rattle.mad_list_columns.proofs.TitleLemmas.{all_taken, one_taken, zero_of}
use Rattle.mad_list_columns.proofs.titles.push_titles.Goals as goal

pub loop-rest-preserved : goal.loop-rest-preserved
loop-rest-preserved g c =
    one_taken (styled_char_bytes c.style_char-line.result) (title_bytes c.args.header.now) (string_bytes c.loop-rest.bytes) (string_bytes c.write.new.self) (string_bytes c.push_title-in-loop-rest.new.bytes) (title_over c.split_title-in-loop-rest.result.0.now) (titles c.split_title-in-loop-rest.result.1.now) (titles c.loop-rest.rest.now) c.split_title-in-loop-rest.ensures.titles c.in_ok-write.ensures.bytes c.in_ok-push_title-2.ensures
    ∙ c.loop-rest.invariant

pub returns : goal.returns
returns g c =
    all_taken c.args.table.now 0x2502 c.style_char-line.result (title_bytes c.args.header.now) (string_bytes c.args.bytes.now) (string_bytes c.push_title.new.bytes) (string_bytes c.loop-rest.bytes) (title_over c.split_title.result.0.now) (titles c.split_title.result.1.now) (titles c.args.columns.now) c.loop-rest.rest.now c.style_char-line.ensures c.split_title.ensures.titles c.in_ok-push_title.ensures (zero_of (length c.loop-rest.rest.now) c.loop-rest-test.ensures) c.loop-rest.invariant
