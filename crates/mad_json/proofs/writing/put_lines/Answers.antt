use Rattle.std.proofs.Common.{ap, codes, ◌∙◌}
use Rattle.serde_json.specs.Data.{put}
use Rattle.serde_json.specs.View.{members_view}
use Rattle.mad_json.specs.Written.{line_data}
use Rattle.mad_json.proofs.writing.put_lines.Goals as goal

pub returns-clause-value : goal.returns-clause-value
returns-clause-value c =
    let skin = c.args.skin.now in
    c.in_ok-put.ensures.ok
    ∙ ap (λ headers. put (codes "headers") headers (members_view c.put_part-3.new.members.entries)) c.in_ok-values_of.ensures.value
    ∙ ap (put (codes "headers") _) (c.in_ok-put_part-3.ensures.value
    ∙ ap (put (codes "table") (line_data skin.table)) (c.in_ok-put_part-2.ensures.value
    ∙ ap (put (codes "code_block") (line_data skin.code_block)) c.in_ok-put_part.ensures.value))
