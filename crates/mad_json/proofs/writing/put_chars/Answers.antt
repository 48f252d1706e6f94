use Rattle.std.proofs.Common.{ap, codes, ◌∙◌}
use Rattle.serde_json.specs.Data.{put}
use Rattle.serde_json.specs.View.{members_view}
use Rattle.mad_json.specs.Written.{char_data}
use Rattle.mad_json.proofs.writing.put_chars.Goals as goal

pub returns-clause-value : goal.returns-clause-value
returns-clause-value c =
    let skin = c.args.skin.now in
    c.in_ok-put.ensures.ok
    ∙ ap (λ bar. put (codes "scrollbar") bar (members_view c.put_part-3.new.members.entries)) c.in_ok-bar_value.ensures.value
    ∙ ap (put (codes "scrollbar") _) (c.in_ok-put_part-3.ensures.value
    ∙ ap (put (codes "horizontal_rule") (char_data skin.horizontal_rule)) (c.in_ok-put_part-2.ensures.value
    ∙ ap (put (codes "quote") (char_data skin.quote_mark)) c.in_ok-put_part.ensures.value))
