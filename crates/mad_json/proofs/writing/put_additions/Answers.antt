use Rattle.std.proofs.Common.{ap, codes, ◌∙◌}
use Rattle.serde_json.specs.Data.{put}
use Rattle.mad_json.specs.Written.{style_data}
use Rattle.mad_json.proofs.writing.put_additions.Goals as goal

pub returns-clause-value : goal.returns-clause-value
returns-clause-value c =
    let skin = c.args.skin.now in
    c.in_ok-put_part-5.ensures.value
    ∙ ap (put (codes "ellipsis") (style_data skin.ellipsis)) (c.in_ok-put_part-4.ensures.value
    ∙ ap (put (codes "inline_code") (style_data skin.inline_code)) (c.in_ok-put_part-3.ensures.value
    ∙ ap (put (codes "strikeout") (style_data skin.strikeout)) (c.in_ok-put_part-2.ensures.value
    ∙ ap (put (codes "italic") (style_data skin.italic)) c.in_ok-put_part.ensures.value)))
