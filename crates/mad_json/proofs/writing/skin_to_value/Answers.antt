use Rattle.std.proofs.Common.{ap, ◌∙◌}
use Rattle.serde_json.specs.Data.{object}
use Rattle.serde_json.specs.View.{members_view}
use Rattle.mad_json.specs.Written.{with_additions, with_chars, with_lines, with_items, with_borders}
use Rattle.mad_json.proofs.SkinLaw.{skin_back}
use Rattle.mad_json.proofs.writing.skin_to_value.Goals as goal

pub returns-clause-value : goal.returns-clause-value
returns-clause-value c =
    let skin = c.args.skin.now in
    let named = c.in_ok-put_borders.ensures in (
      named.0,
      named.1,
      c.object_of.ensures ∙ ap object (named.2
          ∙ ap (with_borders named.0) (c.in_ok-put_items.ensures.value
          ∙ ap (with_items skin) (c.in_ok-put_lines.ensures.value
          ∙ ap (with_lines skin) (c.in_ok-put_chars.ensures.value
          ∙ ap (with_chars skin) (c.in_ok-put_additions.ensures.value
          ∙ ap (λ entries. with_additions skin (members_view entries)) c.new-members.ensures.empty))))),
    )

pub returns-clause-reads_back : goal.returns-clause-reads_back
returns-clause-reads_back c =
    let written = returns-clause-value c in
    skin_back c.args.skin.now written.0 _ written.1 written.2 c.in_ok-put_additions.ensures.reads_back c.in_ok-put_chars.ensures.reads_back c.in_ok-put_lines.ensures.reads_back c.in_ok-put_items.ensures.reads_back
