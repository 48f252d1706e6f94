use Rattle.std.proofs.Common.{Some, ap, codes, ◌∙◌}
use Rattle.serde_json.specs.Data.{string, put}
use Rattle.serde_json.specs.View.{members_view}
use Rattle.mad_json.proofs.writing.put_borders.Goals as goal

pub returns-in_ok-put_text : goal.returns-in_ok-put_text
returns-in_ok-put_text c = (
  Some c.in-Some.name.now,
  c.in-Some.ensures.some,
  c.in_ok-put_text.ensures
      ∙ ap (λ text. put (codes "table_border_chars") (string text) (members_view c.args.members.now.entries)) c.in_ok-name.ensures.ok,
)
