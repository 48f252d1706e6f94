use Rattle.std.proofs.Common.{sym, string_bytes, ◌∙◌}
use Rattle.mad_read_rows.proofs.PutLemmas.{put_same}
use Rattle.mad_read_rows.proofs.read_rows.append_token.Goals as goal

pub returns-else-is_ellipsis : goal.returns-else-is_ellipsis
returns-else-is_ellipsis c =
    put_same c.append_piece.result (string_bytes c.args.rows.now) (string_bytes c.append_piece.new.rows) c.args.later.now c.args.put _ _
    (c.requires (sym c.is_ellipsis.ensures ∙ c.if-is_ellipsis.false)) c.append_piece.ensures
