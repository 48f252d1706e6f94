use Rattle.std.proofs.Common.{string_bytes}
use Rattle.mad_links.proofs.AreaLemmas.{part_written}
use Rattle.mad_links.proofs.areas.InAreaParts.push_part.Goals as goal

pub returns : goal.returns
returns g c =
    part_written (g.R.LinkedRows.pieces c.args.self.now.rows.now) (g.R.LinkedRows.addresses c.args.self.now.rows.now) c.args.self.now.area c.args.number
    (string_bytes c.args.bytes.now) (string_bytes c.push_move.new.row) (string_bytes c.push_row.new.bytes) c.in_ok-push_row.ensures c.in_ok-push_move.ensures
