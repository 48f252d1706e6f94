use Rattle.std.proofs.Common.{rules}
use Rattle.mad_edit_lines.proofs.PositionLemmas.{IsEarlier, earlier_position, lesser_offset}
use Rattle.mad_edit_lines.proofs.positions.is_before.Goals as goal

pub returns : goal.returns
returns c ls hp hq = (
  λ h. let earlier : IsEarlier c.args.position c.args.other = search rules in earlier_position ls c.args.position c.args.other hp hq earlier,
  λ h. let earlier = lesser_offset ls c.args.position c.args.other hp hq h in search rules,
)
