use Rattle.mad_frames.proofs.StyleBytes.{piece_most}
use Rattle.mad_frames.proofs.pieces.style_of.Goals as goal

pub returns-clause-bound : goal.returns-clause-bound
returns-clause-bound c = piece_most (record { foreground_color = c.args.pen.fg; background_color = c.args.pen.bg; underline_color = c.args.pen.underline; attributes = c.args.pen.codes })
