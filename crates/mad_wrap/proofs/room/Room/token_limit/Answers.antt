use Rattle.std.proofs.Common.{rules}
use Rattle.mad_wrap.proofs.room.Room.token_limit.Goals as goal

pub returns : goal.returns
returns c = search rules
