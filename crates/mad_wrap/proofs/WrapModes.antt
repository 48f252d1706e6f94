-- What holds of a wrap with whole words or without.
use Rattle.std.proofs.Common.{Bool, true, false, List, map}
use Rattle.std.specs.List.{AllByRecursion}
use Rattle.mad_md.specs.Flagged.{flagged_text}
use Rattle.mad_md.specs.declared.compound.Compound.{Compound}
use Rattle.mad_measure.specs.declared.tokens.Token.{Token}
use Rattle.mad_wrap.specs.Keeps.{Keeps}
use Rattle.mad_wrap.specs.LeastWords.{IsWrapBy}
use Rattle.mad_wrap.specs.LeastWrap.{AreTokensIn}
use Rattle.mad_wrap.specs.WrapLines.{HasRoom, LinesFit, IsMadeOf}
use Rattle.mad_wrap.specs.declared.room.Room.{Room}

-- a wrap of either mode keeps its text
pub by_keeps : (b : Bool) (r : Room) (ps : List Compound) (lines : List (List Compound)) → IsWrapBy b r ps lines → Keeps (flagged_text ps) (map flagged_text lines)
by_keeps true r ps lines h = h.keeps
by_keeps false r ps lines h = h.keeps

-- the lines of a wrap of either mode fit, where each character has room
pub by_fits : (b : Bool) (r : Room) (ps : List Compound) (lines : List (List Compound)) → IsWrapBy b r ps lines → HasRoom r (flagged_text ps) → LinesFit r.first r (map flagged_text lines)
by_fits true r ps lines h = h.fits
by_fits false r ps lines h = h.fits

-- the compounds of a wrap of either mode are those of the source, or tokens of them
pub by_parts : (b : Bool) (r : Room) (ps : List Compound) (lines : List (List Compound)) (ts : List Token) → IsWrapBy b r ps lines → AreTokensIn r ps ts → AllByRecursion (IsMadeOf ps ts) lines
by_parts true r ps lines ts h tokens = (h.least ts tokens).parts
by_parts false r ps lines ts h tokens = (h.least ts tokens).parts
