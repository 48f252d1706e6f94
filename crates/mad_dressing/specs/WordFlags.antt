-- What flags of words say.
use Rattle.std.specs.Prelude.{false}
use Rattle.mad_md.specs.Flagged.{Flags}
use Rattle.mad_dressing.specs.declared.word_marks.WordFlags.{WordFlags}

-- the flags of a text that have marks
abbrev pub flags_said : WordFlags → Flags
flags_said flags = record { bold = flags.bold; italic = flags.italic; code = flags.code; strikeout = flags.strikeout; link = flags.link; picture = false; picture_sign = false }
