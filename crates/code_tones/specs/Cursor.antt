-- The tones that a cursor has before it.
use Rattle.std.specs.Prelude.{ℕ, List, ◌++◌, replicate}
use Rattle.code_tones.specs.Tones.{byte_tones}
use Rattle.code_tones.specs.declared.byte_tones.ByteTones.{ByteTones}

-- those of the bytes that weren't passed
abbrev pub tones_left : ByteTones → List ℕ
tones_left tones = replicate tones.left tones.tone ++ byte_tones tones.later.now
