use Rattle.std.proofs.Common.{◌≡◌, ◌<◌, ◌^◌, ◌-◌, length, take}
use Rattle.std.specs.List.{flat_map}
use Rattle.std.proofs.Math.Utf8.{encode}
use Rattle.mad_frames.proofs.runs.text_bytes.Given as goal

abbrev pub invariant-loop-c : goal.invariant-loop-c
invariant-loop-c l = l.bytes < 2 ^ 64 - 1 → l.bytes ≡ length (flat_map encode (take l.c-index l.c-items))
