-- First fit: where a token goes after those that are placed.
use Rattle.std.specs.Prelude.{◌≡◌, ◌+◌, ◌⊎◌, true, false}
use Rattle.mad_measure.specs.declared.tokens.Token.{Token}
use Rattle.mad_wrap.specs.LineRoom.{left_of, fits_in, taken}
use Rattle.mad_wrap.specs.declared.first_fit.FirstFit.{FirstFit}
use Rattle.mad_wrap.specs.declared.first_fit.Put.{Put}
use Rattle.mad_wrap.specs.declared.first_fit.Put.TheVariants.{OnLine, OnNext, InGap}
use Rattle.mad_wrap.specs.declared.room.Room.{Room}

-- at the beginning of the first line
abbrev pub at_first : Room → FirstFit
at_first r = record { room = r; room_left = left_of r.width r.first; ended = false }

-- the line has ended, or the token doesn't fit on it
abbrev pub IsFullFor : FirstFit → Token → Type 0
IsFullFor s t = (s.ended ≡ true) ⊎ (fits_in s.room_left t.width ≡ false)

-- the token is put there, and that leaves this
abbrev pub Puts : FirstFit → Token → Put → FirstFit → Type 0
Puts s t OnLine n = (s.ended ≡ false) × (fits_in s.room_left t.width ≡ true) × (n ≡ record s { room_left = taken s.room_left t.width })
Puts s t OnNext n = (t.blank ≡ false) × IsFullFor s t × (n ≡ record { room = s.room; room_left = left_of s.room.width (s.room.other + t.width); ended = false })
Puts s t InGap n = (t.blank ≡ true) × IsFullFor s t × (n ≡ record s { ended = true })
