-- What is behind the pointer of a text that grows on a terminal.
use base.Fml.{Fml, ftrue}
use denote.RawPtr.{Ptr}
use Rattle.std.specs.Prelude.{◌≡◌, Option, Some, None}
use Rattle.std.specs.Box.Ownership.{box_owns}
use Rattle.std.specs.contracts.impls.GlobalAllocator.TheImpl.{ghosts}
use Rattle.termimad_c.specs.HeldTexts.{the_heap}
use Rattle.termimad_c.specs.contracts.growing.Growing.{the_row}
use Rattle.termimad_c.specs.declared.growing.Growing.{Growing}

-- a text is there: it was begun, and hasn't ended
abbrev pub IsHeld : Option Growing → Type 0
IsHeld held = (growing : Growing) × (held ≡ Some growing)

-- what is owned behind a pointer: the text, in a block of the heap that may be freed, or nothing
abbrev pub holds_growing : Ptr → Option Growing → Fml
holds_growing at None = ftrue
holds_growing at (Some growing) = box_owns (ghosts.dealloc_token the_heap) the_row at growing
