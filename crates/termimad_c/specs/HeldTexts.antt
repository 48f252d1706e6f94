-- What is behind the pointer of a text that comes in pieces.
use base.Fml.{Fml, ftrue}
use denote.RawPtr.{Ptr}
use Rattle.std.specs.Prelude.{◌≡◌, Option, Some, None}
use Rattle.std.specs.Box.Ownership.{box_owns}
use Rattle.std.specs.declared.alloc.Global.{Global}
use Rattle.std.specs.contracts.impls.GlobalAllocator.TheImpl.{ghosts}
use Rattle.termimad_c.specs.contracts.coming.Coming.{the_row}
use Rattle.termimad_c.specs.declared.coming.Coming.{Coming}

-- a text is there: it was begun, and hasn't ended
abbrev pub IsBegun : Option Coming → Type 0
IsBegun held = (coming : Coming) × (held ≡ Some coming)

-- the heap of the program
abbrev pub the_heap : Global
the_heap = record { memory = record { seal = tt {0} } }

-- what is owned behind a pointer: the text, in a block of the heap that may be freed, or nothing
abbrev pub holds : Ptr → Option Coming → Fml
holds at None = ftrue
holds at (Some coming) = box_owns (ghosts.dealloc_token the_heap) the_row at coming
