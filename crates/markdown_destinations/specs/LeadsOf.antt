-- The bytes of a destination and its title.
use Rattle.std.specs.Prelude.{string_bytes}
use Rattle.markdown_destinations.specs.declared.destinations.Destination.{Destination}
use Rattle.markdown_destinations.specs.Destinations.{Leads}

-- the bytes of what the code has found
abbrev pub leads_of : Destination → Leads
leads_of found = record { destination = string_bytes found.destination; title = string_bytes found.title }
