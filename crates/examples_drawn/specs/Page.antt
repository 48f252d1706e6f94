-- What a contract sees of a page.
use Rattle.std.specs.Prelude.{[], Some}
use Rattle.mad_term.specs.Trace.{Trace}
use Rattle.examples_drawn.specs.declared.custom_device.page.Page.{Page}

-- all the bytes that it has, its faults and its flushes
abbrev pub page_trace : Page → Trace
page_trace page = record { bytes = Some page.bytes.items; faults = page.faults; flushes = page.flushes }

-- a page on which nothing is written yet
abbrev pub empty_page : Trace
empty_page = record { bytes = Some []; faults = 0; flushes = 0 }
