use Rattle.std.proofs.Common.{◌≡◌, None, drop, map}
use Rattle.std.specs.Prelude.{string_bytes}
use Rattle.mad_marked_rows.specs.LinkedTexts.{pieces_on}
use Rattle.mad_marked_rows.specs.Written.{seen_link}
use Rattle.mad_marked_rows.proofs.written.append_seen.Given as goal

abbrev pub invariant-loop-one : goal.invariant-loop-one
invariant-loop-one l = pieces_on l.addresses (string_bytes l.rows, l.link) (map seen_link (drop l.one-index l.seen)) ≡ pieces_on l.addresses (string_bytes l.fn.rows, None) (map seen_link l.seen)
