use Rattle.std.proofs.Common.{◌≡◌, ◌++◌, string_bytes, rules}
use Rattle.mad_frames.specs.Mending.{mended}
use Rattle.mad_frames.specs.Scrolling.{scroll_bytes}
use Rattle.mad_frames.proofs.ScrollLemmas.{scroll_brings}
use Rattle.mad_frames.proofs.scrolled.scrolled_changes.Goals as goal

pub returns : goal.returns
returns c =
    let all : string_bytes c.push_str.new.self ≡ scroll_bytes c.args.scroll c.args.rows ++ string_bytes c.in_ok-changes.changes = search rules in
    scroll_brings c.args.scroll c.args.rows (mended c.args.old.now) (mended c.args.new.now) (string_bytes c.in_ok-changes.changes) (string_bytes c.push_str.new.self)
    c.requires.some c.requires.fewer c.requires.rows c.in_ok-changes.ensures all
