use Rattle.std.proofs.Common.{◌≡◌, ◌++◌, string_bytes, rules}
use Rattle.mad_frames.specs.Frames.{IsMessage}
use Rattle.mad_frames.proofs.frame.Frame.bytes_to.Goals as goal

pub returns : goal.returns
returns c =
    let f = c.args.self.now in
    let changes = string_bytes c.in_ok-changes.changes in
    let whole : c.extend_from_slice.new.self.items ≡ f.unsent ++ changes = search rules in
    let message : IsMessage f c.args.screen.now c.extend_from_slice.new.self.items = record {
      changes = changes;
      whole = whole;
      leads = c.in_ok-changes.ensures.leads;
      quiet = c.in_ok-changes.ensures.quiet;
      bound = c.in_ok-changes.ensures.bound;
    } in
    message
