use Rattle.std.proofs.Common.{◌≡◌, ◌∙◌, ◌++◌, List, ℕ, string_bytes, ap, rules, append_assoc}
use Rattle.mad_frames.proofs.SizeLemmas.{read_size}
use Rattle.mad_frames.proofs.TextLemmas.{clearing_brings}
use Rattle.mad_frames.proofs.messages.bytes_anew.Goals as goal

pub returns : goal.returns
returns c =
    let changes = c.in_ok-changes.changes.items in
    let clear = string_bytes c.in_ok-clear.clear in
    let all : c.extend_from_slice-2.new.self.items ≡ (c.args.front.now ++ clear) ++ changes = search rules in (
      clear ++ changes,
      all ∙ append_assoc c.args.front.now clear changes,
      clearing_brings c.args.blank.now c.args.next.now changes (clear ++ changes) c.requires.blank (read_size c.args.blank.now c.args.next.now c.args.text.now c.requires.read) c.in_ok-changes.ensures
          (ap (λ (l : List ℕ). l ++ changes) c.in_ok-clear.ensures),
    )
