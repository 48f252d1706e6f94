use Rattle.std.proofs.Common.{◌+◌, ◌++◌, ap, ◌∙◌, take, drop, length, add-zero}
use Rattle.mad_edit.specs.Editor.{offset_at}
use Rattle.mad_edit.proofs.TextLemmas.{nothing_accepted}
use Rattle.mad_edit.proofs.content.InputFieldContent.remove.Goals as goal

pub returns-clause-ok : goal.returns-clause-ok
returns-clause-ok c =
    let t = c.args.self.now.text in
    let from = offset_at t c.args.from in
    record {
      text = c.in_ok-edit.ensures.text ∙ ap (λ s. take from t ++ (s ++ drop (offset_at t c.args.to) t)) nothing_accepted;
      cursor = c.in_ok-edit.ensures.cursor ∙ ap (λ s. from + length s) nothing_accepted ∙ add-zero from;
      tail = c.in_ok-edit.ensures.tail;
    }
