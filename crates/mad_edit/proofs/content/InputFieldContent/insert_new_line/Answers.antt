use Rattle.std.proofs.Common.{subst, ℕ, List}
use Rattle.std.specs.Prelude.{OnOk}
use Rattle.mad_edit.specs.Editor.{IsReplaced}
use Rattle.mad_edit.proofs.TextLemmas.{newline_char}
use Rattle.mad_edit.proofs.content.InputFieldContent.insert_new_line.Goals as goal

pub returns-clause-ok : goal.returns-clause-ok
returns-clause-ok c =
    subst (λ (cs : List ℕ). OnOk c.insert_str.result (IsReplaced c.args.self.now c.insert_str.new.self c.args.self.now.offset c.args.self.now.offset cs))
    newline_char c.insert_str.ensures.ok
