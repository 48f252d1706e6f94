use Rattle.std.proofs.Common.{ap, ◌∙◌, subst, ℕ, List}
use Rattle.std.specs.Prelude.{chars, OnOk}
use Rattle.mad_edit.specs.Editor.{IsReplaced}
use Rattle.mad_edit.proofs.TextLemmas.{one_char}
use Rattle.mad_edit.proofs.content.InputFieldContent.insert_char.Goals as goal

pub returns-clause-ok : goal.returns-clause-ok
returns-clause-ok c =
    subst (λ (cs : List ℕ). OnOk c.insert_str.result (IsReplaced c.args.self.now c.insert_str.new.self c.args.self.now.offset c.args.self.now.offset cs))
    (ap chars c.encode_utf8-text.ensures.value ∙ one_char c.args.c c.ranges.c.0) c.insert_str.ensures.ok
