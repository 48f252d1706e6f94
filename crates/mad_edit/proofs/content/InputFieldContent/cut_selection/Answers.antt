use Rattle.mad_edit.proofs.TextLemmas.{cut_back}
use Rattle.mad_edit.proofs.content.InputFieldContent.cut_selection.Goals as goal

pub returns-clause-undone : goal.returns-clause-undone
returns-clause-undone c = λ wide. (cut_back _ _ _ c.selection_string.ensures.valid (c.in_ok-del_selection.ensures.wide wide).0 c.in_ok-handed.ensures.is).0

pub returns-clause-removes : goal.returns-clause-removes
returns-clause-removes c = λ p wide at.
    record {
      offset = c.del_selection.new.self.offset;
      position = at;
      text = (cut_back _ _ _ c.selection_string.ensures.valid (c.in_ok-del_selection.ensures.wide wide).0 c.in_ok-handed.ensures.is).1;
    }
