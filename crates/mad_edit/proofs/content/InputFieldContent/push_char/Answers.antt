use Rattle.std.proofs.Common.{◌++◌, ap, sym, ◌∙◌, subst, ℕ, List}
use Rattle.std.specs.Str.{chars}
use Rattle.mad_edit_lines.specs.TextLines.{accepted}
use Rattle.mad_edit.specs.Editor.{Editor, IsPositionIn, offset_at, clamp_tail}
use Rattle.mad_edit.proofs.PushLemmas.{position_kept, tail_kept, replaced_at_end}
use Rattle.mad_edit.proofs.TextLemmas.{one_char}
use Rattle.mad_edit.proofs.content.InputFieldContent.push_char.Goals as goal

pub put_cursor-requires : goal.put_cursor-requires
put_cursor-requires c =
    subst (λ (t : List ℕ). IsPositionIn t c.cursor_pos-at.result) (sym (c.in_ok-edit.ensures.text
    ∙ replaced_at_end c.args.self.now.text (chars c.encode_utf8-text.result.now) (offset_at c.args.self.now.text c.end-last.result) (offset_at c.args.self.now.text c.end-last.result) c.end-last.ensures.1 c.end-last.ensures.1))
    (position_kept c.args.self.now.text (accepted (chars c.encode_utf8-text.result.now)) c.cursor_pos-at.result c.cursor_pos-at.ensures.at.0).0

pub returns-clause-text : goal.returns-clause-text
returns-clause-text c =
    ap (λ (e : Editor). e.text) c.put_cursor.ensures ∙ c.in_ok-edit.ensures.text
    ∙ replaced_at_end c.args.self.now.text (chars c.encode_utf8-text.result.now) (offset_at c.args.self.now.text c.end-last.result) (offset_at c.args.self.now.text c.end-last.result) c.end-last.ensures.1 c.end-last.ensures.1
    ∙ ap (λ cs. c.args.self.now.text ++ accepted cs) (ap chars c.encode_utf8-text.ensures.value ∙ one_char c.args.c c.ranges.c.0)

pub returns-clause-cursor : goal.returns-clause-cursor
returns-clause-cursor c =
    ap (λ (e : Editor). e.offset) c.put_cursor.ensures
    ∙ ap (λ (t : List ℕ). offset_at t c.cursor_pos-at.result) (c.in_ok-edit.ensures.text
    ∙ replaced_at_end c.args.self.now.text (chars c.encode_utf8-text.result.now) (offset_at c.args.self.now.text c.end-last.result) (offset_at c.args.self.now.text c.end-last.result) c.end-last.ensures.1 c.end-last.ensures.1)
    ∙ (position_kept c.args.self.now.text (accepted (chars c.encode_utf8-text.result.now)) c.cursor_pos-at.result c.cursor_pos-at.ensures.at.0).1
    ∙ c.cursor_pos-at.ensures.at.1

pub returns-clause-tail : goal.returns-clause-tail
returns-clause-tail c =
    ap (λ (e : Editor). e.tail) c.put_cursor.ensures ∙ c.in_ok-edit.ensures.tail
    ∙ ap (λ (t : List ℕ). clamp_tail t c.args.self.now.tail) (c.in_ok-edit.ensures.text
    ∙ replaced_at_end c.args.self.now.text (chars c.encode_utf8-text.result.now) (offset_at c.args.self.now.text c.end-last.result) (offset_at c.args.self.now.text c.end-last.result) c.end-last.ensures.1 c.end-last.ensures.1)
    ∙ tail_kept c.args.self.now.text (accepted (chars c.encode_utf8-text.result.now)) c.args.self.now.tail c.cursor_pos-at.ensures.valid.tail
