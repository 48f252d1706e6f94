use Rattle.std.proofs.Common.{◌≤◌, length, refl, ◌∙◌, sym, ap, arith}
use Rattle.std.specs.Str.Iter.{chars_rest}
use Rattle.std.proofs.Output.{has_written_of_eq}
use Rattle.std.proofs.lemmas.Str.{IsUtf8-past_char, chars_past_char}
use Rattle.mad_term.specs.Styles.{closing_bytes}
use Rattle.mad_marked_rows.specs.Paints.{paint_by}
use Rattle.mad_marked_rows.proofs.CursorLemmas.{mark_same, number_up, same_joined}
use Rattle.mad_marked_rows.proofs.DisplayLemmas.{no_text, text_begins, text_ends, text_goes, wrote_all, wrote_first, wrote_more, written_nothing}
use Rattle.mad_marked_rows.proofs.displayed.write_marked.Goals as goal

pub loop-c-init : goal.loop-c-init
loop-c-init g c =
    let parts = sym c.chars-rest.ensures.rest ∙ c.in-Some.ensures.steps.0 in
    let chars_are = chars_past_char _ _ c.in-Some.first c.utf8.text parts in
    record {
      utf8 = IsUtf8-past_char _ _ c.in-Some.first c.utf8.text parts;
      same = c.in_ok-value.ensures.same;
      so_far = λ plain.
          wrote_first _ _ _ _ _ _ (c.in_ok-fmt.ensures.writes plain refl)
          (text_begins (paint_by c.args.styles.now) c.args.runs.now c.args.style c.args.text.now (chars_rest c.next.new.self) c.args.number c.in-Some.first c.in_ok-value.value c.mark_of_next.new.cursor.number chars_are c.in_ok-value.ensures.value c.in_ok-value.ensures.number);
    }

pub loop-c-preserved : goal.loop-c-preserved
loop-c-preserved g c =
    let held = c.loop-c.invariant in
    let before = c.loop-c in
    let parts = c.in-Some-next.ensures.steps.0 in
    let chars_are = chars_past_char _ _ c.in-Some-next.c held.utf8 parts in
    let cursor = c.mark_of_next-in-Some-next.new.cursor in
    let up : before.cursor.number ≤ cursor.number = omega (arith, c.in_ok-other.ensures.number, number_up before.cursor.number c.in-Some-next.c) in
    record {
      utf8 = IsUtf8-past_char _ _ c.in-Some-next.c held.utf8 parts;
      same = same_joined c.args.runs.now before.cursor.runs.now cursor.runs.now before.cursor.number cursor.number up held.same c.in_ok-other.ensures.same;
      so_far = λ plain.
          wrote_more _ _ _ _ _ _ _ _ (held.so_far plain) (c.in_ok-fmt-2.ensures.writes (held.so_far plain).has.plain refl)
          (text_goes (paint_by c.args.styles.now) c.args.runs.now c.args.style (chars_rest before.rest) (chars_rest c.next-in-loop-c.new.self) before.cursor.number c.in-Some-next.c before.value c.in_ok-other.other c.part_after-value.result cursor.number chars_are
          (c.in_ok-other.ensures.value ∙ mark_same c.args.runs.now before.cursor.runs.now before.cursor.number c.in-Some-next.c held.same) c.in_ok-other.ensures.number c.part_after-value.ensures);
    }

pub returns-in_default : goal.returns-in_default
returns-in_default g c = λ plain ok.
    has_written_of_eq _ _ _ _ _ (no_text (paint_by c.args.styles.now) c.args.runs.now c.args.style c.args.text.now c.args.number (ap length (sym c.chars-rest.ensures.rest) ∙ c.in_default.ensures.steps.0.0)) (written_nothing _ _ plain)

pub returns : goal.returns
returns g c = λ plain ok.
    let so_far = c.loop-c.invariant.so_far plain in
    wrote_all _ _ _ _ _ _ _ so_far (c.write_str.ensures.writes so_far.has.plain ok)
    (text_ends (paint_by c.args.styles.now) c.args.runs.now c.args.style (chars_rest c.loop-c.rest) c.loop-c.cursor.number c.loop-c.value c.in_default-next.ensures.steps.0.0 ∙ ap closing_bytes (sym c.style_of_mark.ensures) ∙ sym c.closing_text.ensures)
