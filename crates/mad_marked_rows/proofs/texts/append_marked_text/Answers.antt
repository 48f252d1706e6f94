use Rattle.std.proofs.Common.{◌≤◌, ◌++◌, length, ◌∙◌, sym, ap, arith}
use Rattle.std.specs.Prelude.{string_bytes}
use Rattle.std.specs.Str.Iter.{chars_rest}
use Rattle.std.proofs.lemmas.Str.{IsUtf8-past_char, chars_past_char}
use Rattle.mad_term.specs.Styles.{closing_bytes}
use Rattle.mad_marked_rows.specs.Paints.{paint_by}
use Rattle.mad_marked_rows.proofs.CursorLemmas.{mark_same, same_joined, number_up}
use Rattle.mad_marked_rows.proofs.PartLemmas.{part_begun, part_gone, part_ended, empty_on, empty_count, text_counted_on, no_more}
use Rattle.mad_marked_rows.proofs.texts.append_marked_text.Goals as goal

pub loop-c-init : goal.loop-c-init
loop-c-init c =
    let parts = sym c.chars-rest.ensures.rest ∙ c.in-Some.ensures.steps.0 in
    let chars_are = chars_past_char _ _ c.in-Some.first c.utf8.text parts in
    record {
      utf8 = IsUtf8-past_char _ _ c.in-Some.first c.utf8.text parts;
      so_far = part_begun (paint_by c.args.paint.styles.now) c.args.addresses.now c.args.cursor.now.runs.now c.args.style (string_bytes c.args.rows.now) (string_bytes c.append_first.new.rows) c.args.was c.args.text.now (chars_rest c.next.new.self)
          c.args.cursor.now.number c.in-Some.first c.in_ok-value.value c.next-2.new.self.number chars_are c.in_ok-value.ensures.value c.in_ok-value.ensures.number
          c.in_ok-append_first.ensures;
      number = text_counted_on c.args.text.now (chars_rest c.next.new.self) c.args.cursor.now.number c.in-Some.first c.next-2.new.self.number chars_are c.in_ok-value.ensures.number;
      same = c.in_ok-value.ensures.same;
    }

pub loop-c-preserved : goal.loop-c-preserved
loop-c-preserved c =
    let held = c.loop-c.invariant in
    let before = c.loop-c in
    let parts = c.in-Some-next.ensures.steps.0 in
    let chars_are = chars_past_char _ _ c.in-Some-next.c held.utf8 parts in
    let up : before.cursor.number ≤ c.next-in-Some-next.new.self.number = omega (arith, c.in_ok-other.ensures.number, number_up before.cursor.number c.in-Some-next.c) in
    record {
      utf8 = IsUtf8-past_char _ _ c.in-Some-next.c held.utf8 parts;
      so_far = part_gone (paint_by c.args.paint.styles.now) c.args.addresses.now c.args.cursor.now.runs.now c.args.style (string_bytes before.rows) (string_bytes c.append_char.new.rows) _ (chars_rest before.rest) (chars_rest c.next-in-loop-c.new.self)
          before.cursor.number c.in-Some-next.c before.value c.in_ok-other.other c.in_ok-value-2.value c.next-in-Some-next.new.self.number chars_are
          (c.in_ok-other.ensures.value ∙ mark_same c.args.cursor.now.runs.now before.cursor.runs.now before.cursor.number c.in-Some-next.c held.same)
          c.in_ok-other.ensures.number c.in_ok-value-2.ensures.bytes c.in_ok-value-2.ensures.value held.so_far;
      number = text_counted_on (chars_rest before.rest) (chars_rest c.next-in-loop-c.new.self) before.cursor.number c.in-Some-next.c c.next-in-Some-next.new.self.number chars_are c.in_ok-other.ensures.number ∙ held.number;
      same = same_joined c.args.cursor.now.runs.now before.cursor.runs.now c.next-in-Some-next.new.self.runs.now before.cursor.number c.next-in-Some-next.new.self.number up held.same c.in_ok-other.ensures.same;
    }

pub returns-in_default-clause-writes : goal.returns-in_default-clause-writes
returns-in_default-clause-writes c =
    empty_on (paint_by c.args.paint.styles.now) c.args.addresses.now c.args.cursor.now.runs.now c.args.style (string_bytes c.args.rows.now, c.args.was) c.args.text.now c.args.cursor.now.number (ap length (sym c.chars-rest.ensures.rest) ∙ c.in_default.ensures.steps.0.0)

pub returns-in_default-clause-number : goal.returns-in_default-clause-number
returns-in_default-clause-number c = empty_count c.args.text.now c.args.cursor.now.number (ap length (sym c.chars-rest.ensures.rest) ∙ c.in_default.ensures.steps.0.0)

pub returns-clause-writes : goal.returns-clause-writes
returns-clause-writes c =
    part_ended (paint_by c.args.paint.styles.now) c.args.addresses.now c.args.cursor.now.runs.now c.args.style (string_bytes c.loop-c.rows) (string_bytes c.push_str.new.self) c.mark_link.result _ (chars_rest c.loop-c.rest) c.loop-c.cursor.number c.loop-c.value
    c.in_default-next.ensures.steps.0.0
    (c.in_ok-push_str.ensures.bytes ∙ ap (λ l. string_bytes c.loop-c.rows ++ l) (c.closing_text.ensures ∙ ap closing_bytes c.over.ensures))
    c.mark_link.ensures c.loop-c.invariant.so_far

pub returns-clause-number : goal.returns-clause-number
returns-clause-number c = no_more (chars_rest c.loop-c.rest) c.loop-c.cursor.number _ c.in_default-next.ensures.steps.0.0 c.loop-c.invariant.number

pub returns-clause-same : goal.returns-clause-same
returns-clause-same c = c.loop-c.invariant.same
