use Rattle.std.proofs.Common.{◌≤◌, ◌++◌, ◌∷◌, [], length, ◌∙◌, sym, ap, arith}
use Rattle.std.specs.Str.Iter.{chars_rest}
use Rattle.std.proofs.lemmas.Str.{IsUtf8-past_char, chars_past_char}
use Rattle.mad_marked_rows.specs.Paints.{paint_by}
use Rattle.mad_marked_rows.proofs.CursorLemmas.{mark_same, same_joined, number_up}
use Rattle.mad_marked_rows.proofs.PartLemmas.{text_counted_on, empty_count, no_more}
use Rattle.mad_marked_rows.specs.declared.seen.SeenChar.{SeenChar}
use Rattle.mad_marked_rows.proofs.SeenLemmas.{letter_begun, letter_gone, letter_ended, nothing_seen}
use Rattle.mad_marked_rows.proofs.seen.push_counted.Goals as goal

pub loop-c-init : goal.loop-c-init
loop-c-init c =
    let parts = sym c.chars-rest.ensures.rest ∙ c.in-Some.ensures.steps.0 in
    let chars_are = chars_past_char _ _ c.in-Some.first c.utf8.src parts in
    record {
      utf8 = IsUtf8-past_char _ _ c.in-Some.first c.utf8.src parts;
      so_far = letter_begun (paint_by c.args.paint.styles.now) c.args.cursor.now.runs.now c.args.style c.args.text.now.items c.push.new.self.items c.args.src.now (chars_rest c.next.new.self)
          c.args.cursor.now.number c.in-Some.first c.in_ok-value.value c.next-2.new.self.number chars_are c.in_ok-value.ensures.value c.in_ok-value.ensures.number
          (c.in_ok-push.ensures.items ∙ ap (λ (s : SeenChar). c.args.text.now.items ++ s ∷ []) c.seen_char.ensures);
      number = text_counted_on c.args.src.now (chars_rest c.next.new.self) c.args.cursor.now.number c.in-Some.first c.next-2.new.self.number chars_are c.in_ok-value.ensures.number;
      same = c.in_ok-value.ensures.same;
    }

pub loop-c-preserved : goal.loop-c-preserved
loop-c-preserved c =
    let held = c.loop-c.invariant in
    let before = c.loop-c in
    let parts = c.in-Some-next.ensures.steps.0 in
    let chars_are = chars_past_char _ _ c.in-Some-next.c held.utf8 parts in
    let up : before.cursor.number ≤ c.next-in-Some-next.new.self.number = omega (arith, c.in_ok-other.ensures.number, number_up before.cursor.number c.in-Some-next.c) in
    record {
      utf8 = IsUtf8-past_char _ _ c.in-Some-next.c held.utf8 parts;
      so_far = letter_gone (paint_by c.args.paint.styles.now) c.args.cursor.now.runs.now c.args.style before.text.items c.push-in-Some-next.new.self.items _ (chars_rest before.rest) (chars_rest c.next-in-loop-c.new.self)
          before.cursor.number c.in-Some-next.c before.value c.in_ok-other.other c.next_value-value.result c.next-in-Some-next.new.self.number chars_are
          (c.in_ok-other.ensures.value ∙ mark_same c.args.cursor.now.runs.now before.cursor.runs.now before.cursor.number c.in-Some-next.c held.same)
          c.in_ok-other.ensures.number c.next_value-value.ensures
          (c.in_ok-push-2.ensures.items ∙ ap (λ (s : SeenChar). before.text.items ++ s ∷ []) c.seen_char-in-Some-next.ensures) held.so_far;
      number = text_counted_on (chars_rest before.rest) (chars_rest c.next-in-loop-c.new.self) before.cursor.number c.in-Some-next.c c.next-in-Some-next.new.self.number chars_are c.in_ok-other.ensures.number ∙ held.number;
      same = same_joined c.args.cursor.now.runs.now before.cursor.runs.now c.next-in-Some-next.new.self.runs.now before.cursor.number c.next-in-Some-next.new.self.number up held.same c.in_ok-other.ensures.same;
    }

pub returns-in_default-clause-text : goal.returns-in_default-clause-text
returns-in_default-clause-text c =
    nothing_seen (paint_by c.args.paint.styles.now) c.args.cursor.now.runs.now c.args.style c.args.text.now.items c.args.src.now c.args.cursor.now.number (ap length (sym c.chars-rest.ensures.rest) ∙ c.in_default.ensures.steps.0.0)

pub returns-in_default-clause-number : goal.returns-in_default-clause-number
returns-in_default-clause-number c = empty_count c.args.src.now c.args.cursor.now.number (ap length (sym c.chars-rest.ensures.rest) ∙ c.in_default.ensures.steps.0.0)

pub returns-clause-text : goal.returns-clause-text
returns-clause-text c =
    letter_ended (paint_by c.args.paint.styles.now) c.args.cursor.now.runs.now c.args.style c.loop-c.text.items _ (chars_rest c.loop-c.rest) c.loop-c.cursor.number c.loop-c.value c.in_default-next.ensures.steps.0.0 c.loop-c.invariant.so_far

pub returns-clause-number : goal.returns-clause-number
returns-clause-number c = no_more (chars_rest c.loop-c.rest) c.loop-c.cursor.number _ c.in_default-next.ensures.steps.0.0 c.loop-c.invariant.number

pub returns-clause-same : goal.returns-clause-same
returns-clause-same c = c.loop-c.invariant.same
