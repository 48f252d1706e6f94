use Rattle.std.proofs.Common.{◌++◌, ◌∷◌, [], ◌∙◌, ap}
use Rattle.std.specs.Str.Iter.{chars_rest}
use Rattle.std.proofs.lemmas.Str.{IsUtf8-past_char, chars_past_char}
use Rattle.mad_style.specs.declared.styled_chars.StyledChar.{StyledChar}
use Rattle.mad_marked_rows.specs.declared.seen.SeenChar.{SeenChar}
use Rattle.mad_marked_rows.proofs.SeenLemmas.{bare_ended, bare_gone}
use Rattle.mad_marked_rows.proofs.seen.push_bare.Goals as goal

pub loop-c-preserved : goal.loop-c-preserved
loop-c-preserved c =
    let held = c.loop-c.invariant in
    let parts = c.in-Some.ensures.steps.0 in
    record {
      utf8 = IsUtf8-past_char _ _ c.in-Some.c held.utf8 parts;
      so_far = bare_gone c.args.style c.loop-c.text.items c.push.new.self.items _ (chars_rest c.loop-c.rest) (chars_rest c.next.new.self) c.in-Some.c (chars_past_char _ _ c.in-Some.c held.utf8 parts)
          (c.in_ok-push.ensures.items ∙ ap (λ (s : StyledChar). let x : SeenChar = record { value = 0; char = s } in c.loop-c.text.items ++ x ∷ []) c.new.ensures) held.so_far;
    }

pub returns : goal.returns
returns c = bare_ended c.args.style c.loop-c.text.items _ (chars_rest c.loop-c.rest) c.in_default.ensures.steps.0.0 c.loop-c.invariant.so_far
