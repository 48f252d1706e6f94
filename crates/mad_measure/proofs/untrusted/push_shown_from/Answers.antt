use Rattle.std.proofs.Common.{◌∙◌, ap, ◌++◌}
use Rattle.std.specs.Prelude.{chars, encode_utf8_all, string_bytes}
use Rattle.std.proofs.lemmas.Str.{IsUtf8-past_char}
use Rattle.mad_measure.specs.Printable.{shown_as}
use Rattle.mad_measure.proofs.PrintableLemmas.{shown_more, shown_all}
use Rattle.mad_measure.proofs.untrusted.push_shown_from.Goals as goal

pub loop-c-preserved : goal.loop-c-preserved
loop-c-preserved c =
    let held = c.loop-c.invariant in
    let parts = c.in-Some.ensures.steps.0 in
    let pushed = c.in_ok-push_shown.ensures ∙ ap (λ bs. string_bytes c.loop-c.shown ++ encode_utf8_all (shown_as c.loop-c.begins_line c.in-Some.c (chars bs))) c.as_str.ensures in
    record { utf8 = IsUtf8-past_char _ _ c.in-Some.c held.utf8 parts; so_far = shown_more _ _ _ _ _ c.in-Some.c c.loop-c.begins_line held.utf8 parts pushed held.so_far }

pub returns : goal.returns
returns c = shown_all _ _ _ _ c.in_default.ensures.steps.0.0 c.loop-c.invariant.so_far
