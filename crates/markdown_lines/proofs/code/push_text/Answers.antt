use Rattle.std.proofs.Common.{subst}
use Rattle.std.specs.Prelude.{string_bytes}
use Rattle.std.proofs.lemmas.Str.{IsUtf8-past_char}
use Rattle.markdown_lines.proofs.CodeLemmas.{HasNoTab, plain_put, expanded_more, expanded_all}
use Rattle.markdown_lines.proofs.code.push_text.Goals as goal

pub returns-then-is_without_tabs : goal.returns-then-is_without_tabs
returns-then-is_without_tabs c =
    plain_put (string_bytes c.args.shown.now) (string_bytes c.push_shown.new.shown) c.args.text.now c.args.column c.utf8.text
    (subst HasNoTab c.as_bytes.ensures.value (c.is_without_tabs.ensures c.if-is_without_tabs.true)) c.in_ok-push_shown.ensures

pub loop-c-preserved : goal.loop-c-preserved
loop-c-preserved c =
    let held = c.loop-c.invariant in
    let parts = c.in-Some.ensures.steps.0 in
    record { utf8 = IsUtf8-past_char _ _ c.in-Some.c held.utf8 parts; so_far = expanded_more _ _ _ _ _ c.in-Some.c c.loop-c.at _ held.utf8 parts c.in_ok-at.ensures.value c.in_ok-at.ensures.next held.so_far }

pub returns : goal.returns
returns c = expanded_all _ _ _ c.loop-c.at c.in_default.ensures.steps.0.0 c.loop-c.invariant.so_far
