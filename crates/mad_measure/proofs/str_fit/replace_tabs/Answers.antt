use Rattle.std.proofs.Common.{sym, ap, ◌∙◌, ◌++◌, append-nil, List, ℕ}
use Rattle.std.specs.Prelude.{chars, encode_utf8_all, string_bytes}
use Rattle.std.specs.Str.Iter.{chars_rest}
use Rattle.std.proofs.lemmas.Str.{IsUtf8-past_char}
use Rattle.std.proofs.StrCases.{chars_of_empty}
use Rattle.mad_measure.specs.RunningWidths.{tabs_replaced}
use Rattle.mad_measure.proofs.StrFitLemmas.{replaced_more, tab_shown, other_shown}
use Rattle.mad_measure.proofs.str_fit.replace_tabs.Goals as goal

pub loop-c-preserved-in-Continue-branch-2 : goal.loop-c-preserved-in-Continue-branch-2
loop-c-preserved-in-Continue-branch-2 c =
    let held = c.loop-c.invariant in
    let parts = c.in-Some.ensures.steps.0 in
    let more : List ℕ = encode_utf8_all (tabs_replaced (chars (chars_rest c.next.new.self))) in
    record {
      utf8 = IsUtf8-past_char _ _ c.in-Some.c held.utf8 parts;
      so_far = ap (λ (done : List ℕ). done ++ more) c.in_ok-push_str.ensures.bytes ∙ replaced_more _ _ _ _ _ c.in-Some.c held.utf8 parts (tab_shown c.in-Some.c c.if-c-eq9.true) held.so_far;
    }

pub loop-c-preserved : goal.loop-c-preserved
loop-c-preserved c =
    let held = c.loop-c.invariant in
    let parts = c.in-Some.ensures.steps.0 in
    let more : List ℕ = encode_utf8_all (tabs_replaced (chars (chars_rest c.next.new.self))) in
    record {
      utf8 = IsUtf8-past_char _ _ c.in-Some.c held.utf8 parts;
      so_far = ap (λ (done : List ℕ). done ++ more) c.in_ok-push.ensures.bytes ∙ replaced_more _ _ _ _ _ c.in-Some.c held.utf8 parts (other_shown c.in-Some.c c.if-c-eq9.false) held.so_far;
    }

pub returns : goal.returns
returns c =
    sym (append-nil (string_bytes c.loop-c.replaced))
    ∙ sym (ap (λ cs. string_bytes c.loop-c.replaced ++ encode_utf8_all (tabs_replaced cs)) (chars_of_empty _ c.in-None.ensures.steps.0.0))
    ∙ c.loop-c.invariant.so_far
