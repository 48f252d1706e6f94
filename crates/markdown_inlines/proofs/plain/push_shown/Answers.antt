use Rattle.std.proofs.Common.{◌≡◌, ℕ, ◌++◌, List, length, string_bytes, encode_utf8, ap, ◌∙◌, arith}
use Rattle.std.proofs.lemmas.List.{length-append}
use Rattle.std.proofs.lemmas.Str.{length-encode, len_utf8_bounds}
use Rattle.markdown_inlines.specs.Printable.{shown_char}
use Rattle.markdown_inlines.proofs.StyledLemmas.{alone}
use Rattle.std.proofs.lemmas.Str.{IsUtf8-string_bytes}
use Rattle.markdown_inlines.proofs.PlainLemmas.{one_shown, both_shown}
use Rattle.markdown_inlines.proofs.plain.push_shown.Goals as goal

pub loop-c-smaller : goal.loop-c-smaller
loop-c-smaller c =
    let d = c.in-Some.c in
    let len = len_utf8_bounds d in
    omega (arith, c.in_ok-rest-2.ensures.fewer, ap length c.in-Some.ensures.1, length-append (encode_utf8 d) c.in-Some.next.now, length-encode d, len.0)

pub loop-c-preserved : goal.loop-c-preserved
loop-c-preserved c =
    let old : List ℕ = string_bytes c.args.shown.now in
    let mid : List ℕ = string_bytes c.loop-c.shown in
    let then : List ℕ = string_bytes c.push.new.self in
    let d : ℕ = c.in-Some.c in
    let pushed : then ≡ mid ++ encode_utf8 (shown_char d) = c.in_ok-push.ensures.bytes ∙ ap (λ k. mid ++ encode_utf8 k) c.shown_char.ensures.value in
    let one = alone mid then (encode_utf8 (shown_char d)) (IsUtf8-string_bytes c.loop-c.shown) (IsUtf8-string_bytes c.push.new.self) pushed in
    both_shown old then _ c.args.text.now c.in-Some.next.now c.in_ok-rest-2.rest.now
    (both_shown old mid then c.args.text.now c.loop-c.rest.now c.in-Some.next.now c.loop-c.invariant
    (one_shown mid then c.loop-c.rest.now c.in-Some.next.now d c.loop-c.invariant.left one c.in-Some.ensures.1 pushed))
    c.in_ok-rest-2.ensures.pushed
