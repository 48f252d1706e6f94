use Rattle.std.proofs.Common.{◌∙◌, ap, ◌++◌, length, arith}
use Rattle.std.specs.Prelude.{chars, encode_utf8, encode_utf8_all, string_bytes}
use Rattle.std.proofs.lemmas.List.{length-append}
use Rattle.std.proofs.lemmas.Str.{length-encode, len_utf8_bounds}
use Rattle.mad_steady.specs.Steady.{written, next_place, steady_growing, place_behind}
use Rattle.mad_steady.proofs.SteadyLemmas.{growing_more, growing_all, behind_more, behind_all}
use Rattle.mad_steady.proofs.steady_text.push_steady_piece.Goals as goal

pub loop-c-smaller : goal.loop-c-smaller
loop-c-smaller c =
    let d = c.in-Some.c in
    omega (arith, c.in_ok-after.ensures.fewer, ap length c.in-Some.ensures.1, length-append (encode_utf8 d) c.in-Some.next.now, length-encode d, (len_utf8_bounds d).0)

pub loop-c-preserved : goal.loop-c-preserved
loop-c-preserved c =
    let held = c.loop-c.invariant in
    let parts = c.in-Some.ensures.1 in
    let kind_is = c.kind_of-kind.ensures in
    let pushed = c.in_ok-push_written.ensures ∙ ap (λ k. string_bytes c.loop-c.shown ++ encode_utf8_all (written c.loop-c.place k c.in-Some.c)) kind_is in
    let place_is = c.next.ensures ∙ ap (λ k. next_place c.loop-c.place k c.in-Some.c) kind_is in
    let plain = c.in_ok-after.ensures in
    record {
      utf8 = plain.utf8;
      so_far = plain.text ∙ ap (λ p. string_bytes c.push_written.new.shown ++ encode_utf8_all (steady_growing p (chars c.in-Some.next.now))) place_is ∙ growing_more _ _ _ _ _ c.in-Some.c c.loop-c.place held.utf8 parts pushed held.so_far;
      behind = plain.behind ∙ ap (λ p. place_behind p (chars c.in-Some.next.now)) place_is ∙ behind_more _ _ c.in-Some.c c.loop-c.place _ held.utf8 parts held.behind;
    }

pub returns-clause-text : goal.returns-clause-text
returns-clause-text c = growing_all _ _ _ c.loop-c.place c.in_default.ensures c.loop-c.invariant.so_far

pub returns-clause-place : goal.returns-clause-place
returns-clause-place c = behind_all _ c.loop-c.place _ c.in_default.ensures c.loop-c.invariant.behind
