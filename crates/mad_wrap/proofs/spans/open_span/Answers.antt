use Rattle.std.proofs.Common.{◌≡◌, ℕ, ◌<◌, ◌+◌, ◌-◌, List, Some, sym, ap, ◌∙◌, arith, rules, subst}
use Rattle.std.specs.Str.{IsUtf8}
use Rattle.mad_measure.specs.Chunks.{AreSteady, IsChunk}
use Rattle.mad_wrap.proofs.SpanLemmas.{Chunk, chunk, cut_chunk, on_line}
use Rattle.mad_wrap.proofs.spans.open_span.Goals as goal

pub returns-then-at-end : goal.returns-then-at-end
returns-then-at-end c =
    let end = c.chunk_end-end.result in
    let span = c.span_on_line.result in
    let some = c.if-at-end.true in
    let utf8 : IsUtf8 c.args.compound.src.now = search rules in
    let ends : span.end ≡ end = ap (λ x. x.end) c.span_on_line.ensures in
    let tokens = chunk c.args.max c.args.at end c.args.compound utf8 c.requires.border some (subst (λ (bs : List ℕ). IsChunk bs c.args.compound.code c.args.at end) c.as_bytes-bytes.ensures.value (c.chunk_end-end.ensures.chunk some)) in
    on_line _ _ c.args.compound c.args.fit span c.args.left (subst (Chunk c.args.max c.args.compound c.args.at) (sym ends) tokens) (omega (arith, ends, some)) c.requires.is_open c.requires.has_room (omega (arith, ends, c.chunk_end-end.ensures.room))
    (ap (λ x. x.put) c.span_on_line.ensures) (ap (λ x. x.after) c.span_on_line.ensures ∙ ap (λ n. record c.args.fit { room_left = Some (c.args.left - (n - c.args.at)) }) (sym ends))

pub returns : goal.returns
returns c =
    let at = c.args.at in
    let max = c.args.max in
    let end = c.chunk_end-end.result in
    let span = c.span_on_line-2.result in
    let bs = c.args.compound.src.now in
    let utf8 : IsUtf8 bs = search rules in
    let none : end ≡ at = omega (arith, c.if-at-end.false, c.chunk_end-end.ensures.order) in
    let ends : span.end ≡ at + max = ap (λ x. x.end) c.span_on_line-2.ensures in
    let some : 0 < max = omega arith in
    let before : at + max < c.args.plain = omega arith in
    let size : max ≡ at + max - at = omega arith in
    let steady : AreSteady bs at (at + max) (at + max + 1) = λ k low high last. subst (λ (bs : List ℕ). AreSteady bs end (at + c.args.left) c.args.plain) c.as_bytes-bytes.ensures.value (c.chunk_end-end.ensures.last (search rules)) k (omega (arith, none, low)) (omega (arith, high)) (omega (arith, high, before)) in
    let tokens = cut_chunk max at c.args.compound utf8 c.requires.border some (omega (arith, before, c.requires.plain_inside)) (λ k low high. c.requires.plain k low (omega (arith, high, before))) steady in
    on_line _ _ c.args.compound c.args.fit span c.args.left (subst (Chunk max c.args.compound at) (sym ends) tokens) (omega (arith, ends, some)) c.requires.is_open c.requires.has_room (omega (arith, ends))
    (ap (λ x. x.put) c.span_on_line-2.ensures) (ap (λ x. x.after) c.span_on_line-2.ensures ∙ ap (λ n. record c.args.fit { room_left = Some (c.args.left - n) }) (size ∙ ap (λ n. n - at) (sym ends)))
