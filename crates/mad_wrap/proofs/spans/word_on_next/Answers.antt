use Rattle.std.proofs.Common.{◌≡◌, ℕ, ◌≤◌, ◌<◌, ◌+◌, ◌-◌, ◌⊎◌, List, length, Some, false, refl, sym, ap, ◌∙◌, arith, rules, subst}
use Rattle.std.specs.Str.{IsUtf8}
use Rattle.mad_measure.specs.Chunks.{AreSteady, IsChunk}
use Rattle.mad_wrap.proofs.SpanLemmas.{chunk, cut_chunk, cut_width, left_is, on_next_at, word_full, cut_full, solid_word}
use Rattle.mad_wrap.proofs.spans.word_on_next.Goals as goal

pub returns-then-at-end : goal.returns-then-at-end
returns-then-at-end c =
    let at = c.args.at in
    let p = c.args.compound in
    let end = c.chunk_end-end.result in
    let span = c.span_on_next.result in
    let some = c.if-at-end.true in
    let utf8 : IsUtf8 p.src.now = search rules in
    let ends : span.end ≡ end = ap (λ x. x.end) c.span_on_next.ensures in
    let known = c.chunk_end-end.ensures in
    let full : (c.args.fit.room.other ≤ c.args.fit.room.width) × (c.in_ok-full.full ≡ c.args.fit.room.width - c.args.fit.room.other) = left_is _ _ _ (search rules) in
    let is : IsChunk p.src.now p.code at end = subst (λ b. IsChunk p.src.now b at end) (sym c.requires.uncoded) (subst (λ (bs : List ℕ). IsChunk bs false at end) c.as_bytes.ensures.value (known.chunk some)) in
    let tokens = chunk c.args.max at end p utf8 c.requires.border some is in
    on_next_at _ _ _ p c.args.fit span tokens ends some (solid_word _ _ c.args.plain p tokens.first tokens.is c.requires.plain c.requires.inside c.requires.graphic)
    (word_full _ _ end c.args.plain p c.args.fit tokens.first tokens.is utf8 some is (subst (λ (bs : List ℕ). (end ≡ length bs) ⊎ (end < c.args.plain)) c.as_bytes.ensures.value (known.known some)) c.requires.plain_inside c.requires.inside (known.before some) c.requires.full)
    (omega (arith, full.0, full.1, known.room, some))
    (ap (λ x. x.put) c.span_on_next.ensures) (ap (λ x. x.after) c.span_on_next.ensures ∙ ap (λ n. record { room = c.args.fit.room; room_left = Some (n - (end - at)); ended = false }) full.1)

pub returns : goal.returns
returns c =
    let at = c.args.at in
    let p = c.args.compound in
    let max = c.args.max in
    let end = c.chunk_end-end.result in
    let span = c.span_on_next-2.result in
    let utf8 : IsUtf8 p.src.now = search rules in
    let none : end ≡ at = omega (arith, c.if-at-end.false, c.chunk_end-end.ensures.order) in
    let ends : span.end ≡ at + max = ap (λ x. x.end) c.span_on_next-2.ensures in
    let some : 0 < max = omega arith in
    let before : at + max < c.args.plain = omega arith in
    let size : max ≡ at + max - at = omega arith in
    let full : (c.args.fit.room.other ≤ c.args.fit.room.width) × (c.in_ok-full.full ≡ c.args.fit.room.width - c.args.fit.room.other) = left_is _ _ _ (search rules) in
    let steady : AreSteady p.src.now at (at + max) (at + max + 1) = λ k low high last. subst (λ (bs : List ℕ). AreSteady bs end (at + c.in_ok-full.full) c.args.plain) c.as_bytes.ensures.value (c.chunk_end-end.ensures.last refl) k (omega (arith, none, low)) (omega (arith, high)) (omega (arith, high, before)) in
    let tokens = cut_chunk max at p utf8 c.requires.border some (omega (arith, before, c.requires.plain_inside)) (λ k low high. c.requires.plain k low (omega (arith, high, before))) steady in
    on_next_at _ _ _ p c.args.fit span tokens ends (omega (arith, some)) (solid_word _ _ c.args.plain p tokens.first tokens.is c.requires.plain c.requires.inside c.requires.graphic)
    (cut_full max at c.args.plain p c.args.fit tokens.first (cut_width max at p utf8 c.requires.border some (omega (arith, before, c.requires.plain_inside)) (λ k low high. c.requires.plain k low (omega (arith, high, before))) steady) c.requires.full)
    (omega (arith, full.0, full.1))
    (ap (λ x. x.put) c.span_on_next-2.ensures) (ap (λ x. x.after) c.span_on_next-2.ensures ∙ ap (λ n. record { room = c.args.fit.room; room_left = Some n; ended = false }) (ap (λ n. n - max) full.1 ∙ ap (λ n. c.args.fit.room.width - c.args.fit.room.other - n) size))
