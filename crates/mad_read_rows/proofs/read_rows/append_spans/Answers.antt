use Rattle.std.proofs.Common.{ℕ, ◌++◌, List, string_bytes, ap, ◌∙◌, subst, arith, rules}
use Rattle.std.specs.Str.{IsUtf8}
use Rattle.std.proofs.lemmas.Str.{IsCharBoundary-start}
use Rattle.mad_measure.specs.Chunks.{ArePlain}
use Rattle.mad_wrap.specs.Writings.{put_bytes}
use Rattle.mad_wrap.proofs.WritingLemmas.{up_to_start, span_more}
use Rattle.mad_read_rows.proofs.read_rows.append_spans.Goals as goal

pub loop-at-init : goal.loop-at-init
loop-at-init c =
    let p = c.args.compound in
    let utf8 : IsUtf8 p.src.now = search rules in
    record {
      border = IsCharBoundary-start p.src.now utf8;
      plain = subst (λ (bs : List ℕ). ArePlain bs 0 c.plain_end-plain.result) c.as_bytes-bytes.ensures.value c.plain_end-plain.ensures.plain;
      inside = search rules;
      written = λ write bare. up_to_start write c.args.later.now c.args.max p c.args.fit (string_bytes c.args.rows.now);
    }

pub loop-at-preserved : goal.loop-at-preserved
loop-at-preserved c =
    let p = c.args.compound in
    let later = c.args.later.now in
    let at = c.loop-at.at in
    let span = c.next_span-span.result in
    let is = c.next_span-span.ensures in
    let utf8 : IsUtf8 p.src.now = search rules in
    let known : ArePlain p.src.now at c.plain_past-plain.result = subst (λ (bs : List ℕ). ArePlain bs at c.plain_past-plain.result) c.as_bytes-bytes.ensures.value c.plain_past-plain.ensures.plain in
    record {
      border = is.border;
      plain = λ k low high. known k (omega (arith, low, is.more)) high;
      inside = search rules;
      written = λ write bare. span_more write later c.args.max p at c.args.fit (string_bytes c.args.rows.now) c.loop-at.fit (string_bytes c.loop-at.rows) (string_bytes c.append_text.new.rows) span utf8 bare (c.loop-at.invariant.written write bare) is
          (c.in_ok-append_text.ensures ∙ ap (λ (t : List ℕ). string_bytes c.loop-at.rows ++ put_bytes later span.put t) c.range.ensures.value);
    }
