use Rattle.std.proofs.Common.{ℕ, ◌++◌, List, string_bytes, ap, ◌∙◌, subst, arith, rules}
use Rattle.std.specs.Str.{IsUtf8}
use Rattle.mad_measure.specs.Chunks.{ArePlain}
use Rattle.mad_measure.proofs.TokenLemmas.{ends_at_border}
use Rattle.mad_wrap.specs.Writings.{put_bytes}
use Rattle.mad_read_rows.proofs.WordRowLemmas.{some_span, some_token}
use Rattle.mad_read_rows.proofs.read_rows.append_front_words.Goals as goal

pub loop-at-preserved-then-span-end : goal.loop-at-preserved-then-span-end
loop-at-preserved-then-span-end c =
    let p = c.args.compound in
    let later = c.args.later.now in
    let at = c.loop-at.at in
    let span = c.next_span-span.result in
    let is = c.next_span-span.ensures in
    let utf8 : IsUtf8 p.src.now = search rules in
    let known : ArePlain p.src.now at c.plain_past-plain.result = subst (λ (bs : List ℕ). ArePlain bs at c.plain_past-plain.result) c.as_bytes-bytes.ensures.value c.plain_past-plain.ensures.plain in
    record {
      border = is.border;
      plain = λ k low high. known k (omega (arith, low, is.more)) high;
      inside = search rules;
      written = λ write bare. some_span write later c.args.max p c.args.start c.args.end at c.args.fit (string_bytes c.args.rows.now) c.loop-at.fit (string_bytes c.loop-at.rows) (string_bytes c.append_text.new.rows) span utf8 bare (c.loop-at.invariant.written write bare) is
          c.if-span-end.true (c.in_ok-append_text.ensures ∙ ap (λ (t : List ℕ). string_bytes c.loop-at.rows ++ put_bytes later span.put t) c.range.ensures.value);
    }

pub loop-at-preserved : goal.loop-at-preserved
loop-at-preserved c =
    let p = c.args.compound in
    let later = c.args.later.now in
    let at = c.loop-at.at in
    let t = c.token_at-token.result in
    let is = c.token_at-token.ensures in
    let put = c.put-put.result in
    let known : ArePlain p.src.now at c.plain_past-plain.result = subst (λ (bs : List ℕ). ArePlain bs at c.plain_past-plain.result) c.as_bytes-bytes.ensures.value c.plain_past-plain.ensures.plain in
    record {
      border = ends_at_border c.args.max at p t is;
      plain = λ k low high. known k (omega (arith, low, is.begins, is.within.some)) high;
      inside = search rules;
      written = λ write bare. some_token write later c.args.max p c.args.start c.args.end at c.args.fit (string_bytes c.args.rows.now) c.loop-at.fit c.put-put.new.self (string_bytes c.loop-at.rows) (string_bytes c.append_text-else-span-end.new.rows) t put bare
          (c.loop-at.invariant.written write bare) is c.loop-at-test.true c.put-put.ensures (c.in_ok-append_text-2.ensures ∙ ap (λ (x : List ℕ). string_bytes c.loop-at.rows ++ put_bytes later put x) c.range-else-span-end.ensures.value);
    }
