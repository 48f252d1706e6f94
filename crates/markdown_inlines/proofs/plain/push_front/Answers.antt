use Rattle.std.proofs.Common.{ℕ, ◌≤◌, List, length, string_bytes, ap, subst, arith}
use Rattle.markdown_inlines.specs.Plain.{ArePlain}
use Rattle.markdown_inlines.proofs.PlainLemmas.{border, front_shown}
use Rattle.markdown_inlines.proofs.plain.push_front.Goals as goal

pub split_at-requires : goal.split_at-requires
split_at-requires c =
    let same = c.as_bytes.ensures.value in
    let n : ℕ = c.plain_len-len.result in
    let inside : n ≤ length c.args.text.now = omega (arith, c.plain_len-len.ensures.inside, ap length same) in
    let plain : ArePlain c.args.text.now 0 n = subst (λ (l : List ℕ). ArePlain l 0 n) same c.plain_len-len.ensures.plain in
    border c.args.text.now n c.utf8.text inside plain

pub returns : goal.returns
returns c =
    let same = c.as_bytes.ensures.value in
    let n : ℕ = c.plain_len-len.result in
    let inside : n ≤ length c.args.text.now = omega (arith, c.plain_len-len.ensures.inside, ap length same) in
    let plain : ArePlain c.args.text.now 0 n = subst (λ (l : List ℕ). ArePlain l 0 n) same c.plain_len-len.ensures.plain in
    record {
      pushed = front_shown (string_bytes c.args.shown.now) (string_bytes c.push_str.new.self) c.args.text.now c.split_at.result.0.now c.split_at.result.1.now n c.utf8.text inside plain
          c.split_at.ensures.front c.split_at.ensures.back c.in_ok-push_str.ensures.bytes;
      fewer = omega (arith, c.split_at.ensures.back_len);
    }
